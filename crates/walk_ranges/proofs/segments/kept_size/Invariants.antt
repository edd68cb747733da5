use mathlib.Core.Path.{◌≡◌}
use Prim.Native.Nat.{◌+◌, ◌-◌, ◌*◌, ◌≤◌}
use Rattle.format.specs.Layout as at
use Rattle.walk_ranges.specs.Segments.{full_width, KeptOn}
use Rattle.walk_ranges.proofs.segments.kept_size.Given as goal

abbrev pub invariant-loop-next : goal.invariant-loop-next
invariant-loop-next l = record {
  whole : l.n + l.fn.from.place.0 ≡ (l.next - l.fn.from.block.0) * at.full_length l.t l.on.level;
  links : l.link ≡ at.link l.t l.on.level l.fn.from.block.0 + (l.next - l.fn.from.block.0) * full_width l.t l.on.level;
  near : l.n ≤ l.most + l.on.b;
  kept : KeptOn l.t l.on.level l.fn.from.block.0 l.fn.from.place.0 l.n;
}
