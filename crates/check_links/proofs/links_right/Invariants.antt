use Prim.Native.Nat.{◌<◌}
use mathlib.Core.Bool.{true}
use mathlib.Core.Path.{◌≡◌}
use Rattle.format.specs.Layout as at
use Rattle.check_links.specs.LevelAsked.{level_right}
use Rattle.text.specs.Text.{all_below}
use Rattle.check_links.proofs.links_right.Given as goal

abbrev pub invariant-loop-l : goal.invariant-loop-l
invariant-loop-l l = record {
  checked : all_below l.l (level_right l.t) ≡ true;
  full_is : l.l < l.h.settings.levels → l.full ≡ at.full_length l.t l.l;
}
