use Prim.Native.Nat.{◌*◌, ◌^◌, ◌≤◌, ◌-◌}
use mathlib.Core.Path.{◌≡◌}
use Rattle.format.specs.Layout.{pieces, max_text}
use Rattle.text.specs.Text.{sum_below}
use Rattle.build_size_bound.proofs.blocks.Given as goal

abbrev pub invariant-loop-l : goal.invariant-loop-l
invariant-loop-l v = record {
  few : v.sum ≤ v.l * (2 * max_text);
  sum_is : v.sum ≡ sum_below v.l (λ l. pieces v.n (v.s.leaf * v.s.arity ^ (v.s.levels - 1 - l)));
}
