use Prim.Native.Nat.{◌-◌}
use Rattle.format.specs.Layout as at-tree
use Rattle.query_rows.proofs.NewlineLaws as laws
use Rattle.query_rows.proofs.next_newline.next_newline.Given as goal

abbrev pub invariant-loop-at : goal.invariant-loop-at
invariant-loop-at l = (laws.NoneYet l.t.now l.initial.at l.at l.earlier) × (laws.RowFirst l.t.now l.initial.at l.at l.first)

abbrev pub decreases-loop-at : goal.decreases-loop-at
decreases-loop-at l = at-tree.text_length l.t.now - l.at
