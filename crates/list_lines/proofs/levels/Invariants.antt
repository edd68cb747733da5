use Prim.Native.Nat.{◌*◌}
use Rattle.list_lines.specs.ListedLines.{lines_below, max_line, ListPut}
use Rattle.list_lines.proofs.levels.Given as goal

abbrev pub invariant-loop-l : goal.invariant-loop-l
invariant-loop-l v = ListPut v.initial.out v.out 0 v.end (lines_below v.t v.l) (max_line * v.l)
