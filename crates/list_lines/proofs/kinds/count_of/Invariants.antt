use Prim.Native.Nat.{◌≤◌}
use mathlib.Core.Path.{◌≡◌}
use Rattle.list_lines.specs.LevelTable.{has_kind}
use Rattle.text.specs.Text.{count_below}
use Rattle.list_lines.proofs.kinds.count_of.Given as goal

abbrev pub invariant-loop-i : goal.invariant-loop-i
invariant-loop-i l = record { few : l.found ≤ l.i; found_is : l.found ≡ count_below l.i (has_kind l.t l.level l.kind) }
