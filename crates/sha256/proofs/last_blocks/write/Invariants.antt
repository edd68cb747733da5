use Rattle.std.proofs.Common.{◌≡◌, ◌++◌, get_or, drop}
use Rattle.text.specs.Text.{tabulate}
use Rattle.sha256.specs.Sha256.{padding}
use Rattle.sha256.proofs.last_blocks.write.Given as goal

abbrev pub invariant-loop-i : goal.invariant-loop-i
invariant-loop-i l = l.last ≡ tabulate l.i (λ j. get_or (l.rest ++ padding l.n) j 0) ++ drop l.i l.initial.last
