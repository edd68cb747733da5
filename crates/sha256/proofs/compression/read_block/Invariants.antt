use Rattle.std.proofs.Common.{◌≡◌, ◌+◌, ◌*◌, ◌++◌, drop}
use Rattle.text.specs.Text.{tabulate}
use Rattle.sha256.specs.Sha256.{word_bE}
use Rattle.sha256.proofs.compression.read_block.Given as goal

abbrev pub invariant-loop-t : goal.invariant-loop-t
invariant-loop-t l = l.words ≡ tabulate l.t (λ i. word_bE l.bytes (l.at + 4 * i)) ++ drop l.t l.initial.words
