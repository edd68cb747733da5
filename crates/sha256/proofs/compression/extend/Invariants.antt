use Rattle.std.proofs.Common.{◌≡◌, ◌+◌, take}
use Rattle.sha256.specs.Sha256.{schedule}
use Rattle.sha256.proofs.compression.extend.Given as goal

abbrev pub invariant-loop-n : goal.invariant-loop-n
invariant-loop-n l = take (l.n + 16) l.words ≡ schedule (take 16 l.initial.words) l.n
