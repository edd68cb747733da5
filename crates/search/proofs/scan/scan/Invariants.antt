use Rattle.std.proofs.Common.{◌≡◌}
use Rattle.text.specs.Text.{substring, leftmost}
use Rattle.search.specs.FingerValues.{finger}
use Rattle.search.proofs.ScanLaws.{ahead}
use Rattle.search.proofs.scan.scan.Given as goal

abbrev pub invariant-loop-p : goal.invariant-loop-p
invariant-loop-p l =
    (l.h ≡ finger l.by.base l.by.modulus (substring l.text l.p l.n)) × (ahead l.text l.at.0 l.n l.p ≡ leftmost l.text l.at.0 l.n)
