use mathlib.Core.Path.{sym}
use Rattle.search.proofs.ScanLaws.{differ}
use Rattle.search.proofs.scan.occurs_at.Goals as goal

pub returns-then-here-wanted : goal.returns-then-here-wanted
returns-then-here-wanted c = sym (differ _ _ _ _ _ _ c.requires.fingerprint_value c.requires.fingerprint_value_2 c.if-here-wanted.true)

pub returns : goal.returns
returns c = c.equal_at.ensures
