use native.Mathlib.Omega.{arith}
use Rattle.scan_rolling_hash.proofs.WindowFingerprintLaws.{remainder-below}
use Rattle.scan_rolling_hash.proofs.WindowLaws as laws
use Rattle.scan_rolling_hash.proofs.first_window.Goals as goal

pub returns-then-n-eq0 : goal.returns-then-n-eq0
returns-then-n-eq0 c = laws.window-nowhere _ _ _ c.requires.0 c.requires.1 c.if-n-eq0.true

pub overflow_sub-result : goal.overflow_sub-result
overflow_sub-result c = omega (arith, remainder-below _ _ c.power.ensures)

pub returns : goal.returns
returns c = laws.window-first _ _ _ _ _ c.requires.0 c.requires.1 c.if-n-eq0.false c.power.ensures c.fingerprint_at.ensures
