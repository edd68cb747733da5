use native.Mathlib.Omega.{arith}
use native.Mathlib.Nat.{div-le_self}
use mathlib.Core.Path.{refl}
use Prim.Native.Nat.{◌+◌, ◌-◌}
use Rattle.format.specs.Layout.{pieces}
use Rattle.build_by_scan.specs.ScanAnswers.{table_words}
use Rattle.build_by_scan.proofs.TableRoom.{no_words}
use Rattle.build_by_scan.proofs.scan_words.Goals as goal

pub returns-then-leaf-eq0 : goal.returns-then-leaf-eq0
unfolding table_words pieces
returns-then-leaf-eq0 c = no_words _ _ c.if-leaf-eq0.true

pub overflow_mul-result : goal.overflow_mul-result
unfolding table_words pieces
overflow_mul-result c = omega (arith, div-le_self (c.args.n + (c.args.leaf - 1)) c.args.leaf)

pub returns : goal.returns
unfolding table_words pieces
returns c = refl
