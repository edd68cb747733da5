use mathlib.Core.Path.{refl}
use native.Mathlib.Omega.{arith}
use Rattle.list_lines.proofs.WrittenLaws as laws
use Rattle.list_lines.proofs.put.bytes.Goals as goal

pub loop-i-preserved : goal.loop-i-preserved
loop-i-preserved c = laws.put-more c.args.out.now c.args.at c.loop-i.out c.args.s.now c.loop-i.i c.loop-i.invariant (omega arith) (omega arith)

pub returns : goal.returns
returns c = record { bytes = laws.put_all _ _ _ _ _ c.loop-i.invariant (omega arith); after = refl; short = omega arith }
