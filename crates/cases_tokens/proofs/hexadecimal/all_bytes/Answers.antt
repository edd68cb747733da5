use native.Mathlib.Omega.{arith}
use Rattle.cases_tokens.proofs.HexadecimalLaws.{bytes-none, token-bytes-more, bytes-all, bytes-not}
use Rattle.cases_tokens.proofs.hexadecimal.all_bytes.Goals as goal

pub loop-i-init : goal.loop-i-init
loop-i-init c = bytes-none _

pub returns-then-byte-gt255 : goal.returns-then-byte-gt255
returns-then-byte-gt255 c = bytes-not c.args.word.now _ _ c.loop-i-test.true c.byte.ensures c.if-byte-gt255.true

pub loop-i-preserved : goal.loop-i-preserved
loop-i-preserved c = token-bytes-more _ _ _ c.loop-i.invariant c.byte.ensures c.if-byte-gt255.false

pub returns : goal.returns
returns c = bytes-all c.args.word.now _ c.loop-i.invariant (omega arith)
