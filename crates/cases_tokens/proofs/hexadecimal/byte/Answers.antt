use Rattle.cases_tokens.proofs.HexadecimalLaws.{byte-none, byte-some}
use Rattle.cases_tokens.proofs.hexadecimal.byte.Goals as goal

pub returns-then-low-gt15 : goal.returns-then-low-gt15
returns-then-low-gt15 c = byte-none c.args.word.now c.args.i _ _ c.digit-high.ensures.0 c.digit-low.ensures.0 c.if-low-gt15.true

pub returns : goal.returns
returns c = byte-some c.args.word.now c.args.i _ _ c.digit-high.ensures.0 c.digit-low.ensures.0 c.if-low-gt15.false
