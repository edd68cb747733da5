use native.Mathlib.Omega.{arith}
use Rattle.query_places.proofs.RoomLaws as laws
use Rattle.query_places.proofs.room.of_length.Goals as goal

pub returns-then-len-lt1 : goal.returns-then-len-lt1
returns-then-len-lt1 c = (laws.no_byte _ _ c.if-len-lt1.true, omega arith)

pub returns-then-len-gt-MAX_PATTERN : goal.returns-then-len-gt-MAX_PATTERN
returns-then-len-gt-MAX_PATTERN c = (laws.too_long _ _ c.if-len-lt1.false c.if-len-gt-MAX_PATTERN.true, omega arith)

pub returns : goal.returns
returns c = (laws.words_are _ _ c.if-len-lt1.false c.if-len-gt-MAX_PATTERN.false _ c.most.ensures, tt)
