use Rattle.search.proofs.Usable.{modulus-low, modulus-high, modulus-within}
use Rattle.search.proofs.usable_modulus.Goals as goal

pub returns-then-modulus-lt1 : goal.returns-then-modulus-lt1
returns-then-modulus-lt1 c = modulus-low _ c.if-modulus-lt1.true

pub returns-then-modulus-gt-MAX_MODULUS : goal.returns-then-modulus-gt-MAX_MODULUS
returns-then-modulus-gt-MAX_MODULUS c = modulus-high _ c.if-modulus-gt-MAX_MODULUS.true

pub returns : goal.returns
returns c = modulus-within _ c.if-modulus-lt1.false c.if-modulus-gt-MAX_MODULUS.false
