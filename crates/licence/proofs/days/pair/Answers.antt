use native.Mathlib.Omega.{arith}
use borrow.Author.Rules.{rules}
use Rattle.licence.specs.Licence.{pair_at}
use Rattle.licence.proofs.DaysLaws.{digit-high}
use Rattle.licence.proofs.days.pair.Goals as goal

pub digit-requires : goal.digit-requires
unfolding pair_at
digit-requires c = search rules

pub overflow_mul-result : goal.overflow_mul-result
unfolding pair_at
overflow_mul-result c = omega (arith, c.digit.ensures, digit-high _ c.requires.1)

pub digit-requires-2 : goal.digit-requires-2
unfolding pair_at
digit-requires-2 c = search rules

pub overflow_add-result : goal.overflow_add-result
unfolding pair_at
overflow_add-result c = omega (arith, c.digit.ensures, c.digit-2.ensures, digit-high _ c.requires.1, digit-high _ c.requires.2)

pub returns : goal.returns
unfolding pair_at
returns c = (
  omega (arith, c.digit.ensures, c.digit-2.ensures),
  omega (arith, c.digit.ensures, c.digit-2.ensures, digit-high _ c.requires.1, digit-high _ c.requires.2),
)
