use Rattle.std.specs.Prelude.{Err}
use Rattle.refusals.specs.declared.Refusal.TheVariants.{PatternLengthWrong}
use native.Mathlib.Omega.{arith}
use Rattle.query_places.proofs.PlacesAnswerLaws as laws
use Rattle.query_places.proofs.places_at.Goals as goal

pub returns-then-pattern-lt1 : goal.returns-then-pattern-lt1
returns-then-pattern-lt1 c =
    let both = laws.places-answered _ _ _ _ (Err PatternLengthWrong) (omega arith) (laws.no_byte _ _ _ c.requires.passes c.if-pattern-lt1.true) in
    record { places_answer = both.0; table_after = both.1 }

pub returns-then-pattern-gt-MAX_PATTERN : goal.returns-then-pattern-gt-MAX_PATTERN
returns-then-pattern-gt-MAX_PATTERN c = let both = laws.places-answered _ _ _ _ (Err PatternLengthWrong)
    (omega arith) (laws.too_long _ _ _ c.requires.passes c.if-pattern-lt1.false c.if-pattern-gt-MAX_PATTERN.true) in
    record { places_answer = both.0; table_after = both.1 }
