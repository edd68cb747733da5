use Rattle.std.specs.Prelude.{Ok, Err}
use Rattle.refusals.specs.declared.Refusal.TheVariants.{PathBroken, PatternTableTooShort}
use native.Mathlib.Omega.{arith}
use Rattle.query_places.proofs.PlacesAnswerLaws as laws
use Rattle.query_places.proofs.fill_counted.Goals as goal

pub returns-in_default : goal.returns-in_default
returns-in_default c = let both = laws.places-answered _ _ _ _ (Err PathBroken)
    (omega arith) (laws.path-breaks _ _ _ c.requires.0.passes c.requires.1 c.requires.2 _ _ _ _ c.seek-counted.ensures c.in_default.is) in
    record { places_answer = both.0; table_after = both.1 }

pub returns-then-table-words : goal.returns-then-table-words
returns-then-table-words c = let both = laws.places-answered _ _ _ _ (Err PatternTableTooShort) (omega arith)
    (laws.no_room _ _ _ c.requires.0.passes c.requires.1 c.requires.2 _ _ _ _ c.seek-counted.ensures _ c.in-Some.is c.if-table-words.true) in
    record { places_answer = both.0; table_after = both.1 }

pub copy-requires : goal.copy-requires
copy-requires c = (omega (arith, c.if-words-le-FEW.true, c.seek-counted.auto.table), c.if-table-words.false)

pub returns-then-words-le-FEW : goal.returns-then-words-le-FEW
returns-then-words-le-FEW c = let both = laws.places-answered _ _ _ _ (Ok _)
    tt (laws.written-few _ _ _ c.requires.0.passes c.requires.1 c.requires.2 _ _ _ _ c.seek-counted.ensures _ c.in-Some.is
    c.if-table-words.false c.if-words-le-FEW.true _ c.copy.ensures) in record { places_answer = both.0; table_after = both.1 }

pub returns : goal.returns
returns c = let both = laws.places-answered _ _ _ _ (Ok _) tt (laws.written_all _ _ _ c.requires.0.passes c.requires.1
    c.requires.2 _ _ _ _ c.seek-counted.ensures _ c.in-Some.is c.if-table-words.false _ _ c.seek.ensures) in
    record { places_answer = both.0; table_after = both.1 }
