use Rattle.std.specs.Prelude.{Err}
use Rattle.refusals.specs.RefusalsLaws.{number-above, passed-on}
use Rattle.layout.specs.HeaderFields.{header-good}
use Rattle.query_places.proofs.PlacesAnswerLaws as laws
use Rattle.query_places.proofs.places.Goals as goal

pub places_at-requires : goal.places_at-requires
places_at-requires c = header-good _ _ c.read_header.ensures _ c.in_ok-h.was

pub returns-in_err-h : goal.returns-in_err-h
returns-in_err-h c =
    rw (passed-on _ _ c.from_residual.ensures.1)
    (let k = laws.unread _ _ _ _ c.read_header.ensures _ c.in_err-h.was in let both = laws.places-answered _ _ _ _ (Err _) (number-above _) k in
    record { places_answer = both.0; table_after = both.1 })
