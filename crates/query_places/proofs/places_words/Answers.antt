use Rattle.refusals.specs.RefusalsLaws.{passed-on}
use Rattle.layout.specs.HeaderFields.{header-good}
use Rattle.query_places.proofs.RoomLaws as laws
use Rattle.query_places.proofs.places_words.Goals as goal

pub returns : goal.returns
returns c = laws.answered _ _ _
    (header-good _ _ c.read_header.ensures _ c.in_ok-h.was) _ c.of_length.ensures

pub returns-in_err-h : goal.returns-in_err-h
returns-in_err-h c = rw (passed-on _ _ c.from_residual.ensures.1) (laws.unread _ _ _ c.read_header.ensures _ c.in_err-h.was)
