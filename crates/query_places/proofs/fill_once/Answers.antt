use native.Mathlib.Omega.{arith}
use Rattle.query_places.proofs.PlacesAnswerLaws as laws
use Rattle.query_places.proofs.fill_once.Goals as goal

pub returns : goal.returns
returns c =
    let both = laws.once-answered _ _ _ c.requires.header_of.0.passes c.requires.header_of.1 c.requires.header_of.2 _ _ _ c.seek.ensures c.requires.t_value.0
    (omega (arith, c.requires.t_value.1, c.requires.header_of.0.length_is)) c.requires.t_value.2 in
    rw c.ok_or.ensures.value (record { places_answer = both.0; table_after = both.1 })
