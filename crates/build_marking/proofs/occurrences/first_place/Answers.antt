use Rattle.build_marking.proofs.OccurrencesLaws.{found_at}
use Rattle.build_marking.proofs.occurrences.first_place.Goals as goal

pub returns : goal.returns
returns c = found_at _ _ _ _ _ c.substring_of-own.ensures _ c.leftmost.ensures _ c.unwrap_or.ensures
