use Rattle.query_places.proofs.ReadMatchingLaws as laws
use Rattle.query_places.proofs.pattern_seek.read_matching.Goals as goal

pub returns : goal.returns
returns c = laws.reads-matching _ _ c.requires.3 _ _ _ _ _ c.requires.0 c.skip-k.ensures.0 c.matching-d.ensures.0 c.skip-k.ensures.1 c.matching-d.ensures.1 c.requires.2
