use Rattle.query_guide.proofs.EntryWordsLaws as laws
use Rattle.query_guide.proofs.entry_words.block_from.Goals as goal

pub step_along-requires : goal.step_along-requires
step_along-requires c = laws.siblings _ _ _ _ _ c.requires.0 c.requires.1 c.requires.2 c.level_count.ensures

pub returns : goal.returns
returns c = (rw c.level_count.ensures at c.step_along.ensures.0, c.step_along.ensures.1)
