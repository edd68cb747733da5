use Rattle.check_links.proofs.LevelReadLaws as laws
use Rattle.check_links.proofs.level_read.part_length.Goals as goal

pub returns-then-number-h : goal.returns-then-number-h
returns-then-number-h c = laws.part-last _ _ c.requires.0 _ c.if-number-h.true

pub nonzero_div-result : goal.nonzero_div-result
nonzero_div-result c = laws.arity-pos _ _ c.requires.0

pub returns : goal.returns
returns c = laws.part-above _ _ c.requires.0 _ c.if-number-h.false _ c.requires.2 c.requires.1
