use Rattle.check_links.proofs.LevelReadLaws as laws
use Rattle.check_links.proofs.level_read.room_below.Goals as goal

pub returns-then-number-h : goal.returns-then-number-h
returns-then-number-h c = laws.room-last _ _ c.requires.0 _ c.if-number-h.true

pub level_count-requires : goal.level_count-requires
level_count-requires c = laws.table-there _ _ c.requires.0 _ (laws.below_in _ _ c.requires.0 _ c.if-number-h.false c.requires.1)

pub returns : goal.returns
returns c = laws.room-above _ _ c.requires.0 _ c.if-number-h.false _ c.level_count.ensures
