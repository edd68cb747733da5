use Rattle.list_lines.proofs.LineLaws as laws
use Rattle.list_lines.proofs.level_line.Goals as goal

pub level_count-blocks-requires : goal.level_count-blocks-requires
level_count-blocks-requires c = laws.table-there _ _ _ c.requires.0

pub returns : goal.returns
returns c = laws.level-put
    _ _ _ _ _ c.level_count-blocks.ensures c.count_of-kept.ensures c.count_of-pointing.ensures c.four.ensures
