use Rattle.query_info.proofs.InfoLaws as laws
use Rattle.query_info.proofs.figures_of.Goals as goal

pub counted_bytes-bytes-requires : goal.counted_bytes-bytes-requires
counted_bytes-bytes-requires c = c.requires.facts.long

pub level_counts-blocks-requires : goal.level_counts-blocks-requires
level_counts-blocks-requires c = c.requires.facts.long

pub returns : goal.returns
returns c = laws.figures-are _ _ c.requires
    _ _ _ c.counted_bytes-bytes.ensures c.totals-totals.ensures c.level_counts-blocks.ensures
