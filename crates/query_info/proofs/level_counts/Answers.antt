use Rattle.query_info.proofs.InfoLaws as laws
use Rattle.query_info.proofs.level_counts.Goals as goal

pub returns : goal.returns
returns c = laws.info-eight _ _ _ _ _ _ _ _ _ c.blocks-2.ensures c.blocks-3.ensures c.blocks-4.ensures
    c.blocks-5.ensures c.blocks-6.ensures c.blocks-7.ensures c.blocks-8.ensures c.blocks-9.ensures
