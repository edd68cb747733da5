use Rattle.list_lines.proofs.LineLaws as laws
use Rattle.list_lines.proofs.four.Goals as goal

pub returns : goal.returns
returns c = laws.line-put _ _ _ _ c.requires c.number_and-end_a.ensures
    c.number_and-end_b.ensures c.number_and-end_c.ensures c.number_and.ensures
