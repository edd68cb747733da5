use Rattle.abi.proofs.guide_exports.bt_next_with_prefix_guided.Goals as goal

pub returns : goal.returns
returns c = rw c.put_next_row.ensures c.next_with_prefix_guided-answer.ensures.answers
