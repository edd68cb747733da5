use Rattle.abi.proofs.bt_next_with_prefix.Goals as goal

pub returns : goal.returns
returns c = rw c.put_next_row.ensures c.next_with_prefix-answer.ensures.answers
