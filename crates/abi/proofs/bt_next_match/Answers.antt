use Rattle.abi.proofs.bt_next_match.Goals as goal

pub returns : goal.returns
returns c = rw c.put_next_row.ensures c.next_match-answer.ensures.answers
