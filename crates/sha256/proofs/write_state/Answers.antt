use Rattle.sha256.proofs.DigestLaws.{state-written}
use Rattle.sha256.proofs.write_state.Goals as goal

pub returns : goal.returns
returns c = state-written c.args.out.now c.args.s c.requires _ _ _ _ _ _ _ _
    c.write_word.ensures c.write_word-2.ensures c.write_word-3.ensures
    c.write_word-4.ensures c.write_word-5.ensures c.write_word-6.ensures
    c.write_word-7.ensures c.write_word-8.ensures
