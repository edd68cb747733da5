use borrow.Author.Rules.{rules}
use Rattle.std.specs.Prelude.{length}
use borrow.Author.Tests.{lt-leb}
use Rattle.sha256.specs.Sha256.{digest_text_refusal, digest_text_buffer}
use Rattle.sha256.proofs.DigestLaws.{digested}
use Rattle.sha256.proofs.digest_text.Goals as goal

pub returns-then-out-lt32 : goal.returns-then-out-lt32
unfolding digest_text_refusal digest_text_buffer
returns-then-out-lt32 c = let short = lt-leb 32 (length c.args.out.now) c.if-out-lt32.true in record { value = simp short; out_after = simp short }

pub hash-requires : goal.hash-requires
unfolding digest_text_refusal digest_text_buffer
hash-requires c = search rules

pub write_state-requires : goal.write_state-requires
unfolding digest_text_refusal digest_text_buffer
write_state-requires c = search rules

pub returns : goal.returns
unfolding digest_text_refusal digest_text_buffer
returns c = let both = digested c.args.text.now c.args.out.now _ _ c.if-out-lt32.false c.hash.ensures c.write_state.ensures in record { value = both.0; out_after = both.1 }
