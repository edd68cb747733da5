use Rattle.refusals.specs.RefusalsLaws.{passed-on}
use Rattle.layout.specs.HeaderFields.{header-good}
use Rattle.query_digest.proofs.DigestAnswerLaws as laws
use Rattle.query_digest.proofs.digest.Goals as goal

pub digest_at-requires : goal.digest_at-requires
digest_at-requires c = header-good _ _ c.read_header.ensures _ c.in_ok-h.was

pub returns-in_err-h : goal.returns-in_err-h
returns-in_err-h c = rw (passed-on _ _ c.from_residual.ensures.1)
    (let both = laws.unread c.args.t.now c.args.out.now _ c.read_header.ensures _ c.in_err-h.was in record { value = both.0; out_after = both.1 })
