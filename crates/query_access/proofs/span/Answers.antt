use Rattle.std.specs.Prelude.{Err}
use Rattle.refusals.specs.RefusalsLaws.{number-above, passed-on}
use Rattle.layout.specs.HeaderFields.{header-good}
use Rattle.query_access.proofs.SpanLaws as laws
use Rattle.query_access.proofs.span.Goals as goal

pub span_at-requires : goal.span_at-requires
span_at-requires c = header-good _ _ c.read_header.ensures _ c.in_ok-h.was

pub returns-in_err-h : goal.returns-in_err-h
returns-in_err-h c = rw (passed-on _ _ c.from_residual.ensures.1) (let k = laws.span-unread _ _ _ _ _ _ _ _ c.read_header.ensures _ c.in_err-h.was in let both = laws.access-answered _ _ _ _ _ (Err _) (number-above _) k in record { span_answer = both.0; buffer_after = both.1 })
