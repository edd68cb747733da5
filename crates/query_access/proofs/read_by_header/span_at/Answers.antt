use Rattle.std.specs.Prelude.{Err}
use Rattle.refusals.specs.declared.Refusal.TheVariants.{PastTheEnd, AnswerDoesNotFit}
use mathlib.Core.Path.{sym, ◌∙◌}
use native.Mathlib.Omega.{arith}
use Rattle.query_access.proofs.LeafRunLaws.{access-none-read}
use Rattle.query_access.proofs.ShortLaws.{short-is}
use Rattle.query_access.proofs.SpanLaws as laws
use Rattle.query_access.proofs.read_by_header.span_at.Goals as goal

pub returns-then-h-end : goal.returns-then-h-end
returns-then-h-end c = let both = laws.access-answered _ _ _ _ _ (Err PastTheEnd) (omega arith) (laws.span_past _ _ _ _ _ _ _ c.requires.passes (omega (arith, c.requires.length_is, c.if-h-end.true))) in record { span_answer = both.0; buffer_after = both.1 }

pub returns-then-buffer-len : goal.returns-then-buffer-len
returns-then-buffer-len c = let both = laws.access-answered _ _ _ _ _ (Err AnswerDoesNotFit)
    (omega arith) (laws.span_short _ _ _ _ _ _ _ c.requires.passes (omega (arith, c.requires.length_is, c.if-h-end.false)) c.if-buffer-len.true) in record { span_answer = both.0; buffer_after = both.1 }

pub short_span-requires : goal.short_span-requires
short_span-requires c = (c.requires, c.if-h-end.false, c.if-buffer-len.false, sym (short-is _ _ c.requires _ _ c.is_short.ensures) ∙ c.if-is_short.true)

pub copy_on-requires : goal.copy_on-requires
copy_on-requires c = (c.requires, c.if-h-end.false, c.if-buffer-len.false, access-none-read _ _ _ c.no_run.ensures.length_value c.no_run.ensures.from_value)

pub returns-then-len-lt-FEW : goal.returns-then-len-lt-FEW
returns-then-len-lt-FEW c = let both = laws.by_paths _ _ _ _ _ _
    (sym (short-is _ _ c.requires _ _ c.is_short.ensures) ∙ c.if-is_short.false) c.copy_on.ensures.copy_answer c.copy_on.ensures.buffer_after in record { span_answer = both.0; buffer_after = both.1 }

pub copy-requires : goal.copy-requires
copy-requires c = (c.requires, c.if-h-end.false, c.if-buffer-len.false)

pub returns : goal.returns
returns c = let both = laws.by_paths _ _ _ _ _ _
    (sym (short-is _ _ c.requires _ _ c.is_short.ensures) ∙ c.if-is_short.false) c.copy.ensures.copy_answer c.copy.ensures.buffer_after in record { span_answer = both.0; buffer_after = both.1 }
