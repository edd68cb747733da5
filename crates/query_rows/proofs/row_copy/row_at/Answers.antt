use native.Mathlib.Omega.{arith}
use Rattle.query_access.proofs.SpanLaws.{span_short}
use Rattle.std.specs.Prelude.{Err}
use Rattle.refusals.specs.declared.Refusal.TheVariants.{AnswerDoesNotFit}
use Rattle.query_rows.proofs.RowBoundsLaws as edge
use Rattle.query_rows.proofs.RowAnswerLaws as laws
use Rattle.query_rows.proofs.row_copy.row_at.Goals as goal

pub returns-in_default : goal.returns-in_default
returns-in_default c = laws.row-edges _ _ _ _ _ _ c.row_bounds-found.ensures c.unwrap_err.ensures

pub returns-then-buffer-len : goal.returns-then-buffer-len
returns-then-buffer-len c = let edges = c.row_bounds-found.ensures.spans _ _ _ c.in-Ok.is in
    let k = laws.copied _ _ _ _ _ (Err AnswerDoesNotFit) (omega arith) (span_short _ _ _ _ _ _ _ c.requires.passes edges.within c.if-buffer-len.true) in
    record { answers = laws.row-spans _ _ (edge.settled-sound _ _ _) _ _ _ _ _ _ _ c.requires.passes edges k.0.answers k.1; numbered = omega arith }

pub copy_on-copied-requires : goal.copy_on-copied-requires
copy_on-copied-requires c = let edges = c.row_bounds-found.ensures.spans _ _ _ c.in-Ok.is in
    (c.requires, omega (arith, edges.within, c.requires.length_is), c.if-buffer-len.false, edges.reads)

pub returns-in_default-copied : goal.returns-in_default-copied
returns-in_default-copied c = let edges = c.row_bounds-found.ensures.spans _ _ _ c.in-Ok.is in
    let copied = laws.row-passed _ _ _ _ _ c.copy_on-copied.ensures.copy_answer _ c.unwrap_err-refusal.ensures in
    record {
      answers = laws.row-spans _ _ (edge.settled-sound _ _ _) _ _ _ _ _ _ _ c.requires.passes edges copied.answers c.copy_on-copied.ensures.buffer_after;
      numbered = copied.numbered;
    }

pub returns : goal.returns
returns c = let edges = c.row_bounds-found.ensures.spans _ _ _ c.in-Ok.is in
    let copied = laws.row-bytes _ _ _ _ _ c.copy_on-copied.ensures.copy_answer _ _ c.in-Ok-copied.is in
    record {
      answers = laws.row-spans _ _ (edge.settled-sound _ _ _) _ _ _ _ _ _ _ c.requires.passes edges copied.answers c.copy_on-copied.ensures.buffer_after;
      numbered = copied.numbered;
    }
