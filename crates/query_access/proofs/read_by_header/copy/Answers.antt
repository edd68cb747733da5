use Rattle.std.specs.Prelude.{Ok, Err}
use Rattle.refusals.specs.RefusalsLaws.{number-above}
use mathlib.Core.Path.{refl}
use native.Mathlib.Omega.{arith}
use Rattle.query_access.proofs.SegmentLaws as segments
use Rattle.query_access.proofs.SpanLaws.{copy-answered}
use Rattle.query_access.proofs.read_by_header.copy.Goals as goal

pub copy_segment-copied-requires : goal.copy_segment-copied-requires
copy_segment-copied-requires c = let s = segments.text-segment _ _ c.requires.0 _ _ c.requires.1 in (s.0, s.1, omega (arith, c.requires.2))

pub clear-requires : goal.clear-requires
clear-requires c = omega (arith, c.requires.2, c.copy_segment-copied.auto.buffer)

pub returns-in-Err : goal.returns-in-Err
returns-in-Err c = let both = copy-answered _ _ _ _ _ (Err _) (number-above _)
    (segments.descent-broken _ _ c.requires.0 _ _ c.requires.1 _ c.requires.2 _ _ (rw c.in-Err.is at c.copy_segment-copied.ensures)
    (segments.is-refusal _) _ c.clear.ensures) in record { copy_answer = both.0; buffer_after = both.1 }

pub shape_of-buffer : goal.shape_of-buffer
shape_of-buffer c = c.copy_segment-copied.auto.buffer

pub returns : goal.returns
returns c = let both = copy-answered _ _ _ _ _ (Ok (_, 0)) tt (segments.descent-copied _ _ c.requires.0 _ _ c.requires.1 _ c.requires.2 _ _ (rw c.in_default.is at c.copy_segment-copied.ensures) refl) in record { copy_answer = both.0; buffer_after = both.1 }
