-- The calls of the library, in the order of `PublicFunctions`, and demand 1 for every one of them. For the exported calls, for list and for the calls on a
-- licence's days it is proved in `Theorems` of their crates.
use mathlib.Core.List.{List, [], ◌∷◌}
use Rattle.abi.proofs.Theorems as exports
use Rattle.list_lines.proofs.Theorems as lists
use Rattle.licence.proofs.Theorems as days
use Rattle.theorems.specs.Promises.{EveryCallEnds, NoPreconditions}
use Rattle.theorems.proofs.PublicCall.{Call, each-ends, each-asks-nothing}
use Rattle.theorems.proofs.LeftmostCall
use Rattle.theorems.proofs.BuildCall
use Rattle.theorems.proofs.BuildScannedCall
use Rattle.theorems.proofs.SizeBoundCall
use Rattle.theorems.proofs.CheckCall
use Rattle.theorems.proofs.ByteCall
use Rattle.theorems.proofs.RunCall
use Rattle.theorems.proofs.SpanCall
use Rattle.theorems.proofs.CountCall
use Rattle.theorems.proofs.FindCall
use Rattle.theorems.proofs.RowCall
use Rattle.theorems.proofs.RowLengthCall
use Rattle.theorems.proofs.RowCountCall
use Rattle.theorems.proofs.PlacesCall
use Rattle.theorems.proofs.PlacesWordsCall
use Rattle.theorems.proofs.NextMatchCall
use Rattle.theorems.proofs.PrefixRowCall
use Rattle.theorems.proofs.ColumnsCall
use Rattle.theorems.proofs.ColumnRowCall
use Rattle.theorems.proofs.DigestCall
use Rattle.theorems.proofs.GuideCall
use Rattle.theorems.proofs.FindGuidedCall
use Rattle.theorems.proofs.RowGuidedCall
use Rattle.theorems.proofs.OrderCall
use Rattle.theorems.proofs.InfoCall
use Rattle.theorems.proofs.WithoutEdgesCall

abbrev pub calls : List Call
calls =
    LeftmostCall.fingerprint_new_call
    ∷ LeftmostCall.leftmost_call
    ∷ LeftmostCall.occurs_earlier_call
    ∷ BuildCall.build_call
    ∷ BuildScannedCall.build_scanned_call
    ∷ BuildScannedCall.scan_words_call
    ∷ SizeBoundCall.size_bound_call
    ∷ CheckCall.check_call
    ∷ ByteCall.byte_call
    ∷ RunCall.run_call
    ∷ RunCall.run_range_call
    ∷ SpanCall.span_call
    ∷ CountCall.count_call
    ∷ CountCall.uncounted_call
    ∷ FindCall.find_call
    ∷ RowCall.row_call
    ∷ RowLengthCall.row_length_call
    ∷ RowCountCall.row_count_call
    ∷ PlacesCall.places_call
    ∷ PlacesWordsCall.places_words_call
    ∷ NextMatchCall.next_match_call
    ∷ NextMatchCall.advance_mark_call
    ∷ PrefixRowCall.next_row_with_prefix_call
    ∷ PrefixRowCall.next_row_with_prefix_guided_call
    ∷ ColumnsCall.to_columns_call
    ∷ ColumnsCall.from_columns_call
    ∷ ColumnRowCall.row_by_columns_call
    ∷ DigestCall.digest_call
    ∷ DigestCall.digest_text_call
    ∷ GuideCall.guide_words_call
    ∷ GuideCall.make_guide_call
    ∷ GuideCall.check_guide_call
    ∷ FindGuidedCall.find_guided_call
    ∷ RowGuidedCall.row_guided_call
    ∷ OrderCall.compare_call
    ∷ OrderCall.first_call
    ∷ InfoCall.info_call
    ∷ InfoCall.version_call
    ∷ WithoutEdgesCall.without_edges_call
    ∷ []

-- Demand 1: each call is totally correct, with a frame (`TotalCorrectness`).
pub every-call-ends : EveryCallEnds
every-call-ends = (each-ends calls, exports.every-call-ends, lists.every-call-ends, days.every-call-ends)

-- Demand 1: no call has a precondition (`NoPrecondition`).
pub no-preconditions : NoPreconditions
no-preconditions = (each-asks-nothing calls, exports.no-preconditions, lists.no-preconditions, days.no-preconditions)
