-- Demand 1 for the calls of the C interface, a line for each: the call terminates and accesses only the memory that it was given (`TotallyCorrect`), and it
-- has no precondition (`NoPrecondition`). The symbols of the C library, which call them, have the same in `abi_c`.
-- docs/FORMAT.md: "What is proved".
use mathlib.Core.List.{List, [], ◌∷◌}
use mathlib.Core.Path.{refl}
use Rattle.theory_adequacy.specs.TotalCorrectness.{TotallyCorrect}
use Rattle.theory_adequacy.specs.Preconditions.{NoPrecondition, Call, call_of, Each, each-ends, each-asks-nothing}
use Rattle.abi.specs.contracts.bt_build as bt-build-of
use Rattle.abi.proofs.bt_build.Symbol as bt-build-at
use Rattle.abi.proofs.bt_build.Met as bt-build-met
use Rattle.abi.specs.contracts.bt_build_scanned as bt-build-scanned-of
use Rattle.abi.proofs.bt_build_scanned.Symbol as bt-build-scanned-at
use Rattle.abi.proofs.bt_build_scanned.Met as bt-build-scanned-met
use Rattle.abi.specs.contracts.bt_scan_words as bt-scan-words-of
use Rattle.abi.proofs.bt_scan_words.Symbol as bt-scan-words-at
use Rattle.abi.proofs.bt_scan_words.Met as bt-scan-words-met
use Rattle.abi.specs.contracts.bt_size_bound as bt-size-bound-of
use Rattle.abi.proofs.bt_size_bound.Symbol as bt-size-bound-at
use Rattle.abi.proofs.bt_size_bound.Met as bt-size-bound-met
use Rattle.abi.specs.contracts.bt_check as bt-check-of
use Rattle.abi.proofs.bt_check.Symbol as bt-check-at
use Rattle.abi.proofs.bt_check.Met as bt-check-met
use Rattle.abi.specs.contracts.bt_byte as bt-byte-of
use Rattle.abi.proofs.bt_byte.Symbol as bt-byte-at
use Rattle.abi.proofs.bt_byte.Met as bt-byte-met
use Rattle.abi.specs.contracts.bt_run_range as bt-run-range-of
use Rattle.abi.proofs.bt_run_range.Symbol as bt-run-range-at
use Rattle.abi.proofs.bt_run_range.Met as bt-run-range-met
use Rattle.abi.specs.contracts.bt_span as bt-span-of
use Rattle.abi.proofs.bt_span.Symbol as bt-span-at
use Rattle.abi.proofs.bt_span.Met as bt-span-met
use Rattle.abi.specs.contracts.bt_count as bt-count-of
use Rattle.abi.proofs.bt_count.Symbol as bt-count-at
use Rattle.abi.proofs.bt_count.Met as bt-count-met
use Rattle.abi.specs.contracts.bt_find as bt-find-of
use Rattle.abi.proofs.bt_find.Symbol as bt-find-at
use Rattle.abi.proofs.bt_find.Met as bt-find-met
use Rattle.abi.specs.contracts.bt_row as bt-row-of
use Rattle.abi.proofs.bt_row.Symbol as bt-row-at
use Rattle.abi.proofs.bt_row.Met as bt-row-met
use Rattle.abi.specs.contracts.bt_places as bt-places-of
use Rattle.abi.proofs.bt_places.Symbol as bt-places-at
use Rattle.abi.proofs.bt_places.Met as bt-places-met
use Rattle.abi.specs.contracts.bt_next_match as bt-next-match-of
use Rattle.abi.proofs.bt_next_match.Symbol as bt-next-match-at
use Rattle.abi.proofs.bt_next_match.Met as bt-next-match-met
use Rattle.abi.specs.contracts.bt_next_with_prefix as with-prefix-of
use Rattle.abi.proofs.bt_next_with_prefix.Symbol as with-prefix-at
use Rattle.abi.proofs.bt_next_with_prefix.Met as with-prefix-met
use Rattle.abi.specs.contracts.bt_list as bt-list-of
use Rattle.abi.proofs.bt_list.Symbol as bt-list-at
use Rattle.abi.proofs.bt_list.Met as bt-list-met
use Rattle.abi.specs.contracts.guide_exports.bt_guide_words as bt-guide-words-of
use Rattle.abi.proofs.guide_exports.bt_guide_words.Symbol as bt-guide-words-at
use Rattle.abi.proofs.guide_exports.bt_guide_words.Met as bt-guide-words-met
use Rattle.abi.specs.contracts.guide_exports.bt_make_guide as bt-make-guide-of
use Rattle.abi.proofs.guide_exports.bt_make_guide.Symbol as bt-make-guide-at
use Rattle.abi.proofs.guide_exports.bt_make_guide.Met as bt-make-guide-met
use Rattle.abi.specs.contracts.guide_exports.bt_check_guide as bt-check-guide-of
use Rattle.abi.proofs.guide_exports.bt_check_guide.Symbol as bt-check-guide-at
use Rattle.abi.proofs.guide_exports.bt_check_guide.Met as bt-check-guide-met
use Rattle.abi.specs.contracts.guide_exports.bt_find_guided as bt-find-guided-of
use Rattle.abi.proofs.guide_exports.bt_find_guided.Symbol as bt-find-guided-at
use Rattle.abi.proofs.guide_exports.bt_find_guided.Met as bt-find-guided-met
use Rattle.abi.specs.contracts.guide_exports.bt_row_guided as bt-row-guided-of
use Rattle.abi.proofs.guide_exports.bt_row_guided.Symbol as bt-row-guided-at
use Rattle.abi.proofs.guide_exports.bt_row_guided.Met as bt-row-guided-met
use Rattle.abi.specs.contracts.guide_exports.bt_next_with_prefix_guided as prefix-guided-of
use Rattle.abi.proofs.guide_exports.bt_next_with_prefix_guided.Symbol as prefix-guided-at
use Rattle.abi.proofs.guide_exports.bt_next_with_prefix_guided.Met as prefix-guided-met
use Rattle.abi.specs.contracts.licence_exports.bt_open_on as bt-open-on-of
use Rattle.abi.proofs.licence_exports.bt_open_on.Symbol as bt-open-on-at
use Rattle.abi.proofs.licence_exports.bt_open_on.Met as bt-open-on-met
use Rattle.abi.specs.contracts.licence_exports.bt_days_left as bt-days-left-of
use Rattle.abi.proofs.licence_exports.bt_days_left.Symbol as bt-days-left-at
use Rattle.abi.proofs.licence_exports.bt_days_left.Met as bt-days-left-met
use Rattle.abi.specs.contracts.licence_exports.bt_renew as bt-renew-of
use Rattle.abi.proofs.licence_exports.bt_renew.Symbol as bt-renew-at
use Rattle.abi.proofs.licence_exports.bt_renew.Met as bt-renew-met
use Rattle.abi.specs.contracts.compare_exports.bt_compare as bt-compare-of
use Rattle.abi.proofs.compare_exports.bt_compare.Symbol as bt-compare-at
use Rattle.abi.proofs.compare_exports.bt_compare.Met as bt-compare-met
use Rattle.abi.specs.contracts.column_exports.bt_to_columns as bt-to-columns-of
use Rattle.abi.proofs.column_exports.bt_to_columns.Symbol as bt-to-columns-at
use Rattle.abi.proofs.column_exports.bt_to_columns.Met as bt-to-columns-met
use Rattle.abi.specs.contracts.column_exports.bt_from_columns as bt-from-columns-of
use Rattle.abi.proofs.column_exports.bt_from_columns.Symbol as bt-from-columns-at
use Rattle.abi.proofs.column_exports.bt_from_columns.Met as bt-from-columns-met
use Rattle.abi.specs.contracts.column_exports.bt_row_by_columns as bt-row-by-columns-of
use Rattle.abi.proofs.column_exports.bt_row_by_columns.Symbol as bt-row-by-columns-at
use Rattle.abi.proofs.column_exports.bt_row_by_columns.Met as bt-row-by-columns-met
use Rattle.abi.specs.contracts.digest_exports.bt_digest as bt-digest-of
use Rattle.abi.proofs.digest_exports.bt_digest.Symbol as bt-digest-at
use Rattle.abi.proofs.digest_exports.bt_digest.Met as bt-digest-met
use Rattle.abi.specs.contracts.digest_exports.bt_digest_text as bt-digest-text-of
use Rattle.abi.proofs.digest_exports.bt_digest_text.Symbol as bt-digest-text-at
use Rattle.abi.proofs.digest_exports.bt_digest_text.Met as bt-digest-text-met
use Rattle.abi.specs.contracts.figure_exports.bt_version as bt-version-of
use Rattle.abi.proofs.figure_exports.bt_version.Symbol as bt-version-at
use Rattle.abi.proofs.figure_exports.bt_version.Met as bt-version-met
use Rattle.abi.specs.contracts.figure_exports.bt_info as bt-info-of
use Rattle.abi.proofs.figure_exports.bt_info.Symbol as bt-info-at
use Rattle.abi.proofs.figure_exports.bt_info.Met as bt-info-met
use Rattle.abi.specs.contracts.figure_exports.bt_row_count as bt-row-count-of
use Rattle.abi.proofs.figure_exports.bt_row_count.Symbol as bt-row-count-at
use Rattle.abi.proofs.figure_exports.bt_row_count.Met as bt-row-count-met
use Rattle.abi.specs.contracts.figure_exports.bt_row_length as bt-row-length-of
use Rattle.abi.proofs.figure_exports.bt_row_length.Symbol as bt-row-length-at
use Rattle.abi.proofs.figure_exports.bt_row_length.Met as bt-row-length-met
use Rattle.abi.specs.contracts.figure_exports.bt_places_words as bt-places-words-of
use Rattle.abi.proofs.figure_exports.bt_places_words.Symbol as bt-places-words-at
use Rattle.abi.proofs.figure_exports.bt_places_words.Met as bt-places-words-met
use Rattle.abi.specs.contracts.without_edges_exports.bt_without_edges as bt-without-edges-of
use Rattle.abi.proofs.without_edges_exports.bt_without_edges.Symbol as bt-without-edges-at
use Rattle.abi.proofs.without_edges_exports.bt_without_edges.Met as bt-without-edges-met

abbrev pub calls : List Call
calls =
    call_of bt-build-at.code bt-build-at.name bt-build-of.signature (λ 𝓤 𝓛. bt-build-of.spec 𝓛) bt-build-met.met (λ 𝓤 𝓛 mem run κs a. (tt, refl))
    ∷ call_of bt-build-scanned-at.code bt-build-scanned-at.name bt-build-scanned-of.signature (λ 𝓤 𝓛. bt-build-scanned-of.spec 𝓛) bt-build-scanned-met.met (λ 𝓤 𝓛 mem run κs a. (tt, refl))
    ∷ call_of bt-scan-words-at.code bt-scan-words-at.name bt-scan-words-of.signature (λ 𝓤 𝓛. bt-scan-words-of.spec 𝓛) bt-scan-words-met.met (λ 𝓤 𝓛 mem run κs a. (tt, refl))
    ∷ call_of bt-size-bound-at.code bt-size-bound-at.name bt-size-bound-of.signature (λ 𝓤 𝓛. bt-size-bound-of.spec 𝓛) bt-size-bound-met.met (λ 𝓤 𝓛 mem run κs a. (tt, refl))
    ∷ call_of bt-check-at.code bt-check-at.name bt-check-of.signature (λ 𝓤 𝓛. bt-check-of.spec 𝓛) bt-check-met.met (λ 𝓤 𝓛 mem run κs a. (tt, refl))
    ∷ call_of bt-byte-at.code bt-byte-at.name bt-byte-of.signature (λ 𝓤 𝓛. bt-byte-of.spec 𝓛) bt-byte-met.met (λ 𝓤 𝓛 mem run κs a. (tt, refl))
    ∷ call_of bt-run-range-at.code bt-run-range-at.name bt-run-range-of.signature (λ 𝓤 𝓛. bt-run-range-of.spec 𝓛) bt-run-range-met.met (λ 𝓤 𝓛 mem run κs a. (tt, refl))
    ∷ call_of bt-span-at.code bt-span-at.name bt-span-of.signature (λ 𝓤 𝓛. bt-span-of.spec 𝓛) bt-span-met.met (λ 𝓤 𝓛 mem run κs a. (tt, refl))
    ∷ call_of bt-count-at.code bt-count-at.name bt-count-of.signature (λ 𝓤 𝓛. bt-count-of.spec 𝓛) bt-count-met.met (λ 𝓤 𝓛 mem run κs a. (tt, refl))
    ∷ call_of bt-find-at.code bt-find-at.name bt-find-of.signature (λ 𝓤 𝓛. bt-find-of.spec 𝓛) bt-find-met.met (λ 𝓤 𝓛 mem run κs a. (tt, refl))
    ∷ call_of bt-row-at.code bt-row-at.name bt-row-of.signature (λ 𝓤 𝓛. bt-row-of.spec 𝓛) bt-row-met.met (λ 𝓤 𝓛 mem run κs a. (tt, refl))
    ∷ call_of bt-places-at.code bt-places-at.name bt-places-of.signature (λ 𝓤 𝓛. bt-places-of.spec 𝓛) bt-places-met.met (λ 𝓤 𝓛 mem run κs a. (tt, refl))
    ∷ call_of bt-next-match-at.code bt-next-match-at.name bt-next-match-of.signature (λ 𝓤 𝓛. bt-next-match-of.spec 𝓛) bt-next-match-met.met (λ 𝓤 𝓛 mem run κs a. (tt, refl))
    ∷ call_of with-prefix-at.code with-prefix-at.name with-prefix-of.signature (λ 𝓤 𝓛. with-prefix-of.spec 𝓛) with-prefix-met.met (λ 𝓤 𝓛 mem run κs a. (tt, refl))
    ∷ call_of bt-list-at.code bt-list-at.name bt-list-of.signature (λ 𝓤 𝓛. bt-list-of.spec 𝓛) bt-list-met.met (λ 𝓤 𝓛 mem run κs a. (tt, refl))
    ∷ call_of bt-guide-words-at.code bt-guide-words-at.name bt-guide-words-of.signature (λ 𝓤 𝓛. bt-guide-words-of.spec 𝓛) bt-guide-words-met.met (λ 𝓤 𝓛 mem run κs a. (tt, refl))
    ∷ call_of bt-make-guide-at.code bt-make-guide-at.name bt-make-guide-of.signature (λ 𝓤 𝓛. bt-make-guide-of.spec 𝓛) bt-make-guide-met.met (λ 𝓤 𝓛 mem run κs a. (tt, refl))
    ∷ call_of bt-check-guide-at.code bt-check-guide-at.name bt-check-guide-of.signature (λ 𝓤 𝓛. bt-check-guide-of.spec 𝓛) bt-check-guide-met.met (λ 𝓤 𝓛 mem run κs a. (tt, refl))
    ∷ call_of bt-find-guided-at.code bt-find-guided-at.name bt-find-guided-of.signature (λ 𝓤 𝓛. bt-find-guided-of.spec 𝓛) bt-find-guided-met.met (λ 𝓤 𝓛 mem run κs a. (tt, refl))
    ∷ call_of bt-row-guided-at.code bt-row-guided-at.name bt-row-guided-of.signature (λ 𝓤 𝓛. bt-row-guided-of.spec 𝓛) bt-row-guided-met.met (λ 𝓤 𝓛 mem run κs a. (tt, refl))
    ∷ call_of prefix-guided-at.code prefix-guided-at.name prefix-guided-of.signature (λ 𝓤 𝓛. prefix-guided-of.spec 𝓛) prefix-guided-met.met (λ 𝓤 𝓛 mem run κs a. (tt, refl))
    ∷ call_of bt-open-on-at.code bt-open-on-at.name bt-open-on-of.signature (λ 𝓤 𝓛. bt-open-on-of.spec 𝓛) bt-open-on-met.met (λ 𝓤 𝓛 mem run κs a. (tt, refl))
    ∷ call_of bt-days-left-at.code bt-days-left-at.name bt-days-left-of.signature (λ 𝓤 𝓛. bt-days-left-of.spec 𝓛) bt-days-left-met.met (λ 𝓤 𝓛 mem run κs a. (tt, refl))
    ∷ call_of bt-renew-at.code bt-renew-at.name bt-renew-of.signature (λ 𝓤 𝓛. bt-renew-of.spec 𝓛) bt-renew-met.met (λ 𝓤 𝓛 mem run κs a. (tt, refl))
    ∷ call_of bt-compare-at.code bt-compare-at.name bt-compare-of.signature (λ 𝓤 𝓛. bt-compare-of.spec 𝓛) bt-compare-met.met (λ 𝓤 𝓛 mem run κs a. (tt, refl))
    ∷ call_of bt-to-columns-at.code bt-to-columns-at.name bt-to-columns-of.signature (λ 𝓤 𝓛. bt-to-columns-of.spec 𝓛) bt-to-columns-met.met (λ 𝓤 𝓛 mem run κs a. (tt, refl))
    ∷ call_of bt-from-columns-at.code bt-from-columns-at.name bt-from-columns-of.signature (λ 𝓤 𝓛. bt-from-columns-of.spec 𝓛) bt-from-columns-met.met (λ 𝓤 𝓛 mem run κs a. (tt, refl))
    ∷ call_of bt-row-by-columns-at.code bt-row-by-columns-at.name bt-row-by-columns-of.signature (λ 𝓤 𝓛. bt-row-by-columns-of.spec 𝓛) bt-row-by-columns-met.met (λ 𝓤 𝓛 mem run κs a. (tt, refl))
    ∷ call_of bt-digest-at.code bt-digest-at.name bt-digest-of.signature (λ 𝓤 𝓛. bt-digest-of.spec 𝓛) bt-digest-met.met (λ 𝓤 𝓛 mem run κs a. (tt, refl))
    ∷ call_of bt-digest-text-at.code bt-digest-text-at.name bt-digest-text-of.signature (λ 𝓤 𝓛. bt-digest-text-of.spec 𝓛) bt-digest-text-met.met (λ 𝓤 𝓛 mem run κs a. (tt, refl))
    ∷ call_of bt-version-at.code bt-version-at.name bt-version-of.signature (λ 𝓤 𝓛. bt-version-of.spec 𝓛) bt-version-met.met (λ 𝓤 𝓛 mem run κs a. (tt, refl))
    ∷ call_of bt-info-at.code bt-info-at.name bt-info-of.signature (λ 𝓤 𝓛. bt-info-of.spec 𝓛) bt-info-met.met (λ 𝓤 𝓛 mem run κs a. (tt, refl))
    ∷ call_of bt-row-count-at.code bt-row-count-at.name bt-row-count-of.signature (λ 𝓤 𝓛. bt-row-count-of.spec 𝓛) bt-row-count-met.met (λ 𝓤 𝓛 mem run κs a. (tt, refl))
    ∷ call_of bt-row-length-at.code bt-row-length-at.name bt-row-length-of.signature (λ 𝓤 𝓛. bt-row-length-of.spec 𝓛) bt-row-length-met.met (λ 𝓤 𝓛 mem run κs a. (tt, refl))
    ∷ call_of bt-places-words-at.code bt-places-words-at.name bt-places-words-of.signature (λ 𝓤 𝓛. bt-places-words-of.spec 𝓛) bt-places-words-met.met (λ 𝓤 𝓛 mem run κs a. (tt, refl))
    ∷ call_of bt-without-edges-at.code bt-without-edges-at.name bt-without-edges-of.signature (λ 𝓤 𝓛. bt-without-edges-of.spec 𝓛) bt-without-edges-met.met (λ 𝓤 𝓛 mem run κs a. (tt, refl))
    ∷ []

pub every-call-ends : Each TotallyCorrect calls
every-call-ends = each-ends calls

pub no-preconditions : Each NoPrecondition calls
no-preconditions = each-asks-nothing calls
