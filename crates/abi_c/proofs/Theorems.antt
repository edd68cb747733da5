-- Demand 1 for the symbols of the C library, a line for each: the call terminates and accesses only the memory that it was given (`TotallyCorrect`), and it
-- has no precondition (`NoPrecondition`).
-- docs/FORMAT.md: "What is proved".
use mathlib.Core.List.{List, [], ◌∷◌}
use mathlib.Core.Path.{refl}
use Rattle.theory_adequacy.specs.TotalCorrectness.{TotallyCorrect}
use Rattle.theory_adequacy.specs.Preconditions.{NoPrecondition, Call, call_of, Each, each-ends, each-asks-nothing}
use Rattle.abi_c.specs.contracts.bt_build as bt_build_of
use Rattle.abi_c.proofs.bt_build.Symbol as bt_build_at
use Rattle.abi_c.proofs.bt_build.Met as bt_build_met
use Rattle.abi_c.specs.contracts.bt_build_scanned as bt_build_scanned_of
use Rattle.abi_c.proofs.bt_build_scanned.Symbol as bt_build_scanned_at
use Rattle.abi_c.proofs.bt_build_scanned.Met as bt_build_scanned_met
use Rattle.abi_c.specs.contracts.bt_scan_words as bt_scan_words_of
use Rattle.abi_c.proofs.bt_scan_words.Symbol as bt_scan_words_at
use Rattle.abi_c.proofs.bt_scan_words.Met as bt_scan_words_met
use Rattle.abi_c.specs.contracts.bt_size_bound as bt_size_bound_of
use Rattle.abi_c.proofs.bt_size_bound.Symbol as bt_size_bound_at
use Rattle.abi_c.proofs.bt_size_bound.Met as bt_size_bound_met
use Rattle.abi_c.specs.contracts.bt_check as bt_check_of
use Rattle.abi_c.proofs.bt_check.Symbol as bt_check_at
use Rattle.abi_c.proofs.bt_check.Met as bt_check_met
use Rattle.abi_c.specs.contracts.bt_byte as bt_byte_of
use Rattle.abi_c.proofs.bt_byte.Symbol as bt_byte_at
use Rattle.abi_c.proofs.bt_byte.Met as bt_byte_met
use Rattle.abi_c.specs.contracts.bt_run_range as bt_run_range_of
use Rattle.abi_c.proofs.bt_run_range.Symbol as bt_run_range_at
use Rattle.abi_c.proofs.bt_run_range.Met as bt_run_range_met
use Rattle.abi_c.specs.contracts.bt_span as bt_span_of
use Rattle.abi_c.proofs.bt_span.Symbol as bt_span_at
use Rattle.abi_c.proofs.bt_span.Met as bt_span_met
use Rattle.abi_c.specs.contracts.bt_count as bt_count_of
use Rattle.abi_c.proofs.bt_count.Symbol as bt_count_at
use Rattle.abi_c.proofs.bt_count.Met as bt_count_met
use Rattle.abi_c.specs.contracts.bt_find as bt_find_of
use Rattle.abi_c.proofs.bt_find.Symbol as bt_find_at
use Rattle.abi_c.proofs.bt_find.Met as bt_find_met
use Rattle.abi_c.specs.contracts.bt_row as bt_row_of
use Rattle.abi_c.proofs.bt_row.Symbol as bt_row_at
use Rattle.abi_c.proofs.bt_row.Met as bt_row_met
use Rattle.abi_c.specs.contracts.bt_places as bt_places_of
use Rattle.abi_c.proofs.bt_places.Symbol as bt_places_at
use Rattle.abi_c.proofs.bt_places.Met as bt_places_met
use Rattle.abi_c.specs.contracts.bt_next_match as bt_next_match_of
use Rattle.abi_c.proofs.bt_next_match.Symbol as bt_next_match_at
use Rattle.abi_c.proofs.bt_next_match.Met as bt_next_match_met
use Rattle.abi_c.specs.contracts.bt_next_with_prefix as bt_next_with_prefix_of
use Rattle.abi_c.proofs.bt_next_with_prefix.Symbol as bt_next_with_prefix_at
use Rattle.abi_c.proofs.bt_next_with_prefix.Met as bt_next_with_prefix_met
use Rattle.abi_c.specs.contracts.bt_list as bt_list_of
use Rattle.abi_c.proofs.bt_list.Symbol as bt_list_at
use Rattle.abi_c.proofs.bt_list.Met as bt_list_met
use Rattle.abi_c.specs.contracts.guide_symbols.bt_guide_words as bt_guide_words_of
use Rattle.abi_c.proofs.guide_symbols.bt_guide_words.Symbol as bt_guide_words_at
use Rattle.abi_c.proofs.guide_symbols.bt_guide_words.Met as bt_guide_words_met
use Rattle.abi_c.specs.contracts.guide_symbols.bt_make_guide as bt_make_guide_of
use Rattle.abi_c.proofs.guide_symbols.bt_make_guide.Symbol as bt_make_guide_at
use Rattle.abi_c.proofs.guide_symbols.bt_make_guide.Met as bt_make_guide_met
use Rattle.abi_c.specs.contracts.guide_symbols.bt_check_guide as bt_check_guide_of
use Rattle.abi_c.proofs.guide_symbols.bt_check_guide.Symbol as bt_check_guide_at
use Rattle.abi_c.proofs.guide_symbols.bt_check_guide.Met as bt_check_guide_met
use Rattle.abi_c.specs.contracts.guide_symbols.bt_find_guided as bt_find_guided_of
use Rattle.abi_c.proofs.guide_symbols.bt_find_guided.Symbol as bt_find_guided_at
use Rattle.abi_c.proofs.guide_symbols.bt_find_guided.Met as bt_find_guided_met
use Rattle.abi_c.specs.contracts.guide_symbols.bt_row_guided as bt_row_guided_of
use Rattle.abi_c.proofs.guide_symbols.bt_row_guided.Symbol as bt_row_guided_at
use Rattle.abi_c.proofs.guide_symbols.bt_row_guided.Met as bt_row_guided_met
use Rattle.abi_c.specs.contracts.guide_symbols.bt_next_with_prefix_guided as bt_next_with_prefix_guided_of
use Rattle.abi_c.proofs.guide_symbols.bt_next_with_prefix_guided.Symbol as bt_next_with_prefix_guided_at
use Rattle.abi_c.proofs.guide_symbols.bt_next_with_prefix_guided.Met as bt_next_with_prefix_guided_met
use Rattle.abi_c.specs.contracts.licence_symbols.bt_open_on as bt_open_on_of
use Rattle.abi_c.proofs.licence_symbols.bt_open_on.Symbol as bt_open_on_at
use Rattle.abi_c.proofs.licence_symbols.bt_open_on.Met as bt_open_on_met
use Rattle.abi_c.specs.contracts.licence_symbols.bt_days_left as bt_days_left_of
use Rattle.abi_c.proofs.licence_symbols.bt_days_left.Symbol as bt_days_left_at
use Rattle.abi_c.proofs.licence_symbols.bt_days_left.Met as bt_days_left_met
use Rattle.abi_c.specs.contracts.licence_symbols.bt_renew as bt_renew_of
use Rattle.abi_c.proofs.licence_symbols.bt_renew.Symbol as bt_renew_at
use Rattle.abi_c.proofs.licence_symbols.bt_renew.Met as bt_renew_met
use Rattle.abi_c.specs.contracts.compare_symbols.bt_compare as bt_compare_of
use Rattle.abi_c.proofs.compare_symbols.bt_compare.Symbol as bt_compare_at
use Rattle.abi_c.proofs.compare_symbols.bt_compare.Met as bt_compare_met
use Rattle.abi_c.specs.contracts.column_symbols.bt_to_columns as bt_to_columns_of
use Rattle.abi_c.proofs.column_symbols.bt_to_columns.Symbol as bt_to_columns_at
use Rattle.abi_c.proofs.column_symbols.bt_to_columns.Met as bt_to_columns_met
use Rattle.abi_c.specs.contracts.column_symbols.bt_from_columns as bt_from_columns_of
use Rattle.abi_c.proofs.column_symbols.bt_from_columns.Symbol as bt_from_columns_at
use Rattle.abi_c.proofs.column_symbols.bt_from_columns.Met as bt_from_columns_met
use Rattle.abi_c.specs.contracts.column_symbols.bt_row_by_columns as bt_row_by_columns_of
use Rattle.abi_c.proofs.column_symbols.bt_row_by_columns.Symbol as bt_row_by_columns_at
use Rattle.abi_c.proofs.column_symbols.bt_row_by_columns.Met as bt_row_by_columns_met
use Rattle.abi_c.specs.contracts.digest_symbols.bt_digest as bt_digest_of
use Rattle.abi_c.proofs.digest_symbols.bt_digest.Symbol as bt_digest_at
use Rattle.abi_c.proofs.digest_symbols.bt_digest.Met as bt_digest_met
use Rattle.abi_c.specs.contracts.digest_symbols.bt_digest_text as bt_digest_text_of
use Rattle.abi_c.proofs.digest_symbols.bt_digest_text.Symbol as bt_digest_text_at
use Rattle.abi_c.proofs.digest_symbols.bt_digest_text.Met as bt_digest_text_met
use Rattle.abi_c.specs.contracts.figure_symbols.bt_version as bt_version_of
use Rattle.abi_c.proofs.figure_symbols.bt_version.Symbol as bt_version_at
use Rattle.abi_c.proofs.figure_symbols.bt_version.Met as bt_version_met
use Rattle.abi_c.specs.contracts.figure_symbols.bt_info as bt_info_of
use Rattle.abi_c.proofs.figure_symbols.bt_info.Symbol as bt_info_at
use Rattle.abi_c.proofs.figure_symbols.bt_info.Met as bt_info_met
use Rattle.abi_c.specs.contracts.figure_symbols.bt_row_count as bt_row_count_of
use Rattle.abi_c.proofs.figure_symbols.bt_row_count.Symbol as bt_row_count_at
use Rattle.abi_c.proofs.figure_symbols.bt_row_count.Met as bt_row_count_met
use Rattle.abi_c.specs.contracts.figure_symbols.bt_row_length as bt_row_length_of
use Rattle.abi_c.proofs.figure_symbols.bt_row_length.Symbol as bt_row_length_at
use Rattle.abi_c.proofs.figure_symbols.bt_row_length.Met as bt_row_length_met
use Rattle.abi_c.specs.contracts.figure_symbols.bt_places_words as bt_places_words_of
use Rattle.abi_c.proofs.figure_symbols.bt_places_words.Symbol as bt_places_words_at
use Rattle.abi_c.proofs.figure_symbols.bt_places_words.Met as bt_places_words_met
use Rattle.abi_c.specs.contracts.without_edges_symbols.bt_without_edges as bt_without_edges_of
use Rattle.abi_c.proofs.without_edges_symbols.bt_without_edges.Symbol as bt_without_edges_at
use Rattle.abi_c.proofs.without_edges_symbols.bt_without_edges.Met as bt_without_edges_met

abbrev pub calls : List Call
calls =
    call_of bt_build_at.code bt_build_at.name bt_build_of.signature (λ 𝓤 𝓛. bt_build_of.spec 𝓛) bt_build_met.met (λ 𝓤 𝓛 mem run κs a. (tt, refl))
    ∷ call_of bt_build_scanned_at.code bt_build_scanned_at.name bt_build_scanned_of.signature (λ 𝓤 𝓛. bt_build_scanned_of.spec 𝓛) bt_build_scanned_met.met (λ 𝓤 𝓛 mem run κs a. (tt, refl))
    ∷ call_of bt_scan_words_at.code bt_scan_words_at.name bt_scan_words_of.signature (λ 𝓤 𝓛. bt_scan_words_of.spec 𝓛) bt_scan_words_met.met (λ 𝓤 𝓛 mem run κs a. (tt, refl))
    ∷ call_of bt_size_bound_at.code bt_size_bound_at.name bt_size_bound_of.signature (λ 𝓤 𝓛. bt_size_bound_of.spec 𝓛) bt_size_bound_met.met (λ 𝓤 𝓛 mem run κs a. (tt, refl))
    ∷ call_of bt_check_at.code bt_check_at.name bt_check_of.signature (λ 𝓤 𝓛. bt_check_of.spec 𝓛) bt_check_met.met (λ 𝓤 𝓛 mem run κs a. (tt, refl))
    ∷ call_of bt_byte_at.code bt_byte_at.name bt_byte_of.signature (λ 𝓤 𝓛. bt_byte_of.spec 𝓛) bt_byte_met.met (λ 𝓤 𝓛 mem run κs a. (tt, refl))
    ∷ call_of bt_run_range_at.code bt_run_range_at.name bt_run_range_of.signature (λ 𝓤 𝓛. bt_run_range_of.spec 𝓛) bt_run_range_met.met (λ 𝓤 𝓛 mem run κs a. (tt, refl))
    ∷ call_of bt_span_at.code bt_span_at.name bt_span_of.signature (λ 𝓤 𝓛. bt_span_of.spec 𝓛) bt_span_met.met (λ 𝓤 𝓛 mem run κs a. (tt, refl))
    ∷ call_of bt_count_at.code bt_count_at.name bt_count_of.signature (λ 𝓤 𝓛. bt_count_of.spec 𝓛) bt_count_met.met (λ 𝓤 𝓛 mem run κs a. (tt, refl))
    ∷ call_of bt_find_at.code bt_find_at.name bt_find_of.signature (λ 𝓤 𝓛. bt_find_of.spec 𝓛) bt_find_met.met (λ 𝓤 𝓛 mem run κs a. (tt, refl))
    ∷ call_of bt_row_at.code bt_row_at.name bt_row_of.signature (λ 𝓤 𝓛. bt_row_of.spec 𝓛) bt_row_met.met (λ 𝓤 𝓛 mem run κs a. (tt, refl))
    ∷ call_of bt_places_at.code bt_places_at.name bt_places_of.signature (λ 𝓤 𝓛. bt_places_of.spec 𝓛) bt_places_met.met (λ 𝓤 𝓛 mem run κs a. (tt, refl))
    ∷ call_of bt_next_match_at.code bt_next_match_at.name bt_next_match_of.signature (λ 𝓤 𝓛. bt_next_match_of.spec 𝓛) bt_next_match_met.met (λ 𝓤 𝓛 mem run κs a. (tt, refl))
    ∷ call_of bt_next_with_prefix_at.code bt_next_with_prefix_at.name bt_next_with_prefix_of.signature (λ 𝓤 𝓛. bt_next_with_prefix_of.spec 𝓛) bt_next_with_prefix_met.met (λ 𝓤 𝓛 mem run κs a. (tt, refl))
    ∷ call_of bt_list_at.code bt_list_at.name bt_list_of.signature (λ 𝓤 𝓛. bt_list_of.spec 𝓛) bt_list_met.met (λ 𝓤 𝓛 mem run κs a. (tt, refl))
    ∷ call_of bt_guide_words_at.code bt_guide_words_at.name bt_guide_words_of.signature (λ 𝓤 𝓛. bt_guide_words_of.spec 𝓛) bt_guide_words_met.met (λ 𝓤 𝓛 mem run κs a. (tt, refl))
    ∷ call_of bt_make_guide_at.code bt_make_guide_at.name bt_make_guide_of.signature (λ 𝓤 𝓛. bt_make_guide_of.spec 𝓛) bt_make_guide_met.met (λ 𝓤 𝓛 mem run κs a. (tt, refl))
    ∷ call_of bt_check_guide_at.code bt_check_guide_at.name bt_check_guide_of.signature (λ 𝓤 𝓛. bt_check_guide_of.spec 𝓛) bt_check_guide_met.met (λ 𝓤 𝓛 mem run κs a. (tt, refl))
    ∷ call_of bt_find_guided_at.code bt_find_guided_at.name bt_find_guided_of.signature (λ 𝓤 𝓛. bt_find_guided_of.spec 𝓛) bt_find_guided_met.met (λ 𝓤 𝓛 mem run κs a. (tt, refl))
    ∷ call_of bt_row_guided_at.code bt_row_guided_at.name bt_row_guided_of.signature (λ 𝓤 𝓛. bt_row_guided_of.spec 𝓛) bt_row_guided_met.met (λ 𝓤 𝓛 mem run κs a. (tt, refl))
    ∷ call_of bt_next_with_prefix_guided_at.code bt_next_with_prefix_guided_at.name bt_next_with_prefix_guided_of.signature (λ 𝓤 𝓛. bt_next_with_prefix_guided_of.spec 𝓛) bt_next_with_prefix_guided_met.met (λ 𝓤 𝓛 mem run κs a. (tt, refl))
    ∷ call_of bt_open_on_at.code bt_open_on_at.name bt_open_on_of.signature (λ 𝓤 𝓛. bt_open_on_of.spec 𝓛) bt_open_on_met.met (λ 𝓤 𝓛 mem run κs a. (tt, refl))
    ∷ call_of bt_days_left_at.code bt_days_left_at.name bt_days_left_of.signature (λ 𝓤 𝓛. bt_days_left_of.spec 𝓛) bt_days_left_met.met (λ 𝓤 𝓛 mem run κs a. (tt, refl))
    ∷ call_of bt_renew_at.code bt_renew_at.name bt_renew_of.signature (λ 𝓤 𝓛. bt_renew_of.spec 𝓛) bt_renew_met.met (λ 𝓤 𝓛 mem run κs a. (tt, refl))
    ∷ call_of bt_compare_at.code bt_compare_at.name bt_compare_of.signature (λ 𝓤 𝓛. bt_compare_of.spec 𝓛) bt_compare_met.met (λ 𝓤 𝓛 mem run κs a. (tt, refl))
    ∷ call_of bt_to_columns_at.code bt_to_columns_at.name bt_to_columns_of.signature (λ 𝓤 𝓛. bt_to_columns_of.spec 𝓛) bt_to_columns_met.met (λ 𝓤 𝓛 mem run κs a. (tt, refl))
    ∷ call_of bt_from_columns_at.code bt_from_columns_at.name bt_from_columns_of.signature (λ 𝓤 𝓛. bt_from_columns_of.spec 𝓛) bt_from_columns_met.met (λ 𝓤 𝓛 mem run κs a. (tt, refl))
    ∷ call_of bt_row_by_columns_at.code bt_row_by_columns_at.name bt_row_by_columns_of.signature (λ 𝓤 𝓛. bt_row_by_columns_of.spec 𝓛) bt_row_by_columns_met.met (λ 𝓤 𝓛 mem run κs a. (tt, refl))
    ∷ call_of bt_digest_at.code bt_digest_at.name bt_digest_of.signature (λ 𝓤 𝓛. bt_digest_of.spec 𝓛) bt_digest_met.met (λ 𝓤 𝓛 mem run κs a. (tt, refl))
    ∷ call_of bt_digest_text_at.code bt_digest_text_at.name bt_digest_text_of.signature (λ 𝓤 𝓛. bt_digest_text_of.spec 𝓛) bt_digest_text_met.met (λ 𝓤 𝓛 mem run κs a. (tt, refl))
    ∷ call_of bt_version_at.code bt_version_at.name bt_version_of.signature (λ 𝓤 𝓛. bt_version_of.spec 𝓛) bt_version_met.met (λ 𝓤 𝓛 mem run κs a. (tt, refl))
    ∷ call_of bt_info_at.code bt_info_at.name bt_info_of.signature (λ 𝓤 𝓛. bt_info_of.spec 𝓛) bt_info_met.met (λ 𝓤 𝓛 mem run κs a. (tt, refl))
    ∷ call_of bt_row_count_at.code bt_row_count_at.name bt_row_count_of.signature (λ 𝓤 𝓛. bt_row_count_of.spec 𝓛) bt_row_count_met.met (λ 𝓤 𝓛 mem run κs a. (tt, refl))
    ∷ call_of bt_row_length_at.code bt_row_length_at.name bt_row_length_of.signature (λ 𝓤 𝓛. bt_row_length_of.spec 𝓛) bt_row_length_met.met (λ 𝓤 𝓛 mem run κs a. (tt, refl))
    ∷ call_of bt_places_words_at.code bt_places_words_at.name bt_places_words_of.signature (λ 𝓤 𝓛. bt_places_words_of.spec 𝓛) bt_places_words_met.met (λ 𝓤 𝓛 mem run κs a. (tt, refl))
    ∷ call_of bt_without_edges_at.code bt_without_edges_at.name bt_without_edges_of.signature (λ 𝓤 𝓛. bt_without_edges_of.spec 𝓛) bt_without_edges_met.met (λ 𝓤 𝓛 mem run κs a. (tt, refl))
    ∷ []

pub every-call-ends : Each TotallyCorrect calls
every-call-ends = each-ends calls

pub no-preconditions : Each NoPrecondition calls
no-preconditions = each-asks-nothing calls
