-- The functions of the library's public calls. Each has its code on the machine, with the name by which it is called, its signature, and its contract (`clauses`),
-- as its crate states them. The calls of the C interface, list and the calls on a licence's days are listed in `Theorems` of `abi`, `list_lines` and `licence`.
use Rattle.std.specs.Prelude.{List, [], ◌∷◌}
use Rattle.theory_adequacy.specs.TotalCorrectness.{Function}
use Rattle.search.specs.contracts.Fingerprint.new as new_of
use Rattle.search.proofs.Fingerprint.new.Symbol as new_at
use Rattle.search.specs.contracts.leftmost as leftmost_of
use Rattle.search.proofs.leftmost.Symbol as leftmost_at
use Rattle.search.specs.contracts.occurs_earlier as occurs_earlier_of
use Rattle.search.proofs.occurs_earlier.Symbol as occurs_earlier_at
use Rattle.build_by_search.specs.contracts.build as build_of
use Rattle.build_by_search.proofs.build.Symbol as build_at
use Rattle.build_by_scan.specs.contracts.build_scanned as build_scanned_of
use Rattle.build_by_scan.proofs.build_scanned.Symbol as build_scanned_at
use Rattle.build_by_scan.specs.contracts.scan_words as scan_words_of
use Rattle.build_by_scan.proofs.scan_words.Symbol as scan_words_at
use Rattle.build_size_bound.specs.contracts.size_bound as size_bound_of
use Rattle.build_size_bound.proofs.size_bound.Symbol as size_bound_at
use Rattle.tree.specs.contracts.check as check_of
use Rattle.tree.proofs.check.Symbol as check_at
use Rattle.query_access.specs.contracts.byte as byte_of
use Rattle.query_access.proofs.byte.Symbol as byte_at
use Rattle.query_access.specs.contracts.run as run_of
use Rattle.query_access.proofs.run.Symbol as run_at
use Rattle.query_access.specs.contracts.run_range as run_range_of
use Rattle.query_access.proofs.run_range.Symbol as run_range_at
use Rattle.query_access.specs.contracts.span as span_of
use Rattle.query_access.proofs.span.Symbol as span_at
use Rattle.query_rank.specs.contracts.count as count_of
use Rattle.query_rank.proofs.count.Symbol as count_at
use Rattle.query_rank.specs.contracts.uncounted.uncounted as uncounted_of
use Rattle.query_rank.proofs.uncounted.uncounted.Symbol as uncounted_at
use Rattle.query_select.specs.contracts.find as find_of
use Rattle.query_select.proofs.find.Symbol as find_at
use Rattle.query_rows.specs.contracts.row as row_of
use Rattle.query_rows.proofs.row.Symbol as row_at
use Rattle.query_rows.specs.contracts.row_length as row_length_of
use Rattle.query_rows.proofs.row_length.Symbol as row_length_at
use Rattle.query_rows.specs.contracts.row_count as row_count_of
use Rattle.query_rows.proofs.row_count.Symbol as row_count_at
use Rattle.query_places.specs.contracts.places as places_of
use Rattle.query_places.proofs.places.Symbol as places_at
use Rattle.query_places.specs.contracts.places_words as places_words_of
use Rattle.query_places.proofs.places_words.Symbol as places_words_at
use Rattle.query_key_match.specs.contracts.next_match as next_match_of
use Rattle.query_key_match.proofs.next_match.Symbol as next_match_at
use Rattle.query_key_match.specs.contracts.advance_mark as advance_mark_of
use Rattle.query_key_match.proofs.advance_mark.Symbol as advance_mark_at
use Rattle.query_prefix.specs.contracts.next_with_prefix as prefix_of
use Rattle.query_prefix.proofs.next_with_prefix.Symbol as prefix_at
use Rattle.query_prefix.specs.contracts.next_with_prefix_guided as guided_of
use Rattle.query_prefix.proofs.next_with_prefix_guided.Symbol as guided_at
use Rattle.columns.specs.contracts.to_columns as to_columns_of
use Rattle.columns.proofs.to_columns.Symbol as to_columns_at
use Rattle.columns.specs.contracts.from_columns as from_columns_of
use Rattle.columns.proofs.from_columns.Symbol as from_columns_at
use Rattle.query_columns.specs.contracts.row_by_columns as row_by_columns_of
use Rattle.query_columns.proofs.row_by_columns.Symbol as row_by_columns_at
use Rattle.query_digest.specs.contracts.digest as digest_of
use Rattle.query_digest.proofs.digest.Symbol as digest_at
use Rattle.sha256.specs.contracts.digest_text as digest_text_of
use Rattle.sha256.proofs.digest_text.Symbol as digest_text_at
use Rattle.query_guide.specs.contracts.guide_words as guide_words_of
use Rattle.query_guide.proofs.guide_words.Symbol as guide_words_at
use Rattle.build_guide.specs.contracts.make_guide as make_guide_of
use Rattle.build_guide.proofs.make_guide.Symbol as make_guide_at
use Rattle.build_guide.specs.contracts.check_guide as check_guide_of
use Rattle.build_guide.proofs.check_guide.Symbol as check_guide_at
use Rattle.query_guided.specs.contracts.find_guided as find_guided_of
use Rattle.query_guided.proofs.find_guided.Symbol as find_guided_at
use Rattle.query_rows.specs.contracts.row_guided as row_guided_of
use Rattle.query_rows.proofs.row_guided.Symbol as row_guided_at
use Rattle.query_compare.specs.contracts.compare as compare_of
use Rattle.query_compare.proofs.compare.Symbol as compare_at
use Rattle.query_compare.specs.contracts.first as first_of
use Rattle.query_compare.proofs.first.Symbol as first_at
use Rattle.query_info.specs.contracts.info as info_of
use Rattle.query_info.proofs.info.Symbol as info_at
use Rattle.query_info.specs.contracts.version as version_of
use Rattle.query_info.proofs.version.Symbol as version_at
use Rattle.build_without_edges.specs.contracts.without_edges as without_edges_of
use Rattle.build_without_edges.proofs.without_edges.Symbol as without_edges_at

abbrev pub fingerprint_new_function : Function
fingerprint_new_function = record { code = new_at.code; name = new_at.name; signature = new_of.signature; clauses = λ 𝓤 𝓛. new_of.spec 𝓛 }

abbrev pub leftmost_function : Function
leftmost_function = record { code = leftmost_at.code; name = leftmost_at.name; signature = leftmost_of.signature; clauses = λ 𝓤 𝓛. leftmost_of.spec 𝓛 }

abbrev pub occurs_earlier_function : Function
occurs_earlier_function = record { code = occurs_earlier_at.code; name = occurs_earlier_at.name; signature = occurs_earlier_of.signature; clauses = λ 𝓤 𝓛. occurs_earlier_of.spec 𝓛 }

abbrev pub build_function : Function
build_function = record { code = build_at.code; name = build_at.name; signature = build_of.signature; clauses = λ 𝓤 𝓛. build_of.spec 𝓛 }

abbrev pub build_scanned_function : Function
build_scanned_function = record { code = build_scanned_at.code; name = build_scanned_at.name; signature = build_scanned_of.signature; clauses = λ 𝓤 𝓛. build_scanned_of.spec 𝓛 }

abbrev pub scan_words_function : Function
scan_words_function = record { code = scan_words_at.code; name = scan_words_at.name; signature = scan_words_of.signature; clauses = λ 𝓤 𝓛. scan_words_of.spec 𝓛 }

abbrev pub size_bound_function : Function
size_bound_function = record { code = size_bound_at.code; name = size_bound_at.name; signature = size_bound_of.signature; clauses = λ 𝓤 𝓛. size_bound_of.spec 𝓛 }

abbrev pub check_function : Function
check_function = record { code = check_at.code; name = check_at.name; signature = check_of.signature; clauses = λ 𝓤 𝓛. check_of.spec 𝓛 }

abbrev pub byte_function : Function
byte_function = record { code = byte_at.code; name = byte_at.name; signature = byte_of.signature; clauses = λ 𝓤 𝓛. byte_of.spec 𝓛 }

abbrev pub run_function : Function
run_function = record { code = run_at.code; name = run_at.name; signature = run_of.signature; clauses = λ 𝓤 𝓛. run_of.spec 𝓛 }

abbrev pub run_range_function : Function
run_range_function = record { code = run_range_at.code; name = run_range_at.name; signature = run_range_of.signature; clauses = λ 𝓤 𝓛. run_range_of.spec 𝓛 }

abbrev pub span_function : Function
span_function = record { code = span_at.code; name = span_at.name; signature = span_of.signature; clauses = λ 𝓤 𝓛. span_of.spec 𝓛 }

abbrev pub count_function : Function
count_function = record { code = count_at.code; name = count_at.name; signature = count_of.signature; clauses = λ 𝓤 𝓛. count_of.spec 𝓛 }

abbrev pub uncounted_function : Function
uncounted_function = record { code = uncounted_at.code; name = uncounted_at.name; signature = uncounted_of.signature; clauses = λ 𝓤 𝓛. uncounted_of.spec 𝓛 }

abbrev pub find_function : Function
find_function = record { code = find_at.code; name = find_at.name; signature = find_of.signature; clauses = λ 𝓤 𝓛. find_of.spec 𝓛 }

abbrev pub row_function : Function
row_function = record { code = row_at.code; name = row_at.name; signature = row_of.signature; clauses = λ 𝓤 𝓛. row_of.spec 𝓛 }

abbrev pub row_length_function : Function
row_length_function = record { code = row_length_at.code; name = row_length_at.name; signature = row_length_of.signature; clauses = λ 𝓤 𝓛. row_length_of.spec 𝓛 }

abbrev pub row_count_function : Function
row_count_function = record { code = row_count_at.code; name = row_count_at.name; signature = row_count_of.signature; clauses = λ 𝓤 𝓛. row_count_of.spec 𝓛 }

abbrev pub places_function : Function
places_function = record { code = places_at.code; name = places_at.name; signature = places_of.signature; clauses = λ 𝓤 𝓛. places_of.spec 𝓛 }

abbrev pub places_words_function : Function
places_words_function = record { code = places_words_at.code; name = places_words_at.name; signature = places_words_of.signature; clauses = λ 𝓤 𝓛. places_words_of.spec 𝓛 }

abbrev pub next_match_function : Function
next_match_function = record { code = next_match_at.code; name = next_match_at.name; signature = next_match_of.signature; clauses = λ 𝓤 𝓛. next_match_of.spec 𝓛 }

abbrev pub advance_mark_function : Function
advance_mark_function = record { code = advance_mark_at.code; name = advance_mark_at.name; signature = advance_mark_of.signature; clauses = λ 𝓤 𝓛. advance_mark_of.spec 𝓛 }

abbrev pub next_row_with_prefix_function : Function
next_row_with_prefix_function = record { code = prefix_at.code; name = prefix_at.name; signature = prefix_of.signature; clauses = λ 𝓤 𝓛. prefix_of.spec 𝓛 }

abbrev pub next_row_with_prefix_guided_function : Function
next_row_with_prefix_guided_function = record { code = guided_at.code; name = guided_at.name; signature = guided_of.signature; clauses = λ 𝓤 𝓛. guided_of.spec 𝓛 }

abbrev pub to_columns_function : Function
to_columns_function = record { code = to_columns_at.code; name = to_columns_at.name; signature = to_columns_of.signature; clauses = λ 𝓤 𝓛. to_columns_of.spec 𝓛 }

abbrev pub from_columns_function : Function
from_columns_function = record { code = from_columns_at.code; name = from_columns_at.name; signature = from_columns_of.signature; clauses = λ 𝓤 𝓛. from_columns_of.spec 𝓛 }

abbrev pub row_by_columns_function : Function
row_by_columns_function = record { code = row_by_columns_at.code; name = row_by_columns_at.name; signature = row_by_columns_of.signature; clauses = λ 𝓤 𝓛. row_by_columns_of.spec 𝓛 }

abbrev pub digest_function : Function
digest_function = record { code = digest_at.code; name = digest_at.name; signature = digest_of.signature; clauses = λ 𝓤 𝓛. digest_of.spec 𝓛 }

abbrev pub digest_text_function : Function
digest_text_function = record { code = digest_text_at.code; name = digest_text_at.name; signature = digest_text_of.signature; clauses = λ 𝓤 𝓛. digest_text_of.spec 𝓛 }

abbrev pub guide_words_function : Function
guide_words_function = record { code = guide_words_at.code; name = guide_words_at.name; signature = guide_words_of.signature; clauses = λ 𝓤 𝓛. guide_words_of.spec 𝓛 }

abbrev pub make_guide_function : Function
make_guide_function = record { code = make_guide_at.code; name = make_guide_at.name; signature = make_guide_of.signature; clauses = λ 𝓤 𝓛. make_guide_of.spec 𝓛 }

abbrev pub check_guide_function : Function
check_guide_function = record { code = check_guide_at.code; name = check_guide_at.name; signature = check_guide_of.signature; clauses = λ 𝓤 𝓛. check_guide_of.spec 𝓛 }

abbrev pub find_guided_function : Function
find_guided_function = record { code = find_guided_at.code; name = find_guided_at.name; signature = find_guided_of.signature; clauses = λ 𝓤 𝓛. find_guided_of.spec 𝓛 }

abbrev pub row_guided_function : Function
row_guided_function = record { code = row_guided_at.code; name = row_guided_at.name; signature = row_guided_of.signature; clauses = λ 𝓤 𝓛. row_guided_of.spec 𝓛 }

abbrev pub compare_function : Function
compare_function = record { code = compare_at.code; name = compare_at.name; signature = compare_of.signature; clauses = λ 𝓤 𝓛. compare_of.spec 𝓛 }

abbrev pub first_function : Function
first_function = record { code = first_at.code; name = first_at.name; signature = first_of.signature; clauses = λ 𝓤 𝓛. first_of.spec 𝓛 }

abbrev pub info_function : Function
info_function = record { code = info_at.code; name = info_at.name; signature = info_of.signature; clauses = λ 𝓤 𝓛. info_of.spec 𝓛 }

abbrev pub version_function : Function
version_function = record { code = version_at.code; name = version_at.name; signature = version_of.signature; clauses = λ 𝓤 𝓛. version_of.spec 𝓛 }

abbrev pub without_edges_function : Function
without_edges_function = record { code = without_edges_at.code; name = without_edges_at.name; signature = without_edges_of.signature; clauses = λ 𝓤 𝓛. without_edges_of.spec 𝓛 }

abbrev pub functions : List Function
functions =
    fingerprint_new_function
    ∷ leftmost_function
    ∷ occurs_earlier_function
    ∷ build_function
    ∷ build_scanned_function
    ∷ scan_words_function
    ∷ size_bound_function
    ∷ check_function
    ∷ byte_function
    ∷ run_function
    ∷ run_range_function
    ∷ span_function
    ∷ count_function
    ∷ uncounted_function
    ∷ find_function
    ∷ row_function
    ∷ row_length_function
    ∷ row_count_function
    ∷ places_function
    ∷ places_words_function
    ∷ next_match_function
    ∷ advance_mark_function
    ∷ next_row_with_prefix_function
    ∷ next_row_with_prefix_guided_function
    ∷ to_columns_function
    ∷ from_columns_function
    ∷ row_by_columns_function
    ∷ digest_function
    ∷ digest_text_function
    ∷ guide_words_function
    ∷ make_guide_function
    ∷ check_guide_function
    ∷ find_guided_function
    ∷ row_guided_function
    ∷ compare_function
    ∷ first_function
    ∷ info_function
    ∷ version_function
    ∷ without_edges_function
    ∷ []

-- P holds for each of these functions.
abbrev pub Every : (Function → Type 2) → List Function → Type 2
Every P [] = Unit {2}
Every P (f ∷ fs) = P f × Every P fs
