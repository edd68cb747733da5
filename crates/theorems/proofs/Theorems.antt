-- The demands, as theorems over the contracts of the calls: for any bytes, for every tree that the check accepts, whoever made it, and for what build writes.
-- Each theorem is named here under a comment that states it, and is in the file of its call. The statements about trees are on one page, specs/Promises.antt.
use mathlib.Core.Path.{◌∙◌}
use Rattle.theorems.specs.Promises.{AnyTree, BuiltTree, ScannedTree}
-- Demand 1: every call terminates and accesses only the memory that it was given.
pub use Rattle.theorems.proofs.PublicCalls.{every-call-ends}
-- Demand 1: a call returns a result or one of its refusals.
pub use Rattle.theorems.proofs.CheckCall.{check-numbers}
pub use Rattle.theorems.proofs.SizeBoundCall.{size-bound-numbers}
pub use Rattle.theorems.proofs.ByteCall.{byte-answer, byte-numbers}
pub use Rattle.theorems.proofs.RunCall.{run-answer, run-empty, run-range-numbers}
pub use Rattle.theorems.proofs.CountCall.{count-answer, count-numbers, uncounted-numbers}
pub use Rattle.theorems.proofs.FindCall.{find-answer, find-numbers}
pub use Rattle.theorems.proofs.BuildCall.{build-numbers}
pub use Rattle.theorems.proofs.SpanCall.{span-numbers}
pub use Rattle.theorems.proofs.RowCall.{row-numbers}
-- Demand 1: no call has a precondition.
pub use Rattle.theorems.proofs.PublicCalls.{no-preconditions}
-- Demand 1: what a call leaves in each buffer.
pub use Rattle.theorems.proofs.BuildCall.{build-answer, build-zeros, build-unchanged}
pub use Rattle.theorems.proofs.SpanCall.{span-answer, span-zeros, span-unchanged}
pub use Rattle.theorems.proofs.RowCall.{row-answer, row-free, row-free-short, row-leaves}
-- In a buffer of the size that enough returns, build is not refused with 4.
pub use Rattle.theorems.proofs.BuildCall.{build-has-room}
-- Demand 2: the bytes that build writes are those of the block tree of its text.
pub use Rattle.theorems.proofs.BuildCall.{build-writes}
-- Demand 2: all calls on the written tree return what the text has.
pub use Rattle.theorems.proofs.BuildCall.{build-answers, build-refuses}
-- Demand 3: the check accepts bytes, of any origin, if and only if questions 5 to 8 pass and some text fits whose counts, and in layout 2
-- edges, are those of the tree. In layout 1 the condition on edges is void.
pub use Rattle.theorems.proofs.CheckCall.{check-accepts, layout1-no-edges}
-- Demand 3: no other text fits.
pub use Rattle.theorems.proofs.CheckCall.{check-one-text}
-- Demand 3: on an accepted tree only questions 10 to 12 refuse byte, count and find; their results are the text's, with the path's length, at most 2H - 1.
pub use Rattle.theorems.proofs.CheckCall.{check-answers, check-refuses}
-- Demand 3: the check accepts what build writes, and the text that fits is the input.
pub use Rattle.theorems.proofs.BuildCall.{build-accepted, build-one-text}
-- Demand 3: build is refused by questions 1 to 4 only, and by 4 only if the buffer is shorter than the tree.
pub use Rattle.theorems.proofs.BuildCall.{build-accepts-exact-buffer}
-- Request 101: a text has as many rows as bytes 10, plus one if its last byte is another one; that row is what comes after the last byte 10.
pub use Rattle.text.proofs.RowTheorems.{rows-count, row_last}
-- Request 101: questions 11 and 12 of row, where 12 allows that row.
pub use Rattle.theory_counts.specs.RowsOfText.{row-lets, row-twelve, row-eleven}
-- Request 102: a byte 13 next to the byte 10 that ends a row is left out of the row; every other byte 13 is part of its row (`row_last` for the row that
-- no byte 10 ends).
pub use Rattle.text.proofs.RowTheorems.{row-between, trimmed-mark, trimmed-plain, trimmed-none}
-- Request 103: the local test of edges, zeros included, that the check makes is exact.
pub use Rattle.theory_edges.specs.Theorems.{edges-exact}
-- Request 103: on an accepted tree the walk of a short span does not break and gives the bytes of the text.
pub use Rattle.theory_edges.specs.Theorems.{short-holds, short-text}
-- Request 103: blocks entered of a short span, on any tree that passes questions 5 to 7, are those of its walk, 1 to 2H; for other spans they are 0.
pub use Rattle.theory_edges.specs.Theorems.{span-walked, span-entered, span-other}
-- Request 105, places: for accepted trees and what build writes, `places_of` of `Answers`. For any bytes given as a tree, the places are those in what the
-- paths give.
pub use Rattle.theorems.proofs.PlacesCall.{places-answer}
-- Request 105: the refusals of places in their order, 5 to 7, 16, 14 and 17.
pub use Rattle.query_places.proofs.Theorems.{places-unread, places_length, places-broken, places_short, places-written}
pub use Rattle.theorems.proofs.PlacesCall.{places-numbers}
-- Request 105: a refusal leaves the table unchanged.
pub use Rattle.theorems.proofs.PlacesCall.{places-unchanged}
-- Request 106, the builder with one scan a level: its refusals, the buffer and the table.
pub use Rattle.theorems.proofs.BuildScannedCall.{scanned-answer, scanned-numbers, scanned-zeros, scanned-unchanged}
pub use Rattle.theorems.proofs.BuildScannedCall.{scanned-table, scanned-short, scanned-has-table}
-- Request 106: it writes what build writes, and the windows that it returns are the definition's.
pub use Rattle.theorems.proofs.BuildScannedCall.{same-as-build, scanned-windows}
-- Demand 2 and the last part of demand 3, for build_scanned.
pub use Rattle.theorems.proofs.BuildScannedCall.{scanned-writes, scanned-answers, scanned-refuses, scanned-accepted, scanned-one-text}
-- Request 107, worn keys: on an accepted tree the next matching row is returned (`match_of` of `Answers`). The mark moves to that row; with none it moves to
-- the number of rows unless it is above.
pub use Rattle.query_key_match.proofs.Theorems.{row-rises, none_moves}
-- Request 107: repeated calls from mark 0 until none return the list of matching rows.
pub use Rattle.query_key_match.proofs.Theorems.{all-matches}
-- The list of selected rows is increasing (`selected-rise`) and has exactly the rows that match (`selected-in`, `in-selected`).
pub use Rattle.row_filter.specs.SelectedRowLaws.{all_shown, selected-rise, selected-in, in-selected}
-- Request 107: wider ranges return every row that the narrower ones return.
pub use Rattle.query_key_match.proofs.Theorems.{widening-monotone}
-- Request 107: the refusals in their order, 5 to 7, 19, 11 and 14.
pub use Rattle.query_key_match.proofs.Theorems.{match-unread, match-unread-by, match_ranges, match-uncounted}
pub use Rattle.theorems.proofs.NextMatchCall.{match-numbers}
-- Request 107: a refusal leaves the mark unchanged. On a tree that the check refuses, the row is free, but these hold.
pub use Rattle.query_key_match.proofs.Theorems.{refusal-leaves, row-after, none_after}
-- Rows by their first bytes. On an accepted tree the answer is the next row after the mark that starts with the prefix, or none, with the mark at the number
-- of rows: `prefix_of` of `Answers`. A returned row is after the mark.
pub use Rattle.query_prefix.proofs.Theorems.{prefix-rises}
-- Repeated calls from mark 0 return exactly the rows that start with the prefix, each once, in row order, then none.
pub use Rattle.query_prefix.proofs.Theorems.{all-with-prefix, in_order, each-shown, only-shown, comes-to-none}
-- Extending the prefix returns a subsequence; a prefix with a byte 10 starts no row.
pub use Rattle.query_prefix.proofs.Theorems.{longer-narrows, longer-shows-fewer, newline-shows-none}
-- Refusals: 5 to 7, then 16, 11 and 14.
pub use Rattle.query_prefix.proofs.Theorems.{prefix-unread, prefix-unread-by, prefix_length, prefix-uncounted}
pub use Rattle.theorems.proofs.PrefixRowCall.{prefix-numbers}
-- With a guide: for an accepted tree and guide the same answer, so that all of this holds of it too.
pub use Rattle.query_prefix.proofs.Theorems.{guided-as-prefix}
pub use Rattle.theorems.proofs.PrefixRowCall.{prefix-guided-numbers}
-- A refusal leaves the mark. A row returned from a refused tree, or with a wrong guide, is after the mark too, and at most total + 1 of byte 10.
pub use Rattle.query_prefix.proofs.Theorems.{prefix-keeps-mark, prefix-row-after, prefix-none-after}
-- Request 108: to columns is the transposition of the text's rows, and from columns is its inverse.
pub use Rattle.columns.specs.ColumnLaws.{columns-at, columns-moves, uncolumns-moves, restored, rearranged}
pub use Rattle.columns.proofs.Theorems.{columns-roundtrip, back-and-there}
-- Request 108: both are permutations of the places, and map the empty text to itself.
pub use Rattle.columns.specs.ColumnLaws.{goes-below, goes_back, comes-below, comes_back, empty-columns, empty-uncolumns}
pub use Rattle.columns.proofs.Theorems.{empty-stays}
-- Request 108: row by columns gives the rows of the original text.
pub use Rattle.theorems.proofs.RowsByColumns.{accepted-rows, built-rows, scanned-rows}
-- Request 108: the refusals of row by columns in their order, 5 to 7, 20, 10, 13 and 14.
pub use Rattle.query_columns.proofs.Theorems.{column-unread, column_width, column_past, column_short, column-broken, column-read}
pub use Rattle.theorems.proofs.ColumnRowCall.{column-numbers}
-- Request 108: what row by columns leaves in the buffer, which after 14 begins with w zeros.
pub use Rattle.theorems.proofs.ColumnRowCall.{column-answer, column-zeros, column-unchanged}
-- Request 108: the refusals of to columns and from columns, 20 and then 21, which leave the output unchanged.
pub use Rattle.columns.proofs.Theorems.{to-columns, from-columns}
pub use Rattle.theorems.proofs.ColumnsCall.{to-columns-numbers, from-columns-numbers}
-- Digest: for accepted trees and what build writes, the SHA-256 of the text (`digest_of` of `Answers`). For the only text that fits, and for build and
-- digest_text together: `digest-accepted`, `digest-built`.
pub use Rattle.query_digest.proofs.Theorems.{digest-accepted, digest-bytes, digest-built}
pub use Rattle.sha256.proofs.Theorems.{digest-text-short, digest-text-written, digest-text-bytes}
-- Digest: the refusals in their order, 5 to 7, 13 and 14, and the buffer, which after 14 begins with 32 zeros.
pub use Rattle.query_digest.proofs.Theorems.{digest-unread, digest_short, digest-broken}
pub use Rattle.theorems.proofs.DigestCall.{digest-numbers, digest-zeros, digest-unchanged, digest-text-numbers}
-- Request 110, the empty text: `built-tree` and `scanned-tree` below hold of it as of any text. An accepted tree with n 0, of any origin, is a header, and
-- only the empty text fits.
pub use Rattle.theorems.proofs.EmptyText.{empty-counts, empty-offsets, empty-header, empty_text, empty-answers}
-- Request 110: what each call returns for the empty text.
pub use Rattle.theorems.proofs.EmptyText.{empty-byte, empty-run, empty-span, empty-span-past, empty-count, empty-count-past, empty-find, empty-row}
-- Request 111, one byte corrected, about texts: `OneByte` means that they differ only at place d. Then counts are at most 1 apart, equal up to d, and
-- occurrences before d are the same.
pub use Rattle.theorems.proofs.OneByte.{OneByte, one_byte_back, count-near, count-before, count_past, place_same}
-- Request 111: the same of what count and find return for two accepted trees of these texts that count the byte.
pub use Rattle.theorems.proofs.Corrections.{CountingTree, CountsNear, counts-near, FoundAt, place-before}
-- Request 113, guides: how many entries a counted byte has, and which block each of them is.
pub use Rattle.query_guide.proofs.Theorems.{guide-entries, guide-holds}
-- Request 113: making is refused with 5 to 9 or 25, and the table is then unchanged; else the words are written, and check_guide accepts them.
pub use Rattle.build_guide.proofs.Theorems.{make-unread, make-short, make-writes, made-accepted}
pub use Rattle.query_guide.proofs.Theorems.{size-of-guide, size-refused}
-- Request 113: checking accepts the guide of an accepted tree and nothing else; its refusals are 5 to 9, then 24.
pub use Rattle.build_guide.proofs.Theorems.{check-guide-accepts, check-guide-unread, check-guide-wrong}
-- Request 113: with an accepted tree and guide, find and row return what they return without one, and the steps are the place's block of level 0 less the
-- entry.
pub use Rattle.query_guided.proofs.Theorems.{guided-as-find, guided-steps}
pub use Rattle.theorems.proofs.FindGuidedCall.{guided-of-text}
pub use Rattle.query_rows.proofs.Theorems.{guided-as-row}
-- Request 113: with any other guide the worst results are 14 and a place below n. The questions before the walk do not depend on the guide.
pub use Rattle.query_guided.proofs.Theorems.{guided-asked, guided-worst}
pub use Rattle.theorems.proofs.FindGuidedCall.{guided-below, guided-numbers}
pub use Rattle.theorems.proofs.RowGuidedCall.{row-guided-answer, row-guided-free, row-guided-free-short, row-guided-numbers, row-guided-leaves}
pub use Rattle.theorems.proofs.GuideCall.{check-guide-numbers, make-guide-numbers, guide-words-numbers}
-- Request 114, the order of books: for accepted trees the order, the longest common prefix and the returned tree depend on the two texts only.
pub use Rattle.theorems.proofs.OrderCall.{compare-of, first-of, texts-alone, first_alone}
-- Request 114: the order is lexicographic, by unsigned bytes, with a prefix before the longer text.
pub use Rattle.theorems.proofs.OrderCall.{ordered-by, shared-is, shared-flip, empty-first}
-- Request 114: on the texts of accepted trees it is a total order.
pub use Rattle.theorems.proofs.OrderCall.{tree-order, compare-flip, text-order, ordering-flip, ordering-refl, ordering-same, ordering-trans}
-- Request 114: the refusals in their order, for any bytes given as trees.
pub use Rattle.theorems.proofs.OrderCall.{order-numbers}
pub use Rattle.query_compare.proofs.Theorems.{order-unread, order-unread-2, order-broken, order-broken-2, order_below, order-above}
-- Figures of a tree: those of the header and the totals, or a refusal with every figure 0. On an accepted tree n is the text's length, and each total is the
-- number of occurrences of its byte in the text.
pub use Rattle.query_info.proofs.Theorems.{version-is, info-answered, info-refused, info-length, info-totals}
pub use Rattle.theorems.proofs.InfoCall.{info-numbers}
-- The number of rows and their lengths: on an accepted tree those of the text, and a buffer of that length is enough for row.
pub use Rattle.query_rows.proofs.Theorems.{rows-of-text, length-of-text, length-enough}
pub use Rattle.theorems.proofs.RowCountCall.{row-count-numbers}
pub use Rattle.theorems.proofs.RowLengthCall.{length-numbers}
-- The words of a table for the places of any pattern of some length: on any tree that passes questions 5 to 7 they are enough, so places is not refused
-- with 17.
pub use Rattle.query_places.proofs.Theorems.{room-holds, room-enough}
pub use Rattle.theorems.proofs.PlacesWordsCall.{room-numbers}
-- A tree without its edges: the refusals 5 to 7 and 13, which leave the buffer unchanged; else the tree in layout 1 at the buffer's start.
pub use Rattle.build_without_edges.proofs.Theorems.{refused-unreadable, refused-room, written-tree, tree-size-suffices, lent-on}
pub use Rattle.theorems.proofs.WithoutEdgesCall.{without-edges-numbers}
-- For any tree that passes questions 5 to 7: fields, paths and text stay the same, the check returns what it returns if edges are ignored, a tree of layout
-- 1 is copied, and no tree becomes larger.
pub use Rattle.build_without_edges.proofs.Theorems.{written-header, written-text, written_byte, written-checked, written_same, written-shorter}
pub use Rattle.theory_without_edges.proofs.Layout1Accepted.{layout1-length, layout1-saves, built-layout1-length}
-- For an accepted tree: the written tree is accepted, only the same text fits, and every call returns what that text has.
pub use Rattle.build_without_edges.proofs.Theorems.{written-accepted, written-only}
pub use Rattle.theorems.proofs.WithoutEdgesCall.{without-edges-answers, without-edges-refuses}
-- For a tree that build wrote: the written tree is the text's block tree in layout 1.
pub use Rattle.build_without_edges.proofs.Theorems.{written-built}
pub use Rattle.theory_without_edges.specs.TreeInLayout.{same-built}

-- The roads to a tree, each in one theorem; `Promises` has their statements.

-- A tree that check accepted, of any origin: exactly one text fits it, and every call returns what that text has.
pub any-tree : AnyTree
any-tree κs t c =
    let one = check-one-text κs t c in
    let fit = one.1.fitting in
    (one.0, record { represents = one.1; only = one.2; answers = check-answers κs t c one.0 fit; refuses = check-refuses κs t c one.0 fit })

-- A tree that build wrote: it is the block tree of the text, check accepts it, the text and no other fits it, and every call returns what the text has.
pub built-tree : BuiltTree
built-tree κs text leaf arity levels counted out after size a t is =
    let one = build-one-text κs text leaf arity levels counted out after size a t is in (
      is ∙ build-writes κs text leaf arity levels counted out after size a,
      build-accepted κs text leaf arity levels counted out after size a t is,
      record {
        represents = one.0;
        only = one.1;
        answers = build-answers κs text leaf arity levels counted out after size a t is;
        refuses = build-refuses κs text leaf arity levels counted out after size a t is;
      },
    )

-- A tree that build_scanned wrote: the same, and the windows that it reports are those of the text.
pub scanned-tree : ScannedTree
scanned-tree κs text leaf arity levels counted words table out after size windows a t is =
    let one = scanned-one-text κs text leaf arity levels counted words table out after size windows a t is in (
      scanned-windows κs text leaf arity levels counted words table out after size windows a,
      is ∙ scanned-writes κs text leaf arity levels counted words table out after size windows a,
      scanned-accepted κs text leaf arity levels counted words table out after size windows a t is,
      record {
        represents = one.0;
        only = one.1;
        answers = scanned-answers κs text leaf arity levels counted words table out after size windows a t is;
        refuses = scanned-refuses κs text leaf arity levels counted words table out after size windows a t is;
      },
    )
