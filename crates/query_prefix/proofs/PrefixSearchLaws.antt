-- The questions before the search, test by test.
use mathlib.Core.List.{List}
use mathlib.Core.Path.{◌≡◌, refl}
use Prim.Native.Nat.{ℕ, ◌≤◌, ◌<◌}
use lib.ListN.{length}
use borrow.Author.Tests.{le-leb, lt-leb}
use Rattle.format.specs.TreeReading.{header_result}
use Rattle.std.specs.Prelude.{Result, Err}
use Rattle.refusals.specs.declared.Refusal.{Refusal}
use Rattle.refusals.specs.declared.Refusal.TheVariants.{PatternLengthWrong}
use Rattle.layout.specs.declared.header.Header.{Header}
use Rattle.layout.specs.Header.{header_answer}
use Rattle.query_places.specs.Places.{max_pattern, pattern_ok}
use Rattle.query_row_filter.specs.declared.NextRow.{NextRow}
use Rattle.query_row_filter.specs.AllowedRows.{newline_refusal, query_refusal, AllowedAnswer}
use Rattle.query_row_filter.proofs.AllowedAnswerLaws.{ask-unread, ask-bad, ask-good}
use Rattle.row_filter.specs.SelectedRows.{starts_with}

module _ (t : List ℕ) (ok : ℕ) (prefix : List ℕ) (mark : ℕ) where
  pub prefix-unread : (x : Result Header Refusal) → x ≡ header_answer t → (q : Refusal) → x ≡ Err q
      → AllowedAnswer t ok (query_refusal t 16 (pattern_ok prefix)) (starts_with prefix) mark (Err q)
  prefix-unread x is q e = ask-unread t ok (starts_with prefix) mark 16 (pattern_ok prefix) x is q e

  module _ (pass : header_result t ≡ 0) where
    pub prefix-short : length prefix < 1 → AllowedAnswer t ok (query_refusal t 16 (pattern_ok prefix)) (starts_with prefix) mark (Err PatternLengthWrong)
    unfolding pattern_ok
    prefix-short h = ask-bad t ok (starts_with prefix) mark 16 (pattern_ok prefix) pass PatternLengthWrong refl (rw (lt-leb 1 (length prefix) h))

    module _ (some : 1 ≤ length prefix) where
      pub prefix-long : max_pattern < length prefix
          → AllowedAnswer t ok (query_refusal t 16 (pattern_ok prefix)) (starts_with prefix) mark (Err PatternLengthWrong)
      unfolding pattern_ok
      prefix-long h =
          ask-bad t ok (starts_with prefix) mark 16 (pattern_ok prefix) pass PatternLengthWrong refl
          (rw (le-leb 1 (length prefix) some, lt-leb (length prefix) max_pattern h))

      pub prefix-good : length prefix ≤ max_pattern
          → (r : Result NextRow Refusal) → AllowedAnswer t ok (newline_refusal t) (starts_with prefix) mark r
          → AllowedAnswer t ok (query_refusal t 16 (pattern_ok prefix)) (starts_with prefix) mark r
      unfolding pattern_ok
      prefix-good h r a =
          ask-good t ok (starts_with prefix) mark 16 (pattern_ok prefix) pass (rw (le-leb 1 (length prefix) some, le-leb (length prefix) max_pattern h)) r a
