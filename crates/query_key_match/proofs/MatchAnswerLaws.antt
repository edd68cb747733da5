-- The questions before the search for a match.
use mathlib.Core.List.{List}
use mathlib.Core.Bool.{true, false}
use mathlib.Core.Path.{◌≡◌, refl}
use Prim.Native.Nat.{ℕ}
use Rattle.format.specs.TreeReading.{header_result, check_result}
use Rattle.std.specs.Prelude.{Result, Err}
use Rattle.refusals.specs.declared.Refusal.{Refusal}
use Rattle.refusals.specs.declared.Refusal.TheVariants.{CutsWrong}
use Rattle.layout.specs.declared.header.Header.{Header}
use Rattle.layout.specs.Header.{header_answer}
use Rattle.keys.specs.Keys.{ranges_ok, matches}
use Rattle.query_row_filter.specs.declared.NextRow.{NextRow}
use Rattle.query_row_filter.specs.AllowedRows.{newline_refusal, AllowedAnswer}
use Rattle.query_row_filter.proofs.AllowedAnswerLaws.{ask-unread, ask-bad, ask-good}
use Rattle.query_key_match.specs.MatchAnswer.{IsMatchAnswer}

module _ (t ranges : List ℕ) (mark : ℕ) where
  pub match-unread : (x : Result Header Refusal) → x ≡ header_answer t → (q : Refusal) → x ≡ Err q → IsMatchAnswer t ranges mark (Err q)
  match-unread x is q e = ask-unread t (check_result t) (matches ranges) mark 19 (ranges_ok ranges) x is q e

  module _ (pass : header_result t ≡ 0) where
    pub match-19 : ranges_ok ranges ≡ false → IsMatchAnswer t ranges mark (Err CutsWrong)
    match-19 e = ask-bad t (check_result t) (matches ranges) mark 19 (ranges_ok ranges) pass CutsWrong refl e

    pub match-good : ranges_ok ranges ≡ true → (r : Result NextRow Refusal) → AllowedAnswer t (check_result t) (newline_refusal t) (matches ranges) mark r
        → IsMatchAnswer t ranges mark r
    match-good e r a = ask-good t (check_result t) (matches ranges) mark 19 (ranges_ok ranges) pass e r a
