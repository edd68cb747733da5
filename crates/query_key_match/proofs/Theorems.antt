-- The statements of docs/FORMAT.md, "Keys", about a worn key, as theorems over the contracts of the calls: `IsMatchAnswer` is the contract of `next_match`,
-- `Moved` that of `advance_mark`.
use mathlib.Core.List.{List}
use mathlib.Core.Bool.{true, false, cond}
use mathlib.Core.Path.{◌≡◌}
use mathlib.Core.Logic.{◌⊎◌}
use Prim.Native.Nat.{ℕ, suc, ◌≤◌, ◌<◌}
use contract.Lifetimes.{Lfts}
use denote.Ref.{Bor}
use lib.ListN.{length}
use lib.Dec.{eqb}
use Rattle.text.specs.Text.{rows_of}
use Rattle.format.specs.TreeReading.{text_of, header_result, check_result}
use Rattle.format.specs.Answers.{is_counted}
use Rattle.row_filter.specs.SelectedRowLaws.{In}
use Rattle.keys.specs.Keys.{ranges_ok, matches}
use Rattle.keys.specs.Matches.{matches_of, next_match, match_outcome}
use Rattle.keys.specs.MatchLaws.{Wider, wider-matched}
use Rattle.std.specs.Prelude.{Result, Ok, Err}
use Rattle.refusals.specs.declared.Refusal.{Refusal}
use Rattle.refusals.specs.declared.Refusal.TheVariants.{ByteNotCounted, PathBroken, CutsWrong}
use Rattle.refusals.specs.Refusals.{refusal_number, result_refusal}
use Rattle.query_row_filter.specs.declared.NextRow.{NextRow}
use Rattle.query_row_filter.specs.declared.NextRow.TheVariants.{Row, Nothing}
use Rattle.query_row_filter.specs.AllowedRows.{max_rows, query_refusal}
use Rattle.query_row_filter.proofs.NextRowTheorems as next_row
use Rattle.query_key_match.specs.MatchAnswer.{IsMatchAnswer, Moved}
use Rattle.query_key_match.proofs.next_match.Reads as next-match-reads

-- r is an answer that the contract of `next_match` allows to a call with these arguments
abbrev pub NextMatch : (κs : Lfts 2) → (t ranges : Bor (List ℕ)) → ℕ → Result NextRow Refusal → Type 0
NextMatch κs t ranges mark r = next-match-reads.Post κs (t, (ranges, (mark, tt))) r (t, (ranges, (mark, tt)))

module _ (t ranges : List ℕ) where
  -- For any bytes.

  -- A refused call leaves the mark unchanged.
  pub refusal-leaves : (mark : ℕ) (n : Refusal) (after : ℕ) → Moved t ranges mark (Err n) after → after ≡ mark
  refusal-leaves = next_row.refusal-leaves t (check_result t) (λ v. v) (query_refusal t 19 (ranges_ok ranges)) (matches ranges)

  module _ (mark : ℕ) (r : Result NextRow Refusal) (a : IsMatchAnswer t ranges mark r) where
    -- Questions 5 to 7: the call is refused with the number of the first that fails.
    pub match-unread : (q : ℕ) → header_result t ≡ suc q → result_refusal r ≡ suc q
    match-unread q e =
        next_row.refused-number t (check_result t) (λ v. v) (query_refusal t 19 (ranges_ok ranges)) (matches ranges) mark r a q
        (next_row.asked-unread t 19 (ranges_ok ranges) q e)

    -- The same, for a refusal that has this number.
    pub match-unread-by : (q : Refusal) → header_result t ≡ refusal_number q → r ≡ Err q
    match-unread-by q e =
        next_row.refused-first t (check_result t) (λ v. v) (query_refusal t 19 (ranges_ok ranges)) (matches ranges) mark r a q
        (next_row.asked-unread-by t 19 (ranges_ok ranges) q e)

    module _ (pass : header_result t ≡ 0) where
      -- Refused with 19, after 7: ranges that question 19 does not allow.
      pub match_ranges : ranges_ok ranges ≡ false → r ≡ Err CutsWrong
      match_ranges e =
          next_row.refused-first t (check_result t) (λ v. v) (query_refusal t 19 (ranges_ok ranges)) (matches ranges) mark r a CutsWrong
          (next_row.asked-bad t 19 (ranges_ok ranges) pass e)

      -- Refused with 11, after 19: byte 10 is not counted.
      pub match-uncounted : ranges_ok ranges ≡ true → is_counted t 10 ≡ false → r ≡ Err ByteNotCounted
      match-uncounted ok e =
          next_row.refused-first t (check_result t) (λ v. v) (query_refusal t 19 (ranges_ok ranges)) (matches ranges) mark r a ByteNotCounted
          (next_row.asked-uncounted t 19 (ranges_ok ranges) pass ok e)

  -- Questions 19 and 11 let a search through.
  pub match-through : header_result t ≡ 0 → ranges_ok ranges ≡ true → is_counted t 10 ≡ true → query_refusal t 19 (ranges_ok ranges) ≡ 0
  match-through = next_row.asked-all t 19 (ranges_ok ranges)

  counted_of : query_refusal t 19 (ranges_ok ranges) ≡ 0 → is_counted t 10 ≡ true
  counted_of h = next_row.asked-counted t 18 (ranges_ok ranges) h

  -- A tree that the check accepts.
  module _ (v : check_result t ≡ 0) where
    abbrev T : List ℕ
    T = text_of t

    -- If no question refuses, the next match is returned; or none, and the mark moves to `match_outcome`.
    pub match_is : (mark : ℕ) (r : Result NextRow Refusal) → IsMatchAnswer t ranges mark r → query_refusal t 19 (ranges_ok ranges) ≡ 0
        → r ≡ Ok (cond (eqb (next_match ranges T mark) 0) (Nothing (match_outcome ranges T mark).mark) (Row (next_match ranges T mark)))
    unfolding next_match match_outcome
    match_is = next_row.answer_is t (check_result t) (λ v. v) (query_refusal t 19 (ranges_ok ranges)) (matches ranges) v

    -- A returned row is after the mark, which moves to it: so after at most as many calls as there are rows there is none.
    pub row-rises : (mark n after : ℕ) → Moved t ranges mark (Ok (Row n)) after → (mark < n) × (n ≤ length (rows_of T)) × (after ≡ n)
    row-rises = next_row.row-rises t (check_result t) (λ v. v) (query_refusal t 19 (ranges_ok ranges)) (matches ranges) v

    -- With none the mark becomes the number of rows, or stays if it was larger.
    pub none_moves : (mark m after : ℕ) → Moved t ranges mark (Ok (Nothing m)) after
        → ((match_outcome ranges T mark).row ≡ 0) × (after ≡ (match_outcome ranges T mark).mark)
    unfolding match_outcome
    none_moves = next_row.none_moves t (check_result t) (λ v. v) (query_refusal t 19 (ranges_ok ranges)) (matches ranges) v

    -- repeated calls with the same ranges, each with the mark that the call before left, return these rows and then none
    abbrev pub Asked : ℕ → List ℕ → Type 0
    Asked = next_row.Calls t (check_result t) (λ v. v) (query_refusal t 19 (ranges_ok ranges)) (matches ranges) v

    -- Request 107: on an accepted tree, such calls from mark 0 on return exactly the matching rows, each once, in increasing order.
    pub all-matches : (ns : List ℕ) → Asked 0 ns → ns ≡ matches_of ranges T
    unfolding matches_of
    all-matches = next_row.all-called t (check_result t) (λ v. v) (query_refusal t 19 (ranges_ok ranges)) (matches ranges) v

  -- For any bytes: what holds of every answer, also of an unspecified one.

  -- A returned row is after the mark, and at most one more than the total of byte 10.
  pub row-after : (mark n : ℕ) → IsMatchAnswer t ranges mark (Ok (Row n)) → (mark < n) × (n ≤ max_rows t)
  row-after = next_row.row-after t (check_result t) (λ v. v) (query_refusal t 19 (ranges_ok ranges)) (matches ranges) counted_of

  -- Without a row the mark does not move back, nor past that number unless it was there.
  pub none_after : (mark m : ℕ) → IsMatchAnswer t ranges mark (Ok (Nothing m)) → (mark ≤ m) × ((m ≡ mark) ⊎ (m ≤ max_rows t))
  none_after = next_row.none_after t (check_result t) (λ v. v) (query_refusal t 19 (ranges_ok ranges)) (matches ranges) counted_of

  -- A refusal is a question's before the walk, or 14, on a tree that the check refuses.
  pub refusal_is : (mark : ℕ) (n : Refusal) → IsMatchAnswer t ranges mark (Err n)
      → (refusal_number n ≡ query_refusal t 19 (ranges_ok ranges)) ⊎ ((n ≡ PathBroken) × (check_result t ≡ 0 → ⊥))
  refusal_is = next_row.refusal_is t (check_result t) (λ v. v) (query_refusal t 19 (ranges_ok ranges)) (matches ranges)

-- Wider ranges return every row that the narrower ones return.
pub widening-monotone : (t r s : List ℕ) (v : check_result t ≡ 0) → Wider r s → (ns ms : List ℕ) → Asked t r v 0 ns → Asked t s v 0 ms → (n : ℕ) → In n ns
    → In n ms
widening-monotone t r s v w ns ms a b n i =
    rw (all-matches t s v ms b) (wider-matched r s w (text_of t) n (rw (all-matches t r v ns a) at i))
