-- The sentences of docs/FORMAT.md, "Rows by prefix", as theorems over the contract `IsPrefixAnswer` of both calls.
use mathlib.Core.List.{List, [], ◌++◌}
use mathlib.Core.Bool.{true, false, cond}
use mathlib.Core.Path.{◌≡◌, ◌∙◌}
use mathlib.Core.Logic.{◌⊎◌}
use Prim.Native.Nat.{ℕ, suc, ◌≤◌, ◌<◌}
use contract.Lifetimes.{Lfts}
use denote.Ref.{Bor}
use lib.ListN.{length}
use lib.Dec.{eqb}
use Rattle.text.specs.Text.{count_in, rows_of, row_of}
use Rattle.text.proofs.RowTheorems.{row_at}
use Rattle.format.specs.TreeReading.{text_of, header_result, check_result}
use Rattle.format.specs.Answers.{is_counted}
use Rattle.row_filter.specs.SelectedRows.{outcome_at, next_outcome, starts_with}
use Rattle.row_filter.specs.SelectedRowLaws.{In, Rising, Sublist, selected-rise, selected-in, in-selected}
use Rattle.prefix_match.specs.PrefixRowNumbers.{rows_with_prefix, next_with_prefix}
use Rattle.prefix_match.specs.PrefixRowLaws.{longer-sublist, longer-in, newline-starts-none}
use Rattle.query_places.specs.Places.{pattern_ok}
use Rattle.query_guide.specs.Guides.{guide_refusal}
use Rattle.query_guide.proofs.GuideList.{guide-checked}
use Rattle.std.specs.Prelude.{Result, Ok, Err}
use Rattle.refusals.specs.declared.Refusal.{Refusal}
use Rattle.refusals.specs.declared.Refusal.TheVariants.{ByteNotCounted, PathBroken, PatternLengthWrong}
use Rattle.refusals.specs.Refusals.{refusal_number, result_refusal}
use Rattle.query_row_filter.specs.declared.NextRow.{NextRow}
use Rattle.query_row_filter.specs.declared.NextRow.TheVariants.{Row, Nothing}
use Rattle.query_row_filter.specs.AllowedRows.{max_rows, query_refusal, AllowedAnswer, MarkMoved}
use Rattle.query_row_filter.proofs.NextRowTheorems as next_row
use Rattle.query_prefix.proofs.next_with_prefix.Reads as next-reads
use Rattle.query_prefix.proofs.next_with_prefix_guided.Reads as guided-reads

-- The contract of `next_with_prefix` allows the answer r to these arguments.
abbrev pub NextRowWithPrefix : (κs : Lfts 2) → (t prefix : Bor (List ℕ)) → ℕ → Result NextRow Refusal → Type 0
NextRowWithPrefix κs t prefix mark r = next-reads.Post κs (t, (prefix, (mark, tt))) r (t, (prefix, (mark, tt)))

-- The contract of `next_with_prefix_guided`.
abbrev pub NextRowWithPrefixGuided : (κs : Lfts 3) → (t guide prefix : Bor (List ℕ)) → ℕ → Result NextRow Refusal → Type 0
NextRowWithPrefixGuided κs t guide prefix mark r = guided-reads.Post κs (t, (guide, (prefix, (mark, tt)))) r (t, (guide, (prefix, (mark, tt))))

-- `ok` is 0 if the answer is determined: the check's result without a guide, that of checking the guide with one.
abbrev pub IsPrefixAnswer : List ℕ → ℕ → List ℕ → ℕ → Result NextRow Refusal → Type 0
IsPrefixAnswer t ok prefix mark r = AllowedAnswer t ok (query_refusal t 16 (pattern_ok prefix)) (starts_with prefix) mark r

-- An allowed answer, and the mark before and after it.
abbrev pub PrefixMoved : List ℕ → ℕ → List ℕ → ℕ → Result NextRow Refusal → ℕ → Type 0
PrefixMoved t ok prefix before r after = MarkMoved t ok (query_refusal t 16 (pattern_ok prefix)) (starts_with prefix) before r after

-- The contracts are `IsPrefixAnswer`.
pub next-answers : (κs : Lfts 2) (t prefix : Bor (List ℕ)) (mark : ℕ) (r : Result NextRow Refusal) → NextRowWithPrefix κs t prefix mark r
    → IsPrefixAnswer t.now (check_result t.now) prefix.now mark r
next-answers κs t prefix mark r p = p

pub guided-answers : (κs : Lfts 3) (t guide prefix : Bor (List ℕ)) (mark : ℕ) (r : Result NextRow Refusal) → NextRowWithPrefixGuided κs t guide prefix mark r
    → IsPrefixAnswer t.now (guide_refusal t.now guide.now) prefix.now mark r
guided-answers κs t guide prefix mark r p = p

-- For an accepted tree and guide the answer is that without the guide.
pub guided-as-prefix : (κs : Lfts 3) (t guide prefix : Bor (List ℕ)) (mark : ℕ) (r : Result NextRow Refusal) → NextRowWithPrefixGuided κs t guide prefix mark r
    → guide_refusal t.now guide.now ≡ 0 → (κ : Lfts 2) (s : Result NextRow Refusal) → NextRowWithPrefix κ t prefix mark s → r ≡ s
guided-as-prefix κs t guide prefix mark r a g κ s b =
    next_row.one-next-row t.now (query_refusal t.now 16 (pattern_ok prefix.now)) (starts_with prefix.now) mark
    (guide_refusal t.now guide.now) (check_result t.now) g (guide-checked t.now guide.now g) r s a b

module _ (t prefix : List ℕ) where
  -- The search starts if questions 5 to 7, 16 and 11 pass.
  pub prefix-through : header_result t ≡ 0 → pattern_ok prefix ≡ true → is_counted t 10 ≡ true → query_refusal t 16 (pattern_ok prefix) ≡ 0
  prefix-through = next_row.asked-all t 16 (pattern_ok prefix)

  counted_of : query_refusal t 16 (pattern_ok prefix) ≡ 0 → is_counted t 10 ≡ true
  counted_of h = next_row.asked-counted t 15 (pattern_ok prefix) h

module _ (t : List ℕ) (ok : ℕ) (sound : ok ≡ 0 → check_result t ≡ 0) (prefix : List ℕ) where
  -- For any bytes.

  module _ (mark : ℕ) (r : Result NextRow Refusal) (a : IsPrefixAnswer t ok prefix mark r) where
    -- Questions 5 to 7: the call is refused with the number of the first that fails.
    pub prefix-unread : (q : ℕ) → header_result t ≡ suc q → result_refusal r ≡ suc q
    prefix-unread q e =
        next_row.refused-number t ok sound (query_refusal t 16 (pattern_ok prefix)) (starts_with prefix) mark r a q
        (next_row.asked-unread t 16 (pattern_ok prefix) q e)

    -- The same, for a refusal that has this number.
    pub prefix-unread-by : (q : Refusal) → header_result t ≡ refusal_number q → r ≡ Err q
    prefix-unread-by q e =
        next_row.refused-first t ok sound (query_refusal t 16 (pattern_ok prefix)) (starts_with prefix) mark r a q
        (next_row.asked-unread-by t 16 (pattern_ok prefix) q e)

    module _ (pass : header_result t ≡ 0) where
      -- 16, after question 7: the prefix has no byte or more than 256
      pub prefix_length : pattern_ok prefix ≡ false → r ≡ Err PatternLengthWrong
      prefix_length e =
          next_row.refused-first t ok sound (query_refusal t 16 (pattern_ok prefix)) (starts_with prefix) mark r a PatternLengthWrong
          (next_row.asked-bad t 16 (pattern_ok prefix) pass e)

      -- 11, after 16
      pub prefix-uncounted : pattern_ok prefix ≡ true → is_counted t 10 ≡ false → r ≡ Err ByteNotCounted
      prefix-uncounted good e =
          next_row.refused-first t ok sound (query_refusal t 16 (pattern_ok prefix)) (starts_with prefix) mark r a ByteNotCounted
          (next_row.asked-uncounted t 16 (pattern_ok prefix) pass good e)

  -- A refusal leaves the mark.
  pub prefix-keeps-mark : (mark : ℕ) (n : Refusal) (after : ℕ) → PrefixMoved t ok prefix mark (Err n) after → after ≡ mark
  prefix-keeps-mark = next_row.refusal-leaves t ok sound (query_refusal t 16 (pattern_ok prefix)) (starts_with prefix)

  -- A refusal is that of the questions before the walk; or 14, if the answer is not determined.
  pub prefix-refusal : (mark : ℕ) (n : Refusal) → IsPrefixAnswer t ok prefix mark (Err n)
      → (refusal_number n ≡ query_refusal t 16 (pattern_ok prefix)) ⊎ ((n ≡ PathBroken) × (ok ≡ 0 → ⊥))
  prefix-refusal = next_row.refusal_is t ok sound (query_refusal t 16 (pattern_ok prefix)) (starts_with prefix)

  -- A returned row, unspecified or not, is after the mark and at most total + 1 of byte 10.
  pub prefix-row-after : (mark n : ℕ) → IsPrefixAnswer t ok prefix mark (Ok (Row n)) → (mark < n) × (n ≤ max_rows t)
  prefix-row-after = next_row.row-after t ok sound (query_refusal t 16 (pattern_ok prefix)) (starts_with prefix) (counted_of t prefix)

  -- None leaves the mark, or moves it forward up to that number.
  pub prefix-none-after : (mark m : ℕ) → IsPrefixAnswer t ok prefix mark (Ok (Nothing m)) → (mark ≤ m) × ((m ≡ mark) ⊎ (m ≤ max_rows t))
  prefix-none-after = next_row.none_after t ok sound (query_refusal t 16 (pattern_ok prefix)) (starts_with prefix) (counted_of t prefix)

  -- A determined answer: for an accepted tree, and an accepted guide if there is one.
  module _ (v : ok ≡ 0) where
    abbrev rows : List (List ℕ)
    rows = rows_of (text_of t)

    -- Where no question refuses: the row `next_with_prefix`; or none, with the mark moved to the number of rows, never back.
    pub prefix-is : (mark : ℕ) (r : Result NextRow Refusal) → IsPrefixAnswer t ok prefix mark r → query_refusal t 16 (pattern_ok prefix) ≡ 0
        → r ≡ Ok (cond (eqb (next_with_prefix prefix rows mark) 0)
        (Nothing (outcome_at (next_with_prefix prefix rows mark) (length rows) mark).mark) (Row (next_with_prefix prefix rows mark)))
    unfolding next_with_prefix next_outcome
    prefix-is = next_row.answer_is t ok sound (query_refusal t 16 (pattern_ok prefix)) (starts_with prefix) v

    -- A returned row is after the mark and becomes the mark.
    pub prefix-rises : (mark n after : ℕ) → PrefixMoved t ok prefix mark (Ok (Row n)) after → (mark < n) × (n ≤ length rows) × (after ≡ n)
    prefix-rises = next_row.row-rises t ok sound (query_refusal t 16 (pattern_ok prefix)) (starts_with prefix) v

    -- repeated calls with the same prefix, each from the mark that the one before left, return these rows, then none
    abbrev pub PrefixCalls : ℕ → List ℕ → Type 0
    PrefixCalls = next_row.Calls t ok sound (query_refusal t 16 (pattern_ok prefix)) (starts_with prefix) v

    -- From mark 0 to none, the rows returned are exactly those that start with the prefix.
    pub all-with-prefix : (ns : List ℕ) → PrefixCalls 0 ns → ns ≡ rows_with_prefix prefix rows
    unfolding rows_with_prefix
    all-with-prefix = next_row.all-called t ok sound (query_refusal t 16 (pattern_ok prefix)) (starts_with prefix) v

    -- Each row once, in row order.
    pub in_order : (ns : List ℕ) → PrefixCalls 0 ns → Rising 1 ns
    unfolding rows_with_prefix
    in_order ns a = rw (all-with-prefix ns a) (selected-rise (starts_with prefix) rows)

    -- Every row that starts with the prefix is returned.
    pub each-shown : (ns : List ℕ) → PrefixCalls 0 ns → (n : ℕ) → 1 ≤ n → n ≤ length rows → starts_with prefix (row_of (text_of t) n) ≡ true → In n ns
    unfolding rows_with_prefix
    each-shown ns a n low high s = rw (all-with-prefix ns a) (selected-in (starts_with prefix) rows n low high (rw (row_at (text_of t) n low) at s))

    -- No other row is returned.
    pub only-shown : (ns : List ℕ) → PrefixCalls 0 ns → (n : ℕ) → In n ns → (1 ≤ n) × (n ≤ length rows) × (starts_with prefix (row_of (text_of t) n) ≡ true)
    unfolding rows_with_prefix
    only-shown ns a n i =
        let f = in-selected (starts_with prefix) rows n (rw (all-with-prefix ns a) at i) in
        (f.0, f.1, rw (row_at (text_of t) n f.0) f.2)

    -- Calls that keep the contract do return them all, then none.
    pub comes-to-none : query_refusal t 16 (pattern_ok prefix) ≡ 0
        → ((mark : ℕ) → mark ≤ length rows → (r : Result NextRow Refusal) × IsPrefixAnswer t ok prefix mark r) → PrefixCalls 0 (rows_with_prefix prefix rows)
    unfolding rows_with_prefix
    comes-to-none = next_row.comes-to-none t ok sound (query_refusal t 16 (pattern_ok prefix)) (starts_with prefix) v

    -- A prefix with a byte 10 starts no row.
    pub newline-shows-none : 1 ≤ count_in 10 prefix → (ns : List ℕ) → PrefixCalls 0 ns → ns ≡ []
    newline-shows-none ten ns a = all-with-prefix ns a ∙ newline-starts-none prefix ten (text_of t)

-- Extending a prefix: the rows returned are a subsequence of those of the shorter prefix.
module _ (t : List ℕ) (ok : ℕ) (sound : ok ≡ 0 → check_result t ≡ 0) (v : ok ≡ 0)
    (p q ns ms : List ℕ) (longer : PrefixCalls t ok sound (p ++ q) v 0 ns) (shorter : PrefixCalls t ok sound p v 0 ms) where
  pub longer-narrows : Sublist ns ms
  longer-narrows = rw (all-with-prefix t ok sound (p ++ q) v ns longer, all-with-prefix t ok sound p v ms shorter) (longer-sublist p q (rows_of (text_of t)))

  pub longer-shows-fewer : (n : ℕ) → In n ns → In n ms
  longer-shows-fewer n i =
      rw (all-with-prefix t ok sound p v ms shorter) (longer-in p q (rows_of (text_of t)) n (rw (all-with-prefix t ok sound (p ++ q) v ns longer) at i))
