-- The prefix automaton accepts exactly the rows that start with the prefix.
use mathlib.Core.List.{List, [], ◌∷◌}
use mathlib.Core.Bool.{Bool, true, false, cond}
use mathlib.Core.Path.{◌≡◌, refl, sym, ◌∙◌}
use mathlib.Core.Logic.{◌⊎◌, inl, inr}
use Prim.Native.Nat.{ℕ, suc, ◌+◌, ◌-◌, ◌≤◌, ◌<◌}
use native.Mathlib.Omega.{arith}
use native.Mathlib.Numerals.{add-one}
use lib.ListN.{length, get_or, take, drop, drop_of_length-le}
use lib.Seq.{drop-cons}
use lib.Dec.{leb, eqb}
use borrow.Author.Tests.{le-leb, lt-leb, eqb-true, eqb-false, eq-eqb, ne_eqb}
use Rattle.text.specs.Text.{same_list}
use Rattle.text.specs.ListLaws.{lt-or-ge}
use Rattle.row_filter.specs.RowAutomaton.{run_from, Recognizes}
use Rattle.row_filter.specs.RowAutomatonLaws.{newline-trimmed}
use Rattle.prefix_match.specs.declared.prefix_state.PrefixState.{PrefixState}
use Rattle.prefix_match.specs.declared.prefix_state.PrefixState.TheVariants.{Matched, Longer, Mismatch}
use Rattle.row_filter.specs.SelectedRows.{starts_with}
use Rattle.prefix_match.specs.PrefixStates.{after_matched, prefix_step, prefix_at_end, ends_without_cr, prefix_at_newline, no_byte_read, prefix_automaton}

same-swap : (x y : ℕ) (b : Bool) → eqb y x ≡ b → eqb x y ≡ b
same-swap x y true e = eq-eqb x y (sym (eqb-true y x e))
same-swap x y false e = ne_eqb x y (λ z. eqb-false y x e (sym z))

module _ (prefix : List ℕ) where
  abbrev n : ℕ
  n = length prefix

  abbrev run : PrefixState → List ℕ → PrefixState
  run = run_from (prefix_automaton prefix)

  longer-run : (xs : List ℕ) → run Longer xs ≡ Longer
  unfolding run_from prefix_step
  longer-run [] = refl
  longer-run (x ∷ xs) = longer-run xs

  mismatch-run : (xs : List ℕ) → run Mismatch xs ≡ Mismatch
  unfolding run_from prefix_step
  mismatch-run [] = refl
  mismatch-run (x ∷ xs) = mismatch-run xs

  -- One byte after k equal bytes.
  after-longer : (k x : ℕ) → n ≤ k → after_matched prefix k x ≡ Longer
  unfolding after_matched
  after-longer k x h = rw (le-leb n k h)

  after-in : (k x : ℕ) (b : Bool) → k < n → eqb (get_or prefix k 0) x ≡ b → after_matched prefix k x ≡ cond b (Matched (k + 1)) Mismatch
  unfolding after_matched
  after-in k x b h e = rw (lt-leb n k h, e)

  -- After k equal bytes the rest of the prefix must follow.
  matched-run : (k : ℕ) (xs : List ℕ) → prefix_at_end prefix (run (Matched k) xs) ≡ same_list (take (n - k) xs) (drop k prefix)
  unfolding run_from prefix_step prefix_at_end same_list
  matched-run k [] = by (lt-or-ge k n)
    where
      by : (k < n) ⊎ (n ≤ k) → leb n k ≡ same_list (take (n - k) []) (drop k prefix)
      by (inl l) =
          let s : n - k ≡ suc (n - (k + 1)) = omega arith in
          rw (lt-leb n k l, drop-cons prefix k 0 l, s)
      by (inr g) =
          let z : n - k ≡ 0 = omega arith in
          rw (le-leb n k g, drop_of_length-le prefix g, z)
  matched-run k (x ∷ xs) = by (lt-or-ge k n) (matched-run (k + 1) xs)
    where
      fits : k < n → prefix_at_end prefix (run (Matched (k + 1)) xs) ≡ same_list (take (n - (k + 1)) xs) (drop (k + 1) prefix) → (b : Bool)
          → eqb (get_or prefix k 0) x ≡ b → prefix_at_end prefix (run (after_matched prefix k x) xs) ≡ same_list (take (n - k) (x ∷ xs)) (drop k prefix)
      fits l rest true e =
          let s : n - k ≡ suc (n - (k + 1)) = omega arith in
          rw (after-in k x true l e, drop-cons prefix k 0 l, s, same-swap x (get_or prefix k 0) true e, ← add-one k) rest
      fits l rest false e =
          let s : n - k ≡ suc (n - (k + 1)) = omega arith in
          rw (after-in k x false l e, mismatch-run xs, drop-cons prefix k 0 l, s, same-swap x (get_or prefix k 0) false e)

      by : (k < n) ⊎ (n ≤ k) → prefix_at_end prefix (run (Matched (k + 1)) xs) ≡ same_list (take (n - (k + 1)) xs) (drop (k + 1) prefix)
          → prefix_at_end prefix (run (after_matched prefix k x) xs) ≡ same_list (take (n - k) (x ∷ xs)) (drop k prefix)
      by (inl l) rest = fits l rest (eqb (get_or prefix k 0) x) refl
      by (inr g) rest =
          let z : n - k ≡ 0 = omega arith in
          rw (after-longer k x g, longer-run xs, drop_of_length-le prefix g, z)

  at_end_is : (row : List ℕ) → prefix_at_end prefix (run (Matched 0) row) ≡ starts_with prefix row
  unfolding starts_with
  at_end_is row = let z : n - 0 ≡ n = omega arith in rw z at (matched-run 0 row)

  -- A last byte 13, and any other last byte.
  after-13 : (state : PrefixState) (z : ℕ) (b : Bool)
      → eqb 13 z ≡ b → prefix_at_newline prefix (prefix_step prefix state z) ≡ cond b (prefix_at_end prefix state) (prefix_at_end prefix (prefix_step prefix state z))
  unfolding prefix_step prefix_at_newline prefix_at_end ends_without_cr
  after-13 Longer z true e = refl
  after-13 Longer z false e = refl
  after-13 Mismatch z true e = refl
  after-13 Mismatch z false e = refl
  after-13 (Matched k) z b e = by (lt-or-ge k n) b e
    where
      -- The byte just read is the prefix's last.
      last : k + 1 ≡ n → get_or prefix k 0 ≡ z → get_or prefix (n - 1) 0 ≡ z
      last l f = let s : n - 1 ≡ k = omega arith in rw s f

      ends : (c : Bool) → k < n → get_or prefix k 0 ≡ z → eqb 13 z ≡ c → ends_without_cr prefix (k + 1) ≡ cond c false (leb n (k + 1))
      ends c l f d = go (lt-or-ge (k + 1) n) c d
        where
          go : (k + 1 < n) ⊎ (n ≤ k + 1) → (c : Bool) → eqb 13 z ≡ c → ends_without_cr prefix (k + 1) ≡ cond c false (leb n (k + 1))
          go (inl i) true d = rw (lt-leb n (k + 1) i)
          go (inl i) false d = rw (lt-leb n (k + 1) i)
          go (inr i) true d = rw (le-leb n (k + 1) i, last (omega arith) f, same-swap z 13 true d)
          go (inr i) false d = rw (le-leb n (k + 1) i, last (omega arith) f, same-swap z 13 false d)

      read : k < n → (a : Bool) → eqb (get_or prefix k 0) z ≡ a → (c : Bool) → eqb 13 z ≡ c
          → prefix_at_newline prefix (after_matched prefix k z) ≡ cond c (leb n k) (prefix_at_end prefix (after_matched prefix k z))
      read l true f true d = rw (after-in k z true l f, lt-leb n k l) (ends true l (eqb-true (get_or prefix k 0) z f) d)
      read l true f false d = rw (after-in k z true l f) (ends false l (eqb-true (get_or prefix k 0) z f) d)
      read l false f true d = rw (after-in k z false l f, lt-leb n k l)
      read l false f false d = rw (after-in k z false l f)

      by : (k < n) ⊎ (n ≤ k) → (c : Bool) → eqb 13 z ≡ c
          → prefix_at_newline prefix (after_matched prefix k z) ≡ cond c (leb n k) (prefix_at_end prefix (after_matched prefix k z))
      by (inl l) c d = read l (eqb (get_or prefix k 0) z) refl c d
      by (inr g) true d = rw (after-longer k z g, le-leb n k g)
      by (inr g) false d = rw (after-longer k z g)

  -- After a byte the state is not that of an unread row.
  abbrev Started : PrefixState → Type 0
  Started state = no_byte_read state ≡ false

  started-step : (state : PrefixState) (x : ℕ) → Started (prefix_step prefix state x)
  unfolding prefix_step no_byte_read after_matched
  started-step Longer x = refl
  started-step Mismatch x = refl
  started-step (Matched k) x = by (leb n k) (eqb (get_or prefix k 0) x)
    where
      by : (a b : Bool) → no_byte_read (cond a Longer (cond b (Matched (k + 1)) Mismatch)) ≡ false
      by true b = refl
      by false true = ne_eqb (k + 1) 0 (λ z. omega arith)
      by false false = refl

  started-run : (state : PrefixState) (xs : List ℕ) → Started state → Started (run state xs)
  unfolding run_from
  started-run state [] h = h
  started-run state (x ∷ xs) h = started-run (prefix_step prefix state x) xs (started-step state x)

  module _ (some : 1 ≤ n) where
    no_bytes : prefix_at_end prefix (Matched 0) ≡ false
    unfolding prefix_at_end
    no_bytes = lt-leb n 0 (omega arith)

    not_done : prefix_at_newline prefix (Matched 0) ≡ false
    unfolding prefix_at_newline ends_without_cr
    not_done = rw (lt-leb n 0 (omega arith))

    pub recognizes : Recognizes (prefix_automaton prefix) (starts_with prefix)
    unfolding run_from no_byte_read
    recognizes = record {
      at_end_is = at_end_is;
      at_newline_is =
          newline-trimmed (prefix_automaton prefix) (starts_with prefix) at_end_is (not_done ∙ sym no_bytes)
          (λ ys z b e. after-13 (run (Matched 0) ys) z b e);
      no_byte_first = refl;
      no_byte_then = λ x xs. started-run (prefix_step prefix (Matched 0) x) xs (started-step (Matched 0) x);
      empty_rejected = sym (at_end_is []) ∙ no_bytes;
    }
