-- Laws of selected rows: repeated searches from mark 0 return every selected row once, in row order; a weaker predicate loses no row.
use mathlib.Core.List.{List, [], ◌∷◌}
use Rattle.std.specs.Prelude.{Bool, cond, ◌≡◌, ◌⊎◌, get_or, drop}
use Rattle.std.proofs.Math.Bool.{true, false}
use Rattle.std.proofs.Math.Path.{refl, sym}
use Rattle.std.proofs.Common.{ap, ◌∙◌, inl, length-drop, drop-drop}
use Rattle.std.proofs.Math.Logic.{inr}
use Prim.Native.Nat.{ℕ, zero, suc, ◌+◌, ◌-◌, ◌≤◌, ◌<◌}
use native.Mathlib.Omega.{arith}
use Rattle.std.proofs.Math.Numerals.{add-one}
use Rattle.std.proofs.Math.ListN.{length}
use borrow.Author.Tests.{ne_eqb}
use Rattle.text.specs.ListLaws.{bool_clash}
use Rattle.row_filter.specs.SelectedRows.{NextRowOutcome, first_selected, next_selected, outcome_at, next_outcome}
use Rattle.row_filter.specs.SelectedRowNumbers.{selected_from, selected_rows}

-- The first selected row of a list that begins with row q, and the selected rows after it.

-- No row is selected; or row q + k is the first, and the others are the selected rows after it.
data SelectedFirst (selected : List ℕ → Bool) (q : ℕ) (rows : List (List ℕ)) : Type 0 where
  none : first_selected selected q rows ≡ 0 → selected_from selected q rows ≡ [] → SelectedFirst selected q rows
  first : (k : ℕ) → first_selected selected q rows ≡ q + k → k < length rows
      → selected_from selected q rows ≡ (q + k) ∷ selected_from selected (q + k + 1) (drop (k + 1) rows) → SelectedFirst selected q rows

module _ (selected : List ℕ → Bool) where
  selected-cons : (q : ℕ) (row : List ℕ) (rows : List (List ℕ)) (b : Bool) → selected row ≡ b
      → selected_from selected q (row ∷ rows) ≡ cond b (q ∷ selected_from selected (q + 1) rows) (selected_from selected (q + 1) rows)
  unfolding selected_from
  selected-cons q row rows b e = rw e

  pub first-cons : (q : ℕ) (row : List ℕ) (rows : List (List ℕ)) (b : Bool) → selected row ≡ b
      → first_selected selected q (row ∷ rows) ≡ cond b q (first_selected selected (q + 1) rows)
  unfolding first_selected
  first-cons q row rows b e = rw e

  first-of : (q : ℕ) (rows : List (List ℕ)) → SelectedFirst selected q rows
  unfolding first_selected selected_from
  first-of q [] = none refl refl
  first-of q (row ∷ rows) = go (selected row) refl (first-of (q + 1) rows)
    where
      go : (b : Bool) → selected row ≡ b → SelectedFirst selected (q + 1) rows → SelectedFirst selected q (row ∷ rows)
      go true e later =
          let z : q + 0 ≡ q = omega arith in
          first 0 (first-cons q row rows true e ∙ sym z) (omega arith) (selected-cons q row rows true e ∙ rw z)
      go false e (none f m) = none (first-cons q row rows false e ∙ f) (selected-cons q row rows false e ∙ m)
      go false e (first k f l m) =
          let s : q + 1 + k ≡ q + (k + 1) = omega arith in
          first (k + 1) (first-cons q row rows false e ∙ f ∙ s) (omega arith) (selected-cons q row rows false e ∙ m ∙ rw (s, add-one (k + 1)))

-- The selected rows after a mark.
module _ (selected : List ℕ → Bool) (rows : List (List ℕ)) where
  abbrev pub after : ℕ → List ℕ
  after mark = selected_from selected (mark + 1) (drop mark rows)

  -- No row after the mark is selected; or n is the next, and the others are the selected rows after n.
  pub data Next (mark : ℕ) : Type 0 where
    no_more : (next_outcome selected rows mark).row ≡ 0 → after mark ≡ [] → Next mark
    next : (n : ℕ) → mark < n → n ≤ length rows → next_outcome selected rows mark ≡ record { refusal = 0; row = n; mark = n }
        → after mark ≡ n ∷ after n → Next mark

  pub next_of : (mark : ℕ) → Next mark
  unfolding next_outcome outcome_at next_selected
  next_of mark = go (first-of selected (mark + 1) (drop mark rows))
    where
      go : SelectedFirst selected (mark + 1) (drop mark rows) → Next mark
      go (none f m) = no_more (rw f) m
      go (first k f l m) =
          let n = mark + 1 + k in
          let e : mark + (k + 1) ≡ n = omega arith in
          let size : k < length rows - mark = rw (length-drop mark rows) at l in
          next n (omega arith) (omega arith) (rw (f, ne_eqb n 0 (λ z. omega arith))) (m ∙ rw (drop-drop (k + 1) mark rows, e))

  -- repeated searches from a mark return these rows, then none
  abbrev pub Shows : ℕ → List ℕ → Type 0
  Shows mark [] = (next_outcome selected rows mark).row ≡ 0
  Shows mark (n ∷ ns) = (next_outcome selected rows mark ≡ record { refusal = 0; row = n; mark = n }) × (1 ≤ n) × Shows n ns

  -- The rows returned from a mark are the selected rows after it.
  shown-are : (mark : ℕ) (ns : List ℕ) → Shows mark ns → ns ≡ after mark
  shown-are mark [] h = go (next_of mark)
    where
      go : Next mark → [] ≡ after mark
      go (no_more f m) = sym m
      go (next n l k e m) = absurd (let z : n ≡ 0 = sym (ap (λ (x : NextRowOutcome). x.row) e) ∙ h in let y : ⊥ = omega arith in y)
  shown-are mark (n ∷ ns) h = go (next_of mark) (shown-are n ns h.2)
    where
      go : Next mark → ns ≡ after n → (n ∷ ns) ≡ after mark
      go (no_more f m) rest = absurd (let z : n ≡ 0 = sym (ap (λ (x : NextRowOutcome). x.row) h.0) ∙ f in let y : ⊥ = omega (arith, h.1) in y)
      go (next k l j e m) rest =
          let z : n ≡ k = ap (λ (x : NextRowOutcome). x.row) (sym h.0 ∙ e) in
          rw (rest, z) (sym m)

  -- From every mark the searches return the selected rows after it, then none.
  comes-to : (mark : ℕ) (ns : List ℕ) → after mark ≡ ns → Shows mark ns
  comes-to mark [] e = go (next_of mark)
    where
      go : Next mark → (next_outcome selected rows mark).row ≡ 0
      go (no_more f m) = f
      go (next n l k s m) = absurd (let z : ◌≡◌ {A = ℕ} (length (n ∷ after n)) 0 = ap length (sym m ∙ e) in let y : ⊥ = omega arith in y)
  comes-to mark (n ∷ ns) e = go (next_of mark) (λ k f. comes-to k ns f)
    where
      go : Next mark → ((k : ℕ) → after k ≡ ns → Shows k ns) → Shows mark (n ∷ ns)
      go (no_more f m) rest = absurd (let z : ◌≡◌ {A = ℕ} 0 (length (n ∷ ns)) = ap length (sym m ∙ e) in let y : ⊥ = omega arith in y)
      go (next k l j s m) rest =
          let z : k ≡ n = ap (λ (xs : List ℕ). get_or xs 0 0) (sym m ∙ e) in
          let w : after n ≡ ns = ap after (sym z) ∙ ap (drop 1) (sym m ∙ e) in
          (s ∙ rw z, omega arith, rest n w)

  -- From mark 0: exactly the selected rows, then none.
  pub shown-all : (ns : List ℕ) → Shows 0 ns → ns ≡ selected_rows selected rows
  unfolding selected_rows
  shown-all ns h = shown-are 0 ns h

  pub all_shown : Shows 0 (selected_rows selected rows)
  unfolding selected_rows
  all_shown = comes-to 0 (selected_from selected 1 rows) refl

-- The list of selected rows is ascending and contains exactly the selected row numbers.

-- n is in the list
abbrev pub In : ℕ → List ℕ → Type 0
In n [] = ⊥
In n (x ∷ xs) = (n ≡ x) ⊎ In n xs

-- strictly ascending, from q or above
abbrev pub Rising : ℕ → List ℕ → Type 0
Rising q [] = Unit {0}
Rising q (x ∷ xs) = (q ≤ x) × Rising (x + 1) xs

rising-less : (p q : ℕ) (xs : List ℕ) → p ≤ q → Rising q xs → Rising p xs
rising-less p q [] h k = tt
rising-less p q (x ∷ xs) h k = (omega (arith, k.0), k.1)

module _ (selected : List ℕ → Bool) where
  from-rise : (q : ℕ) (rows : List (List ℕ)) → Rising q (selected_from selected q rows)
  unfolding selected_from
  from-rise q [] = tt
  from-rise q (row ∷ rows) = go (selected row) (from-rise (q + 1) rows)
    where
      go : (b : Bool) → Rising (q + 1) (selected_from selected (q + 1) rows)
          → Rising q (cond b (q ∷ selected_from selected (q + 1) rows) (selected_from selected (q + 1) rows))
      go true r = (omega arith, r)
      go false r = rising-less q (q + 1) (selected_from selected (q + 1) rows) (omega arith) r

  from_in : (q : ℕ) (rows : List (List ℕ)) (k : ℕ) → k < length rows → selected (get_or rows k []) ≡ true → In (q + k) (selected_from selected q rows)
  unfolding selected_from
  from_in q [] k h m = absurd (let z : ⊥ = omega arith in z)
  from_in q (row ∷ rows) zero h m = rw m (inl (omega arith))
  from_in q (row ∷ rows) (suc k) h m =
      let e : q + 1 + k ≡ q + suc k = omega arith in
      go (selected row) (rw e at (from_in (q + 1) rows k (omega arith) m))
    where
      go : (b : Bool) → In (q + suc k) (selected_from selected (q + 1) rows)
          → In (q + suc k) (cond b (q ∷ selected_from selected (q + 1) rows) (selected_from selected (q + 1) rows))
      go true i = inr i
      go false i = i

  in-from : (q : ℕ) (rows : List (List ℕ)) (n : ℕ)
      → In n (selected_from selected q rows) → (k : ℕ) × (n ≡ q + k) × (k < length rows) × (selected (get_or rows k []) ≡ true)
  unfolding selected_from
  in-from q [] n i = absurd i
  in-from q (row ∷ rows) n i = go (selected row) refl i (in-from (q + 1) rows n)
    where
      later : (k : ℕ) × (n ≡ q + 1 + k) × (k < length rows) × (selected (get_or rows k []) ≡ true)
          → (k : ℕ) × (n ≡ q + k) × (k < length (row ∷ rows)) × (selected (get_or (row ∷ rows) k []) ≡ true)
      later f = (suc f.0, omega (arith, f.1), omega (arith, f.2), f.3)

      go : (b : Bool) → selected row ≡ b → In n (cond b (q ∷ selected_from selected (q + 1) rows) (selected_from selected (q + 1) rows))
          → (In n (selected_from selected (q + 1) rows) → (k : ℕ) × (n ≡ q + 1 + k) × (k < length rows) × (selected (get_or rows k []) ≡ true))
          → (k : ℕ) × (n ≡ q + k) × (k < length (row ∷ rows)) × (selected (get_or (row ∷ rows) k []) ≡ true)
      go true e (inl s) rest = (0, omega arith, omega arith, e)
      go true e (inr j) rest = later (rest j)
      go false e j rest = later (rest j)

module _ (selected : List ℕ → Bool) (rows : List (List ℕ)) where
  -- Ascending: each row once, in row order.
  pub selected-rise : Rising 1 (selected_rows selected rows)
  unfolding selected_rows
  selected-rise = from-rise selected 1 rows

  -- A selected row is in the list, and each number of the list is that of a selected row.
  pub selected-in : (n : ℕ) → 1 ≤ n → n ≤ length rows → selected (get_or rows (n - 1) []) ≡ true → In n (selected_rows selected rows)
  unfolding selected_rows
  selected-in n low high m =
      let e : 1 + (n - 1) ≡ n = omega arith in
      rw e at (from_in selected 1 rows (n - 1) (omega arith) m)

  pub in-selected : (n : ℕ) → In n (selected_rows selected rows) → (1 ≤ n) × (n ≤ length rows) × (selected (get_or rows (n - 1) []) ≡ true)
  unfolding selected_rows
  in-selected n i =
      let f = in-from selected 1 rows n i in
      let e : f.0 ≡ n - 1 = omega (arith, f.1) in
      (omega (arith, f.1), omega (arith, f.1, f.2), rw e at f.3)

-- A weaker predicate selects every row that the stronger one selects.
pub more-selected : (less more : List ℕ → Bool) → ((row : List ℕ) → less row ≡ true → more row ≡ true)
    → (rows : List (List ℕ)) (n : ℕ) → In n (selected_rows less rows) → In n (selected_rows more rows)
more-selected less more wider rows n i =
    let f = in-selected less rows n i in
    selected-in more rows n f.0 f.1 (wider (get_or rows (n - 1) []) f.2)

-- The first list is a subsequence of the second.
pub data Sublist : List ℕ → List ℕ → Type 0 where
  nil : Sublist [] []
  skip : (y : ℕ) (xs ys : List ℕ) → Sublist xs ys → Sublist xs (y ∷ ys)
  keep : (x : ℕ) (xs ys : List ℕ) → Sublist xs ys → Sublist (x ∷ xs) (x ∷ ys)

module _ (less more : List ℕ → Bool) (wider : (row : List ℕ) → less row ≡ true → more row ≡ true) where
  from-sublist : (q : ℕ) (rows : List (List ℕ)) → Sublist (selected_from less q rows) (selected_from more q rows)
  unfolding selected_from
  from-sublist q [] = nil
  from-sublist q (row ∷ rows) = go (less row) (more row) (wider row) (from-sublist (q + 1) rows)
    where
      go : (a b : Bool) → (a ≡ true → b ≡ true) → Sublist (selected_from less (q + 1) rows) (selected_from more (q + 1) rows)
          → Sublist (cond a (q ∷ selected_from less (q + 1) rows) (selected_from less (q + 1) rows))
          (cond b (q ∷ selected_from more (q + 1) rows) (selected_from more (q + 1) rows))
      go true true w r = keep q _ _ r
      go true false w r = bool_clash false (w refl) refl
      go false true w r = skip q _ _ r
      go false false w r = r

  pub selected-sublist : (rows : List (List ℕ)) → Sublist (selected_rows less rows) (selected_rows more rows)
  unfolding selected_rows
  selected-sublist rows = from-sublist 1 rows
