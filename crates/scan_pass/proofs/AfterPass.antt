-- The results in the table after the pass.
use mathlib.Core.List.{List}
use mathlib.Core.Path.{◌≡◌, sym, ap, ◌∙◌, subst}
use mathlib.Core.Logic.{◌⊎◌, inl, inr}
use Prim.Native.Nat.{ℕ, ◌+◌, ◌-◌, ◌/◌, ◌≤◌, ◌<◌}
use native.Mathlib.Omega.{arith}
use lib.ListN.{length}
use borrow.Author.Tests.{lt-ltb, le-ltb}
use Rattle.text.specs.ListLaws.{lt-or-ge}
use Rattle.text.specs.Text.{substring, leftmost}
use Rattle.text.specs.TextLaws.{leftmost-le}
use Rattle.scan_hash_table.specs.declared.Items.{Items}
use Rattle.scan_hash_table.specs.Entries.{Laid, Listed, start_at, length_at, bytes_at, item_place_in}
use Rattle.scan_pass.specs.Passes.{Present, Ordered, EnteredItems, Passed, Answered, place_put}
use Rattle.scan_pass.proofs.ItemLengths.{pair-longer, pair-there, block-length}
use Rattle.scan_pass.proofs.PassLaws.{leftmost-same-bytes}

module _ (T out : List ℕ) (it : Items) (W Z : List ℕ) (e : EnteredItems T out it W it.items) (o : Ordered T out it) (q : Passed T out it W Z) where
  module _ (x : ℕ) (xl : x < it.items) (p : Present T out it x) where
    -- An item in a chain.
    module _ (i : Listed T out it W x) where
      place-listed : item_place_in Z x < length T
      place-listed = q.searched.listed x xl i

      out_listed : place_put (length T) Z x ≡ leftmost T (start_at T out it x) (length_at T out it x)
      unfolding place_put
      out_listed = rw (lt-ltb (item_place_in Z x) (length T) place-listed) (q.found x xl i)

    -- An item equal to an earlier one.
    module _ (u : length T ≤ item_place_in W x) where
      y : ℕ
      y = item_place_in W x - length T

      w : (y < x) × Listed T out it W y × (length_at T out it y ≡ length_at T out it x) × (bytes_at T out it y ≡ bytes_at T out it x)
      unfolding y
      w = e.equal_item x xl p (item_place_in W x - length T) (omega arith)

      kept : item_place_in Z x ≡ item_place_in W x
      kept = q.searched.others x xl u

      equal-first : leftmost T (start_at T out it y) (length_at T out it y) ≡ leftmost T (start_at T out it x) (length_at T out it x)
      unfolding bytes_at
      equal-first =
          ap (leftmost T (start_at T out it y)) w.2
          ∙ leftmost-same-bytes T (start_at T out it y) (start_at T out it x) (length_at T out it x)
          (ap (substring T (start_at T out it y)) (sym w.2) ∙ w.3)

      out-equal : place_put (length T) Z x ≡ leftmost T (start_at T out it x) (length_at T out it x)
      unfolding place_put y
      out-equal = rw (le-ltb (item_place_in Z x) (length T) (omega (arith, kept)))
          (ap (λ (k : ℕ). item_place_in Z (k - length T)) kept ∙ q.found y (omega (arith, w.0)) w.1 ∙ equal-first)

      equal-low : item_place_in Z x < length T + x
      unfolding y
      equal-low = omega (arith, kept, w.0)

      -- An equal item is before it in the text.
      block-before : y / 2 < x / 2 → start_at T out it y < start_at T out it x
      block-before l = omega (arith, o.rising y x l xl, o.size_low)

      apart : (y / 2 < x / 2) ⊎ (x / 2 ≤ y / 2) → y / 2 < x / 2
      apart (inl a) = a
      apart (inr a) = absurd (let z : ⊥ = omega (
        arith,
        w.0,
        w.2,
        block-length T out it y (omega (arith, w.0)),
        pair-longer T out it o e.laid.placed x (omega (arith, w.0)) xl (pair-there T out it o e.laid.placed x (omega (arith, w.0)) p),
      ) in z)

      not_first : leftmost T (start_at T out it x) (length_at T out it x) ≡ start_at T out it x → ⊥
      not_first f = omega (arith, block-before (apart (lt-or-ge (y / 2) (x / 2))), leftmost-le T (start_at T out it y) (length_at T out it y), equal-first)

    pub place_out : place_put (length T) Z x ≡ leftmost T (start_at T out it x) (length_at T out it x)
    place_out = go (lt-or-ge (item_place_in W x) (length T))
      where
        go : (item_place_in W x < length T) ⊎ (length T ≤ item_place_in W x) → place_put (length T) Z x ≡ leftmost T (start_at T out it x) (length_at T out it x)
        go (inl i) = out_listed i
        go (inr u) = out-equal u

    pub equal-before-low : length T ≤ item_place_in Z x → item_place_in Z x < length T + x
    equal-before-low l = go (lt-or-ge (item_place_in W x) (length T))
      where
        go : (item_place_in W x < length T) ⊎ (length T ≤ item_place_in W x) → item_place_in Z x < length T + x
        go (inl i) = absurd (let z : ⊥ = omega (arith, place-listed i) in z)
        go (inr u) = equal-low u

    pub is-first : item_place_in Z x ≡ start_at T out it x → leftmost T (start_at T out it x) (length_at T out it x) ≡ start_at T out it x
    is-first f = go (lt-or-ge (item_place_in W x) (length T))
      where
        go : (item_place_in W x < length T) ⊎ (length T ≤ item_place_in W x) → leftmost T (start_at T out it x) (length_at T out it x) ≡ start_at T out it x
        go (inl i) = sym (q.found x xl i) ∙ f
        go (inr u) = absurd (let z : ⊥ = omega (arith, kept u, e.laid.placed.within x xl) in z)

    pub is-again : (item_place_in Z x ≡ start_at T out it x → ⊥) → leftmost T (start_at T out it x) (length_at T out it x) ≡ start_at T out it x → ⊥
    is-again n f = go (lt-or-ge (item_place_in W x) (length T))
      where
        go : (item_place_in W x < length T) ⊎ (length T ≤ item_place_in W x) → ⊥
        go (inl i) = n (q.found x xl i ∙ f)
        go (inr u) = not_first u f

  pub answered : Answered T out it Z
  answered = record {
    laid = subst (λ (k : ℕ). Laid T out it k) (sym q.searched.same_length) e.laid;
    place = place_out;
    equal_before = equal-before-low;
    first = is-first;
    again = is-again;
  }
