-- Items: their bytes, and whether the bytes at a place are equal to them.
use mathlib.Core.List.{List}
use mathlib.Core.Bool.{Bool, true, false, ◌&&◌}
use mathlib.Core.Path.{◌≡◌, sym, ap, ◌∙◌}
use Prim.Native.Nat.{ℕ, ◌+◌, ◌-◌, ◌*◌, ◌/◌, ◌%◌, ◌≤◌, ◌<◌, min}
use native.Mathlib.Omega.{arith}
use native.Mathlib.Nat.{mod-lt, mul-le-mul}
use lib.ListN.{length}
use lib.Dec.{eqb}
use borrow.Author.Tests.{eq-eqb, ne_eqb, eqb-true}
use Rattle.text.specs.Text.{same_list, substring}
use Rattle.text.specs.ListLaws.{eq-same_list, same_list-true, and_left, and_right, bool_clash}
use Rattle.format.specs.Layout.{word_at, max_text}
use Rattle.scan_hash_table.specs.declared.Items.{Items}
use Rattle.scan_hash_table.specs.Entries.{Placed, RunIs, start_at, length_at, bytes_at}

module _ (T out : List ℕ) (it : Items) (h : Placed T out it) (x : ℕ) (l : x < it.items) where
  pub full-few : it.size * (x % 2 + 1) ≤ max_text * 2
  full-few = mul-le-mul {n₂ = max_text} {m₂ = 2} h.size_few (omega (arith, mod-lt x {m = 2} (omega arith)))

  pub fits : start_at T out it x + length_at T out it x ≤ length T
  unfolding length_at
  fits = omega (arith, h.within x l)

  module _ (s : ℕ) (s-is : s ≡ word_at out (it.records + x / 2 * it.step)) where
    pub start-in : s < length T
    unfolding start_at
    start-in = omega (arith, s-is, h.within x l)

    pub run_is : (n : ℕ) → n ≡ min (it.size * (x % 2 + 1)) (length T - s) → RunIs T out it x (record { start = record { 0 = s }; length = n })
    unfolding start_at length_at
    run_is n n-is = record {
      start_is = s-is;
      length_is = n-is ∙ ap (λ (k : ℕ). min (it.size * (x % 2 + 1)) (length T - k)) s-is;
      fits = omega (arith, n-is, start-in);
    }

-- The result of `occurs_at`.
module _ (T out : List ℕ) (it : Items) (x p n : ℕ) where
  abbrev Equal : Bool
  Equal = eqb (length_at T out it x) n && same_list (bytes_at T out it x) (substring T p n)

  pub other_length : (length_at T out it x ≡ n → ⊥) → false ≡ Equal
  other_length d = rw (ne_eqb (length_at T out it x) n d)

  pub same_length : (s : ℕ) (r : Bool) → s ≡ start_at T out it x → length_at T out it x ≡ n → r ≡ same_list (substring T s n) (substring T p n) → r ≡ Equal
  unfolding bytes_at
  same_length s r es en er = er ∙ rw (es, eq-eqb (length_at T out it x) n en, en)

  module _ (r : Bool) (r-is : r ≡ Equal) where
    pub equal-length : r ≡ true → length_at T out it x ≡ n
    equal-length e = eqb-true _ _ (and_left (eqb (length_at T out it x) n) (same_list (bytes_at T out it x) (substring T p n)) (sym r-is ∙ e))

    pub equal-bytes : r ≡ true → bytes_at T out it x ≡ substring T p n
    equal-bytes e = same_list-true _ _ (and_right (eqb (length_at T out it x) n) (same_list (bytes_at T out it x) (substring T p n)) (sym r-is ∙ e))

    pub equal-not : r ≡ false → length_at T out it x ≡ n → bytes_at T out it x ≡ substring T p n → ⊥
    equal-not e en es = bool_clash r (r-is ∙ rw (eq-eqb (length_at T out it x) n en, eq-same_list (bytes_at T out it x) (substring T p n) es)) e
