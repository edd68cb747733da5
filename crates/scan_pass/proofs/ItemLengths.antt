-- The lengths of a level's blocks and pairs.
use mathlib.Core.List.{List}
use mathlib.Core.Path.{◌≡◌, ap, ◌∙◌}
use mathlib.Core.Logic.{◌⊎◌, inl, inr}
use Prim.Native.Nat.{ℕ, ◌+◌, ◌-◌, ◌*◌, ◌/◌, ◌%◌, ◌≤◌, ◌<◌, min}
use native.Mathlib.Omega.{arith}
use native.Mathlib.Nat.{mul-one}
use lib.ListN.{length}
use Rattle.text.specs.ListLaws.{lt-or-ge}
use Rattle.format.specs.Layout.{word_at}
use Rattle.scan_hash_table.specs.declared.Items.{Items}
use Rattle.scan_hash_table.specs.Entries.{Placed, start_at, length_at}
use Rattle.scan_pass.specs.Passes.{Present, Ordered}

module _ (T out : List ℕ) (it : Items) where
  pub start-same : (x y : ℕ) → x / 2 ≡ y / 2 → start_at T out it x ≡ start_at T out it y
  unfolding start_at
  start-same x y e = ap (λ (k : ℕ). word_at out (it.records + k * it.step)) e

  pub block-length : (x : ℕ) → x % 2 ≡ 0 → length_at T out it x ≡ min it.size (length T - start_at T out it x)
  unfolding length_at
  block-length x e = ap (λ (k : ℕ). min (it.size * (k + 1)) (length T - start_at T out it x)) e
      ∙ ap (λ (k : ℕ). min k (length T - start_at T out it x)) (mul-one it.size)

  pub pair-length : (x : ℕ) → x % 2 ≡ 1 → length_at T out it x ≡ min (it.size + it.size) (length T - start_at T out it x)
  unfolding length_at
  pair-length x e = ap (λ (k : ℕ). min (it.size * (k + 1)) (length T - start_at T out it x)) e
      ∙ ap (λ (k : ℕ). min k (length T - start_at T out it x)) (let z : it.size * 2 ≡ it.size + it.size = omega arith in z)

  module _ (o : Ordered T out it) (h : Placed T out it) where
    pub length-low : (x : ℕ) → x < it.items → 1 ≤ length_at T out it x
    length-low x l = go (lt-or-ge (x % 2) 1)
      where
        go : (x % 2 < 1) ⊎ (1 ≤ x % 2) → 1 ≤ length_at T out it x
        go (inl a) = omega (arith, block-length x (omega arith), h.within x l, o.size_low)
        go (inr a) = omega (arith, pair-length x (omega arith), h.within x l, o.size_low)

    pub length_high : (x : ℕ) → x < it.items → start_at T out it x + length_at T out it x ≤ length T
    length_high x l = go (lt-or-ge (x % 2) 1)
      where
        go : (x % 2 < 1) ⊎ (1 ≤ x % 2) → start_at T out it x + length_at T out it x ≤ length T
        go (inl a) = omega (arith, block-length x (omega arith), h.within x l)
        go (inr a) = omega (arith, pair-length x (omega arith), h.within x l)

    pub length_most : (x : ℕ) → length_at T out it x ≤ it.size + it.size
    length_most x = go (lt-or-ge (x % 2) 1)
      where
        go : (x % 2 < 1) ⊎ (1 ≤ x % 2) → length_at T out it x ≤ it.size + it.size
        go (inl a) = omega (arith, block-length x (omega arith))
        go (inr a) = omega (arith, pair-length x (omega arith))

    -- A block that is not the last is full.
    pub full_block : (x : ℕ) → x % 2 ≡ 0 → x + 1 < it.items → length_at T out it x ≡ it.size
    full_block x e l = omega (
      arith,
      block-length x e,
      o.items_are,
      o.rising x (x + 2) (omega arith) (omega (arith, o.items_are)),
      h.within (x + 2) (omega (arith, o.items_are)),
    )

    -- A pair: its first block is full, and the second follows.
    module _ (x : ℕ) (odd : x % 2 ≡ 1) (l : x < it.items) (p : start_at T out it (x + 1) ≡ start_at T out it x + it.size) where
      pub next-in : x + 1 < it.items
      next-in = omega (arith, o.items_are)

      pub pair_parts : length_at T out it x ≡ it.size + length_at T out it (x + 1)
      pair_parts = omega (arith, pair-length x odd, block-length (x + 1) (omega arith), p, h.within (x + 1) next-in)

      pub pair-longer : it.size < length_at T out it x
      pair-longer = omega (arith, pair_parts, length-low (x + 1) next-in)

    even-or-odd : (x : ℕ) → (x % 2 ≡ 0) ⊎ (x % 2 ≡ 1)
    even-or-odd x = go (lt-or-ge (x % 2) 1)
      where
        go : (x % 2 < 1) ⊎ (1 ≤ x % 2) → (x % 2 ≡ 0) ⊎ (x % 2 ≡ 1)
        go (inl a) = inl (omega arith)
        go (inr a) = inr (omega arith)

    pub pair-there : (x : ℕ) → x % 2 ≡ 1 → Present T out it x → start_at T out it (x + 1) ≡ start_at T out it x + it.size
    pair-there x e (inl a) = absurd (let z : ⊥ = omega arith in z)
    pair-there x e (inr a) = a

    -- Only the last block is short, and only the pair that ends with it is cut.
    pub short-is-last : (x : ℕ) → x < it.items → Present T out it x → length_at T out it x < it.size → x ≡ 2 * o.last
    short-is-last x l p s = go (even-or-odd x) (lt-or-ge (x + 1) it.items)
      where
        go : (x % 2 ≡ 0) ⊎ (x % 2 ≡ 1) → (x + 1 < it.items) ⊎ (it.items ≤ x + 1) → x ≡ 2 * o.last
        go (inl e) (inl a) = absurd (let z : ⊥ = omega (arith, full_block x e a) in z)
        go (inl e) (inr a) = omega (arith, o.items_are)
        go (inr e) b = absurd (let z : ⊥ = omega (arith, pair-longer x e l (pair-there x e p)) in z)

    pub cut-is-last : (x : ℕ)
        → x < it.items → Present T out it x → it.size < length_at T out it x → length_at T out it x < it.size + it.size → x + 1 ≡ 2 * o.last
    cut-is-last x l p a b = go (even-or-odd x)
      where
        odd-case : x % 2 ≡ 1 → (x + 2 < it.items) ⊎ (it.items ≤ x + 2) → x + 1 ≡ 2 * o.last
        odd-case e (inl c) = absurd (let z : ⊥ = omega (arith, pair_parts x e l (pair-there x e p), full_block (x + 1) (omega arith) (omega arith)) in z)
        odd-case e (inr c) = omega (arith, o.items_are)

        go : (x % 2 ≡ 0) ⊎ (x % 2 ≡ 1) → x + 1 ≡ 2 * o.last
        go (inl e) = absurd (let z : ⊥ = omega (arith, block-length x e) in z)
        go (inr e) = odd-case e (lt-or-ge (x + 2) it.items)
