-- The steps of the loops over the header, and the rest of question 7.
use mathlib.Core.List.{List}
use mathlib.Core.Bool.{Bool, true, false, ◌&&◌}
use mathlib.Core.Path.{◌≡◌, refl, sym, ap, ◌∙◌}
use Prim.Native.Nat.{ℕ, zero, suc, ◌+◌, ◌-◌, ◌*◌, ◌%◌, ◌^◌, ◌≤◌, ◌<◌}
use native.Mathlib.Omega.{arith}
use native.Mathlib.Nat.{mul-suc, one-le-pow, mul-le-mul}
use lib.ListN.{length, get_or}
use lib.Dec.{eqb, ltb}
use borrow.Author.Tests.{eq-eqb, ne_eqb, lt-ltb, le-ltb}
use Rattle.text.specs.Text.{all_below, sum_below}
use Rattle.text.specs.ListLaws.{and_both, and-false, sum_below-suc}
use Rattle.format.specs.Layout.{max_text, max_counted, word_at, layout_at, text_length_at, leaf_at, counted_count_at, counted_at, pairs_at}
use Rattle.format.specs.Layout.{count_at, offset_at, leaf_offset_at, leaf_count_at, header_length}
use Rattle.format.specs.Layout as at
use Rattle.format.specs.SizeLaws.{max_record, record-high}
use Rattle.format.specs.WordLaws.{word_at-lt}
use Rattle.layout.specs.declared.settings.Settings.{Settings}
use Rattle.layout.specs.Header.{zero_level, follows, tables_meet, rest_right, spare_counted, spare_levels, HasSettings}

-- A number x with more above it in units of P is below p exactly where x is and there is no more.
low_part : (x P more p : ℕ) → p ≤ P → ltb (x + P * more) p ≡ (ltb x p && eqb more 0)
low_part x P zero p small = let e : x + P * 0 ≡ x = omega arith in rw e (alone (ltb x p))
  where
    alone : (r : Bool) → r ≡ (r && true)
    alone true = refl
    alone false = refl
low_part x P (suc more) p small =
    rw (le-ltb (x + P * suc more) p (rw (mul-suc P more) (omega arith)), ne_eqb (suc more) 0 (λ e. omega arith)) (sym (and-false (ltb x p)))

below_one : (x : ℕ) → ltb x 1 ≡ eqb x 0
below_one zero = refl
below_one (suc x) = le-ltb (suc x) 1 (omega arith) ∙ sym (ne_eqb (suc x) 0 (λ e. omega arith))

-- The places for counted bytes are a word: those from the k-th on are zero exactly where it is below 256^k.
module _ (t : List ℕ) (byte : (x : ℕ) → get_or t x 0 < 256) where
  abbrev place : ℕ → ℕ
  place x = get_or t (counted_at + x) 0

  abbrev low_two : ℕ
  low_two = place 0 + 256 * place 1

  abbrev low_three : ℕ
  low_three = low_two + 65536 * place 2

  -- The word is below p exactly where its low bytes are and its other bytes are zero.
  after-third : (p : ℕ) → p ≤ 16777216 → ltb (low_three + 16777216 * place 3) p ≡ (ltb low_three p && eqb (place 3) 0)
  after-third p small = low_part low_three 16777216 (place 3) p small

  after-second : (p : ℕ) → p ≤ 65536 → ltb (low_three + 16777216 * place 3) p ≡ ((ltb low_two p && eqb (place 2) 0) && eqb (place 3) 0)
  after-second p small = after-third p (omega arith) ∙ rw (low_part low_two 65536 (place 2) p small)

  after_first : (p : ℕ) → p ≤ 256 → ltb (low_three + 16777216 * place 3) p ≡ (((ltb (place 0) p && eqb (place 1) 0) && eqb (place 2) 0) && eqb (place 3) 0)
  after_first p small = after-second p (omega arith) ∙ rw (low_part (place 0) 256 (place 1) p small)

  word_below : (k : ℕ) → k ≤ max_counted → ltb (word_at t counted_at) (1 * 2 ^ (8 * k) % 18446744073709551616) ≡ spare_counted t k
  unfolding word_at spare_counted all_below
  word_below zero low = after_first 1 (omega arith) ∙ rw (below_one (place 0))
  word_below (suc zero) low = after_first 256 (omega arith) ∙ rw (lt-ltb (place 0) 256 (byte counted_at))
  word_below (suc (suc zero)) low = after-second 65536 (omega arith) ∙ rw (lt-ltb low_two 65536 (omega (arith, byte counted_at, byte (counted_at + 1))))
  word_below (suc (suc (suc zero))) low =
      after-third 16777216 (omega arith) ∙ rw (lt-ltb low_three 16777216 (omega (arith, byte counted_at, byte (counted_at + 1), byte (counted_at + 2))))
  word_below (suc (suc (suc (suc zero)))) low = lt-ltb (word_at t counted_at) 4294967296 (word_at-lt t counted_at byte)
  word_below (suc (suc (suc (suc (suc k))))) low = absurd (let z : ⊥ = omega arith in z)

  pub spare-below : (k w : ℕ) → k ≤ max_counted → w ≡ word_at t counted_at → ltb w (1 * 2 ^ (8 * k) % 18446744073709551616) ≡ spare_counted t k
  spare-below k w low w-is = rw w-is (word_below k low)

module _ (t : List ℕ) where
  -- A level that is not there: both its words are zero exactly where their sum, with the second as the high word, is.
  module _ (H x count offset : ℕ) (c_is : count ≡ word_at t (count_at (H + x))) (o_is : offset ≡ word_at t (offset_at (H + x))) where
    level-words : zero_level t H x ≡ (eqb count 0 && eqb offset 0)
    unfolding at.level_count at.level_offset
    level-words = rw (c_is, o_is)

    pub level-used : (count + 4294967296 * offset ≡ 0 → ⊥) → zero_level t H x ≡ false
    level-used n = level-words ∙ go count offset n
      where
        go : (x y : ℕ) → (x + 4294967296 * y ≡ 0 → ⊥) → (eqb x 0 && eqb y 0) ≡ false
        go zero y n = ne_eqb y 0 (λ e. n (omega arith))
        go (suc x) y n = rw (ne_eqb (suc x) 0 (λ e. omega arith))

    pub level-zero : count + 4294967296 * offset ≡ 0 → zero_level t H x ≡ true
    level-zero z = level-words ∙ and_both (eq-eqb count 0 (omega arith)) (eq-eqb offset 0 (omega arith))

  -- A level's records, after the levels above it.
  module _ (l end offset : ℕ) (e-is : end ≡ header_length + sum_below l (at.level_count t) * at.record_size t) (o_is : offset ≡ word_at t (offset_at l)) where
    pub apart : (offset ≡ end → ⊥) → follows t l ≡ false
    unfolding at.level_offset
    apart n = ne_eqb _ _ (λ e. n (o_is ∙ e ∙ sym e-is))

    pub meets : offset ≡ end → follows t l ≡ true
    unfolding at.level_offset
    meets e = eq-eqb _ _ (sym o_is ∙ e ∙ e-is)

  pub end_none : header_length ≡ header_length + sum_below 0 (at.level_count t) * at.record_size t
  unfolding sum_below
  end_none = omega arith

  pub end_more : (l end count size more : ℕ) → end ≡ header_length + sum_below l (at.level_count t) * at.record_size t → count ≡ word_at t (count_at l)
      → size ≡ at.record_size t → more ≡ count * size → end + more ≡ header_length + sum_below (l + 1) (at.level_count t) * at.record_size t
  unfolding at.level_count
  end_more l end count size more e c s m =
      rw (sum_below-suc l (at.level_count t), e, m, c, s) (omega arith)

  -- The tables meet: all levels do, and the leaf bytes follow.
  module _ (H end leaf : ℕ) (e-is : end ≡ header_length + sum_below H (at.level_count t) * at.record_size t)
      (leaf_is : leaf ≡ word_at t leaf_offset_at) (all : all_below H (follows t) ≡ true) where
    pub leaves-meet : eqb leaf end ≡ tables_meet t H
    unfolding tables_meet at.leaf_offset
    leaves-meet = rw (all, leaf_is, e-is)

  pub level-apart : (H : ℕ) → false ≡ all_below H (follows t) → false ≡ tables_meet t H
  unfolding tables_meet
  level-apart H f = rw (← f)

  -- The rest of question 7, of the header's own settings.
  module _ (s : Settings) (h : HasSettings t s) where
    pub block_is : (b : ℕ) → b ≡ s.leaf * s.arity ^ (s.levels - 1 - 0) → b ≡ at.full_length t 0
    unfolding at.full_length at.settings at.block_length
    block_is b e = rw (e, h.leaf_is, h.arity_is, h.levels_is)

    pub block-bounds : (b : ℕ) → b ≡ at.full_length t 0 → (0 < b) × (b ≤ max_text)
    block-bounds b b_is =
        let e : b ≡ s.leaf * s.arity ^ (s.levels - 1 - 0) = b_is ∙ sym (block_is _ refl) in
        let e' : s.levels - 1 - 0 ≡ s.levels - 1 = omega arith in
        let low : 1 ≤ s.leaf * s.arity ^ (s.levels - 1) =
        mul-le-mul {n₁ = 1} {m₁ = 1} h.bounds.leaf_low (one-le-pow (s.levels - 1) s.arity (omega (arith, h.bounds.arity_low))) in
        rw (e, e') (low, h.bounds.top_high)

    pub size_is : (v size : ℕ) → v ≡ word_at t layout_at → size ≡ at.record_length v s.leaf s.counted → size ≡ at.record_size t
    unfolding at.record_size at.layout at.settings at.counted_count
    size_is v size v-is e = rw (e, v-is, h.leaf_is, h.counted_is)

    pub size-high : (size : ℕ) → size ≡ at.record_size t → size ≤ max_record
    unfolding at.record_size at.layout at.settings at.counted_count
    size-high size e =
        rw e (record-high (word_at t layout_at) (word_at t leaf_at) (word_at t counted_count_at) (rw (← h.leaf_is) h.bounds.leaf_high)
        (rw (← h.counted_is) h.bounds.counted_high))

    counted-here : (r : Bool) → r ≡ spare_counted t s.counted → r ≡ spare_counted t (at.counted_count t)
    unfolding at.counted_count
    counted-here r e = e ∙ ap (spare_counted t) h.counted_is

    levels-here : (r : Bool) (f : ℕ → Bool) → r ≡ f s.levels → r ≡ f (at.settings t).levels
    unfolding at.settings
    levels-here r f e = e ∙ ap f h.levels_is

    pub rest-counted : spare_counted t s.counted ≡ false → false ≡ rest_right t
    unfolding rest_right
    rest-counted f = rw (sym (counted-here _ (sym f)))

    module _ (d : spare_counted t s.counted ≡ true) where
      pub rest-levels : spare_levels t s.levels ≡ false → false ≡ rest_right t
      unfolding rest_right
      rest-levels f = rw (sym (counted-here _ (sym d)), sym (levels-here _ (spare_levels t) (sym f)))

      module _ (e : spare_levels t s.levels ≡ true)
          (count n b : ℕ) (count_is : count ≡ word_at t pairs_at) (n-is : n ≡ word_at t text_length_at) (b_is : b ≡ at.full_length t 0) where
        level0-is : (r : Bool) → eqb count (at.pieces n b) ≡ r → eqb (at.level_count t 0) (at.pieces (at.text_length t) (at.full_length t 0)) ≡ r
        unfolding at.level_count at.text_length
        level0-is r q = rw (← count_is, ← n-is, ← b_is) q

        pub rest-level0 : (count ≡ at.pieces n b → ⊥) → false ≡ rest_right t
        unfolding rest_right
        rest-level0 f =
            rw (sym (counted-here _ (sym d)), sym (levels-here _ (spare_levels t) (sym e)), level0-is false (ne_eqb _ _ f))

        module _ (f : count ≡ at.pieces n b) where
          pub rest-tables : tables_meet t s.levels ≡ false → false ≡ rest_right t
          unfolding rest_right
          rest-tables g =
              rw (
                sym (counted-here _ (sym d)),
                sym (levels-here _ (spare_levels t) (sym e)),
                level0-is true (eq-eqb _ _ f),
                sym (levels-here _ (tables_meet t) (sym g)),
              )

          pub rest-length : tables_meet t s.levels ≡ true
              → (x y : ℕ) → x ≡ word_at t leaf_offset_at → y ≡ word_at t leaf_count_at → eqb (length t) (x + y) ≡ rest_right t
          unfolding rest_right at.leaf_offset at.leaf_count
          rest-length g x y ex ey =
              rw (
                sym (counted-here _ (sym d)),
                sym (levels-here _ (spare_levels t) (sym e)),
                level0-is true (eq-eqb _ _ f),
                sym (levels-here _ (tables_meet t) (sym g)),
                ex,
                ey,
              )
