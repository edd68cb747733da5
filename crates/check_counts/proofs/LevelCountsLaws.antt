-- A level's counts, and those of all levels.
use mathlib.Core.List.{List}
use mathlib.Core.Bool.{true, false}
use mathlib.Core.Path.{◌≡◌, refl, sym}
use mathlib.Core.Logic.{◌⊎◌, inl, inr}
use Prim.Native.Nat.{ℕ, zero, suc, ◌+◌, ◌-◌, ◌*◌, ◌/◌, ◌≤◌, ◌<◌}
use native.Mathlib.Omega.{arith}
use native.Mathlib.Nat.{mul-le-mul}
use native.Mathlib.Numerals.{add-one}
use Rattle.text.specs.Text.{all_below}
use Rattle.text.specs.ListLaws.{bool_cases, bool_clash, lt-or-ge, all_below-at, all_below-make, all_below-not}
use Rattle.format.specs.Layout.{max_text, max_arity}
use Rattle.format.specs.Layout as at
use Rattle.format.specs.LayoutLaws.{full-step, full-last, full-small}
use Rattle.format.specs.TreeReading.{text_of, counts_true}
use Rattle.layout.specs.declared.header.Header.{Header}
use Rattle.theory_counts.specs.CountsLocal.{up_length, block_local, level_local}
use Rattle.theory_counts.specs.LevelTrue.{Level, counts-facts, counts-make}
use Rattle.theory_counts.specs.CountsExact.{level-true, level-local}
use Rattle.check_counts.specs.CountsAsked.{Linking, TrueBelow}
use Rattle.check_counts.specs.PrefixTargets.{child_length, byte_local}
use Rattle.check_counts.proofs.CountsHeader as facts

module _ (t : List ℕ) (h : Header) (w : Linking t h) where
  pub counted-low : (c : ℕ) → c < h.settings.counted → c < at.counted_count t
  counted-low c l = omega (arith, facts.counted_is t h w)

  pub up_top : (level : ℕ) → level ≡ 0 → h.text_length ≡ up_length t level
  unfolding up_length
  up_top level z = rw z (facts.length_is t h w)

  under : (l : ℕ) → suc l < (at.settings t).levels → at.full_length t (suc l) * (at.settings t).arity ≡ up_length t (suc l)
  unfolding up_length
  under l hl = sym (rw (add-one l) at (full-step t w.header.facts l (omega arith)))

  pub up-under : (level b : ℕ)
      → b ≡ at.full_length t level → level < (at.settings t).levels → (level ≡ 0 → ⊥) → b * h.settings.arity ≡ up_length t level
  up-under zero b e hl n = absurd (n refl)
  up-under (suc l) b e hl n = rw (e, facts.arity_is t h w) (under l hl)

  -- No product of a block length with the arity wraps.
  pub up_small : (level b : ℕ) → b ≡ at.full_length t level → b * h.settings.arity ≤ max_text * max_arity
  up_small level b e = rw (e, facts.arity_is t h w) (mul-le-mul (full-small t w.header.facts level) w.header.facts.bounds.arity_high)

  pub child-length-is : (level b : ℕ) → b ≡ at.full_length t level → b / h.settings.arity ≡ child_length t level
  unfolding child_length
  child-length-is level b e = rw (e, facts.arity_is t h w)

  -- All blocks, one counted byte after the other.
  module _ (level : ℕ) where
    pub bytes-done : (c : ℕ) → ((x : ℕ) → x < c → byte_local t level x ≡ true) → h.settings.counted ≤ c → true ≡ level_local t level
    unfolding level_local byte_local
    bytes-done c f l =
        sym (all_below-make (at.level_count t level) (λ i. all_below (at.counted_count t) (block_local t level i))
        (λ i hi. all_below-make (at.counted_count t) (block_local t level i)
        (λ x hx. all_below-at (at.level_count t level) (λ j. block_local t level j x) (f x (omega (arith, facts.counted_is t h w))) i hi)))

    byte-holds : (c : ℕ) → c < h.settings.counted → level_local t level ≡ true → byte_local t level c ≡ true
    unfolding level_local byte_local
    byte-holds c l y =
        all_below-make (at.level_count t level) (λ i. block_local t level i c)
        (λ i hi. all_below-at (at.counted_count t) (block_local t level i)
        (all_below-at (at.level_count t level) (λ j. all_below (at.counted_count t) (block_local t level j)) y i hi) c (counted-low c l))

    pub bytes-fail : (c : ℕ) → c < h.settings.counted → byte_local t level c ≡ false → false ≡ level_local t level
    bytes-fail c l e = go (bool_cases (level_local t level))
      where
        go : (level_local t level ≡ true) ⊎ (level_local t level ≡ false) → false ≡ level_local t level
        go (inl y) = bool_clash (byte_local t level c) (byte-holds c l y) e
        go (inr n) = sym n

  -- The block length of the last level, and of the level above another.
  pub last-length : (left : ℕ) → left ≡ h.settings.levels → 0 < left → h.settings.leaf ≡ at.full_length t (left - 1)
  last-length left e n = rw (e, facts.levels_is t h w, facts.leaf_is t h w) (sym (full-last t w.header.facts))

  pub above-length : (left b : ℕ) → left ≤ h.settings.levels → 0 < left → b ≡ at.full_length t (left - 1)
      → 0 < left - 1 → b * h.settings.arity ≡ at.full_length t (left - 1 - 1)
  above-length left b low some e n =
      let z : left - 1 ≡ left - 1 - 1 + 1 = omega arith in
      rw (e, facts.arity_is t h w) (sym (rw (sym z) at (full-step t w.header.facts (left - 1 - 1) (omega (arith, facts.levels_is t h w)))))

  -- All levels.
  module _ (left : ℕ) (some : 0 < left) (low : left ≤ h.settings.levels) (f : (m : ℕ) → left ≤ m → m < (at.settings t).levels → Level t m) where
    pub below_left : TrueBelow t (left - 1)
    below_left m l hm = f m (omega arith) hm

    pub level_low : left - 1 < (at.settings t).levels
    level_low = omega (arith, facts.levels_is t h w)

    pub level-done : level_local t (left - 1) ≡ true → (m : ℕ) → left - 1 ≤ m → m < (at.settings t).levels → Level t m
    level-done e m l hm = go (lt-or-ge (left - 1) m)
      where
        go : (left - 1 < m) ⊎ (m ≤ left - 1) → Level t m
        go (inl lt) = below_left m lt hm
        go (inr ge) =
            let z : m ≡ left - 1 = omega arith in
            rw z (level-true t w.header.facts (facts.linked t h.record_size (facts.sound t h w)) (left - 1) level_low below_left e)

    pub level-fail : level_local t (left - 1) ≡ false → false ≡ counts_true (text_of t) t
    level-fail e = go (bool_cases (counts_true (text_of t) t))
      where
        go : (counts_true (text_of t) t ≡ true) ⊎ (counts_true (text_of t) t ≡ false) → false ≡ counts_true (text_of t) t
        go (inl y) =
            bool_clash (level_local t (left - 1))
            (level-local t w.header.facts (facts.linked t h.record_size (facts.sound t h w)) (left - 1) level_low below_left
            (counts-facts t y (left - 1) level_low)) e
        go (inr n) = sym n

  pub levels-done : (left : ℕ) → left ≤ 0 → ((m : ℕ) → left ≤ m → m < (at.settings t).levels → Level t m) → true ≡ counts_true (text_of t) t
  levels-done left z f = sym (counts-make t (λ l hl. f l (omega arith) hl))

-- One counted byte, all blocks of a level.
module _ (t : List ℕ) (level c n : ℕ) (n-is : n ≡ at.level_count t level) where
  pub blocks-done : (i : ℕ) → ((x : ℕ) → x < i → block_local t level x c ≡ true) → n ≤ i → true ≡ byte_local t level c
  unfolding byte_local
  blocks-done i f l = sym (all_below-make (at.level_count t level) (λ x. block_local t level x c) (λ x hx. f x (omega arith)))

  pub blocks-fail : (i : ℕ) → i < n → block_local t level i c ≡ false → false ≡ byte_local t level c
  unfolding byte_local
  blocks-fail i l e = sym (all_below-not (at.level_count t level) (λ x. block_local t level x c) i (omega arith) e)
