-- The bounds of a text and of a tree's settings, as facts, and the laws of block lengths and record lengths.
use Rattle.std.specs.Prelude.{[], ◌∷◌, Bool, true, false, cond, ◌&&◌, ◌≡◌, leb, eqb}
use Prim.Native.Nat.{ℕ, suc, ◌+◌, ◌-◌, ◌*◌, ◌^◌, ◌≤◌, ◌<◌}
use native.Mathlib.Omega.{arith}
use Rattle.std.proofs.Math.Nat.{pow-suc, pow-zero, mul-le-mul, mul-le-mul_left, pow-le-pow_right, one-le-pow}
use Rattle.std.proofs.Common.{mul-one, mul_assoc, leb-true, ne_eqb}
use Rattle.text.specs.ListLaws.{and_left, and_right}
use Rattle.text.specs.Conjunctions.{parts}
use Rattle.format.specs.Layout.{field_bytes, Settings, sizes_ok, block_length, record_length, max_text, max_leaf, min_arity, max_arity, max_levels, max_counted}

-- The most bytes of a record.
abbrev pub max_record : ℕ
max_record = field_bytes max_counted + (max_leaf + max_leaf)

-- The one record of bounds: of n, m, r, H and k. The header of a tree that is read, the settings of the code and those that are built with have it.
pub record Bounds (n m r H k : ℕ) : Type 0 where
  pub text_high : n ≤ max_text
  pub leaf_low : 1 ≤ m
  pub leaf_high : m ≤ max_leaf
  pub arity_low : min_arity ≤ r
  pub arity_high : r ≤ max_arity
  pub levels_low : 1 ≤ H
  pub levels_high : H ≤ max_levels
  pub top_high : m * r ^ (H - 1) ≤ max_text
  pub counted_high : k ≤ max_counted

-- Settings that pass question 2 are within them, beside a text and counted bytes that are.
pub within-bounds : (n k : ℕ) (S : Settings) → n ≤ max_text → sizes_ok S ≡ true → k ≤ max_counted → Bounds n S.leaf S.arity S.levels k
unfolding sizes_ok
within-bounds n k S short h few =
    let top = leb (S.leaf * S.arity ^ (S.levels - 1)) max_text in
    let a = parts (leb 1 S.leaf) (leb S.leaf
    max_leaf ∷ (leb min_arity S.arity && leb S.arity max_arity) ∷ (leb 1 S.levels && leb S.levels max_levels && top) ∷ []) h in
    let c = parts (leb 1 S.levels) (leb S.levels max_levels ∷ top ∷ []) a.1.1.1.0 in record {
      text_high = short;
      leaf_low = leb-true _ _ a.0;
      leaf_high = leb-true _ _ a.1.0;
      arity_low = leb-true _ _ (and_left _ (leb S.arity max_arity) a.1.1.0);
      arity_high = leb-true _ _ (and_right (leb min_arity S.arity) _ a.1.1.0);
      levels_low = leb-true _ _ c.0;
      levels_high = leb-true _ _ c.1.0;
      top_high = leb-true _ _ c.1.1.0;
      counted_high = few;
    }

-- The bounds of m, r and H alone: with the empty text, and no counted bytes.
abbrev pub Sizes : ℕ → ℕ → ℕ → Type 0
Sizes m r H = Bounds 0 m r H 0

pub sizes-alone : {n m r H k : ℕ} → Bounds n m r H k → Sizes m r H
sizes-alone z = record {
  text_high = omega arith;
  leaf_low = z.leaf_low;
  leaf_high = z.leaf_high;
  arity_low = z.arity_low;
  arity_high = z.arity_high;
  levels_low = z.levels_low;
  levels_high = z.levels_high;
  top_high = z.top_high;
  counted_high = omega arith;
}

pub length-top : (S : Settings) → block_length S 0 ≡ S.leaf * S.arity ^ (S.levels - 1)
unfolding block_length
length-top S = let e : S.levels - 1 - 0 ≡ S.levels - 1 = omega arith in rw e

module _ (S : Settings) {n k : ℕ} (z : Bounds n S.leaf S.arity S.levels k) where
  -- A full block is as long as r full blocks of the next level.
  pub length-step : (l : ℕ) → l + 1 < S.levels → block_length S l ≡ block_length S (l + 1) * S.arity
  unfolding block_length
  length-step l h =
      let e : S.levels - 1 - l ≡ suc (S.levels - 1 - (l + 1)) = omega arith in
      rw (e, pow-suc, mul_assoc)

  pub length-pos : (l : ℕ) → 0 < block_length S l
  unfolding block_length
  length-pos l = mul-le-mul {n₁ = 1} {m₁ = 1} z.leaf_low (one-le-pow (S.levels - 1 - l) S.arity (omega (arith, z.arity_low)))

  pub length_last : block_length S (S.levels - 1) ≡ S.leaf
  unfolding block_length
  length_last =
      let e : S.levels - 1 - (S.levels - 1) ≡ 0 = omega arith in
      rw (e, pow-zero, mul-one)

  -- No block is longer than one of a level above.
  pub length-falls : (l j : ℕ) → l ≤ j → block_length S j ≤ block_length S l
  unfolding block_length
  length-falls l j h = mul-le-mul_left S.leaf (pow-le-pow_right (omega (arith, z.arity_low)) (omega arith))

-- A record has its words, and at most two edges after them.
cond-low : (y : Bool) (m : ℕ) → cond y (m + m) 0 ≤ m + m
cond-low true m = omega arith
cond-low false m = omega arith

module _ (v m k : ℕ) where
  pub record-low : field_bytes k ≤ record_length v m k
  unfolding record_length
  record-low = omega arith

  pub record-most : record_length v m k ≤ field_bytes k + (m + m)
  unfolding record_length
  record-most = omega (arith, cond-low (eqb v 2) m)

  pub record-high : m ≤ max_leaf → k ≤ max_counted → record_length v m k ≤ max_record
  record-high hm hk = omega (arith, record-most)

  pub record-plain : (v ≡ 2 → ⊥) → record_length v m k ≡ field_bytes k
  unfolding record_length
  record-plain h = rw (ne_eqb v 2 h) (omega arith)

  pub record-edged : v ≡ 2 → record_length v m k ≡ field_bytes k + (m + m)
  unfolding record_length
  record-edged e = rw e
