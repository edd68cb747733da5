-- The sum over the levels, and the answers.
use mathlib.Core.List.{[]}
use mathlib.Core.Bool.{Bool, true, false, cond}
use mathlib.Core.Path.{◌≡◌, refl, sym, ◌∙◌}
use Prim.Native.Nat.{ℕ, ◌+◌, ◌-◌, ◌*◌, ◌^◌, ◌≤◌, ◌<◌}
use native.Mathlib.Omega.{arith}
use native.Mathlib.Nat.{one-le-pow, mul-le-mul, mul-le-mul_left, pow-le-pow_right, le_trans, div-le_self}
use lib.Dec.{leb}
use borrow.Author.Tests.{le-leb, lt-leb}
use Rattle.text.specs.Text.{sum_below}
use Rattle.text.specs.ListLaws.{sum_below-suc}
use Rattle.format.specs.Layout.{pieces, length_ok, sizes_ok, counted_ok, rising, record_length, max_text, max_levels, max_counted, header_length}
use Rattle.layout.specs.CheckedSettings.{sizes, checked}
use Rattle.format.specs.SizeLaws.{max_record, Sizes, within-bounds}
use Rattle.format.specs.Blocks.{built_layout}
use Rattle.format.specs.TreeReading.{ask}
use Rattle.format.specs.Answers.{unless}
use Rattle.layout.specs.declared.settings.Settings as code
use Rattle.std.specs.Prelude.{Result, Ok, Err}
use Rattle.refusals.specs.declared.Refusal.{Refusal}
use Rattle.refusals.specs.declared.Refusal.TheVariants.{TextTooLong, SettingsOutOfBounds, CountedBytesWrong}
use Rattle.layout.specs.SettingsLevel.{Sized}
use Rattle.build_size_bound.specs.SizeBound.{blocks_at_most, size_bound_for, size_bound_refusal, size_bound_answer, IsSizeBoundAnswer}

module _ (s : code.Settings) (z : Sized s 0) (low : 1 ≤ s.leaf) where
  pub sized-at : (l : ℕ) → l < s.levels → Sized s l
  sized-at l e = record {
    bounds = z.bounds;
    level_in = e;
  }

  pub block-low : (l : ℕ) → 0 < s.leaf * s.arity ^ (s.levels - 1 - l)
  block-low l = mul-le-mul {n₁ = 1} {m₁ = 1} low (one-le-pow (s.levels - 1 - l) s.arity (omega (arith, z.bounds.arity_low)))

  pub block-few : (l : ℕ) → s.leaf * s.arity ^ (s.levels - 1 - l) ≤ max_text
  block-few l = le_trans (mul-le-mul_left s.leaf (pow-le-pow_right {n = s.arity}
      (omega (arith, z.bounds.arity_low)) (let e : s.levels - 1 - l ≤ s.levels - 1 = omega arith in e))) z.bounds.top_high

  -- The blocks of the first levels.
  abbrev pub up_to : ℕ → ℕ → ℕ
  up_to n l = sum_below l (λ l. pieces n (s.leaf * s.arity ^ (s.levels - 1 - l)))

  pieces-few : (n b : ℕ) → n ≤ max_text → b ≤ max_text → pieces n b ≤ (2 * max_text)
  unfolding pieces
  pieces-few n b h k = omega (arith, div-le_self (n + (b - 1)) b)

  module _ (n l sum b p : ℕ) (small : n ≤ max_text) (b_is : b ≡ s.leaf * s.arity ^ (s.levels - 1 - l)) (p-is : p ≡ pieces n b) where
    pub one_level : sum ≡ up_to n l → sum + p ≡ up_to n (l + 1)
    one_level e = rw (e, p-is, b_is) (sym (sum_below-suc l (λ l. pieces n (s.leaf * s.arity ^ (s.levels - 1 - l)))))

    pub level-few : p ≤ (2 * max_text)
    level-few = rw p-is (pieces-few n b small (rw b_is (block-few l)))

pub none_first : (f : ℕ → ℕ) → 0 ≡ sum_below 0 f
unfolding sum_below
none_first f = refl

-- The answers.
module _ (n m r H k : ℕ) where
  pub long : max_text < n → IsSizeBoundAnswer n m r H k (Err TextTooLong)
  unfolding size_bound_answer size_bound_refusal length_ok
  long h = record { answers = rw (lt-leb n max_text h); numbered = omega arith }

  module _ (high : n ≤ max_text) (x : Result code.Settings Refusal) (is : x ≡ checked m r H []) where
    nothing-counted : counted_ok [] ≡ true
    unfolding counted_ok rising
    nothing-counted = refl

    by-sizes : (y : Bool) → sizes_ok (sizes m r H) ≡ y
        → x ≡ cond y (Ok (record { leaf = m; arity = r; levels = H; counted = 0 })) (Err SettingsOutOfBounds)
    unfolding checked
    by-sizes y e = is ∙ rw (e, nothing-counted)

    module _ (y : Bool) (e : sizes_ok (sizes m r H) ≡ y) where
      answer_is : size_bound_answer n m r H k ≡ unless (ask 2 y (ask 3 (leb k max_counted) 0)) (record { number = 0; value = size_bound_for n m r H k; entered = 0 })
      unfolding size_bound_answer size_bound_refusal length_ok
      answer_is = rw (le-leb n max_text high, e)

    pub sizes-refused : (q : Refusal) → x ≡ Err q → IsSizeBoundAnswer n m r H k (Err q)
    sizes-refused q e = go (sizes_ok (sizes m r H)) refl
      where
        go : (y : Bool) → sizes_ok (sizes m r H) ≡ y → IsSizeBoundAnswer n m r H k (Err q)
        go true f = absurd (let z = sym e ∙ by-sizes true f in let w : ⊥ = cc in w)
        go false f =
            let z = sym e ∙ by-sizes false f in
            let w : q ≡ SettingsOutOfBounds = cc in
            rw w (record { answers = sym (answer_is false f); numbered = omega arith })

    module _ (s : code.Settings) (e : x ≡ Ok s) where
      fine-is : (sizes_ok (sizes m r H) ≡ true) × (s ≡ record { leaf = m; arity = r; levels = H; counted = 0 })
      fine-is = go (sizes_ok (sizes m r H)) refl
        where
          same : (u : code.Settings) → ◌≡◌ {A = Result code.Settings Refusal} (Ok s) (Ok u) → s ≡ u
          same u e = cc

          go : (y : Bool) → sizes_ok (sizes m r H) ≡ y → (sizes_ok (sizes m r H) ≡ true) × (s ≡ record { leaf = m; arity = r; levels = H; counted = 0 })
          go true f = (f, same _ (sym e ∙ by-sizes true f))
          go false f = let z = sym e ∙ by-sizes false f in cc

      facts : Sizes m r H
      facts = within-bounds 0 0 (sizes m r H) (omega arith) fine-is.0 (omega arith)

      pub fine-sized : Sized s 0 × (1 ≤ s.leaf)
      fine-sized = rw fine-is.1 (
        record {
          bounds = facts;
          level_in = facts.levels_low;
        },
        facts.leaf_low,
      )

      pub many-counted : max_counted < k → IsSizeBoundAnswer n m r H k (Err CountedBytesWrong)
      many-counted h = record { answers = sym (answer_is true fine-is.0 ∙ rw (lt-leb k max_counted h)); numbered = omega arith }

      pub size-bound-is : k ≤ max_counted → (sum : ℕ) → sum ≡ blocks_at_most n s.leaf s.arity s.levels
          → (z : ℕ) → z ≡ record_length built_layout s.leaf k → IsSizeBoundAnswer n m r H k (Ok (header_length + n + z * sum))
      size-bound-is h sum e' z ez = record { answers = sym (answer_is true fine-is.0 ∙ rw (le-leb k max_counted h, e', ez, fine-is.1)); numbered = tt }

-- The records of all levels are few.
pub bytes-few : (z sum : ℕ) → z ≤ max_record → sum ≤ max_levels * (2 * max_text) → z * sum ≤ max_record * (max_levels * (2 * max_text))
bytes-few z sum h l = mul-le-mul h l
