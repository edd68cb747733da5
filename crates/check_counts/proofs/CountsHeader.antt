-- What the header's fields and a block's record are, where the check of counts looks at them.
use mathlib.Core.List.{List}
use mathlib.Core.Bool.{true, false}
use mathlib.Core.Path.{◌≡◌, refl, sym, ◌∙◌}
use Prim.Native.Nat.{ℕ, ◌+◌, ◌-◌, ◌/◌, ◌≤◌, ◌<◌}
use native.Mathlib.Omega.{arith}
use native.Mathlib.Nat.{mul-div_cancel}
use mathlib.Core.Logic.{◌⊎◌, inl, inr}
use borrow.Author.Tests.{eq-eqb, ne_eqb}
use lib.ListN.{get_or}
use lib.Seq.{get_or-take, get_or-drop}
use Rattle.text.specs.ListLaws.{below_suc}
use Rattle.format.specs.Layout.{max_text, max_counted, plain_words, before_field, inside_field, skip_field, counted_at, count_at}
use Rattle.format.specs.Layout as at
use Rattle.format.specs.WordLaws.{word_at-lt}
use Rattle.format.specs.LayoutLaws.{field_count, full-small, full-step}
use Rattle.theory_paths.specs.Links.{Linked, linked-facts}
use Rattle.theory_paths.specs.BlockStarts.{len-small}
use Rattle.theory_counts.specs.CountsLocal.{byte_of}
use Rattle.layout.specs.declared.header.Header.{Header}
use Rattle.layout.specs.Record.{FieldIn, field_in}
use Rattle.walk_steps.specs.Steps as steps
use Rattle.check_counts.specs.CountsAsked.{Linking, Sound, InTable}
use Rattle.check_counts.specs.PrefixTargets.{child_length}

module _ (t : List ℕ) (h : Header) (w : Linking t h) where
  pub counted_is : h.settings.counted ≡ at.counted_count t
  counted_is = w.header.counted_is

  pub levels_is : h.settings.levels ≡ (at.settings t).levels
  levels_is = w.header.levels_is

  pub arity_is : h.settings.arity ≡ (at.settings t).arity
  arity_is = w.header.arity_is

  pub leaf_is : h.settings.leaf ≡ (at.settings t).leaf
  leaf_is = w.header.leaf_is

  pub length_is : h.text_length ≡ at.text_length t
  length_is = w.header.length_is

  pub sound : Sound t h.record_size
  sound = record { facts = w.header.facts; size_is = w.header.size_is; links = w.links }

module _ (t : List ℕ) (size : ℕ) (w : Sound t size) where
  pub linked : Linked t
  linked = linked-facts t w.links

  pub not_last : (level : ℕ) → level < (at.settings t).levels → (level + 1 ≡ (at.settings t).levels → ⊥) → level + 1 < (at.settings t).levels
  not_last level hl n = go (below_suc level ((at.settings t).levels - 1) (omega arith))
    where
      go : (level < (at.settings t).levels - 1) ⊎ (level ≡ (at.settings t).levels - 1) → level + 1 < (at.settings t).levels
      go (inl l) = omega arith
      go (inr e) = absurd (n (omega (arith, w.facts.bounds.levels_low)))

  -- One level down, by one division.
  pub below_is : (level b r : ℕ)
      → b ≡ at.full_length t level → r ≡ (at.settings t).arity → level + 1 < (at.settings t).levels → b / r ≡ at.full_length t (level + 1)
  below_is level b r b_is r-is above =
      let pos : 0 < (at.settings t).arity = omega (arith, w.facts.bounds.arity_low) in
      rw (r-is, b_is, full-step t w.facts level above) (mul-div_cancel (at.full_length t (level + 1)) pos)

  pub child-below-is : (level b : ℕ) → b ≡ child_length t level → level + 1 < (at.settings t).levels → b ≡ at.full_length t (level + 1)
  unfolding child_length
  child-below-is level b e above = e ∙ below_is level (at.full_length t level) (at.settings t).arity refl refl above

-- A level's count is a word.
pub count-lt : (t : List ℕ) (l : ℕ) → ((k : ℕ) → get_or t k 0 < 256) → at.level_count t l < 4294967296
unfolding at.level_count
count-lt t l h = word_at-lt t (count_at l) h

-- A counted byte, in the header.
pub byte_is : (t : List ℕ) (c : ℕ) → c < at.counted_count t → at.counted_count t ≤ max_counted → get_or t (counted_at + c) 0 ≡ byte_of t c
unfolding byte_of at.settings
byte_is t c h few =
    let low : c < max_counted = omega arith in
    sym (rw (get_or-take, get_or-take, get_or-drop))

module _ (t : List ℕ) (size level i c : ℕ) (w : InTable t size level i c) where
  -- The words of the block's record.
  pub there : (f : ℕ) → f < field_count (at.counted_count t) → FieldIn t size level i f
  there f hf = field_in t w.tree.facts size level i f w.tree.size_is w.level_in w.block_in hf

  pub plain-there : (f : ℕ) → f < plain_words → FieldIn t size level i f
  plain-there f hf = there f (omega arith)

  pub before-there : FieldIn t size level i (before_field c)
  before-there = there (before_field c) (omega (arith, w.number_in))

  pub inside-there : FieldIn t size level i (inside_field c)
  inside-there = there (inside_field c) (omega (arith, w.number_in))

  pub skip-there : FieldIn t size level i (skip_field c)
  skip-there = there (skip_field c) (omega (arith, w.number_in))

  -- The block, by its level's block length.
  pub stands : (b : ℕ) → b ≡ at.full_length t level → steps.InTable t size level b i
  stands b b_is = record { on = record { facts = w.tree.facts; size_is = w.tree.size_is; level_in = w.level_in; b_is = b_is }; block_in = w.block_in }

  -- No block is longer than the longest text.
  pub full-lt : at.full_length t level ≤ max_text
  full-lt = full-small t w.tree.facts level

  pub length-lt : at.block_length_at t level i ≤ max_text
  length-lt = omega (arith, len-small t level i, full-lt)

-- The kind decides whether the block is kept.
module _ (t : List ℕ) (level i k : ℕ) (k_is : k ≡ at.kind t level i) where
  pub kept_of : k ≡ 0 → at.is_kept t level i ≡ true
  unfolding at.is_kept
  kept_of z = eq-eqb _ 0 (sym k_is ∙ z)

  pub points-of : (k ≡ 0 → ⊥) → at.is_kept t level i ≡ false
  unfolding at.is_kept
  points-of n = ne_eqb _ 0 (λ e. n (k_is ∙ e))
