-- The result of reading a header: the header of a tree that passes questions 5 to 7, or the refusal that every call returns.
use Rattle.std.specs.Prelude.{List, Bool, true, false, cond, ◌≡◌, refl, ℕ, suc, ◌-◌, ◌*◌, ◌^◌, ◌≤◌, ◌<◌, Result, Ok, Err}
use Rattle.std.proofs.Common.{sym, ap, ◌∙◌, arith}
use Rattle.format.specs.Layout.{block_length}
use Rattle.format.specs.SizeLaws.{sizes-alone}
use Rattle.format.specs.Layout as at
use Rattle.format.specs.TreeReading.{ask, header_result}
use Rattle.format.specs.LayoutLaws.{Readable, header-facts}
use Rattle.layout.specs.declared.header.Header.{Header}
use Rattle.refusals.specs.declared.Refusal.{Refusal}
use Rattle.refusals.specs.declared.Refusal.TheVariants.{TreeTooShort, UnknownLayout, HeaderWrong}
use Rattle.refusals.specs.Refusals.{refusal_number}
use Rattle.layout.specs.SettingsLevel.{Sized}
use Rattle.layout.specs.Header.{fields_of, header_answer}

-- The tree t passes questions 5 to 7, and h is its header.
pub record HeaderOf (t : List ℕ) (h : Header) : Type 0 where
  pub passes : header_result t ≡ 0
  pub facts : Readable t
  pub fields : h ≡ fields_of t
  pub layout_is : h.layout ≡ at.layout t
  pub length_is : h.text_length ≡ at.text_length t
  pub leaf_is : h.settings.leaf ≡ (at.settings t).leaf
  pub arity_is : h.settings.arity ≡ (at.settings t).arity
  pub levels_is : h.settings.levels ≡ (at.settings t).levels
  pub counted_is : h.settings.counted ≡ at.counted_count t
  pub offset_is : h.leaf_offset ≡ at.leaf_offset t
  pub count_is : h.leaf_count ≡ at.leaf_count t
  pub block_is : h.top_length ≡ at.full_length t 0
  pub size_is : h.record_size ≡ at.record_size t

of_fields : (t : List ℕ) (h : Header) → header_result t ≡ 0 → h ≡ fields_of t → HeaderOf t h
unfolding at.layout at.text_length at.settings at.counted_count at.leaf_offset at.leaf_count
of_fields t h z e = record {
  passes = z;
  facts = header-facts t z;
  fields = e;
  layout_is = ap (λ (x : Header). x.layout) e;
  length_is = ap (λ (x : Header). x.text_length) e;
  leaf_is = ap (λ (x : Header). x.settings.leaf) e;
  arity_is = ap (λ (x : Header). x.settings.arity) e;
  levels_is = ap (λ (x : Header). x.settings.levels) e;
  counted_is = ap (λ (x : Header). x.settings.counted) e;
  offset_is = ap (λ (x : Header). x.leaf_offset) e;
  count_is = ap (λ (x : Header). x.leaf_count) e;
  block_is = ap (λ (x : Header). x.top_length) e;
  size_is = ap (λ (x : Header). x.record_size) e;
}

-- The three questions, one after the other.
module _ (a b c : Bool) (f : Header) where
  abbrev asked : Result Header Refusal
  asked = cond a (cond b (cond c (Ok f) (Err HeaderWrong)) (Err UnknownLayout)) (Err TreeTooShort)

good-cases : (a b c : Bool) (f h : Header) → Ok h ≡ asked a b c f → (ask 5 a (ask 6 b (ask 7 c 0)) ≡ 0) × (h ≡ f)
good-cases true true true f h e = (refl, cc)
good-cases true true false f h e = cc
good-cases true false c f h e = cc
good-cases false b c f h e = cc

refused-cases : (a b c : Bool) (f : Header) (q : Refusal) → Err q ≡ asked a b c f
    → (k : ℕ) × (ask 5 a (ask 6 b (ask 7 c 0)) ≡ suc k) × (refusal_number q ≡ suc k)
refused-cases true true true f q e = cc
refused-cases true true false f q e = let z : HeaderWrong ≡ q = cc in (6, refl, rw (← z))
refused-cases true false c f q e = let z : UnknownLayout ≡ q = cc in (5, refl, rw (← z))
refused-cases false b c f q e = let z : TreeTooShort ≡ q = cc in (4, refl, rw (← z))

module _ (t : List ℕ) (x : Result Header Refusal) (is : x ≡ header_answer t) where
  pub header-good : (h : Header) → x ≡ Ok h → HeaderOf t h
  unfolding header_answer header_result
  header-good h e =
      let z = good-cases (at.holds_header t) (at.layout_ok t) (at.is_header_ok t) (fields_of t) h (sym e ∙ is) in
      of_fields t h z.0 z.1

  -- The refusal has the number of the first question that fails.
  pub header_refused : (q : Refusal) → x ≡ Err q → (k : ℕ) × (header_result t ≡ suc k) × (refusal_number q ≡ suc k)
  unfolding header_answer header_result
  header_refused q e = refused-cases (at.holds_header t) (at.layout_ok t) (at.is_header_ok t) (fields_of t) q (sym e ∙ is)

-- The settings of a header are within their bounds, and give the block length of each level.
module _ (t : List ℕ) (h : Header) (k : HeaderOf t h) where
  pub sized : (level : ℕ) → level < h.settings.levels → Sized h.settings level
  sized level l = record {
    bounds = rw (k.leaf_is, k.arity_is, k.levels_is) (sizes-alone k.facts.bounds);
    level_in = l;
  }

  pub full_is : (level b : ℕ) → b ≡ h.settings.leaf * h.settings.arity ^ (h.settings.levels - 1 - level) → b ≡ at.full_length t level
  unfolding at.full_length block_length
  full_is level b e = e ∙ rw (k.leaf_is, k.arity_is, k.levels_is)

-- The refusal of a header is at most 7.
ask-small : (a b c : Bool) → ask 5 a (ask 6 b (ask 7 c 0)) ≤ 7
ask-small true true true = omega arith
ask-small true true false = omega arith
ask-small true false c = omega arith
ask-small false b c = omega arith

pub header-small : (t : List ℕ) → header_result t ≤ 7
unfolding header_result
header-small t = ask-small (at.holds_header t) (at.layout_ok t) (at.is_header_ok t)
