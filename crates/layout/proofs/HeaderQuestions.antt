-- Questions 5 to 7 in order.
use mathlib.Core.List.{List}
use mathlib.Core.Bool.{Bool, true, false, cond, ◌||◌, ◌&&◌}
use mathlib.Core.Path.{◌≡◌, refl, sym, ◌∙◌}
use Prim.Native.Nat.{ℕ, ◌≤◌, ◌<◌}
use native.Mathlib.Omega.{arith}
use lib.ListN.{length}
use borrow.Author.Tests.{le-leb, lt-leb, leb-true}
use lib.Dec.{eqb, leb}
use Rattle.text.specs.ListLaws.{and_left}
use Rattle.format.specs.Layout.{word_at, layout_at, header_length, layout, holds_header, layout_ok, is_header_ok, length_ok, sizes_ok, counted_ok}
use Rattle.format.specs.Layout.{text_length, counted_count, max_text, max_counted}
use Rattle.format.specs.Layout as at
use Rattle.format.specs.SizeLaws.{within-bounds}
use Rattle.layout.specs.declared.header.Header.{Header}
use Rattle.refusals.specs.declared.Refusal.{Refusal}
use Rattle.refusals.specs.declared.Refusal.TheVariants.{TreeTooShort, UnknownLayout, HeaderWrong}
use Rattle.layout.specs.declared.settings.Settings.{Settings}
use Rattle.std.specs.Prelude.{Result, Ok, Err}
use Rattle.layout.specs.Header.{header_answer, settings_of, settings_answer, is_start_right, rest_right, HasSettings, fields_of}
use Rattle.layout.proofs.HeaderCheck.{counted, header-both}

-- What the settings of a header tell of question 7.
fine-cases : (b : Bool) (s r : Settings) → Ok s ≡ cond b (Ok r) (Err HeaderWrong) → (b ≡ true) × (s ≡ r)
fine-cases true s r e = (refl, cc)
fine-cases false s r e = absurd (let z : ◌≡◌ {A = ℕ} 0 1 = cc in omega arith)

refused-cases : (b : Bool) (q : Refusal) (r : Settings) → Err q ≡ cond b (Ok r) (Err HeaderWrong) → (b ≡ false) × (q ≡ HeaderWrong)
refused-cases true q r e = cc
refused-cases false q r e = (refl, cc)

settings-within : (t : List ℕ) (s : Settings) → Ok s ≡ settings_answer t → (is_start_right t ≡ true) × (s ≡ settings_of t)
unfolding settings_answer
settings-within t s e = fine-cases (is_start_right t) s (settings_of t) e

settings-refused : (t : List ℕ) (q : Refusal) → Err q ≡ settings_answer t → (is_header_ok t ≡ false) × (q ≡ HeaderWrong)
unfolding settings_answer
settings-refused t q e =
    let z = refused-cases (is_start_right t) q (settings_of t) e in
    (header-both t ∙ rw z.0, z.1)

-- The settings that were checked are within their bounds.
all_three : (a b c : Bool) → (a && b && c) ≡ true → (a ≡ true) × (b ≡ true) × (c ≡ true)
all_three true true true e = (refl, refl, refl)
all_three true true false e = absurd (let z : ◌≡◌ {A = ℕ} 0 1 = cc in omega arith)
all_three true false c e = absurd (let z : ◌≡◌ {A = ℕ} 0 1 = cc in omega arith)
all_three false b c e = absurd (let z : ◌≡◌ {A = ℕ} 0 1 = cc in omega arith)

bounds-hold : (t : List ℕ) → header_length ≤ length t → is_start_right t ≡ true → HasSettings t (settings_of t)
unfolding is_start_right length_ok text_length at.settings counted_count
bounds-hold t long e =
    let z = all_three (leb (text_length t) max_text) (sizes_ok (at.settings t)) (counted t) e in
    record {
      long = long;
      leaf_is = refl;
      arity_is = refl;
      levels_is = refl;
      counted_is = refl;
      bounds = within-bounds (text_length t) (counted_count t) (at.settings t) (leb-true _ _ z.0) z.1
          (leb-true _ _ (and_left (leb (counted_count t) max_counted) (counted_ok (at.settings t).counted) z.2));
    }

module _ (t : List ℕ) where
  pub asked-5 : length t < header_length → Err TreeTooShort ≡ header_answer t
  unfolding header_answer holds_header
  asked-5 h = rw (lt-leb header_length (length t) h)

  module _ (long : header_length ≤ length t) (v : ℕ) (is : v ≡ word_at t layout_at) where
    layout_is : (eqb v 1 || eqb v 2) ≡ layout_ok t
    unfolding layout_ok layout
    layout_is = rw is

    pub asked-6 : (eqb v 1 || eqb v 2) ≡ false → Err UnknownLayout ≡ header_answer t
    unfolding header_answer holds_header
    asked-6 h = rw (le-leb header_length (length t) long, sym layout_is ∙ h)

    module _ (l : (eqb v 1 || eqb v 2) ≡ true) (x : Result Settings Refusal) (says : x ≡ settings_answer t) where
      pub asked-7 : (q : Refusal) → x ≡ Err q → Err q ≡ header_answer t
      unfolding header_answer holds_header
      asked-7 q e =
          let z = settings-refused t q (sym e ∙ says) in
          rw (le-leb header_length (length t) long, sym layout_is ∙ l, z.0, z.1)

      module _ (s : Settings) (e : x ≡ Ok s) where
        pub asked-fields : HasSettings t s
        asked-fields =
            let z = settings-within t s (sym e ∙ says) in
            rw z.1 (bounds-hold t long z.0)

        whole : (r : Bool) → r ≡ rest_right t → is_header_ok t ≡ r
        whole r is = header-both t ∙ rw ((settings-within t s (sym e ∙ says)).0, is)

        pub asked-rest : (r : Bool) → r ≡ rest_right t → r ≡ false → Err HeaderWrong ≡ header_answer t
        unfolding header_answer holds_header
        asked-rest r is off = rw (le-leb header_length (length t) long, sym layout_is ∙ l, whole r is ∙ off)

        pub asked-all : (r : Bool) → r ≡ rest_right t → r ≡ true → (h : Header) → h ≡ fields_of t → Ok h ≡ header_answer t
        unfolding header_answer holds_header
        asked-all r is on h f = rw (le-leb header_length (length t) long, sym layout_is ∙ l, whole r is ∙ on, f)
