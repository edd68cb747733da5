-- The tests of the code, taken together, decide question 7.
use mathlib.Core.List.{List}
use mathlib.Core.Bool.{Bool, true, false, cond, ◌&&◌}
use mathlib.Core.Path.{◌≡◌, refl, sym, ◌∙◌}
use mathlib.Core.Logic.{◌⊎◌, inl, inr, ⊎_elim}
use Prim.Native.Nat.{ℕ, ◌+◌, ◌-◌, ◌*◌, ◌≤◌, ◌<◌}
use native.Mathlib.Omega.{arith}
use lib.ListN.{length, take, drop, length-take, length-drop}
use lib.Seq.{take-take}
use lib.Dec.{leb, eqb}
use borrow.Author.Tests.{le-leb, lt-leb}
use Rattle.text.specs.Text.{all_below, sum_below}
use Rattle.format.specs.Layout.{max_text, max_counted, word_at, text_length_at, leaf_at, arity_at, levels_at, counted_count_at, counted_at, header_length}
use Rattle.layout.specs.CheckedSettings.{sizes}
use Rattle.format.specs.Layout as at
use Rattle.format.specs.SizeLaws.{within-bounds}
use Rattle.layout.specs.declared.settings.Settings.{Settings}
use Rattle.std.specs.Prelude.{Result, Ok, Err}
use Rattle.refusals.specs.declared.Refusal.{Refusal}
use Rattle.refusals.specs.declared.Refusal.TheVariants.{SettingsOutOfBounds, CountedBytesWrong, HeaderWrong}
use Rattle.layout.specs.CheckedSettings as given
use Rattle.layout.specs.Header.{settings_of, settings_answer, is_start_right, follows, tables_meet, rest_right, spare_counted, spare_levels, HasSettings}

-- The first conditions of question 7, and the rest of them.
three-first : (a b c : Bool) → a ≡ false → false ≡ (a && b && c)
three-first a b c p = rw p

three-second : (a b c : Bool) → b ≡ false → false ≡ (a && b && c)
three-second true b c p = rw p
three-second false b c p = refl

three-last : (a b c : Bool) → c ≡ false → false ≡ (a && b && c)
three-last true true c p = rw p
three-last true false c p = refl
three-last false b c p = refl

start-and-rest : (a b c d e f g h i : Bool) → (a && b && c && d && e && f && g && h && i) ≡ ((a && b && c) && (d && e && f && (g && h) && i))
start-and-rest true true true true true true true h i = refl
start-and-rest true true true true true true false h i = refl
start-and-rest true true true true true false g h i = refl
start-and-rest true true true true false f g h i = refl
start-and-rest true true true false e f g h i = refl
start-and-rest true true false d e f g h i = refl
start-and-rest true false c d e f g h i = refl
start-and-rest false b c d e f g h i = refl

module _ (t : List ℕ) where
  abbrev pub counted : Bool
  counted = leb (at.counted_count t) max_counted && at.counted_ok (at.settings t).counted

  pub header-both : at.is_header_ok t ≡ (is_start_right t && rest_right t)
  unfolding at.is_header_ok is_start_right rest_right tables_meet spare_counted spare_levels
  header-both =
      start-and-rest (at.length_ok (at.text_length t)) (at.sizes_ok (at.settings t)) counted
      (spare_counted t (at.counted_count t)) (spare_levels t (at.settings t).levels)
      (eqb (at.level_count t 0) (at.pieces (at.text_length t) (at.full_length t 0))) (all_below (at.settings t).levels (follows t))
      (eqb (at.leaf_offset t) (header_length + sum_below (at.settings t).levels (at.level_count t) * at.record_size t))
      (eqb (length t) (at.leaf_offset t + at.leaf_count t))

  seven-length : at.length_ok (at.text_length t) ≡ false → false ≡ is_start_right t
  unfolding is_start_right
  seven-length p = three-first (at.length_ok (at.text_length t)) (at.sizes_ok (at.settings t)) counted p

  seven-sizes : at.sizes_ok (at.settings t) ≡ false → false ≡ is_start_right t
  unfolding is_start_right
  seven-sizes p = three-second (at.length_ok (at.text_length t)) (at.sizes_ok (at.settings t)) counted p

  seven-counted : counted ≡ false → false ≡ is_start_right t
  unfolding is_start_right
  seven-counted p = three-last (at.length_ok (at.text_length t)) (at.sizes_ok (at.settings t)) counted p

  seven-start : at.length_ok (at.text_length t) ≡ true → at.sizes_ok (at.settings t) ≡ true → counted ≡ true → is_start_right t ≡ true
  unfolding is_start_right
  seven-start p q r = rw (p, q, r)

pub settings_are : (t : List ℕ) (s : Settings) → HasSettings t s → s ≡ settings_of t
settings_are t s h = λ i. record { leaf = h.leaf_is i; arity = h.arity_is i; levels = h.levels_is i; counted = h.counted_is i }

-- A header whose first conditions fail has no settings.
pub wrong : (t : List ℕ) → false ≡ is_start_right t → Err HeaderWrong ≡ settings_answer t
unfolding settings_answer
wrong t e = rw (← e)

module _ (t : List ℕ) (n : ℕ) (n-is : n ≡ word_at t text_length_at) where
  length-here : (r : Bool) → at.length_ok n ≡ r → at.length_ok (at.text_length t) ≡ r
  unfolding at.text_length
  length-here r p = rw (← n-is) p

  pub header-length : at.length_ok n ≡ false → false ≡ is_start_right t
  header-length p = seven-length t (length-here false p)

length-fine : (n : ℕ) → n ≤ max_text → at.length_ok n ≡ true
unfolding at.length_ok
length-fine n high = le-leb n max_text high

-- The counted bytes as the code takes them are those of the header's settings.
counted-part : (t : List ℕ) (k : ℕ)
    → k ≡ word_at t counted_count_at → k ≤ max_counted → take (counted_at + k - counted_at) (drop counted_at t) ≡ (at.settings t).counted
unfolding at.settings at.counted_count
counted-part t k e h =
    let z : counted_at + k - counted_at ≡ k = omega arith in
    rw (z, ← e) (sym (take-take k max_counted (drop counted_at t) h))

-- The result of the constructor of checked settings.
fine-sizes : (s : Settings) (a b : Bool) (r : Settings) → Ok s ≡ cond a (cond b (Ok r) (Err CountedBytesWrong)) (Err SettingsOutOfBounds) → a ≡ true
fine-sizes s true b r e = refl
fine-sizes s false b r e = absurd (let z : ◌≡◌ {A = ℕ} 0 1 = cc in omega arith)

fine-counted : (s : Settings) (a b : Bool) (r : Settings) → Ok s ≡ cond a (cond b (Ok r) (Err CountedBytesWrong)) (Err SettingsOutOfBounds) → b ≡ true
fine-counted s true true r e = refl
fine-counted s true false r e = absurd (let z : ◌≡◌ {A = ℕ} 0 1 = cc in omega arith)
fine-counted s false b r e = absurd (let z : ◌≡◌ {A = ℕ} 0 1 = cc in omega arith)

fine-is : (s : Settings) (a b : Bool) (r : Settings) → Ok s ≡ cond a (cond b (Ok r) (Err CountedBytesWrong)) (Err SettingsOutOfBounds) → s ≡ r
fine-is s true true r e = cc
fine-is s true false r e = cc
fine-is s false b r e = cc

refused-is : (q : Refusal) (a b : Bool) (r : Settings) → Err q ≡ cond a (cond b (Ok r) (Err CountedBytesWrong)) (Err SettingsOutOfBounds)
    → (a ≡ false) ⊎ (b ≡ false)
refused-is q true true r e = absurd (let z : ◌≡◌ {A = ℕ} 0 1 = cc in omega arith)
refused-is q true false r e = inr refl
refused-is q false b r e = inl refl

pub header-many : (t : List ℕ) (k : ℕ) → k ≡ word_at t counted_count_at → max_counted < k → false ≡ is_start_right t
unfolding at.counted_count
header-many t k k_is h = seven-counted t (rw (← k_is, lt-leb k max_counted h))

-- The header's settings, checked.
module _ (t : List ℕ) (m r H k : ℕ)
    (m-is : m ≡ word_at t leaf_at) (r-is : r ≡ word_at t arity_at) (H-is : H ≡ word_at t levels_at) (k_is : k ≡ word_at t counted_count_at) where
  sizes-here : (b : Bool) → at.sizes_ok (sizes m r H) ≡ b → at.sizes_ok (at.settings t) ≡ b
  unfolding at.settings at.sizes_ok
  sizes-here b e = rw (← m-is, ← r-is, ← H-is) e

  module _ (few : k ≤ max_counted) where
    counted-here : (b : Bool) → at.counted_ok (take (counted_at + k - counted_at) (drop counted_at t)) ≡ b → at.counted_ok (at.settings t).counted ≡ b
    counted-here b e = rw (counted-part t k k_is few) at e

    few-here : leb (at.counted_count t) max_counted ≡ true
    unfolding at.counted_count
    few-here = rw (← k_is) (le-leb k max_counted few)

    both-here : (b : Bool) → at.counted_ok (take (counted_at + k - counted_at) (drop counted_at t)) ≡ b
        → (leb (at.counted_count t) max_counted && at.counted_ok (at.settings t).counted) ≡ b
    both-here b e = rw few-here (counted-here b e)

    abbrev part : List ℕ
    part = take (counted_at + k - counted_at) (drop counted_at t)

    abbrev sizes_fit : Bool
    sizes_fit = at.sizes_ok (sizes m r H)

    abbrev there : Settings
    there = record { leaf = m; arity = r; levels = H; counted = length part }

    header-sizes : sizes_fit ≡ false → false ≡ is_start_right t
    header-sizes p = seven-sizes t (sizes-here false p)

    header-counted : at.counted_ok part ≡ false → false ≡ is_start_right t
    header-counted p = seven-counted t (both-here false p)

    pub header_refused : (q : Refusal) (x : Result Settings Refusal) → x ≡ given.checked m r H part → x ≡ Err q → false ≡ is_start_right t
    unfolding given.checked
    header_refused q x e f = ⊎_elim header-sizes header-counted (refused-is q sizes_fit (at.counted_ok part) there (sym f ∙ e))

    module _ (n : ℕ) (n-is : n ≡ word_at t text_length_at)
        (high : n ≤ max_text) (s : Settings) (x : Result Settings Refusal) (x-is : x ≡ given.checked m r H part) (is : x ≡ Ok s) where
      fine : Ok s ≡ cond sizes_fit (cond (at.counted_ok part) (Ok there) (Err CountedBytesWrong)) (Err SettingsOutOfBounds)
      unfolding given.checked
      fine = sym is ∙ x-is

      fit : sizes_fit ≡ true
      fit = fine-sizes s sizes_fit (at.counted_ok part) there fine

      start_right : is_start_right t ≡ true
      start_right =
          seven-start t (length-here t n n-is true (length-fine n high)) (sizes-here true fit)
          (both-here true (fine-counted s sizes_fit (at.counted_ok part) there fine))

      has-settings : header_length ≤ length t → HasSettings t s
      has-settings long =
          let size : length part ≡ k = simp (length-take, length-drop) (omega arith) in
          rw (fine-is s sizes_fit (at.counted_ok part) there fine) (record {
            long = long;
            leaf_is = m-is;
            arity_is = r-is;
            levels_is = H-is;
            counted_is = size ∙ k_is;
            bounds = rw (← n-is) (within-bounds n (length part) (sizes m r H) high fit (rw size few));
          })

      pub settings-fine : header_length ≤ length t → Ok s ≡ settings_answer t
      unfolding settings_answer
      settings-fine long = rw (start_right, settings_are t s (has-settings long))
