-- One step of a row's form.
use mathlib.Core.List.{List}
use mathlib.Core.Bool.{true, false}
use mathlib.Core.Path.{◌≡◌, refl, sym}
use Prim.Native.Nat.{ℕ, ◌+◌, ◌*◌, ◌/◌, ◌≤◌, ◌<◌}
use lib.ListN.{length, get_or}
use lib.Dec.{leb}
use borrow.Author.Tests.{lt-ltb, le-ltb, le-leb, lt-leb, eq-eqb, ne_eqb, eqb-true}
use Rattle.text.specs.ListLaws.{bool_clash}
use Rattle.keys.specs.declared.key_state.KeyState.{KeyState}
use Rattle.keys.specs.declared.key_state.KeyState.TheVariants.{Code, Cuts, Ended, Wrong}
use Rattle.keys.specs.Keys.{cut_count, low, high, max_code}
use Rattle.keys.specs.KeyStates.{in_code, cut_fits, in_cuts, is_none}

-- In the code.
module _ (k x : ℕ) where
  pub code-early : x ≡ 32 → k ≡ 0 → Wrong ≡ in_code k x
  unfolding in_code
  code-early e f = rw (eq-eqb 32 x (sym e), eq-eqb k 0 f)

  pub code-space : x ≡ 32 → (k ≡ 0 → ⊥) → Cuts 0 ≡ in_code k x
  unfolding in_code
  code-space e f = rw (eq-eqb 32 x (sym e), ne_eqb k 0 f)

  pub code-long : (x ≡ 32 → ⊥) → max_code ≤ k → Wrong ≡ in_code k x
  unfolding in_code
  code-long e f = rw (ne_eqb 32 x (λ z. e (sym z)), le-leb max_code k f)

  pub code-more : (x ≡ 32 → ⊥) → k < max_code → Code (k + 1) ≡ in_code k x
  unfolding in_code
  code-more e f = rw (ne_eqb 32 x (λ z. e (sym z)), lt-leb max_code k f)

-- In the cuts.
module _ (ranges : List ℕ) (i x : ℕ) where
  pub cuts-end : length ranges / 2 ≤ i → x ≡ 13 → Ended ≡ in_cuts ranges i x
  unfolding in_cuts cut_count
  cuts-end h e = rw (le-ltb i (length ranges / 2) h, eq-eqb 13 x (sym e))

  pub cuts-past : length ranges / 2 ≤ i → (x ≡ 13 → ⊥) → Wrong ≡ in_cuts ranges i x
  unfolding in_cuts cut_count
  cuts-past h e = rw (le-ltb i (length ranges / 2) h, ne_eqb 13 x (λ z. e (sym z)))

  -- A byte and the range of a cut.
  pub fits_low : (a w : ℕ) → a ≡ get_or ranges (2 * i) 0 → w ≡ x → w < 48 + a → false ≡ cut_fits ranges i x
  unfolding cut_fits low
  fits_low a w e f h =
      let z : leb (48 + get_or ranges (2 * i) 0) x ≡ false = rw (← e, ← f) (lt-leb (48 + a) w h) in
      rw z

  module _ (a b w : ℕ) (e : a ≡ get_or ranges (2 * i) 0) (g : b ≡ get_or ranges (2 * i + 1) 0) (f : w ≡ x) (h : 48 + a ≤ w) where
    not_low : leb (48 + get_or ranges (2 * i) 0) x ≡ true
    not_low = rw (← e, ← f) (le-leb (48 + a) w h)

    pub fits-high : 48 + b < w → false ≡ cut_fits ranges i x
    unfolding cut_fits low high
    fits-high k =
        let z : leb x (48 + get_or ranges (2 * i + 1) 0) ≡ false = rw (← g, ← f) (lt-leb w (48 + b) k) in
        rw (not_low, z)

    pub fits_both : w ≤ 48 + b → true ≡ cut_fits ranges i x
    unfolding cut_fits low high
    fits_both k =
        let z : leb x (48 + get_or ranges (2 * i + 1) 0) ≡ true = rw (← g, ← f) (le-leb w (48 + b) k) in
        rw (not_low, z)

  module _ (within : i < length ranges / 2) where
    pub cuts-more : cut_fits ranges i x ≡ true → Cuts (i + 1) ≡ in_cuts ranges i x
    unfolding in_cuts cut_count
    cuts-more e = rw (lt-ltb i (length ranges / 2) within, e)

    pub cuts-wrong : cut_fits ranges i x ≡ false → Wrong ≡ in_cuts ranges i x
    unfolding in_cuts cut_count
    cuts-wrong e = rw (lt-ltb i (length ranges / 2) within, e)

-- A row of which no byte was read.
pub none_read : (f : KeyState) → is_none f ≡ true → f ≡ Code 0
unfolding is_none
none_read (Code k) e = rw (eqb-true k 0 e)
none_read (Cuts i) e = bool_clash false e refl
none_read Ended e = bool_clash false e refl
none_read Wrong e = bool_clash false e refl
