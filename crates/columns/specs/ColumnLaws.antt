-- Laws of the rearrangement: which byte goes where, that each direction is a permutation of the places, and that they are inverse.
use Rattle.std.specs.Prelude.{List, [], true, false, ◌≡◌, refl, ℕ, zero, suc, ◌+◌, ◌*◌, ◌/◌, ◌%◌, ◌≤◌, ◌<◌, ltb, eqb}
use Rattle.std.proofs.Common.{sym, ◌∙◌, arith, mod-eq_of_lt, div-add-mod', mod-lt, div-lt_iff_lt-mul, mul-le-mul_right, mul-zero, suc-mul, ext_get_or, ltb-true, eqb-true, lt-ltb}
use Rattle.std.proofs.Math.Path.{ap}
use Rattle.std.proofs.Math.Nat.{mul-add-mod_self_right, mul-add-div_right, div-eq_of_lt, mul_comm}
use Rattle.std.proofs.Math.ListN.{length, get_or}
use Rattle.text.specs.Text.{tabulate, substring}
use Rattle.text.specs.ListLaws.{and_left, and_right, pos-of-ne, length-tabulate, get_or-tabulate}
use Rattle.text.specs.TextLaws.{length-substring, get_or-substring}
use Rattle.columns.specs.Columns.{transposed, columns, uncolumns, width_ok}

-- The places: where the byte of place p of a text of n bytes goes, and where that of place p comes from.
unfoldable pub goes_to : ℕ → ℕ → ℕ → ℕ
goes_to w n p = p % w * (n / w) + p / w

unfoldable pub comes_from : ℕ → ℕ → ℕ → ℕ
comes_from w n p = p % (n / w) * w + p / (n / w)

-- Place o of row b, of rows of r.
pub in_row : (b r o : ℕ) → o < r → (b * r + o) % r ≡ o
in_row b r o h = mul-add-mod_self_right b r o ∙ mod-eq_of_lt h

pub row-of : (b r o : ℕ) → o < r → (b * r + o) / r ≡ b
row-of b r o h = mul-add-div_right {m = r} (omega arith) b o ∙ ap (λ (x : ℕ). b + x) (div-eq_of_lt h) ∙ omega arith

-- The place is within c rows.
pub within : (b c r o : ℕ) → b < c → o < r → b * r + o < c * r
within b c r o hb ho =
    let h : suc b ≤ c = omega arith in
    omega (arith, mul-le-mul_right r h, suc-mul b r)

-- A place of c rows of r.
row_below : (p c r : ℕ) → p < c * r → (p / r < c) × (p % r < r)
row_below p c r h = ((div-lt_iff_lt-mul (some r h)).1 h, mod-lt p (some r h))
  where
    some : (r : ℕ) → p < c * r → 0 < r
    some zero l = absurd (let x : ⊥ = omega (arith, mul-zero c) in x)
    some (suc r) l = omega arith

-- Rows and width of a text.
module _ (r c : ℕ) (T : List ℕ) (size : length T ≡ r * c) where
  pub transposed-length : length (transposed r c T) ≡ length T
  unfolding transposed
  transposed-length = length-tabulate (length T) (λ p. get_or T (p % r * c + p / r) 0)

  -- matrix transposition: place a * c + b of the text, row a and column b, moves to place b * r + a
  pub transposed-at : (a b : ℕ) → a < r → b < c → get_or (transposed r c T) (b * r + a) 0 ≡ get_or T (a * c + b) 0
  unfolding transposed
  transposed-at a b ha hb =
      let l : b * r + a < length T = omega (arith, size, mul_comm r c, within b c r a hb ha) in
      get_or-tabulate (length T) (λ p. get_or T (p % r * c + p / r) 0) (b * r + a) 0 l
      ∙ ap (λ (k : ℕ). get_or T k 0) (rw (in_row b r a ha, row-of b r a ha))

  again : length (transposed c r (transposed r c T)) ≡ length (transposed r c T)
  unfolding transposed
  again = length-tabulate (length (transposed r c T)) (λ p. get_or (transposed r c T) (p % c * r + p / c) 0)

  outer : (p : ℕ) → p < length T → get_or (transposed c r (transposed r c T)) p 0 ≡ get_or (transposed r c T) (p % c * r + p / c) 0
  unfolding transposed
  outer p l = get_or-tabulate (length (transposed r c T)) (λ k. get_or (transposed r c T) (k % c * r + k / c) 0) p 0 (omega (arith, transposed-length))

  each : (p : ℕ) → p < length T → get_or (transposed c r (transposed r c T)) p 0 ≡ get_or T p 0
  each p l =
      let q = row_below p r c (omega (arith, size)) in
      outer p l ∙ transposed-at (p / c) (p % c) q.0 q.1 ∙ ap (λ (k : ℕ). get_or T k 0) (div-add-mod' p c)

  pub transposed-back : transposed c r (transposed r c T) ≡ T
  transposed-back = ext_get_or 0 (transposed c r (transposed r c T)) T (again ∙ transposed-length) (λ p l. each p (omega (arith, again, transposed-length)))

-- A width that divides a length, and one that does not.
pub width-none : (w n : ℕ) → w ≡ 0 → width_ok w n ≡ false
unfolding width_ok
width-none w n e = rw e

pub width_some : (w n : ℕ) → (w ≡ 0 → ⊥) → width_ok w n ≡ eqb (n % w) 0
unfolding width_ok
width_some w n some = rw (lt-ltb 0 w (pos-of-ne w some))

pub width_low : (w n : ℕ) → width_ok w n ≡ true → 0 < w
unfolding width_ok
width_low w n ok = ltb-true 0 w (and_left (ltb 0 w) (eqb (n % w) 0) ok)

pub width-rows : (w n : ℕ) → width_ok w n ≡ true → n ≡ n / w * w
unfolding width_ok
width-rows w n ok = omega (arith, div-add-mod' n w, eqb-true (n % w) 0 (and_right (ltb 0 w) (eqb (n % w) 0) ok))

module _ (w : ℕ) (T : List ℕ) (ok : width_ok w (length T) ≡ true) where
  pub rows_are : length T ≡ length T / w * w
  rows_are = width-rows w (length T) ok

  pub columns-length : length (columns w T) ≡ length T
  unfolding columns
  columns-length = transposed-length (length T / w) w T rows_are

  pub uncolumns-length : length (uncolumns w T) ≡ length T
  unfolding uncolumns
  uncolumns-length = transposed-length w (length T / w) T (rows_are ∙ mul_comm (length T / w) w)

  -- Which byte goes where.
  pub columns-at : (a b : ℕ) → a < length T / w → b < w → get_or (columns w T) (b * (length T / w) + a) 0 ≡ get_or T (a * w + b) 0
  unfolding columns
  columns-at a b ha hb = transposed-at (length T / w) w T rows_are a b ha hb

  -- What moves: the byte of place p goes to goesTo p, and back from there.
  pub columns-moves : (p : ℕ) → p < length T → get_or (columns w T) (goes_to w (length T) p) 0 ≡ get_or T p 0
  unfolding goes_to
  columns-moves p h =
      let q = row_below p (length T / w) w (omega (arith, rows_are)) in
      columns-at (p / w) (p % w) q.0 q.1 ∙ ap (λ (k : ℕ). get_or T k 0) (div-add-mod' p w)

  pub uncolumns-moves : (p : ℕ) → p < length T → get_or (uncolumns w T) (comes_from w (length T) p) 0 ≡ get_or T p 0
  unfolding comes_from uncolumns
  uncolumns-moves p h =
      let r = length T / w in
      let q = row_below p w r (omega (arith, rows_are, mul_comm r w)) in
      transposed-at w r T (rows_are ∙ mul_comm r w) (p / r) (p % r) q.0 q.1 ∙ ap (λ (k : ℕ). get_or T k 0) (div-add-mod' p r)

  -- `uncolumns` is a left inverse of `columns`
  pub restored : uncolumns w (columns w T) ≡ T
  unfolding uncolumns columns
  restored = ap (λ (n : ℕ). transposed w (n / w) (columns w T)) columns-length ∙ transposed-back (length T / w) w T rows_are

  -- The right inverse.
  pub rearranged : columns w (uncolumns w T) ≡ T
  unfolding uncolumns columns
  rearranged =
      ap (λ (n : ℕ). transposed (n / w) w (uncolumns w T)) uncolumns-length ∙ transposed-back w (length T / w) T (rows_are ∙ mul_comm (length T / w) w)

  -- Row a of the text, read by columns.
  pub row-by-columns : (a : ℕ) → a < length T / w → substring T (a * w) w ≡ tabulate w (λ b. get_or (columns w T) (b * (length T / w) + a) 0)
  row-by-columns a ha =
      let end : a * w + w ≤ length T = omega (arith, rows_are, mul-le-mul_right w (let h : suc a ≤ length T / w = omega arith in h), suc-mul a w) in
      ext_get_or 0 (substring T (a * w) w) (tabulate w (λ b. get_or (columns w T) (b * (length T / w) + a) 0))
      (length-substring T (a * w) w end ∙ sym (length-tabulate w (λ b. get_or (columns w T) (b * (length T / w) + a) 0)))
      (λ b l. let hb : b < w = rw (length-substring T (a * w) w end) at l in
      get_or-substring T (a * w) w b hb ∙ sym (columns-at a b ha hb) ∙ sym (get_or-tabulate w (λ k. get_or (columns w T) (k * (length T / w) + a) 0) b 0 hb))

-- The other way round: row a of the text that T is the rearrangement of, read from T.
pub row_read : (w : ℕ) (T : List ℕ) → width_ok w (length T) ≡ true → (a : ℕ) → a < length T / w
    → substring (uncolumns w T) (a * w) w ≡ tabulate w (λ b. get_or T (b * (length T / w) + a) 0)
row_read w T ok a ha =
    let same = uncolumns-length w T ok in
    rw (same, rearranged w T ok) at (row-by-columns w (uncolumns w T) (rw same ok) a (rw same ha))

-- The empty text is rearranged to itself.
pub empty-columns : (w : ℕ) → columns w [] ≡ []
unfolding columns transposed tabulate
empty-columns w = refl

pub empty-uncolumns : (w : ℕ) → uncolumns w [] ≡ []
unfolding uncolumns transposed tabulate
empty-uncolumns w = refl

-- Both directions are permutations: each maps places below n to places below n and undoes the other.
module _ (w n : ℕ) (ok : width_ok w n ≡ true) (p : ℕ) (h : p < n) where
  size : n ≡ n / w * w
  size = width-rows w n ok

  abbrev r : ℕ
  r = n / w

  below : (p / w < r) × (p % w < w)
  below = row_below p r w (omega (arith, size))

  pub goes-below : goes_to w n p < n
  unfolding goes_to
  goes-below = omega (arith, within (p % w) w r (p / w) below.1 below.0, mul_comm w r, size)

  pub goes_back : comes_from w n (goes_to w n p) ≡ p
  unfolding goes_to comes_from
  goes_back = rw (in_row (p % w) r (p / w) below.0, row-of (p % w) r (p / w) below.0) (div-add-mod' p w)

  behind : (p / r < w) × (p % r < r)
  behind = row_below p w r (omega (arith, mul_comm w r, size))

  pub comes-below : comes_from w n p < n
  unfolding comes_from
  comes-below = omega (arith, within (p % r) r w (p / r) behind.1 behind.0, size)

  pub comes_back : goes_to w n (comes_from w n p) ≡ p
  unfolding goes_to comes_from
  comes_back = rw (in_row (p % r) w (p / r) behind.0, row-of (p % r) w (p / r) behind.0) (div-add-mod' p r)
