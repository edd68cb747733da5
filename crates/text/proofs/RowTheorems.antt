-- Laws of the rows of a text: a text in two parts, a row between two bytes 10, the row after the last one.
use Rattle.std.specs.Prelude.{List, [], ◌∷◌, ◌++◌, Bool, true, false, cond, not, ◌&&◌, ◌≡◌, refl, ◌⊎◌, ℕ, zero, suc, ◌+◌, ◌-◌, ◌≤◌, ◌<◌, length, take, drop, get_or, eqb}
use Rattle.std.proofs.Math.Path.{sym}
use Rattle.std.proofs.Common.{ap, ◌∙◌, inl, inr, arith, add-one, length-drop, get_or-append-add, get_or-drop, take_all, take-take, drop_at, ne_eqb, lt-ltb}
use Rattle.std.proofs.Math.Seq.{split_at}
use Rattle.text.specs.ListLaws.{bool_clash, and_right, and-false, lt-or-ge}
use Rattle.text.specs.Text.{substring, count_in, place_of, in_first, rows_of, row_of}
use Rattle.text.specs.TextLaws.{length-substring, get_or-substring}
use Rattle.text.specs.CountLaws.{one, Nth}
use Rattle.text.proofs.CountTheorems.{count-cons, count-nil, count-append, count-start, count-next-same, place-nth, nth-later, nth_past}
use Rattle.text.specs.RowLaws.{trimmed, row_from, between, ends_open}

-- A row without bytes is unchanged; otherwise its last byte decides.
pub trimmed-none : (T : List ℕ) (p : ℕ) → trimmed (substring T p 0) ≡ substring T p 0
unfolding trimmed substring
trimmed-none T p = refl

module _ (T : List ℕ) (p len : ℕ) (some : 1 ≤ len) (within : p + len ≤ length T) where
  size : length (substring T p len) ≡ len
  size = length-substring T p len within

  last_byte : get_or (substring T p len) (length (substring T p len) - 1) 0 ≡ get_or T (p + (len - 1)) 0
  last_byte = rw size (get_or-substring T p len (len - 1) (omega arith))

  pub trimmed-mark : get_or T (p + (len - 1)) 0 ≡ 13 → trimmed (substring T p len) ≡ substring T p (len - 1)
  unfolding trimmed substring
  trimmed-mark e = rw (last_byte ∙ e, size) (take-take (len - 1) len (drop p T) (omega arith))

  pub trimmed-plain : (get_or T (p + (len - 1)) 0 ≡ 13 → ⊥) → trimmed (substring T p len) ≡ substring T p len
  unfolding trimmed
  trimmed-plain n = rw (ne_eqb 13 (get_or (substring T p len) (length (substring T p len) - 1) 0) (λ e. n (sym last_byte ∙ sym e)))

-- How a byte goes before the rows of the rest.
module _ (x : ℕ) (xs : List ℕ) where
  rows-ten : eqb 10 x ≡ true → rows_of (x ∷ xs) ≡ [] ∷ rows_of xs
  unfolding rows_of
  rows-ten e = rw e

  rows-left-out : eqb 10 x ≡ false → (eqb 13 x && eqb 10 (get_or xs 0 0)) ≡ true → rows_of (x ∷ xs) ≡ rows_of xs
  unfolding rows_of
  rows-left-out e f = rw (e, f)

  rows_in : eqb 10 x ≡ false → (eqb 13 x && eqb 10 (get_or xs 0 0)) ≡ false → rows_of (x ∷ xs) ≡ in_first x (rows_of xs)
  unfolding rows_of
  rows_in e f = rw (e, f)

first-append : (x : ℕ) (P Q : List (List ℕ)) → 1 ≤ length P → in_first x (P ++ Q) ≡ in_first x P ++ Q
first-append x [] Q h = absurd (let z : ⊥ = omega arith in z)
first-append x (r ∷ P) Q h = refl

first-length : (x : ℕ) (P : List (List ℕ)) → 1 ≤ length P → length (in_first x P) ≡ length P
first-length x [] h = absurd (let z : ⊥ = omega arith in z)
first-length x (r ∷ P) h = refl

-- What follows a byte 10 is not seen before it.
same_next : (A B : List ℕ) → get_or (A ++ 10 ∷ B) 0 0 ≡ get_or (A ++ 10 ∷ []) 0 0
same_next [] B = refl
same_next (x ∷ A) B = refl

one-ten : (x : ℕ) (y : Bool) → eqb 10 x ≡ y → one 10 x ≡ cond y 1 0
one-ten x y e = rw e

-- A text whose last byte is 10 has a row for each byte 10.
rows-ended : (A : List ℕ) → length (rows_of (A ++ 10 ∷ [])) ≡ count_in 10 A + 1
unfolding rows_of
rows-ended [] = omega (arith, count-nil 10)
rows-ended (x ∷ A) = go (eqb 10 x) (eqb 13 x && eqb 10 (get_or (A ++ 10 ∷ []) 0 0)) refl refl (rows-ended A)
  where
    go : (y z : Bool) → eqb 10 x ≡ y → (eqb 13 x && eqb 10 (get_or (A ++ 10 ∷ []) 0 0)) ≡ z → length (rows_of (A ++ 10 ∷ [])) ≡ count_in 10 A + 1
        → length (rows_of (x ∷ (A ++ 10 ∷ []))) ≡ count_in 10 (x ∷ A) + 1
    go true z e f rest = rw (rows-ten x (A ++ 10 ∷ []) e) (omega (arith, rest, count-cons 10 x A, one-ten x true e))
    go false true e f rest = rw (rows-left-out x (A ++ 10 ∷ []) e f) (omega (arith, rest, count-cons 10 x A, one-ten x false e))
    go false false e f rest = rw (rows_in x (A ++ 10 ∷ []) e f)
        (omega (arith, first-length x (rows_of (A ++ 10 ∷ [])) (omega (arith, rest)), rest, count-cons 10 x A, one-ten x false e))

-- The rows before a byte 10, the one that it ends with them, and the rows after it.
pub rows_split : (A B : List ℕ) → rows_of (A ++ 10 ∷ B) ≡ rows_of (A ++ 10 ∷ []) ++ rows_of B
unfolding rows_of
rows_split [] B = refl
rows_split (x ∷ A) B = go (eqb 10 x) (eqb 13 x && eqb 10 (get_or (A ++ 10 ∷ []) 0 0)) refl refl (rows_split A B)
  where
    next : (z : Bool) → (eqb 13 x && eqb 10 (get_or (A ++ 10 ∷ []) 0 0)) ≡ z → (eqb 13 x && eqb 10 (get_or (A ++ 10 ∷ B) 0 0)) ≡ z
    next z f = rw (same_next A B) f

    go : (y z : Bool) → eqb 10 x ≡ y → (eqb 13 x && eqb 10 (get_or (A ++ 10 ∷ []) 0 0)) ≡ z → rows_of (A ++ 10 ∷ B) ≡ rows_of (A ++ 10 ∷ []) ++ rows_of B
        → rows_of (x ∷ (A ++ 10 ∷ B)) ≡ rows_of (x ∷ (A ++ 10 ∷ [])) ++ rows_of B
    go true z e f rest = rw (rows-ten x (A ++ 10 ∷ B) e, rows-ten x (A ++ 10 ∷ []) e, rest)
    go false true e f rest = rw (rows-left-out x (A ++ 10 ∷ B) e (next true f), rows-left-out x (A ++ 10 ∷ []) e f) rest
    go false false e f rest = rw (rows_in x (A ++ 10 ∷ B) e (next false f), rows_in x (A ++ 10 ∷ []) e f, rest)
        (first-append x (rows_of (A ++ 10 ∷ [])) (rows_of B) (omega (arith, rows-ended A)))

-- Bytes without a byte 10.
no-ten : (x : ℕ) (A : List ℕ) → count_in 10 (x ∷ A) ≡ 0 → (eqb 10 x ≡ false) × (count_in 10 A ≡ 0)
no-ten x A h = go (eqb 10 x) refl
  where
    go : (y : Bool) → eqb 10 x ≡ y → (eqb 10 x ≡ false) × (count_in 10 A ≡ 0)
    go true e = absurd (let z : ⊥ = omega (arith, count-cons 10 x A, one-ten x true e) in z)
    go false e = (e, omega (arith, count-cons 10 x A, one-ten x false e))

trimmed-cons : (x z : ℕ) (A : List ℕ) → trimmed (x ∷ z ∷ A) ≡ x ∷ trimmed (z ∷ A)
unfolding trimmed
trimmed-cons x z A =
    let e : suc (suc (length A)) - 1 ≡ suc (length A) = omega arith in
    let f : suc (length A) - 1 ≡ length A = omega arith in
    rw (e, f) (go (eqb 13 (get_or (z ∷ A) (length A) 0)))
  where
    go : (y : Bool) → cond y (x ∷ take (length A) (z ∷ A)) (x ∷ z ∷ A) ≡ x ∷ cond y (take (length A) (z ∷ A)) (z ∷ A)
    go true = refl
    go false = refl

-- Bytes without byte 10, followed by a byte 10, are one row.
pub rows-one : (A : List ℕ) → count_in 10 A ≡ 0 → rows_of (A ++ 10 ∷ []) ≡ trimmed A ∷ []
unfolding rows_of trimmed
rows-one [] h = refl
rows-one (x ∷ []) h = go (eqb 13 x) refl
  where
    ten : eqb 10 x ≡ false
    ten = (no-ten x [] h).0

    go : (y : Bool) → eqb 13 x ≡ y → rows_of (x ∷ 10 ∷ []) ≡ trimmed (x ∷ []) ∷ []
    go true e = rw (ten, e)
    go false e = rw (ten, e)
rows-one (x ∷ z ∷ A) h =
    let a = no-ten x (z ∷ A) h in
    let b = no-ten z A a.1 in
    rw (rows_in x (z ∷ (A ++ 10 ∷ [])) a.0 (rw b.0 (and-false (eqb 13 x))), rows-one (z ∷ A) a.1, trimmed-cons x z A)

-- Bytes without byte 10, at least one, at the end of the text are one row.
pub rows-open : (x : ℕ) (A : List ℕ) → count_in 10 (x ∷ A) ≡ 0 → rows_of (x ∷ A) ≡ (x ∷ A) ∷ []
unfolding rows_of
rows-open x [] h = rw (no-ten x [] h).0 (go (eqb 13 x))
  where
    go : (y : Bool) → cond (y && eqb 10 0) [] ((x ∷ []) ∷ []) ≡ (x ∷ []) ∷ []
    go true = refl
    go false = refl
rows-open x (z ∷ A) h =
    let a = no-ten x (z ∷ A) h in
    let b = no-ten z A a.1 in
    rw (rows_in x (z ∷ A) a.0 (rw b.0 (and-false (eqb 13 x))), rows-open z A a.1)

-- A text has no more rows than bytes.
first-few : (x n : ℕ) (rows : List (List ℕ)) → length rows ≤ n → length (in_first x rows) ≤ suc n
first-few x n [] h = omega arith
first-few x n (r ∷ rows) h = omega arith

pub rows_few : (T : List ℕ) → length (rows_of T) ≤ length T
unfolding rows_of
rows_few [] = omega arith
rows_few (x ∷ xs) = go (eqb 10 x) (eqb 13 x && eqb 10 (get_or xs 0 0)) (rows_few xs)
  where
    go : (y z : Bool) → length (rows_of xs) ≤ length xs → length (cond y ([] ∷ rows_of xs) (cond z (rows_of xs) (in_first x (rows_of xs)))) ≤ suc (length xs)
    go true z h = omega arith
    go false true h = omega arith
    go false false h = first-few x (length xs) (rows_of xs) h

-- The bytes that follow a byte 10 at place p, up to a place.
rest-substring : (T : List ℕ) (p o : ℕ) → take o (drop (suc p) T) ≡ substring T (p + 1) o
unfolding substring
rest-substring T p o = rw add-one

rest-byte : (T : List ℕ) (p o : ℕ) → get_or (drop (suc p) T) o 0 ≡ get_or T (p + 1 + o) 0
rest-byte T p o = let e : suc p + o ≡ p + 1 + o = omega arith in get_or-drop (suc p) T o 0 ∙ ap (λ (k : ℕ). get_or T k 0) e

-- A byte 10 of a text, at place p.
module _ (T : List ℕ) (p : ℕ) (in_text : p < length T) (ten : get_or T p 0 ≡ 10) where
  rows-parts : rows_of T ≡ rows_of (take p T ++ 10 ∷ []) ++ rows_of (drop (suc p) T)
  rows-parts =
      ap rows_of (split_at T p 0 in_text ∙ ap (λ (x : ℕ). take p T ++ x ∷ drop (suc p) T) ten) ∙ rows_split (take p T) (drop (suc p) T)

  -- The rows past it are those of the rest.
  row-past : (n : ℕ) → get_or (rows_of T) (count_in 10 (take p T) + 1 + n) [] ≡ get_or (rows_of (drop (suc p) T)) n []
  row-past n =
      rw (rows-parts, ← rows-ended (take p T)) (get_or-append-add (rows_of (take p T ++ 10 ∷ [])) (rows_of (drop (suc p) T)) n [])

  -- The first byte 10 ends the first row.
  row_first : count_in 10 (take p T) ≡ 0 → get_or (rows_of T) 0 [] ≡ trimmed (take p T)
  row_first none = rw (rows-parts, rows-one (take p T) none)

-- The rows after the j-th byte 10, at place p, are those of what follows it.
pub rows-past : (T : List ℕ) (j p : ℕ) → Nth 10 j T 0 p → rows_of (drop (p + 1) T) ≡ drop j (rows_of T)
rows-past T j p h =
    let z : 0 + p ≡ p = omega arith in
    let parts = rows-parts T p (omega (arith, h.within)) (rw z at h.byte_is) in
    let size : length (rows_of (take p T ++ 10 ∷ [])) ≡ j = rows-ended (take p T) ∙ omega (arith, h.rank, count-start 10 T p) in
    rw (add-one p) (sym (ap (drop j) parts ∙ drop_at (rows_of (take p T ++ 10 ∷ [])) (rows_of (drop (suc p) T)) j size))

-- Rows between bytes 10 of known places: before the first, and from the k-th, at p, to the next, at e.
between_first : (T : List ℕ) (e : ℕ) → Nth 10 1 T 0 e → get_or (rows_of T) 0 [] ≡ trimmed (substring T 0 (e - 0))
unfolding substring
between_first T e h =
    let z : 0 + e ≡ e = omega arith in
    let y : e - 0 ≡ e = omega arith in
    rw y (row_first T e (omega (arith, h.within)) (rw z at h.byte_is) (omega (arith, h.rank, count-start 10 T e)))

module _ (T : List ℕ) (k p e : ℕ) (before : Nth 10 k T 0 p) (end : Nth 10 (k + 1) T 0 e) where
  -- The next byte 10 is after this one.
  pub next_past : p + 1 ≤ e
  next_past = nth_past 10 (k + 1) T 0 (p + 1) e end (omega (arith, before.rank, count-next-same 10 T 0 p before.within before.byte_is))

  -- The end of the row is the first byte 10 of the rest.
  rest : Nth 10 1 T (p + 1) (e - (p + 1))
  rest =
      let o : p + 1 + (e - (p + 1)) ≡ e = omega (arith, next_past) in
      let n : count_in 10 (substring T 0 (p + 1)) + 1 ≡ k + 1 = omega (arith, before.rank, count-next-same 10 T 0 p before.within before.byte_is) in
      let z : 0 + (p + 1) ≡ p + 1 = omega arith in
      rw z at (nth-later 10 1 T 0 (p + 1) (e - (p + 1)) (rw (n, o) end))

  between-later : get_or (rows_of T) k [] ≡ trimmed (substring T (p + 1) (e - (p + 1)))
  between-later =
      let o = e - (p + 1) in
      let D = drop (suc p) T in
      let z : 0 + p ≡ p = omega arith in
      let index : count_in 10 (take p T) + 1 + 0 ≡ k = omega (arith, before.rank, count-start 10 T p) in
      let past : get_or (rows_of T) k [] ≡ get_or (rows_of D) 0 [] = rw index at (row-past T p (omega (arith, before.within)) (rw z at before.byte_is) 0) in
      let bytes : take o D ≡ substring T (p + 1) o = rest-substring T p o in
      let ten : get_or D o 0 ≡ 10 = rest-byte T p o ∙ rest.byte_is in
      let none : count_in 10 (take o D) ≡ 0 = rw bytes (omega (arith, rest.rank)) in
      past ∙ rw bytes at (row_first D o (rw (length-drop (suc p) T) (omega (arith, rest.within))) ten none)

-- The rows are counted from 1.
pub row_at : (T : List ℕ) (q : ℕ) → 1 ≤ q → row_of T q ≡ get_or (rows_of T) (q - 1) []
unfolding row_of
row_at T zero low = absurd (let z : ⊥ = omega arith in z)
row_at T (suc q) low = let e : suc q - 1 ≡ q = omega arith in rw e

-- Row q, if the q-th byte 10 ends it.
pub row-between : (T : List ℕ) (q : ℕ) → 1 ≤ q → q ≤ count_in 10 T → row_of T q ≡ trimmed (between T q)
unfolding row_from between
row-between T q low high = row_at T q low ∙ go (lt-or-ge 1 q)
  where
    go : (1 < q) ⊎ (q ≤ 1) → get_or (rows_of T) (q - 1) [] ≡ trimmed (between T q)
    go (inr first) = let e : q ≡ 1 = omega arith in rw e (between_first T (place_of 10 1 T) (place-nth 10 1 T (omega arith) (omega arith)))
    go (inl later) =
        let n : q - 1 + 1 ≡ q = omega arith in
        rw (ne_eqb q 1 (λ e. omega arith))
        (between-later T (q - 1) (place_of 10 (q - 1) T)
        (place_of 10 q T) (place-nth 10 (q - 1) T (omega arith) (omega arith)) (rw n (place-nth 10 q T low high)))

-- The row after the last byte 10.

-- For a text that is not empty.
ends-cons : (x : ℕ) (A : List ℕ) → ends_open (x ∷ A) ≡ not (eqb 10 (get_or (x ∷ A) (length A) 0))
unfolding ends_open
ends-cons x A = let e : suc (length A) - 1 ≡ length A = omega arith in rw (lt-ltb 0 (suc (length A)) (omega arith), e)

ends_next : (x z : ℕ) (A : List ℕ) → ends_open (x ∷ z ∷ A) ≡ ends_open (z ∷ A)
ends_next x z A = ends-cons x (z ∷ A) ∙ sym (ends-cons z A)

ends-one : (x : ℕ) → ends_open (x ∷ []) ≡ not (eqb 10 x)
ends-one x = ends-cons x []

first_some : (x : ℕ) (P : List (List ℕ)) → 1 ≤ length (in_first x P)
first_some x [] = omega arith
first_some x (r ∷ P) = omega arith

-- A text with a byte has a row.
some-row : (z : ℕ) (A : List ℕ) → 1 ≤ length (rows_of (z ∷ A))
some-row z A = go A (eqb 10 z) (eqb 13 z && eqb 10 (get_or A 0 0)) refl refl
  where
    go : (A : List ℕ) (u w : Bool) → eqb 10 z ≡ u → (eqb 13 z && eqb 10 (get_or A 0 0)) ≡ w → 1 ≤ length (rows_of (z ∷ A))
    go A true w e f = rw (rows-ten z A e) (omega arith)
    go A false false e f = rw (rows_in z A e f) (first_some z (rows_of A))
    go [] false true e f = absurd (bool_clash {A = ⊥} false (and_right (eqb 13 z) false f) refl)
    go (y ∷ A) false true e f = rw (rows-left-out z (y ∷ A) e f, rows-ten y A (and_right (eqb 13 z) (eqb 10 y) f)) (omega arith)

-- The number of rows is the number of bytes 10, plus one if a byte other than 10 ends the text.
pub rows-count : (T : List ℕ) → length (rows_of T) ≡ count_in 10 T + cond (ends_open T) 1 0
unfolding rows_of ends_open count_in
rows-count [] = refl
rows-count (x ∷ []) = go (eqb 10 x) refl
  where
    go : (y : Bool) → eqb 10 x ≡ y → length (rows_of (x ∷ [])) ≡ count_in 10 (x ∷ []) + cond (ends_open (x ∷ [])) 1 0
    go true e = rw (rows-ten x [] e, ends-one x, e)
    go false e = rw (rows-open x [] (rw e), ends-one x, e)
rows-count (x ∷ z ∷ A) = go (eqb 10 x) (eqb 13 x && eqb 10 z) refl refl (rows-count (z ∷ A))
  where
    go : (y w : Bool) → eqb 10 x ≡ y → (eqb 13 x && eqb 10 z) ≡ w → length (rows_of (z ∷ A)) ≡ count_in 10 (z ∷ A) + cond (ends_open (z ∷ A)) 1 0
        → length (rows_of (x ∷ z ∷ A)) ≡ count_in 10 (x ∷ z ∷ A) + cond (ends_open (x ∷ z ∷ A)) 1 0
    go true w e f rest = rw (rows-ten x (z ∷ A) e, ends_next x z A) (omega (arith, rest, count-cons 10 x (z ∷ A), one-ten x true e))
    go false true e f rest = rw (rows-left-out x (z ∷ A) e f, ends_next x z A) (omega (arith, rest, count-cons 10 x (z ∷ A), one-ten x false e))
    go false false e f rest = rw (rows_in x (z ∷ A) e f, ends_next x z A)
        (omega (arith, first-length x (rows_of (z ∷ A)) (some-row z A), rest, count-cons 10 x (z ∷ A), one-ten x false e))

-- Bytes without a byte 10 all belong to the last row.
only_row : (A : List ℕ) → count_in 10 A ≡ 0 → get_or (rows_of A) 0 [] ≡ A
unfolding rows_of
only_row [] h = refl
only_row (x ∷ A) h = rw (rows-open x A h)

-- The bytes from a place to the end of the text.
to_end : (T : List ℕ) (p : ℕ) → substring T p (length T - p) ≡ drop p T
unfolding substring
to_end T p = take_all (length T - p) (drop p T) (rw (length-drop p T) (omega arith))

-- No byte 10 is after the last one.
none_after : (T : List ℕ) (c p : ℕ) → count_in 10 T ≡ c → Nth 10 c T 0 p → count_in 10 (drop (suc p) T) ≡ 0
none_after T c p e h =
    let z : 0 + p ≡ p = omega arith in
    let whole : count_in 10 T ≡ count_in 10 (take p T ++ 10 ∷ drop (suc p) T) =
    ap (count_in 10) (split_at T p 0 (omega (arith, h.within)) ∙ ap (λ (x : ℕ). take p T ++ x ∷ drop (suc p) T) (rw z at h.byte_is)) in
    omega (arith, whole, count-append 10 (take p T) (10 ∷ drop (suc p) T), count-cons 10 10 (drop (suc p) T), h.rank, count-start 10 T p)

-- The row after the last byte 10 has the bytes there, or the whole text; it has none if the last byte of the text is 10.
pub row_last : (T : List ℕ) → row_of T (count_in 10 T + 1) ≡ substring T (row_from T (count_in 10 T + 1)) (length T - row_from T (count_in 10 T + 1))
unfolding row_from
row_last T = row_at T (count_in 10 T + 1) (omega arith) ∙ go (count_in 10 T) refl
  where
    go : (c : ℕ) → count_in 10 T ≡ c
        → get_or (rows_of T) (count_in 10 T + 1 - 1) [] ≡ substring T (row_from T (count_in 10 T + 1)) (length T - row_from T (count_in 10 T + 1))
    go zero e = rw e (only_row T e ∙ sym (to_end T 0))
    go (suc c) e =
        let p = place_of 10 (suc c) T in
        let h = place-nth 10 (suc c) T (omega arith) (omega arith) in
        let z : 0 + p ≡ p = omega arith in
        let number : suc c + 1 - 1 ≡ suc c = omega arith in
        let index : count_in 10 (take p T) + 1 + 0 ≡ suc c = omega (arith, h.rank, count-start 10 T p) in
        let past : get_or (rows_of T) (suc c) [] ≡ get_or (rows_of (drop (suc p) T)) 0 [] =
        rw index at (row-past T p (omega (arith, h.within)) (rw z at h.byte_is) 0) in
        rw (e, number, ne_eqb (suc c + 1) 1 (λ y. omega arith))
        (past ∙ only_row (drop (suc p) T) (none_after T (suc c) p e h) ∙ rw (add-one p) (sym (to_end T (suc p))))
