-- What a text is: lists, what is asked of a list of bytes, and the rows of a text.
-- docs/FORMAT.md: "Terms", "Searching", "Rows of a text".
use Rattle.std.specs.Prelude.{List, [], ◌∷◌, ◌++◌, Bool, true, false, cond, ◌&&◌, ℕ, zero, suc, ◌+◌, ◌-◌, eqb, leb, take, drop, get_or}

-- Lists, sums and tests over the numbers below n, for the definitions of the format.

-- The list f 0, f 1, .., f (n - 1).
unfoldable pub tabulate {ℓ} : {A : Type ℓ} → ℕ → (ℕ → A) → List A
tabulate zero f = []
tabulate (suc n) f = f 0 ∷ tabulate n (λ i. f (suc i))

-- The lists of a list, one after the other.
unfoldable pub concat {ℓ} : {A : Type ℓ} → List (List A) → List A
concat [] = []
concat (x ∷ xs) = x ++ concat xs

-- The sum f 0 + f 1 + .. + f (n - 1).
unfoldable pub sum_below : ℕ → (ℕ → ℕ) → ℕ
sum_below zero f = 0
sum_below (suc n) f = sum_below n f + f n

-- Whether p holds at each of 0, 1, .., n - 1.
unfoldable pub all_below : ℕ → (ℕ → Bool) → Bool
all_below zero p = true
all_below (suc n) p = all_below n p && p n

-- How many of 0, 1, .., n - 1 satisfy p.
unfoldable pub count_below : ℕ → (ℕ → Bool) → ℕ
count_below zero p = 0
count_below (suc n) p =
    let rest = count_below n p in
    cond (p n) (rest + 1) rest

-- Whether two lists are equal.
unfoldable pub same_list : List ℕ → List ℕ → Bool
same_list [] [] = true
same_list [] (y ∷ ys) = false
same_list (x ∷ xs) [] = false
same_list (x ∷ xs) (y ∷ ys) = eqb x y && same_list xs ys

-- Searching and counting in a text, which is a list of bytes.
-- docs/FORMAT.md: "Searching", "Count", "Find".

-- The substring of len bytes from place p.
unfoldable pub substring : List ℕ → ℕ → ℕ → List ℕ
substring T p len = take len (drop p T)

-- The first of the places p, p + 1, .., p + more at which the len bytes from place s occur; p + more if there is none before.
unfoldable pub first_from : List ℕ → ℕ → ℕ → ℕ → ℕ → ℕ
first_from T s len zero p = p
first_from T s len (suc more) p =
    let later = first_from T s len more (p + 1) in
    cond (same_list (substring T p len) (substring T s len)) p later

-- The place of the leftmost occurrence of the len bytes from place s.
unfoldable pub leftmost : List ℕ → ℕ → ℕ → ℕ
leftmost T s len = first_from T s len s 0

-- Whether a byte is a digit, '0' to '9'.
unfoldable pub is_digit : ℕ → Bool
is_digit x = leb 48 x && leb x 57

-- How often byte c occurs in xs. For the first bytes of a text this is rank.
unfoldable pub count_in : ℕ → List ℕ → ℕ
count_in c [] = 0
count_in c (x ∷ xs) =
    let rest = count_in c xs in
    cond (eqb c x) (rest + 1) rest

-- The place in xs of the occurrence of c with k others before it; the length of xs if there is none.
unfoldable pub place_in : ℕ → ℕ → List ℕ → ℕ
place_in c k [] = 0
place_in c zero (x ∷ xs) =
    let later = place_in c zero xs in
    cond (eqb c x) 0 (later + 1)
place_in c (suc k) (x ∷ xs) =
    let next = place_in c k xs in
    let later = place_in c (suc k) xs in
    cond (eqb c x) (next + 1) (later + 1)

-- The place of the j-th occurrence of c, j from 1 (select).
unfoldable pub place_of : ℕ → ℕ → List ℕ → ℕ
place_of c j T = place_in c (j - 1) T

-- The rows of a text.
-- docs/FORMAT.md: "Rows of a text".

-- The rows after byte x is prepended to the first row; x is a row of its own if there is no other.
abbrev pub in_first : ℕ → List (List ℕ) → List (List ℕ)
in_first x [] = (x ∷ []) ∷ []
in_first x (row ∷ rows) = (x ∷ row) ∷ rows

-- The rows of a text, in order. Byte 10 ends a row; one byte 13 directly before it belongs to the end; every other byte is part of its row. The bytes after
-- the last byte 10, if any, are one more row.
unfoldable pub rows_of : List ℕ → List (List ℕ)
rows_of [] = []
rows_of (x ∷ xs) =
    let rest = rows_of xs in
    cond (eqb 10 x) ([] ∷ rest) (cond (eqb 13 x && eqb 10 (get_or xs 0 0)) rest (in_first x rest))

-- Row q, counted from 1; no bytes if there is no such row.
unfoldable pub row_of : List ℕ → ℕ → List ℕ
row_of T zero = []
row_of T (suc q) = get_or (rows_of T) q []
