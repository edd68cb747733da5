-- The order of texts: which of two comes first, and how many bytes they share.
-- docs/FORMAT.md: "The order of books".
use Rattle.std.specs.Prelude.{List, [], ◌∷◌, cond, ℕ, ◌+◌, ltb, eqb, Result, Ok}
use Rattle.std.specs.declared.cmp.Ordering.{Ordering}
use Rattle.std.specs.declared.cmp.Ordering.TheVariants.{Less, Equal, Greater}
use Rattle.refusals.specs.declared.Refusal.{Refusal}

-- The answer for an order, with the length of the shared beginning.
abbrev pub outcome : Ordering → ℕ → Result (Ordering × ℕ) Refusal
outcome s n = Ok (s, n)

-- The value of the text that comes first; the first value for equal texts.
abbrev pub first_of {ℓ} : {A : Type ℓ} → Ordering → A → A → A
first_of Less x y = x
first_of Equal x y = x
first_of Greater x y = y

-- lexicographic order of bytes as unsigned numbers; a proper prefix comes before the longer text
unfoldable pub text_ordering : List ℕ → List ℕ → Ordering
text_ordering [] [] = Equal
text_ordering [] (y ∷ U) = Less
text_ordering (x ∷ T) [] = Greater
text_ordering (x ∷ T) (y ∷ U) =
    let rest = text_ordering T U in
    cond (ltb x y) Less (cond (ltb y x) Greater rest)

-- The length of the shared beginning.
unfoldable pub shared : List ℕ → List ℕ → ℕ
shared [] U = 0
shared (x ∷ T) [] = 0
shared (x ∷ T) (y ∷ U) =
    let rest = shared T U in
    cond (eqb x y) (rest + 1) 0
