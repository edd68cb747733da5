-- Tests joined by `&&`: from the whole to each part.
use Rattle.std.specs.Prelude.{List, [], ◌∷◌, Bool, true, ◌&&◌, ◌≡◌}
use Rattle.text.specs.ListLaws.{and_left, and_right}

-- a && b₁ && b₂ && ..
abbrev pub joined : Bool → List Bool → Bool
joined a [] = a
joined a (b ∷ bs) = joined (a && b) bs

-- Each of the list is true.
abbrev pub Hold : List Bool → Type 0
Hold [] = Unit {0}
Hold (b ∷ bs) = (b ≡ true) × Hold bs

-- The first test, then the others in order.
pub joined-first : (a : Bool) (bs : List Bool) → joined a bs ≡ true → a ≡ true
joined-first a [] h = h
joined-first a (b ∷ bs) h = and_left a b (joined-first (a && b) bs h)

pub joined-rest : (a : Bool) (bs : List Bool) → joined a bs ≡ true → Hold bs
joined-rest a [] h = tt
joined-rest a (b ∷ bs) h = (and_right a b (joined-first (a && b) bs h), joined-rest (a && b) bs h)

pub parts : (a : Bool) (bs : List Bool) → joined a bs ≡ true → Hold (a ∷ bs)
parts a bs h = (joined-first a bs h, joined-rest a bs h)
