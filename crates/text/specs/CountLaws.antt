-- What the laws of counting and of places speak of; they are in proofs/CountTheorems.antt.
use Rattle.std.specs.Prelude.{List, cond, ◌≡◌, ℕ, ◌+◌, ◌<◌, length, get_or, eqb}
use Rattle.text.specs.Text.{substring, count_in}

-- One byte: how often it is c.
abbrev pub one : ℕ → ℕ → ℕ
one c x = cond (eqb c x) 1 0

-- The j-th c of the bytes from place s, j from 1, is at place s + o.
pub record Nth (c j : ℕ) (T : List ℕ) (s o : ℕ) : Type 0 where
  pub within : s + o < length T
  pub byte_is : get_or T (s + o) 0 ≡ c
  pub rank : count_in c (substring T s o) + 1 ≡ j
