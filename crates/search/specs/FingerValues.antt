-- The fingerprint of bytes: a number in a base, modulo a modulus.
use Rattle.std.specs.Prelude.{List, [], ◌∷◌, ℕ, ◌+◌, ◌*◌, ◌%◌, ◌≤◌, ◌<◌}

-- A base below its modulus, which is small enough that no product needs more than 64 bits.
pub record ReducedBase (b q : ℕ) : Type 0 where
  pub below : b < q
  pub most : q ≤ 2147483647

-- The bytes as digits in base b, after the number a.
unfoldable pub search_digits : ℕ → ℕ → List ℕ → ℕ
search_digits b a [] = a
search_digits b a (x ∷ s) = search_digits b (a * b + x) s

unfoldable pub finger : ℕ → ℕ → List ℕ → ℕ
finger b q s = search_digits b 0 s % q
