-- Occurrences in a text, and the base and modulus of fingerprints.
-- docs/FORMAT.md: "Searching".
use Rattle.std.specs.Prelude.{ℕ, ◌%◌, min, max, ◌+◌, List, Bool, cond, ◌&&◌, length, leb, ltb, Option, Some, None}
use Rattle.search.specs.declared.Fingerprint.{Fingerprint}
use Rattle.text.specs.Text.{leftmost}
use Rattle.text.specs.declared.TextPlace.{TextPlace}

-- Karp-Rabin fingerprints: bytes as the digits of a number in a base, modulo a modulus.

-- The modulus that is used for a given one: 1 to 2147483647.
unfoldable pub usable_modulus : ℕ → ℕ
usable_modulus q = max 1 (min q 2147483647)

-- The fingerprint for any base and modulus: the base is reduced below the modulus.
unfoldable pub usable : ℕ → ℕ → Fingerprint
usable b q = record { base = b % usable_modulus q; modulus = usable_modulus q }

-- What leftmost and occurs_earlier return for any bytes. The answers do not depend on base and modulus.
-- docs/FORMAT.md: "Searching".

-- The leftmost occurrence of the len bytes at a place; `None` if they extend past the end of the text.
unfoldable pub leftmost_answer : List ℕ → ℕ → ℕ → Option TextPlace
leftmost_answer T at len = cond (leb (at + len) (length T)) (Some (record { 0 = leftmost T at len })) None

-- Whether the len bytes at a place are in the text and also occur at an earlier place.
unfoldable pub occurs_earlier_answer : List ℕ → ℕ → ℕ → Bool
occurs_earlier_answer T at len = leb (at + len) (length T) && ltb (leftmost T at len) at
