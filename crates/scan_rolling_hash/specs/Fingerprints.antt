-- Fingerprints modulo the prime 2^31 - 1, with a base from a seed. The last byte is multiplied by the base too, so every byte affects every bit.
use Rattle.std.specs.Prelude.{List, ℕ, ◌*◌, ◌%◌}
use Rattle.search.specs.FingerValues.{search_digits}

-- A base below 2^30: a step of a window then needs at most one subtraction to be reduced.
abbrev pub base_of : ℕ → ℕ
base_of seed = seed % 1073741824

unfoldable pub fingerprint : ℕ → List ℕ → ℕ
fingerprint seed s = search_digits (base_of seed) 0 s * base_of seed % 2147483647
