-- Bytes copied by words: a word that is read and written is four bytes, and a pair eight.
use mathlib.Core.List.{List}
use mathlib.Core.Path.{◌≡◌, ap, ◌∙◌}
use Prim.Native.Nat.{ℕ, ◌+◌, ◌-◌, ◌*◌, ◌/◌, ◌%◌, ◌≤◌, ◌<◌}
use native.Mathlib.Omega.{arith}
use lib.ListN.{length, get_or}
use Rattle.format.specs.Layout.{word_at, set_word}
use Rattle.byte_slices.specs.ByteSlices.{bytes_written}
use Rattle.byte_slices.proofs.ByteSliceLaws.{bytes-then, bytes-overlap}

-- Four bytes are the digits to base 256 of their word.
four-digits : (a b c d w : ℕ) → a < 256 → b < 256 → c < 256 → d < 256 → w ≡ a + 256 * b + 65536 * c + 16777216 * d
    → (w % 256 ≡ a) × (w / 256 % 256 ≡ b) × (w / 65536 % 256 ≡ c) × (w / 16777216 % 256 ≡ d)
four-digits a b c d w ha hb hc hd is =
    let second : w / 256 ≡ b + 256 * c + 65536 * d = omega arith in
    let third : w / 65536 ≡ c + 256 * d = omega arith in
    let fourth : w / 16777216 ≡ d = omega arith in
    (omega arith, rw second (omega arith), rw third (omega arith), rw fourth (omega arith))

module _ (T : List ℕ) (byte : (k : ℕ) → get_or T k 0 < 256) (from w : ℕ) (w-is : w ≡ word_at T from) where
  pub word_copied : (d e : List ℕ) (to : ℕ) → e ≡ set_word d to w → e ≡ bytes_written d to T from 4
  unfolding word_at set_word
  word_copied d e to e-is =
      let g = four-digits (get_or T from 0) (get_or T (from + 1) 0) (get_or T (from + 2) 0) (get_or T (from + 3) 0) w
      (byte from) (byte (from + 1)) (byte (from + 2)) (byte (from + 3)) w-is in
      let s : to + 0 ≡ to = omega arith in
      let f : from + 0 ≡ from = omega arith in
      e-is ∙ rw (g.0, g.1, g.2, g.3, s, f)

-- The bytes after the first j.
pub next-copied : (d u v T : List ℕ) (to from j m : ℕ) → u ≡ bytes_written d to T from j → v ≡ bytes_written u (to + j) T (from + j) m
    → v ≡ bytes_written d to T from (j + m)
next-copied d u v T to from j m u-is v-is = v-is ∙ ap (λ (x : List ℕ). bytes_written x (to + j) T (from + j) m) u-is ∙ bytes-then d T to from j m

pub pair-copied : (T : List ℕ) → ((k : ℕ) → get_or T k 0 < 256) → (from low high : ℕ) → low ≡ word_at T from → high ≡ word_at T (from + 4)
    → (d e f : List ℕ) (to : ℕ) → e ≡ set_word d to low → f ≡ set_word e (to + 4) high → f ≡ bytes_written d to T from 8
pair-copied T byte from low high low-is high_is d e f to e-is f-is =
    next-copied d e f T to from 4 4 (word_copied T byte from low low-is d e to e-is) (word_copied T byte (from + 4) high high_is e f (to + 4) f-is)

-- The last m of n bytes, after the first k; none is between them.
pub last-copied : (d u v T : List ℕ) (to from k m n : ℕ) → to + n ≤ length d → k ≤ n → m ≤ n → n ≤ k + m
    → u ≡ bytes_written d to T from k → v ≡ bytes_written u (to + (n - m)) T (from + (n - m)) m → v ≡ bytes_written d to T from n
last-copied d u v T to from k m n fits first last covered u-is v-is =
    v-is ∙ ap (λ (x : List ℕ). bytes_written x (to + (n - m)) T (from + (n - m)) m) u-is
    ∙ bytes-overlap d T to from k (n - m) m n (omega arith) (omega arith) first (omega arith)
