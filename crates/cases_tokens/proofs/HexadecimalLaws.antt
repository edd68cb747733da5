-- Laws of bytes in hexadecimal, for the proofs of `hexadecimal`.
use mathlib.Core.List.{List, [], ◌∷◌, ◌++◌}
use mathlib.Core.Bool.{Bool, true, false, cond}
use mathlib.Core.Path.{◌≡◌, refl, sym, ◌∙◌}
use Prim.Native.Nat.{ℕ, ◌+◌, ◌*◌, ◌/◌, ◌%◌, ◌≤◌, ◌<◌}
use native.Mathlib.Numerals.{add-one}
use native.Mathlib.Omega.{arith}
use lib.ListN.{length, get_or, set, take, drop}
use lib.Seq.{paste, get_or-set_other, get_or-set_same, ext_get_or}
use Rattle.std.specs.Prelude.{Result, Ok, Err}
use Rattle.std.proofs.Common.{take_all}
use borrow.Author.Count.{below_more}
use lib.Dec.{ltb, leb, eqb}
use borrow.Author.Tests.{lt-ltb, le-ltb, le-leb, lt-leb, leb-true, ltb-false, eq-eqb, ne_eqb}
use Rattle.text.specs.Text.{all_below, same_list}
use Rattle.text.specs.ListLaws.{bool_clash, all_below-at, all_below-not, and_both, eq-same_list, ne-same_list, length-tabulate, get_or-tabulate}
use Rattle.cases_tokens.specs.Hexadecimals.{digit_of, byte_of, token_byte_at, all_hex, hex_bytes, hex_of, made_size}
use Rattle.cases_tokens.specs.declared.hexadecimal.Fault.TheVariants as fault
use Rattle.cases_tokens.specs.declared.hexadecimal.Fault.{Fault}

module _ (word : List ℕ) (i high low : ℕ) (h : high ≡ digit_of (get_or word (2 * i) 0)) (l : low ≡ digit_of (get_or word (2 * i + 1) 0)) where
  pub byte-none : 15 < low → 256 ≡ token_byte_at word i
  unfolding token_byte_at byte_of
  byte-none z = simp (lt-ltb 15 (digit_of (get_or word (2 * i + 1) 0)) (rw l at z))

  pub byte-some : low ≤ 15 → 16 * high + low ≡ token_byte_at word i
  unfolding token_byte_at byte_of
  byte-some z = simp (le-ltb 15 (digit_of (get_or word (2 * i + 1) 0)) (rw l at z)) (rw (h, l))

-- The first i bytes are bytes.
pub record Bytes (word : List ℕ) (i : ℕ) : Type 0 where
  pub are : all_below i (λ k. leb (token_byte_at word k) 255) ≡ true

pub bytes-none : (word : List ℕ) → Bytes word 0
unfolding all_below
bytes-none word = record { are = refl }

pub token-bytes-more : (word : List ℕ) (i b : ℕ) → Bytes word i → b ≡ token_byte_at word i → b ≤ 255 → Bytes word (i + 1)
unfolding all_below
token-bytes-more word i b h e z = record { are = rw add-one (and_both h.are (le-leb (token_byte_at word i) 255 (rw e at z))) }

pub bytes-all : (word : List ℕ) (i : ℕ) → Bytes word i → i ≡ length word / 2 → true ≡ all_hex word
unfolding all_hex
bytes-all word i h e = sym (rw e at h.are)

pub bytes-not : (word : List ℕ) (i b : ℕ) → i < length word / 2 → b ≡ token_byte_at word i → 255 < b → false ≡ all_hex word
unfolding all_hex
bytes-not word i b h e z = sym (all_below-not (length word / 2) _ i h (lt-leb (token_byte_at word i) 255 (rw e at z)))

module _ (word : List ℕ) (i b : ℕ) (h : i < length word / 2) (e : b ≡ token_byte_at word i) where
  pub byte_fits : all_hex word ≡ true → b ≤ 255
  unfolding all_hex
  byte_fits all = rw e (leb-true (token_byte_at word i) 255 (all_below-at (length word / 2) (λ k. leb (token_byte_at word k) 255) all i h))

  is_byte : b ≡ get_or (hex_bytes word) i 0
  unfolding hex_bytes
  is_byte = e ∙ sym (get_or-tabulate (length word / 2) (token_byte_at word) i 0 h)

  -- One byte more is right.
  pub right-more : (items : List ℕ) → i < length items → ((k : ℕ) → k < i → get_or items k 0 ≡ get_or (hex_bytes word) k 0)
      → (k : ℕ) → k < i + 1 → get_or (set items i b) k 0 ≡ get_or (hex_bytes word) k 0
  right-more items inside right =
      below_more _ _ (λ k l. get_or-set_other items i k b 0 (λ z. omega arith) ∙ right k l) (get_or-set_same items i b 0 inside ∙ is_byte)

-- The bytes in front are those that the word represents.
pub bytes-in-front : (word out items : List ℕ) → length items ≡ length word / 2
    → ((k : ℕ) → k < length items → get_or items k 0 ≡ get_or (hex_bytes word) k 0)
    → items ++ drop (length word / 2) out ≡ paste out 0 (hex_bytes word) (length word / 2)
unfolding hex_bytes
bytes-in-front word out items size right =
    let n : ℕ = length word / 2 in
    let all : length (hex_bytes word) ≡ n = length-tabulate n (token_byte_at word) in
    let same : items ≡ hex_bytes word = ext_get_or 0 items (hex_bytes word) (size ∙ sym all) right in
    let whole : take n (hex_bytes word) ≡ hex_bytes word = take_all n (hex_bytes word) (omega (arith, all)) in
    let z : 0 + n ≡ n = omega arith in
    rw (same, whole, z)

abbrev dash : List ℕ
dash = 45 ∷ []

not-dash : (word : List ℕ) (b : Bool) → b ≡ false → (word ≡ dash → b ≡ true) → same_list word dash ≡ false
not-dash word b f h = ne-same_list word dash (λ e. bool_clash b (h e) f)

pub hex-dash : (word : List ℕ) (room : ℕ) → word ≡ dash → Ok 0 ≡ hex_of word room
unfolding hex_of
hex-dash word room e = simp (eq-same_list word dash e)

-- b is the answer whether the word is `-`
module _ (word : List ℕ) (room : ℕ) (b : Bool) (f : b ≡ false) (h : word ≡ dash → b ≡ true) where
  pub hex-odd : (length word % 2 ≡ 0 → ⊥) → Err fault.Hex ≡ hex_of word room
  unfolding hex_of
  hex-odd o = simp (not-dash word b f h, ne_eqb (length word % 2) 0 o)

  module _ (even : length word % 2 ≡ 0) where
    pub hex-empty : length word ≡ 0 → Err fault.Hex ≡ hex_of word room
    unfolding hex_of
    hex-empty z = simp (not-dash word b f h, eq-eqb (length word % 2) 0 even, eq-eqb (length word) 0 z)

    module _ (some : length word ≡ 0 → ⊥) (a : Bool) (all : a ≡ all_hex word) where
      pub hex-other : a ≡ false → Err fault.Hex ≡ hex_of word room
      unfolding hex_of
      hex-other n = simp (not-dash word b f h, eq-eqb (length word % 2) 0 even, ne_eqb (length word) 0 some, sym all ∙ n)

      pub hex-long : a ≡ true → room < length word / 2 → Err fault.Room ≡ hex_of word room
      unfolding hex_of
      hex-long y l = simp (not-dash word b f h, eq-eqb (length word % 2) 0 even, ne_eqb (length word) 0 some, sym all ∙ y, lt-ltb room (length word / 2) l)

      pub hex-fits : a ≡ true → length word / 2 ≤ room → Ok (length word / 2) ≡ hex_of word room
      unfolding hex_of
      hex-fits y l = simp (not-dash word b f h, eq-eqb (length word % 2) 0 even, ne_eqb (length word) 0 some, sym all ∙ y, le-ltb room (length word / 2) l)

-- A word gives no more bytes than the buffer has, and no more than it represents.

token-sizes : (a b c d e : Bool) (n m : ℕ) → (e ≡ false → n ≤ m)
    → made_size (cond a (Ok 0) (cond b
    (cond c (Err fault.Hex) (cond d (cond e (Err fault.Room) (Ok n)) (Err fault.Hex))) (Err fault.Hex))) ≤ m
token-sizes true b c d e n m h = omega arith
token-sizes false false c d e n m h = omega arith
token-sizes false true true d e n m h = omega arith
token-sizes false true false false e n m h = omega arith
token-sizes false true false true true n m h = omega arith
token-sizes false true false true false n m h = h refl

module _ (word : List ℕ) (room : ℕ) where
  pub hex-within : made_size (hex_of word room) ≤ room
  unfolding hex_of
  hex-within = token-sizes (same_list word dash) (eqb (length word % 2) 0)
      (eqb (length word) 0) (all_hex word) (ltb room (length word / 2)) (length word / 2) room (ltb-false room (length word / 2))

  pub hex-all : made_size (hex_of word room) ≤ length (hex_bytes word)
  unfolding hex_of hex_bytes
  hex-all =
      rw (length-tabulate (length word / 2) (token_byte_at word))
      (token-sizes (same_list word dash) (eqb (length word % 2) 0)
      (eqb (length word) 0) (all_hex word) (ltb room (length word / 2)) (length word / 2) (length word / 2) (λ _. omega arith))

  pub hex-inside : (r : Result ℕ Fault) (n : ℕ) → r ≡ hex_of word room → r ≡ Ok n → n ≤ room
  hex-inside r n a e = rw (sym a ∙ e) at hex-within
