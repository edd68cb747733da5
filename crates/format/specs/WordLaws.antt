-- What is written as words is read back, and nothing else changes.
use Rattle.std.specs.Prelude.{List, [], ◌∷◌, ◌++◌, map, ◌≡◌, refl, ◌≢◌, ℕ, ◌+◌, ◌*◌, ◌/◌, ◌%◌, ◌≤◌, ◌<◌, length, get_or, take, drop}
use Rattle.std.proofs.Common.{append_assoc, arith, add-one, mod-eq_of_lt, add_assoc, mul-suc, length-set, get_or-set_other, get_or-append-add}
use Rattle.std.proofs.Math.Numerals.{add-two, add-three}
use Rattle.std.proofs.Math.Nat.{div-add-mod, div-div-eq-div-mul}
use Rattle.std.proofs.lemmas.List.Edits.{sets-eq}
use Rattle.text.specs.Text.{concat}
use Rattle.format.specs.Layout.{word_at, word_bytes, words_bytes, set_word}

-- Three words, one after the other.
abbrev pub put_three : List ℕ → ℕ → ℕ → ℕ → ℕ → List ℕ
put_three t i a b c = set_word (set_word (set_word t i a) (i + 4) b) (i + 8) c

-- A number below 2^32 is the sum of its four digits to base 256.
pub digits : (w : ℕ) → w < 4294967296 → w % 256 + 256 * (w / 256 % 256) + 65536 * (w / 65536 % 256) + 16777216 * (w / 16777216 % 256) ≡ w
digits w small =
    let top : w / 16777216 < 256 = omega arith in
    omega (
      arith,
      div-add-mod w 256,
      rw (div-div-eq-div-mul w 256 256) at (div-add-mod (w / 256) 256),
      rw (div-div-eq-div-mul w 65536 256) at (div-add-mod (w / 65536) 256),
      mod-eq_of_lt top,
    )

-- A word's own bytes, with anything after them, read as that word.
pub word_at-word_bytes : (w : ℕ) (rest : List ℕ) → w < 4294967296 → word_at (word_bytes w ++ rest) 0 ≡ w
unfolding word_at word_bytes
word_at-word_bytes w rest small = digits w small

-- A word is its four bytes alone: lists that agree on them have the same word there, whatever else they hold and however long they are.
pub word_at-agree : (t u : List ℕ) (i : ℕ) → ((k : ℕ) → i ≤ k → k < i + 4 → get_or t k 0 ≡ get_or u k 0) → word_at t i ≡ word_at u i
unfolding word_at
word_at-agree t u i same =
    rw (
      same i (omega arith) (omega arith),
      same (i + 1) (omega arith) (omega arith),
      same (i + 2) (omega arith) (omega arith),
      same (i + 3) (omega arith) (omega arith),
    )

-- Four bytes make a word below 2^32.
pub word_at-lt : (t : List ℕ) (i : ℕ) → ((k : ℕ) → get_or t k 0 < 256) → word_at t i < 4294967296
unfolding word_at
word_at-lt t i byte = omega (arith, byte i, byte (i + 1), byte (i + 2), byte (i + 3))

pub length-set_word : (t : List ℕ) (i w : ℕ) → length (set_word t i w) ≡ length t
unfolding set_word
length-set_word t i w = simp length-set

pub get_or-set_word-other : (t : List ℕ) (i w k : ℕ) → (i ≤ k → k < i + 4 → ⊥) → get_or (set_word t i w) k 0 ≡ get_or t k 0
unfolding set_word
get_or-set_word-other t i w k out =
    let n0 : k ≢ i = λ e. out (omega arith) (omega arith) in
    let n1 : k ≢ i + 1 = λ e. out (omega arith) (omega arith) in
    let n2 : k ≢ i + 2 = λ e. out (omega arith) (omega arith) in
    let n3 : k ≢ i + 3 = λ e. out (omega arith) (omega arith) in
    simp get_or-set_other

-- Writing a word puts its bytes between those before and after it, which are unchanged.
pub set_word-eq : (t : List ℕ) (i w : ℕ) → i + 4 ≤ length t → set_word t i w ≡ take i t ++ word_bytes w ++ drop (i + 4) t
unfolding set_word word_bytes
set_word-eq t i w fits = rw (add-one i, add-two i, add-three i) (sets-eq (w % 256 ∷ w / 256 % 256 ∷ w / 65536 % 256 ∷ w / 16777216 % 256 ∷ []) t i fits)

-- Words written one after the other are read back.

pub word_at-append : (A X : List ℕ) (x : ℕ) → word_at (A ++ X) (length A + x) ≡ word_at X x
unfolding word_at
word_at-append A X x =
    rw (
      add_assoc (length A) x 1,
      add_assoc (length A) x 2,
      add_assoc (length A) x 3,
      get_or-append-add A X x 0,
      get_or-append-add A X (x + 1) 0,
      get_or-append-add A X (x + 2) 0,
      get_or-append-add A X (x + 3) 0,
    )

pub words-cons : (w : ℕ) (ws B : List ℕ) → words_bytes (w ∷ ws) ++ B ≡ word_bytes w ++ (words_bytes ws ++ B)
unfolding words_bytes concat
words-cons w ws B = append_assoc (word_bytes w) (concat (map word_bytes ws)) B

pub length-words : (ws : List ℕ) → length (words_bytes ws) ≡ 4 * length ws
unfolding words_bytes concat word_bytes
length-words [] = refl
length-words (w ∷ ws) = rw (mul-suc 4 (length ws)) (omega (arith, length-words ws))
