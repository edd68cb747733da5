-- Words in a list of bytes: read as numbers, and written one after the other.
use mathlib.Core.List.{List, [], ◌∷◌, ◌++◌, append-nil, append_assoc}
use mathlib.Core.Path.{◌≡◌, refl, sym, ap, ◌∙◌}
use Prim.Native.Nat.{ℕ, suc, ◌+◌, ◌*◌, ◌/◌, ◌%◌, ◌≤◌, ◌<◌}
use native.Mathlib.Omega.{arith}
use native.Mathlib.Numerals.{add-one}
use lib.ListN.{length, get_or, take, drop, length-append, length-drop}
use lib.Seq.{length-take-le, take-suc, take_at, drop-append-add, drop-drop, get_or-append-add}
use Rattle.text.specs.Text.{concat}
use Rattle.format.specs.Layout.{word_at, word_bytes, words_bytes, set_word}
use Rattle.format.specs.WordLaws.{length-words, set_word-eq, word_at-append}

-- Bytes that read as the words ws are their bytes.
pub words_are : (ws g : List ℕ)
    → length g ≡ 4 * length ws → ((k : ℕ) → get_or g k 0 < 256) → ((i : ℕ) → i < length ws → word_at g (4 * i) ≡ get_or ws i 0) → g ≡ words_bytes ws
unfolding words_bytes word_bytes concat word_at
words_are [] [] e byte is = refl
words_are [] (x ∷ g) e byte is = absurd (let z : ⊥ = omega arith in z)
words_are (w ∷ ws) [] e byte is = absurd (let z : ⊥ = omega arith in z)
words_are (w ∷ ws) (a ∷ []) e byte is = absurd (let z : ⊥ = omega arith in z)
words_are (w ∷ ws) (a ∷ b ∷ []) e byte is = absurd (let z : ⊥ = omega arith in z)
words_are (w ∷ ws) (a ∷ b ∷ c ∷ []) e byte is = absurd (let z : ⊥ = omega arith in z)
words_are (w ∷ ws) (a ∷ b ∷ c ∷ d ∷ g) e byte is =
    let first : a + 256 * b + 65536 * c + 16777216 * d ≡ w = is 0 (omega arith) in
    let low : a < 256 = byte 0 in
    let next : b < 256 = byte 1 in
    let high : c < 256 = byte 2 in
    let top : d < 256 = byte 3 in
    let second : w / 256 ≡ b + 256 * c + 65536 * d = omega arith in
    let third : w / 65536 ≡ c + 256 * d = omega arith in
    let fourth : w / 16777216 ≡ d = omega arith in
    let a_is : a ≡ w % 256 = omega arith in
    let b_is : b ≡ w / 256 % 256 = rw second (omega arith) in
    let c_is : c ≡ w / 65536 % 256 = rw third (omega arith) in
    let d_is : d ≡ w / 16777216 % 256 = rw fourth (omega arith) in
    let rest = words_are ws g (omega arith) (λ k. rw (get_or-append-add (a ∷ b ∷ c ∷ d ∷ []) g k 0) at (byte (4 + k))) (later ws g is) in
    rw (← a_is, ← b_is, ← c_is, ← d_is, ← rest)
  where
    later : (ws g : List ℕ) → ((i : ℕ) → i < suc (length ws) → word_at (a ∷ b ∷ c ∷ d ∷ g) (4 * i) ≡ get_or (w ∷ ws) i 0)
        → (i : ℕ) → i < length ws → word_at g (4 * i) ≡ get_or ws i 0
    later ws g is i l =
        let e : 4 * suc i ≡ 4 + 4 * i = omega arith in
        sym (word_at-append (a ∷ b ∷ c ∷ d ∷ []) g (4 * i)) ∙ rw e at (is (suc i) (omega arith))

words_snoc : (xs : List ℕ) (w : ℕ) → words_bytes (xs ++ (w ∷ [])) ≡ words_bytes xs ++ word_bytes w
unfolding words_bytes concat
words_snoc [] w = append-nil (word_bytes w)
words_snoc (x ∷ xs) w = ap (λ (l : List ℕ). word_bytes x ++ l) (words_snoc xs w) ∙ sym (append_assoc (word_bytes x) (words_bytes xs) (word_bytes w))

-- The next word written after the first e of them.
pub put_word : (ws old : List ℕ) (e : ℕ) → e < length ws → 4 * e + 4 ≤ length old
    → set_word (words_bytes (take e ws) ++ drop (4 * e) old) (4 * e) (get_or ws e 0) ≡ words_bytes (take (e + 1) ws) ++ drop (4 * (e + 1)) old
put_word ws old e l fits =
    let head = words_bytes (take e ws) in
    let all = head ++ drop (4 * e) old in
    let more : take (e + 1) ws ≡ take e ws ++ (get_or ws e 0 ∷ []) = rw (add-one e) (take-suc ws e 0 l) in
    let size : length head ≡ 4 * e = length-words (take e ws) ∙ ap (λ (n : ℕ). 4 * n) (length-take-le e ws (omega arith)) in
    let room : 4 * e + 4 ≤ length all = rw (length-append head (drop (4 * e) old), length-drop (4 * e) old, size) (omega arith) in
    let past : drop (4 * e + 4) all ≡ drop (4 * (e + 1)) old = (let n : 4 * e + 4 ≡ 4 * (e + 1) = omega arith in
    ap (λ (k : ℕ). drop (k + 4) all) (sym size) ∙ drop-append-add head (drop (4 * e) old) 4 ∙ drop-drop 4 (4 * e) old ∙ ap (λ (k : ℕ). drop k old) n) in
    set_word-eq all (4 * e) (get_or ws e 0) room
    ∙ rw (take_at head (drop (4 * e) old) (4 * e) size, past)
    (ap (λ (l : List ℕ). l ++ drop (4 * (e + 1)) old) (sym (ap words_bytes more ∙ words_snoc (take e ws) (get_or ws e 0))))
