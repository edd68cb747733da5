-- Words written one after the other are read back.
use Rattle.std.specs.Prelude.{List, [], ◌∷◌, ◌++◌, ◌≡◌, ℕ, zero, suc, ◌+◌, ◌*◌, ◌<◌, length, get_or}
use Rattle.std.proofs.Common.{◌∙◌, arith}
use Rattle.format.specs.Layout.{word_at, word_bytes, words_bytes}
use Rattle.format.specs.WordLaws.{word_at-append, word_at-word_bytes, words-cons}

word_next : (w : ℕ) (rest : List ℕ) (x : ℕ) → word_at (word_bytes w ++ rest) (4 + x) ≡ word_at rest x
unfolding word_bytes
word_next w rest x = word_at-append (word_bytes w) rest x

word_in : (ws B : List ℕ) (j : ℕ) → j < length ws → get_or ws j 0 < 4294967296 → word_at (words_bytes ws ++ B) (4 * j) ≡ get_or ws j 0
word_in [] B j l small = absurd (let z : ⊥ = omega arith in z)
word_in (w ∷ ws) B zero l small = rw (words-cons w ws B) (word_at-word_bytes w (words_bytes ws ++ B) small)
word_in (w ∷ ws) B (suc j) l small =
    let e : 4 * suc j ≡ 4 + 4 * j = omega arith in
    rw (words-cons w ws B, e) (word_next w (words_bytes ws ++ B) (4 * j) ∙ word_in ws B j (omega arith) small)

-- Word j of the words ws after A.
pub word-at : (A ws B : List ℕ) (a j : ℕ) → length A ≡ a → j < length ws → get_or ws j 0 < 4294967296
    → word_at (A ++ (words_bytes ws ++ B)) (a + 4 * j) ≡ get_or ws j 0
word-at A ws B a j e l small = rw (← e) (word_at-append A (words_bytes ws ++ B) (4 * j) ∙ word_in ws B j l small)
