-- Laws of the words that lines begin with, for the proofs of `words`.
use mathlib.Core.List.{List, [], ◌∷◌}
use mathlib.Core.Bool.{Bool, true, false, cond}
use mathlib.Core.Path.{◌≡◌, refl, ap, ◌∙◌}
use Prim.Native.Nat.{ℕ, suc, ◌+◌, ◌-◌, ◌<◌}
use native.Mathlib.Omega.{arith}
use lib.ListN.{length, get_or}
use lib.Dec.{eqb}
use Rattle.text.specs.Text.{same_list}
use Rattle.text.specs.ListLaws.{bool_clash, eq-same_list, ne-same_list}
use Rattle.cases_tokens.specs.Parts.{token_of}
use Rattle.cases_script.specs.LineWords.{word_from, word_number, is_comment}

same-answered : (w x : List ℕ) (b : Bool) → (b ≡ true → w ≡ x) × (w ≡ x → b ≡ true) → same_list w x ≡ b
same-answered w x true h = eq-same_list w x (h.0 refl)
same-answered w x false h = ne-same_list w x (λ e. bool_clash false (h.1 e) refl)

-- b decides whether w, which is t, is the word x; and b is v.
pub word-matches : {w t x : List ℕ} {b v : Bool} → w ≡ t → (b ≡ true → w ≡ x) × (w ≡ x → b ≡ true) → b ≡ v → same_list t x ≡ v
word-matches {w} {t} {x} {b} e h z = rw e at (same-answered w x b h) ∙ z

-- The words from k on have the same answer as all.
pub record WordsLeft (words word : List ℕ) (n k : ℕ) : Type 0 where
  pub same : word_from words word k (n - k) ≡ word_number words n word

pub words-all : (words word : List ℕ) (n : ℕ) → WordsLeft words word n 0
unfolding word_number
words-all words word n = record { same = ap (λ (x : ℕ). word_from words word 0 x) (omega arith) }

module _ (words word : List ℕ) (n k : ℕ) (l : WordsLeft words word n k) (more : k < n) {w : List ℕ} {b : Bool}
    (e : w ≡ token_of words k) (h : (b ≡ true → word ≡ w) × (word ≡ w → b ≡ true)) where
  open-words : {v : Bool} → b ≡ v → cond v k (word_from words word (k + 1) (n - (k + 1))) ≡ word_number words n word
  unfolding word_from
  open-words z =
      let s : n - k ≡ suc (n - (k + 1)) = omega arith in
      rw (← z, ← same-answered word w b h, e) (rw s at l.same)

  pub word-found : b ≡ true → k ≡ word_number words n word
  word-found z = open-words z

  pub word_next : b ≡ false → WordsLeft words word n (k + 1)
  word_next z = record { same = open-words z }

pub word_none : (words word : List ℕ) (n k : ℕ) → WordsLeft words word n k → n ≡ k → n ≡ word_number words n word
unfolding word_from
word_none words word n k l e =
    let z : n - k ≡ 0 = omega arith in
    e ∙ rw z at l.same

pub comment-empty : (line : List ℕ) → length line ≡ 0 → true ≡ is_comment line
unfolding is_comment
comment-empty [] h = refl
comment-empty (b ∷ line) h = absurd (let z : suc (length line) ≡ 0 = h in omega arith)

pub comment-first : (line : List ℕ) → (length line ≡ 0 → ⊥) → eqb (get_or line 0 0) 35 ≡ is_comment line
unfolding is_comment
comment-first [] h = elim (h refl) [ ]
comment-first (b ∷ line) h = refl
