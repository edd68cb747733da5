-- What compare returns.
-- docs/FORMAT.md: "The order of books".
use Rattle.std.specs.Prelude.{List, [], cond, ℕ, zero, suc, ◌+◌, min, ◌≤◌, ltb, eqb, ◌≡◌, Result, Ok, Err}
use Rattle.std.specs.declared.cmp.Ordering.{Ordering}
use Rattle.std.specs.declared.cmp.Ordering.TheVariants.{Less, Equal, Greater}
use Rattle.refusals.specs.declared.Refusal.{Refusal}
use Rattle.refusals.specs.Refusals.{refusal_number}
use Rattle.format.specs.Answers.{Answer, unless, Reply, figures, refusal, replied, byte_answer}
use Rattle.format.specs.Layout as at
use Rattle.format.specs.TreeReading.{header_result}
use Rattle.std.specs.Borrow.{Bor}

-- The lexicographic order of texts, and what compare returns for any bytes given as two trees.
-- docs/FORMAT.md: "The order of books".

-- The number of an order of the first of two texts: before the second, equal to it, after it.
abbrev pub code : Ordering → ℕ
code Less = 1
code Equal = 2
code Greater = 3

-- An order with the length of the longest common prefix.
abbrev pub order_answer : Ordering → ℕ → Answer
order_answer s n = record { number = 0; value = code s; entered = n }

-- Two texts of n and m bytes whose shared beginning is the whole of the shorter.
unfoldable pub by_lengths : ℕ → ℕ → ℕ → Answer
by_lengths n m p = cond (ltb n m) (order_answer Less p) (cond (ltb m n) (order_answer Greater p) (order_answer Equal p))

module _ (t u : List ℕ) where
  -- From place p on, with this many places left in the shorter text: each is read in the first tree and then in the second.
  unfoldable pub compared_from : ℕ → ℕ → Answer
  compared_from zero p = by_lengths (at.text_length t) (at.text_length u) p
  compared_from (suc more) p =
      let rest = compared_from more (p + 1) in
      let x = (byte_answer t p).value in
      let y = (byte_answer u p).value in
      unless (byte_answer t p).number (unless (byte_answer u p).number (cond (ltb x y) (order_answer Less p) (cond (ltb y x) (order_answer Greater p) rest)))

  -- The answer of compare: questions 5 to 7 for the first tree, then for the second, then the places.
  unfoldable pub compare_answer : Answer
  compare_answer = unless (header_result t) (unless (header_result u) (compared_from (min (at.text_length t) (at.text_length u)) 0))

-- The answers of compare and first by their refusals and figures (docs/FORMAT.md, "The order of books").

abbrev pub compare_reply : Result (Ordering × ℕ) Refusal → Reply
compare_reply (Ok x) = figures (code x.0) x.1
compare_reply (Err q) = refusal (refusal_number q)

-- The answer of compare for two trees; the first figure is never 0, so a refusal is distinct from every answer.
pub record IsCompareAnswer (t u : List ℕ) (r : Result (Ordering × ℕ) Refusal) : Type 0 where
  pub answers : replied (compare_reply r) ≡ compare_answer t u

-- What first returns: the one of the two given references whose text comes first, the first one if the texts are equal; an empty slice if refused.
pub record IsFirstAnswer (s : Answer) (one other r : Bor (List ℕ)) : Type 0 where
  pub given : s.number ≡ 0 → r ≡ cond (eqb s.value 3) other one
  pub absent : 1 ≤ s.number → r.now ≡ []

-- Which of two trees comes first, by the order of the first one: 1 or 2; 0 if refused.
abbrev pub first_given : ℕ → ℕ
first_given zero = 0
first_given (suc zero) = 1
first_given (suc (suc zero)) = 1
first_given (suc (suc (suc n))) = 2
