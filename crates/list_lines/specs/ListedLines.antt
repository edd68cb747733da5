-- What the list program prints, and what list returns.
-- docs/FORMAT.md: "The list program".
use Rattle.std.specs.Prelude.{List, ◌++◌, [], ◌∷◌, ◌≡◌, ℕ, ◌+◌, ◌≤◌, zero, suc, ◌*◌, ◌/◌, ◌%◌, length, take, drop, cond, leb, ltb, eqb, Result, Ok, Err}
use Rattle.text.specs.Text.{count_below}
use Rattle.format.specs.Layout.{max_levels}
use Rattle.format.specs.Layout as at
use Rattle.format.specs.TreeReading.{check_result, asks, or_next}
use Rattle.format.specs.Answers.{Answer, unless, Reply, figures, refusal, Is}
use Rattle.refusals.specs.declared.Refusal.{Refusal}
use Rattle.refusals.specs.Refusals.{refusal_number}

-- A buffer after bytes were written to it.

-- The buffer d with the bytes s written from place `at` on.
unfoldable pub list_written : List ℕ → ℕ → List ℕ → List ℕ
list_written d at s = take at d ++ s ++ drop (at + length s) d

-- Writing s at `at` turns the buffer d into e. The next free place is `end`, at most `most` after `at`.
pub record ListPut (d e : List ℕ) (at end : ℕ) (s : List ℕ) (most : ℕ) : Type 0 where
  pub bytes : e ≡ list_written d at s
  pub after : end ≡ at + length s
  pub short : end ≤ at + most

-- What the list program prints.
-- docs/FORMAT.md: "The list program".

-- The decimal digits of n, the highest first; at most more + 1 of them.
unfoldable pub digits_within : ℕ → ℕ → List ℕ
digits_within zero n = (48 + n) ∷ []
digits_within (suc more) n =
    let higher = digits_within more (n / 10) in
    cond (ltb n 10) ((48 + n) ∷ []) (higher ++ ((48 + n % 10) ∷ []))

-- The decimal digits of n.
unfoldable pub decimal : ℕ → List ℕ
decimal n = digits_within n n

-- A number and the byte after it: a space (32) or a newline (10).
unfoldable pub figure : ℕ → ℕ → List ℕ
figure n after = decimal n ++ (after ∷ [])

-- The line of a level: its number, its blocks, the kept ones, the pointing ones.
unfoldable pub line : ℕ → ℕ → ℕ → ℕ → List ℕ
line level blocks kept pointing = figure level 32 ++ figure blocks 32 ++ figure kept 32 ++ figure pointing 10

module _ (t : List ℕ) where
  -- Level, blocks, kept, pointing.
  unfoldable pub level_line : ℕ → List ℕ
  level_line l = line l (at.level_count t l) (count_below (at.level_count t l) (at.is_kept t l)) (count_below (at.level_count t l) (at.is_pointing t l))

  -- The lines of levels 0, 1, .., l - 1.
  unfoldable pub lines_below : ℕ → List ℕ
  lines_below zero = []
  lines_below (suc l) = lines_below l ++ level_line l

-- The line for a refused tree: the word `refused` and the number.
unfoldable pub refused_line : ℕ → List ℕ
refused_line q = 114 ∷ 101 ∷ 102 ∷ 117 ∷ 115 ∷ 101 ∷ 100 ∷ 32 ∷ [] ++ figure q 10

-- The size of the largest tree that is listed.
abbrev pub max_input : ℕ
max_input = 65536

-- The largest number of bytes of a 32-bit number with the byte after it.
abbrev pub max_figure : ℕ
max_figure = 11

-- The largest number of bytes of a line.
abbrev pub max_line : ℕ
max_line = 4 * max_figure

-- The largest number of bytes of the lines of all levels.
abbrev pub max_lines : ℕ
max_lines = max_levels * max_line

-- Question 15, then the check's.
unfoldable pub input_refusal : List ℕ → ℕ
input_refusal input = cond (leb (length input) max_input) (check_result input) 15

-- The lines of all levels, or the line of a refused tree if the number is not 0.
abbrev pub lines_of : ℕ → List ℕ → List ℕ
lines_of zero t = lines_below t (at.settings t).levels
lines_of (suc q) t = refused_line (suc q)

-- What the list program prints for any input.
unfoldable pub printed : List ℕ → List ℕ
printed input = lines_of (input_refusal input) input

-- What list returns, and what the caller's buffer contains afterwards.
-- docs/FORMAT.md: "The list program".

-- The refusal: questions 15 and 5 to 9, then 13 if the buffer is too short for the lines.
unfoldable pub list_refusal : List ℕ → ℕ → ℕ
list_refusal t room = or_next (input_refusal t) (asks ((13, leb (length (printed t)) room) ∷ []))

-- The length of the lines, or the refusal.
unfoldable pub list_answer : List ℕ → ℕ → Answer
list_answer t room = unless (list_refusal t room) (record { number = 0; value = length (printed t); entered = 0 })

-- The answer by its number and length.
abbrev pub list_reply : Result ℕ Refusal → Reply
list_reply (Ok size) = figures size 0
list_reply (Err e) = refusal (refusal_number e)

abbrev pub IsListAnswer : (t : List ℕ) (room : ℕ) → Result ℕ Refusal → Type 0
IsListAnswer t room = Is list_reply (list_answer t room)

-- The buffer afterwards: the lines at its start; unchanged if refused.
unfoldable pub list_buffer : List ℕ → List ℕ → List ℕ
list_buffer t out = cond (eqb (list_refusal t (length out)) 0) (printed t ++ drop (length (printed t)) out) out
