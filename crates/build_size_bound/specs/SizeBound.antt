-- The size bound of every tree of texts of n bytes: the header, a leaf byte for each byte of the text, and on each level a record for
-- each block that the text can be cut into.
-- docs/FORMAT.md: "Size", "Two builders".
use Rattle.std.specs.Prelude.{[], ◌∷◌, ℕ, ◌+◌, ◌-◌, ◌*◌, ◌^◌, leb, Result, Ok, Err}
use Rattle.text.specs.Text.{sum_below}
use Rattle.format.specs.Layout.{pieces, record_length, length_ok, sizes_ok, max_counted, given, header_length}
use Rattle.format.specs.Blocks.{built_layout}
use Rattle.format.specs.TreeReading.{asks}
use Rattle.format.specs.Answers.{Answer, unless, Reply, figures, refusal, Is}
use Rattle.refusals.specs.declared.Refusal.{Refusal}
use Rattle.refusals.specs.Refusals.{refusal_number}

-- The number of blocks of all levels if each level covers the whole text.
unfoldable pub blocks_at_most : ℕ → ℕ → ℕ → ℕ → ℕ
blocks_at_most n m r H = sum_below H (λ l. pieces n (m * r ^ (H - 1 - l)))

-- The size: the header, a leaf byte for each byte of the text, and the records.
abbrev pub size_bound_for : ℕ → ℕ → ℕ → ℕ → ℕ → ℕ
size_bound_for n m r H k = header_length + n + record_length built_layout m k * blocks_at_most n m r H

-- The refusal: question 1 for the length, 2 for the settings, 3 for the number of counted bytes.
unfoldable pub size_bound_refusal : ℕ → ℕ → ℕ → ℕ → ℕ → ℕ
size_bound_refusal n m r H k = asks ((1, length_ok n) ∷ (2, sizes_ok (given m r H [])) ∷ (3, leb k max_counted) ∷ [])

-- The size, or the refusal.
unfoldable pub size_bound_answer : ℕ → ℕ → ℕ → ℕ → ℕ → Answer
size_bound_answer n m r H k = unless (size_bound_refusal n m r H k) (record { number = 0; value = size_bound_for n m r H k; entered = 0 })

-- The answer by its number and size.
abbrev pub size_bound_reply : Result ℕ Refusal → Reply
size_bound_reply (Ok n) = figures n 0
size_bound_reply (Err e) = refusal (refusal_number e)

abbrev pub IsSizeBoundAnswer : (n leaf arity levels counted : ℕ) → Result ℕ Refusal → Type 0
IsSizeBoundAnswer n leaf arity levels counted = Is size_bound_reply (size_bound_answer n leaf arity levels counted)
