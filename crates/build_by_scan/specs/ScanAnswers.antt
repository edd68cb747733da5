-- What the builder with one scan a level returns.
-- docs/FORMAT.md: "Two builders".
use Rattle.std.specs.Prelude.{List, [], ◌∷◌, ◌++◌, Bool, false, cond, ◌&&◌, ◌||◌, ◌≡◌, ℕ, zero, suc, ◌+◌, ◌-◌, ◌*◌, min, length, drop, replicate, leb, eqb}
use Rattle.std.specs.Prelude.{Result, Ok, Err}
use Rattle.text.specs.Text.{sum_below}
use Rattle.format.specs.Layout.{Settings, block_length, pieces, length_ok, sizes_ok, counted_ok}
use Rattle.format.specs.Blocks.{tree_of, starts_at, start_of, length_of, pair_at}
use Rattle.format.specs.TreeReading.{asks}
use Rattle.format.specs.Answers.{Reply, figures, refusal}
use Rattle.refusals.specs.declared.Refusal.{Refusal}
use Rattle.refusals.specs.Refusals.{refusal_number}

-- What build_scanned returns, and what the caller's buffer and table contain afterwards.
-- docs/FORMAT.md: "Two builders", "Buffers after a call".

-- Whether p holds at one of 0, 1, .., n - 1.
unfoldable pub any_below : ℕ → (ℕ → Bool) → Bool
any_below zero p = false
any_below (suc n) p = any_below n p || p n

module _ (S : Settings) (T : List ℕ) (l : ℕ) where
  -- Whether some block or pair of level l has n bytes.
  unfoldable pub has_length : ℕ → Bool
  has_length n =
      let b = block_length S l in
      let starts = starts_at S T l in
      any_below (length starts) (λ i. eqb (length_of T b starts i) n || (pair_at T b starts i && eqb (min (b + b) (length T - start_of T b starts i)) n))

  -- The windows of level l: n + 1 - L for each different length L of its blocks and pairs.
  unfoldable pub windows_at : ℕ
  windows_at = sum_below (suc (length T)) (λ n. cond (has_length n) (suc (length T) - n) 0)

-- The windows of all levels above the last.
unfoldable pub windows_of : Settings → List ℕ → ℕ
windows_of S T = sum_below (S.levels - 1) (windows_at S T)

-- The number of words that the table must have: 4 × (n / m rounded up).
unfoldable pub table_words : ℕ → ℕ → ℕ
table_words n m = 4 * pieces n m

-- The arguments, with a table of `words` words.
module _ (S : Settings) (T out : List ℕ) (words : ℕ) where
  -- The refusal: questions 1 to 3, then 18 and 4; 0 if all pass.
  unfoldable pub build_scanned_refusal : ℕ
  build_scanned_refusal =
      asks ((1, length_ok (length T)) ∷ (2, sizes_ok S) ∷ (3, counted_ok S.counted)
      ∷ (18, leb (table_words (length T) S.leaf) words) ∷ (4, leb (length (tree_of S T)) (length out)) ∷ [])

  -- The size of the tree; 0 if refused.
  unfoldable pub scan_size : ℕ
  scan_size = cond (eqb build_scanned_refusal 0) (length (tree_of S T)) 0

  -- The number of windows looked up; 0 if refused.
  unfoldable pub scan_windows : ℕ
  scan_windows = cond (eqb build_scanned_refusal 0) (windows_of S T) 0

  -- The buffer afterwards: the tree, then its old bytes; all zeros if the tree does not fit (4); unchanged for any other refusal.
  unfoldable pub build_scanned_buffer : List ℕ
  build_scanned_buffer =
      cond (eqb build_scanned_refusal 0) (tree_of S T ++ drop (length (tree_of S T)) out)
      (cond (eqb build_scanned_refusal 4) (replicate (length out) 0) out)

-- The table afterwards: unchanged by every refusal but 4, else any words.
pub record TableLeft (number : ℕ) (old new : List ℕ) : Type 0 where
  pub same_length : length new ≡ length old
  pub untouched : (number ≡ 0 → ⊥) → (number ≡ 4 → ⊥) → new ≡ old

-- The answer of build_scanned by its refusal and figures.

-- The tree's size and the windows looked up.
abbrev pub build_scanned_reply : Result (ℕ × ℕ) Refusal → Reply
build_scanned_reply (Ok x) = figures x.0 x.1
build_scanned_reply (Err e) = refusal (refusal_number e)
