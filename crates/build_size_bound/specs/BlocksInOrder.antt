-- How many blocks a level in order can have, and how many bytes they have together.
use Rattle.std.specs.Prelude.{◌≡◌}
use Rattle.std.proofs.Math.Path.{refl}
use Prim.Native.Nat.{ℕ, zero, suc, ◌-◌, ◌≤◌, ◌<◌, min}
use native.Mathlib.Omega.{arith}
use Rattle.text.specs.Text.{sum_below}
use Rattle.format.specs.Layout.{pieces}
use Rattle.theory_built.specs.LevelBlocks.{Level}
use Rattle.theory_built.specs.Totals.{start-multiples}
use Rattle.format.specs.PieceLaws.{lt-pieces}

pub sum_below-mono : (n : ℕ) (f g : ℕ → ℕ) → ((i : ℕ) → i < n → f i ≤ g i) → sum_below n f ≤ sum_below n g
unfolding sum_below
sum_below-mono zero f g h = omega arith
sum_below-mono (suc n) f g h = omega (arith, sum_below-mono n f g (λ i l. h i (omega arith)), h n (omega arith))

module _ (n b N : ℕ) (start : ℕ → ℕ) (lv : Level n b N start) where
  -- No more blocks than cover the text.
  pub blocks-few : N ≤ pieces n b
  blocks-few = go N refl
    where
      go : (m : ℕ) → m ≡ N → N ≤ pieces n b
      go zero e = omega arith
      go (suc m) e = omega (arith, lt-pieces n b m lv.size (omega (arith, start-multiples n b N start lv m (omega arith), lv.within m (omega arith))))

  before : (i : ℕ) → i < N → sum_below i (λ i. min b (n - start i)) ≤ start i
  unfolding sum_below
  before zero h = omega arith
  before (suc i) h = omega (arith, before i (omega arith), lv.rising i (suc i) (omega arith) h)

  -- The blocks have no more bytes than the text.
  pub bytes-few : sum_below N (λ i. min b (n - start i)) ≤ n
  unfolding sum_below
  bytes-few = go N refl
    where
      go : (m : ℕ) → m ≡ N → sum_below m (λ i. min b (n - start i)) ≤ n
      go zero e = omega arith
      go (suc m) e = omega (arith, before m (omega arith), lv.within m (omega arith))
