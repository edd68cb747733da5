-- One step of the search for the block that holds a place.
use mathlib.Core.List.{List}
use mathlib.Core.Path.{◌≡◌}
use mathlib.Core.Logic.{◌⊎◌, inl, inr}
use Prim.Native.Nat.{ℕ, ◌+◌, ◌-◌, ◌/◌, ◌≤◌, ◌<◌}
use native.Mathlib.Omega.{arith}
use Rattle.text.specs.ListLaws.{lt-or-ge}
use Rattle.format.specs.Layout.{Settings}
use Rattle.build_marking.specs.TargetSearch.{Sorted, Between, start_in}

module _ (out : List ℕ) (table count : ℕ) (S : Settings) (sorted : Sorted out table count S) (p low high middle s : ℕ)
    (b : Between out table count S p low high) (l : low < middle) (h : middle < high) (is : s ≡ start_in out table count S middle) where
  pub lower-half : p < s → Between out table count S p low middle
  lower-half q = record { some_left = l; within = omega (arith, b.within); from = b.from; after = λ j a k. go j k a (lt-or-ge middle j) }
    where
      go : (j : ℕ) → j < count → middle ≤ j → (middle < j) ⊎ (j ≤ middle) → p < start_in out table count S j
      go j k a (inl z) = omega (arith, sorted.rises middle j z k, is)
      go j k a (inr z) = let e : j ≡ middle = omega arith in rw e (omega (arith, is))

  pub upper-half : s ≤ p → Between out table count S p middle high
  upper-half q = record { some_left = h; within = b.within; from = omega (arith, is); after = b.after }

-- The middle lies between.
pub middle-in : (low high : ℕ) → low + 1 < high → (low < low + (high - low) / 2) × (low + (high - low) / 2 < high)
middle-in low high k = (omega arith, omega arith)

-- A range of one block.
pub one_left : (out : List ℕ) (table count : ℕ) (S : Settings) (p low high : ℕ) → Between out table count S p low high → high ≤ low + 1
    → Between out table count S p low (low + 1)
one_left out table count S p low high b k = let e : high ≡ low + 1 = omega (arith, b.some_left) in rw e at b
