-- Writing starts one after the other fills a buffer with the bytes of a tree that has them.
use mathlib.Core.List.{List}
use mathlib.Core.Path.{◌≡◌}
use mathlib.Core.Logic.{◌⊎◌, inl, inr}
use Prim.Native.Nat.{ℕ, zero, suc, ◌+◌, ◌*◌, ◌≤◌, ◌<◌}
use native.Mathlib.Omega.{arith}
use lib.ListN.{length}
use Rattle.text.specs.ListLaws.{below_suc}
use Rattle.theory_built.specs.BuiltBytes.{BytesAt}
use Rattle.build_records.specs.WritesOnlyTree.{WritesOnlyTree, AgreesOn}
use Rattle.build_records.specs.WrittenStarts.{starts_written}
use Rattle.build_records.proofs.WritesOnlyTreeLaws.{only-tree-refl, only-tree-trans, agrees-only-tree, word-only-tree, word-within}

module _ (D t : List ℕ) (at step s b : ℕ) where
  module _ (n : ℕ) (stand : (j : ℕ) → j < n → BytesAt D (at + j * step) (s + j * b)) (fits : (j : ℕ) → j < n → at + j * step + 4 ≤ length t)
      (inside : (j : ℕ) → j < n → at + j * step + 4 ≤ length D) where
    pub starts-only-tree : (j : ℕ) → j ≤ n → WritesOnlyTree D t (starts_written t at step s b j)
    starts-only-tree zero l = only-tree-refl D t
    starts-only-tree (suc j) l =
        let g = starts-only-tree j (omega arith) in
        only-tree-trans D t (starts_written t at step s b j) (starts_written t at step s b (suc j)) g
        (word-only-tree D (starts_written t at step s b j)
        (at + j * step) (s + j * b) (omega (arith, fits j (omega arith), g.same_length)) (stand j (omega arith)) (inside j (omega arith)))

    pub starts-within : (j : ℕ) → j ≤ n → (x : ℕ) → x < j → AgreesOn D (starts_written t at step s b j) (at + x * step) (at + x * step + 4)
    starts-within zero l x k = absurd (let z : ⊥ = omega arith in z)
    starts-within (suc j) l x k = go (below_suc x j k) (starts-within j (omega arith) x)
      where
        go : (x < j) ⊎ (x ≡ j) → (x < j → AgreesOn D (starts_written t at step s b j) (at + x * step) (at + x * step + 4))
            → AgreesOn D (starts_written t at step s b (suc j)) (at + x * step) (at + x * step + 4)
        go (inl y) r =
            let g = starts-only-tree j (omega arith) in
            agrees-only-tree D (starts_written t at step s b j) (starts_written t at step s b (suc j)) (at + x * step) (at + x * step + 4)
            (word-only-tree D (starts_written t at step s b j)
            (at + j * step) (s + j * b) (omega (arith, fits j (omega arith), g.same_length)) (stand j (omega arith)) (inside j (omega arith)))
            (r y)
        go (inr y) r =
            let g = starts-only-tree j (omega arith) in
            rw y (word-within D (starts_written t at step s b j)
            (at + j * step) (s + j * b) (omega (arith, fits j (omega arith), g.same_length)) (stand j (omega arith)))
