-- What a buffer holds once the tree is written, or does not fit.
use mathlib.Core.List.{List, ◌++◌}
use mathlib.Core.Path.{◌≡◌, sym, ap, ◌∙◌}
use mathlib.Core.Logic.{◌⊎◌, inl, inr}
use Prim.Native.Nat.{ℕ, ◌+◌, ◌-◌, ◌≤◌, ◌<◌}
use native.Mathlib.Omega.{arith}
use lib.ListN.{length, get_or, drop, length-append, length-drop, get_or-append}
use lib.Seq.{get_or-append-add, get_or-drop, ext_get_or}
use Rattle.text.specs.ListLaws.{lt-or-ge}
use Rattle.format.specs.Layout.{Settings}
use Rattle.format.specs.Blocks.{tree_of}
use Rattle.theory_built.specs.BlockSizes.{Taken}
use Rattle.theory_built.specs.Shape.{tree-length}
use Rattle.build_records.specs.WritesOnlyTree.{WritesOnlyTree, AgreesOn}
use Rattle.build_records.proofs.StateLaws.{offset-low}
use Rattle.build_levels.specs.Trees.{TreeComplete}

-- A buffer that contains the whole tree, then its old bytes.
level-whole : (D out new : List ℕ) → WritesOnlyTree D out new → length D ≤ length out → AgreesOn D new 0 (length D) → new ≡ D ++ drop (length D) out
level-whole D out new g fits all = ext_get_or 0 new (D ++ drop (length D) out) lengths (λ k l. at k (lt-or-ge k (length D)))
  where
    lengths : length new ≡ length (D ++ drop (length D) out)
    lengths = g.same_length ∙ sym (rw (length-append D (drop (length D) out), length-drop (length D) out) (omega arith))

    at : (k : ℕ) → (k < length D) ⊎ (length D ≤ k) → get_or new k 0 ≡ get_or (D ++ drop (length D) out) k 0
    at k (inl l) = all.right k (omega arith) l ∙ sym (get_or-append D (drop (length D) out) 0 k l)
    at k (inr l) =
        let e : k ≡ length D + (k - length D) = omega arith in
        g.past k l ∙ sym (ap (λ (x : ℕ). get_or (D ++ drop (length D) out) x 0) e ∙ get_or-append-add D (drop (length D) out) (k - length D) 0
        ∙ get_or-drop (length D) out (k - length D) 0 ∙ ap (λ (x : ℕ). get_or out x 0) (sym e))

module _ (S : Settings) (T : List ℕ) (h : Taken S T) (out new : List ℕ) (g : WritesOnlyTree (tree_of S T) out new) (r : ℕ)
    (f : TreeComplete (tree_of S T) new r) where
  abbrev D : List ℕ
  D = tree_of S T

  long : 0 < length D
  long = omega (arith, tree-length S T h, offset-low S T S.levels)

  pub finished-full : r ≡ 0 → length out < length D
  finished-full z = go f
    where
      go : TreeComplete D new r → length out < length D
      go (inl y) = omega (arith, y.1, g.same_length)
      go (inr y) = absurd (let w : ⊥ = omega (arith, y.0, long) in w)

  pub finished-whole : (r ≡ 0 → ⊥) → (r ≡ length D) × (length D ≤ length out) × (new ≡ D ++ drop (length D) out)
  finished-whole n = go f
    where
      go : TreeComplete D new r → (r ≡ length D) × (length D ≤ length out) × (new ≡ D ++ drop (length D) out)
      go (inl y) = absurd (n y.0)
      go (inr y) =
          let fits : length D ≤ length out = omega (arith, y.1, g.same_length) in
          (y.0, fits, level-whole D out new g fits y.2)
