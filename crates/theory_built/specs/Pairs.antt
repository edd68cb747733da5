-- The words of the header for the levels: the block count and offset of each level, then zeros, then the offset and count of the leaf bytes.
use Rattle.std.specs.Prelude.{List, [], ◌∷◌, ◌++◌, ◌≡◌, replicate}
use Rattle.std.proofs.Math.Path.{refl, ap}
use Rattle.std.proofs.Common.{◌∙◌, length-append}
use Prim.Native.Nat.{ℕ, zero, suc, ◌+◌, ◌-◌, ◌*◌, ◌≤◌, ◌<◌}
use native.Mathlib.Omega.{arith}
use Rattle.std.proofs.Math.Nat.{add-mul}
use Rattle.std.proofs.Math.ListN.{length, get_or, length-replicate, get_or-replicate, get_or-append}
use Rattle.std.proofs.Math.Seq.{get_or-append-add}
use Rattle.text.specs.Text.{sum_below}
use Rattle.format.specs.Layout.{Settings, max_levels, header_length}
use Rattle.format.specs.Blocks.{level_pairs, record_bytes, leaf_bytes}
use Rattle.theory_built.specs.Structure.{count}

module _ (S : Settings) (T : List ℕ) where
  pub length_pairs : (more l at : ℕ) → length (level_pairs S T more l at) ≡ 2 * more
  unfolding level_pairs
  length_pairs zero l at = refl
  length_pairs (suc more) l at = omega (arith, length_pairs more (suc l) (at + count S T l * record_bytes S))

  pairs-count : (more l at x : ℕ) → x < more → get_or (level_pairs S T more l at) (2 * x) 0 ≡ count S T (l + x)
  unfolding level_pairs
  pairs-count zero l at x h = absurd (let z : ⊥ = omega arith in z)
  pairs-count (suc more) l at zero h = ap (count S T) (let e : l ≡ l + 0 = omega arith in e)
  pairs-count (suc more) l at (suc x) h =
      let e : 2 * suc x ≡ suc (suc (2 * x)) = omega arith in
      let m : suc l + x ≡ l + suc x = omega arith in
      rw e (pairs-count more (suc l) (at + count S T l * record_bytes S) x (omega arith) ∙ ap (count S T) m)

  -- Where the records of level l begin.
  unfoldable pub offset : ℕ → ℕ
  offset l = header_length + sum_below l (count S T) * record_bytes S

  offset-top : header_length ≡ offset 0
  unfolding offset sum_below
  offset-top = omega arith

  offset-next : (l : ℕ) → offset l + count S T l * record_bytes S ≡ offset (suc l)
  unfolding offset sum_below
  offset-next l = omega (arith, add-mul (sum_below l (count S T)) (count S T l) (record_bytes S))

  pairs-offset : (more l at x : ℕ) → at ≡ offset l → x < more → get_or (level_pairs S T more l at) (suc (2 * x)) 0 ≡ offset (l + x)
  unfolding level_pairs
  pairs-offset zero l at x e h = absurd (let z : ⊥ = omega arith in z)
  pairs-offset (suc more) l at zero e h = e ∙ ap offset (let z : l ≡ l + 0 = omega arith in z)
  pairs-offset (suc more) l at (suc x) e h =
      let d : 2 * suc x ≡ suc (suc (2 * x)) = omega arith in
      let m : suc l + x ≡ l + suc x = omega arith in
      rw d (pairs-offset more (suc l) (at + count S T l * record_bytes S) x (rw e (offset-next l)) (omega arith) ∙ ap offset m)

  -- The header's words for the levels, and the last two.
  unfoldable pub level_words_of : List ℕ
  level_words_of =
      level_pairs S T S.levels 0 header_length ++ (replicate (2 * max_levels - 2 * S.levels) 0 ++ (offset S.levels ∷ length (leaf_bytes S T) ∷ []))

  module _ (few : S.levels ≤ max_levels) where
    pub length-level_words_of : length level_words_of ≡ 2 * max_levels + 2
    unfolding level_words_of
    length-level_words_of = simp (length-append, length_pairs, length-replicate) (omega arith)

    pub word_count : (l : ℕ) → l < S.levels → get_or level_words_of (2 * l) 0 ≡ count S T l
    unfolding level_words_of
    word_count l h =
        get_or-append (level_pairs S T S.levels 0 header_length) (replicate (2 * max_levels - 2 * S.levels)
        0 ++ (offset S.levels ∷ length (leaf_bytes S T) ∷ [])) 0 (2 * l) (omega (arith, length_pairs S.levels 0 header_length))
        ∙ pairs-count S.levels 0 header_length l h ∙ ap (count S T) (let e : 0 + l ≡ l = omega arith in e)

    pub word-offset : (l : ℕ) → l < S.levels → get_or level_words_of (suc (2 * l)) 0 ≡ offset l
    unfolding level_words_of
    word-offset l h =
        get_or-append (level_pairs S T S.levels 0 header_length) (replicate (2 * max_levels - 2 * S.levels)
        0 ++ (offset S.levels ∷ length (leaf_bytes S T) ∷ [])) 0 (suc (2 * l)) (omega (arith, length_pairs S.levels 0 header_length))
        ∙ pairs-offset S.levels 0 header_length l offset-top h ∙ ap offset (let e : 0 + l ≡ l = omega arith in e)

    pub word_none : (x : ℕ) → 2 * S.levels ≤ x → x < 2 * max_levels → get_or level_words_of x 0 ≡ 0
    unfolding level_words_of
    word_none x lo hi =
        let e : x ≡ length (level_pairs S T S.levels 0 header_length) + (x - 2 * S.levels) = omega (arith, length_pairs S.levels 0 header_length) in
        let k : x - 2 * S.levels < 2 * max_levels - 2 * S.levels = omega arith in
        ap (λ (y : ℕ). get_or (level_pairs S T S.levels
        0 header_length ++ (replicate (2 * max_levels - 2 * S.levels) 0 ++ (offset S.levels ∷ length (leaf_bytes S T) ∷ []))) y 0) e
        ∙ get_or-append-add (level_pairs S T S.levels 0 header_length)
        (replicate (2 * max_levels - 2 * S.levels) 0 ++ (offset S.levels ∷ length (leaf_bytes S T) ∷ [])) (x - 2 * S.levels) 0
        ∙ get_or-append (replicate (2 * max_levels - 2 * S.levels) 0)
        (offset S.levels ∷ length (leaf_bytes S T) ∷ []) 0 (x - 2 * S.levels) (rw length-replicate k)
        ∙ get_or-replicate (2 * max_levels - 2 * S.levels) (x - 2 * S.levels) 0 0 k

    ending : (A B C : List ℕ) (x a j : ℕ) → length A + length B ≡ a → x ≡ a + j → get_or (A ++ (B ++ C)) x 0 ≡ get_or C j 0
    ending A B C x a j e f =
        let g : x ≡ length A + (length B + j) = omega arith in
        rw g (get_or-append-add A (B ++ C) (length B + j) 0 ∙ get_or-append-add B C j 0)

    pub word-leaf-offset : get_or level_words_of (2 * max_levels) 0 ≡ offset S.levels
    unfolding level_words_of
    word-leaf-offset = ending (level_pairs S T S.levels 0 header_length)
        (replicate (2 * max_levels - 2 * S.levels) 0) (offset S.levels ∷ length (leaf_bytes S T) ∷ []) (2 * max_levels) (2 * max_levels) 0
        (rw (length_pairs, length-replicate) (omega arith)) refl

    pub word-leaf-count : get_or level_words_of (2 * max_levels + 1) 0 ≡ length (leaf_bytes S T)
    unfolding level_words_of
    word-leaf-count = ending (level_pairs S T S.levels 0 header_length)
        (replicate (2 * max_levels - 2 * S.levels) 0) (offset S.levels ∷ length (leaf_bytes S T) ∷ []) (2 * max_levels + 1) (2 * max_levels) 1
        (rw (length_pairs, length-replicate) (omega arith)) refl
