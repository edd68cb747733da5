-- The header's words about the levels in layout v: block count and offset of each level, then zeros, then offset and count of the leaf bytes.
use mathlib.Core.List.{List, [], ◌∷◌, ◌++◌, append_assoc}
use Rattle.std.specs.Prelude.{◌≡◌, length, get_or, replicate}
use Rattle.std.proofs.Math.Path.{refl, ap}
use Rattle.std.proofs.Common.{◌∙◌, length-append, get_or-append-add}
use Prim.Native.Nat.{ℕ, zero, suc, ◌+◌, ◌-◌, ◌*◌, ◌≤◌, ◌<◌}
use native.Mathlib.Omega.{arith}
use Rattle.std.proofs.Math.Nat.{add-mul}
use Rattle.std.proofs.lemmas.List.{length-replicate, get_or-replicate}
use Rattle.std.proofs.Math.ListN.{get_or-append}
use Rattle.text.specs.Text.{sum_below}
use Rattle.format.specs.Layout.{Settings, max_levels, header_length}
use Rattle.format.specs.Blocks.{starts_at, leaf_bytes}
use Rattle.theory_without_edges.specs.TreeInLayout.{size_in_layout, pairs_in}

module _ (v : ℕ) (S : Settings) (T : List ℕ) where
  abbrev count : ℕ → ℕ
  count l = length (starts_at S T l)

  -- Where the records of level l begin.
  unfoldable pub offset_in : ℕ → ℕ
  offset_in l = header_length + sum_below l count * size_in_layout v S T

  length_pairs : (more l at : ℕ) → length (pairs_in v S T more l at) ≡ 2 * more
  unfolding pairs_in
  length_pairs zero l at = refl
  length_pairs (suc more) l at = omega (arith, length_pairs more (suc l) (at + count l * size_in_layout v S T))

  offset-top : header_length ≡ offset_in 0
  unfolding offset_in sum_below
  offset-top = omega arith

  offset-next : (l : ℕ) → offset_in l + count l * size_in_layout v S T ≡ offset_in (suc l)
  unfolding offset_in sum_below
  offset-next l = omega (arith, add-mul (sum_below l count) (count l) (size_in_layout v S T))

  pairs-count : (more l at x : ℕ) → x < more → get_or (pairs_in v S T more l at) (2 * x) 0 ≡ count (l + x)
  unfolding pairs_in
  pairs-count zero l at x h = absurd (let z : ⊥ = omega arith in z)
  pairs-count (suc more) l at zero h = ap count (let e : l ≡ l + 0 = omega arith in e)
  pairs-count (suc more) l at (suc x) h =
      let e : 2 * suc x ≡ suc (suc (2 * x)) = omega arith in
      let m : suc l + x ≡ l + suc x = omega arith in
      rw e (pairs-count more (suc l) (at + count l * size_in_layout v S T) x (omega arith) ∙ ap count m)

  pairs-offset : (more l at x : ℕ) → at ≡ offset_in l → x < more → get_or (pairs_in v S T more l at) (suc (2 * x)) 0 ≡ offset_in (l + x)
  unfolding pairs_in
  pairs-offset zero l at x e h = absurd (let z : ⊥ = omega arith in z)
  pairs-offset (suc more) l at zero e h = e ∙ ap offset_in (let z : l ≡ l + 0 = omega arith in z)
  pairs-offset (suc more) l at (suc x) e h =
      let d : 2 * suc x ≡ suc (suc (2 * x)) = omega arith in
      let m : suc l + x ≡ l + suc x = omega arith in
      rw d (pairs-offset more (suc l) (at + count l * size_in_layout v S T) x (rw e (offset-next l)) (omega arith) ∙ ap offset_in m)

  -- The header's words for the levels, and the last two.
  abbrev pairs : List ℕ
  pairs = pairs_in v S T S.levels 0 header_length

  abbrev zeros : List ℕ
  zeros = replicate (2 * max_levels - 2 * S.levels) 0

  abbrev ends : List ℕ
  ends = offset_in S.levels ∷ length (leaf_bytes S T) ∷ []

  unfoldable pub words_in : List ℕ
  words_in = pairs ++ zeros ++ ends

  size : length pairs ≡ 2 * S.levels
  size = length_pairs S.levels 0 header_length

  module _ (few : S.levels ≤ max_levels) where
    pub length-words-in : length words_in ≡ 2 * max_levels + 2
    unfolding words_in
    length-words-in = simp (length-append, length_pairs, length-replicate) (omega arith)

    parts : words_in ≡ pairs ++ (zeros ++ ends)
    unfolding words_in
    parts = append_assoc pairs zeros ends

    pub word_count : (l : ℕ) → l < S.levels → get_or words_in (2 * l) 0 ≡ count l
    word_count l h =
        rw parts (get_or-append pairs (zeros ++ ends) 0 (2 * l) (omega (arith, size))
        ∙ pairs-count S.levels 0 header_length l h ∙ ap count (let e : 0 + l ≡ l = omega arith in e))

    pub word-offset : (l : ℕ) → l < S.levels → get_or words_in (suc (2 * l)) 0 ≡ offset_in l
    word-offset l h =
        rw parts (get_or-append pairs (zeros ++ ends) 0 (suc (2 * l)) (omega (arith, size))
        ∙ pairs-offset S.levels 0 header_length l offset-top h ∙ ap offset_in (let e : 0 + l ≡ l = omega arith in e))

    after : (A B : List ℕ) (x a j : ℕ) → length A ≡ a → x ≡ a + j → get_or (A ++ B) x 0 ≡ get_or B j 0
    after A B x a j e f = let g : x ≡ length A + j = omega arith in rw g (get_or-append-add A B j 0)

    pub word_none : (x : ℕ) → 2 * S.levels ≤ x → x < 2 * max_levels → get_or words_in x 0 ≡ 0
    word_none x lo hi =
        let n : ℕ = 2 * max_levels - 2 * S.levels in
        let y : x - 2 * S.levels < n = omega arith in
        rw parts (after pairs (zeros ++ ends) x (2 * S.levels) (x - 2 * S.levels) size (omega arith)
        ∙ get_or-append zeros ends 0 (x - 2 * S.levels) (rw length-replicate y) ∙ get_or-replicate n (x - 2 * S.levels) 0 0 y)

    ending : (j : ℕ) → get_or words_in (2 * max_levels + j) 0 ≡ get_or ends j 0
    ending j =
        let n : ℕ = 2 * max_levels - 2 * S.levels in
        rw parts (after pairs (zeros ++ ends) (2 * max_levels + j) (2 * S.levels) (n + j) size (omega arith)
        ∙ after zeros ends (n + j) n j (rw length-replicate) refl)

    pub word-leaf-offset : get_or words_in (2 * max_levels) 0 ≡ offset_in S.levels
    word-leaf-offset = ending 0

    pub word-leaf-count : get_or words_in (2 * max_levels + 1) 0 ≡ length (leaf_bytes S T)
    word-leaf-count = ending 1
