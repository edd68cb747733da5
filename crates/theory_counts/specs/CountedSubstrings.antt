-- Substrings of the text whose counts are compared: one in two parts, the leaf bytes of a block, the bytes of a pointing block.
use Rattle.std.specs.Prelude.{List, false, ◌≡◌, ℕ, ◌+◌, ◌-◌, ◌≤◌, ◌<◌, length}
use Rattle.std.proofs.Common.{sym}
use Rattle.std.proofs.Math.Path.{ap}
use native.Mathlib.Omega.{arith}
use Rattle.text.specs.ListLaws.{sum_below-part}
use Rattle.text.specs.Text.{substring, count_in}
use Rattle.text.specs.TextLaws.{substring-ext}
use Rattle.text.proofs.CountTheorems.{count_add, count_none, count-substring-le}
use Rattle.format.specs.LayoutLaws.{Readable}
use Rattle.format.specs.Layout as at
use Rattle.format.specs.TreeReading.{width_at, text_of}
use Rattle.theory_paths.specs.Links.{H, N, s, len, width-last, Linked, pointing-kind}
use Rattle.theory_paths.specs.BlockStarts.{len-end, start-below, last-kept}
use Rattle.theory_paths.specs.FitsFacts.{Fitting, fits-facts}
use Rattle.theory_paths.specs.OneText.{text-length, text-fits}
use Rattle.theory_counts.specs.CountsLocal.{byte_of, in_leaf_bytes}
use Rattle.theory_counts.specs.LevelTrue.{tally}

module _ (t : List ℕ) where
  pub tally-none : (c p : ℕ) → tally t c p 0 ≡ 0
  unfolding tally
  tally-none c p = count_none (byte_of t c) (text_of t) p

  -- x bytes from p are a bytes from p, then y bytes from q
  pub tally-parts : (c p q a y x : ℕ) → q ≡ p + a → x ≡ a + y → tally t c p x ≡ tally t c p a + tally t c q y
  unfolding tally
  tally-parts c p q a y x h g = rw (h, g) (count_add (byte_of t c) (text_of t) p a y)

  pub tally-le : (c p x : ℕ) → tally t c p x ≤ x
  unfolding tally
  tally-le c p x = count-substring-le (byte_of t c) (text_of t) p x

  module _ (k : Readable t) (d : Linked t) where
    pub fitting : Fitting (text_of t) t
    fitting = fits-facts (text_of t) t (omega (arith, k.bounds.levels_low)) (text-fits t k d)

    block-end : (l i x : ℕ) → l < H t → i < N t l → x ≤ len t l i → s t l i + x ≤ length (text_of t)
    block-end l i x hl hi hx = omega (arith, len-end t l i (omega (arith, start-below t k d l i hl hi)), text-length t)

    -- The leaf bytes of a last-level block are the text's.
    leaf-end : (i : ℕ) → i < N t (H t - 1) → at.link t (H t - 1) i + len t (H t - 1) i ≤ at.leaf_count t
    leaf-end i hi =
        let kept = last-kept t k d i hi in
        let low : 0 < H t = omega (arith, k.bounds.levels_low) in
        let q = d.kept (H t - 1) i (omega arith) hi kept in
        omega (arith, q.link_is, d.leaf-count low, width-last t i kept, sum_below-part (N t (H t - 1)) (width_at t (H t - 1)) i hi)

    pub leaves-end : (l i : ℕ) → l + 1 ≡ H t → i < N t l → at.link t l i + len t l i ≤ at.leaf_count t
    leaves-end l i e hi = go l (omega arith) hi
      where
        go : (m : ℕ) → m ≡ H t - 1 → i < N t m → at.link t m i + len t m i ≤ at.leaf_count t
        go m e h =
            let h₁ : i < N t (H t - 1) = rw e at h in
            rw e (leaf-end i h₁)

    last-leaves : (i x c : ℕ) → i < N t (H t - 1) → x ≤ len t (H t - 1) i → in_leaf_bytes t (H t - 1) i x c ≡ tally t c (s t (H t - 1) i) x
    unfolding in_leaf_bytes tally at.leaf_byte
    last-leaves i x c hi hx =
        let same : substring (text_of t) (s t (H t - 1) i) x ≡ substring t (at.leaf_offset t + at.link t (H t - 1) i) x =
        substring-ext (text_of t) t (s t (H t - 1) i) (at.leaf_offset t + at.link t (H t - 1) i) x
        (block-end (H t - 1) i x (omega (arith, k.bounds.levels_low)) hi hx) (omega (arith, leaf-end i hi, k.size))
        (λ o ho. (let e : at.leaf_offset t + at.link t (H t - 1) i + o ≡ at.leaf_offset t + (at.link t (H t - 1) i + o) = omega arith in
        rw e (fitting.leaves i o hi (omega arith)))) in
        ap (count_in (byte_of t c)) (sym same)

    pub leaves-tally : (l i x c : ℕ) → l + 1 ≡ H t → i < N t l → x ≤ len t l i → in_leaf_bytes t l i x c ≡ tally t c (s t l i) x
    leaves-tally l i x c e hi hx = go l (omega arith) hi hx
      where
        go : (m : ℕ) → m ≡ H t - 1 → i < N t m → x ≤ len t m i → in_leaf_bytes t m i x c ≡ tally t c (s t m i) x
        go m e h g =
            let h₁ : i < N t (H t - 1) = rw e at h in
            let g₁ : x ≤ len t (H t - 1) i = rw e at g in
            rw e (last-leaves i x c h₁ g₁)

    -- The bytes of a pointing block are those of its occurrence.
    pub points-tally : (l i x c : ℕ) → i < N t l → at.is_kept t l i ≡ false → x ≤ len t l i
        → l < H t → tally t c (s t l i) x ≡ tally t c (s t l (at.link t l i) + at.gap t l i) x
    unfolding tally
    points-tally l i x c hi un hx hl =
        let p = d.points l i hl hi un in
        ap (count_in (byte_of t c)) (substring-ext (text_of t) (text_of t) (s t l i) (s t l (at.link t l i) + at.gap t l i) x
        (block-end l i x hl hi hx) (omega (arith, p.ends, start-below t k d l i hl hi, text-length t))
        (λ o ho. fitting.points l i o hl hi (pointing-kind t l i p) (omega arith)))
