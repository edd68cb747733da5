-- Exactly one text fits a tree that passes questions 5 to 8: the text of the tree.
use Rattle.std.specs.Prelude.{List, [], ◌∷◌, true, false, ◌≡◌, ℕ, suc, ◌+◌, ◌-◌, ◌<◌, length, get_or}
use Rattle.std.proofs.Common.{sym, ap, ◌∙◌, arith, ext_get_or}
use Rattle.text.specs.ListLaws.{length-tabulate, get_or-tabulate}
use Rattle.format.specs.LayoutLaws.{Readable}
use Rattle.format.specs.Layout as at
use Rattle.format.specs.TreeReading.{visit, target_block, target_place, path_from, path_of, leaf_of, text_of}
use Rattle.format.specs.FittingText.{fits}
use Rattle.theory_paths.specs.Links.{H, N, s, len, pointing-kind, points-not-kept, Linked}
use Rattle.theory_paths.specs.BlockStarts.{len-inside, last-kept, leaf-below}
use Rattle.theory_paths.specs.PlacesResolved.{leaf-entered, from_last, kept_block, kept-not, pointing-block, from-pointing, target}
use Rattle.theory_paths.specs.PathWalk.{Carries, walk-text}
use Rattle.theory_paths.specs.Reach.{reach-leaf}
use Rattle.theory_paths.specs.FitsFacts.{fits-facts, fits-make}

-- The text of a tree has n bytes, at each place the byte at the end of its path.

pub text-length : (t : List ℕ) → length (text_of t) ≡ at.text_length t
unfolding text_of
text-length t = length-tabulate (at.text_length t) (λ p. leaf_of t (path_of t p))

pub text_at : (t : List ℕ) (p : ℕ) → p < at.text_length t → get_or (text_of t) p 0 ≡ leaf_of t (path_of t p)
unfolding text_of
text_at t p h = get_or-tabulate (at.text_length t) (λ p. leaf_of t (path_of t p)) p 0 h

module _ (t : List ℕ) (k : Readable t) (d : Linked t) where
  -- At a block's place, what the block gives.
  pub text-block : (l i o : ℕ) → l < H t → i < N t l → o < len t l i → get_or (text_of t) (s t l i + o) 0 ≡ leaf_of t (path_from t (H t - 1 - l) l i o)
  text-block l i o hl hi ho = text_at t (s t l i + o) (len-inside t l i o ho) ∙ reach-leaf t k d l i o hl hi ho

  text-leaf : (i o : ℕ) → i < N t (H t - 1) → o < len t (H t - 1) i → get_or (text_of t) (s t (H t - 1) i + o) 0 ≡ at.leaf_byte t (at.link t (H t - 1) i + o)
  text-leaf i o hi ho =
      let e : H t - 1 - (H t - 1) ≡ 0 = omega arith in
      text-block (H t - 1) i o (omega (arith, k.bounds.levels_low)) hi ho
      ∙ rw (e, from_last t (H t - 1) i o (kept_block t (H t - 1) i hi (last-kept t k d i hi)) (leaf-below t k d i o hi ho))

  text-points : (l i o : ℕ) → l < H t → i < N t l → at.is_kept t l i ≡ false → o < len t l i
      → get_or (text_of t) (s t l i + o) 0 ≡ get_or (text_of t) (s t l (at.link t l i) + at.gap t l i + o) 0
  text-points l i o hl hi un ho =
      let p = d.points l i hl hi un in
      let h = target t k d l i o hi p ho in
      let j = target_block t l i o in
      let x = target_place t l i o in
      let below = H t - 1 - (l + 1) in
      let left : H t - 1 - l ≡ suc below = omega (arith, p.above) in
      let on : leaf_of t (path_from t (H t - 1 - l) l i o) ≡ leaf_of t (path_from t (H t - 1 - l) l j x) =
      rw left (ap (leaf_of t) (from-pointing t below l i o (kept-not t l i hi un) (pointing-block t l i hi p) (kept_block t l j h.below h.kept))
      ∙ leaf-entered t (visit l i o ∷ []) (path_from t (suc below) l j x)) in
      text-block l i o hl hi ho ∙ on ∙ sym (text-block l j x hl h.below h.inside) ∙ ap (λ (y : ℕ). get_or (text_of t) y 0) h.same_place

  pub text-fits : fits (text_of t) t ≡ true
  text-fits = fits-make (text_of t) t k d record {
    size = text-length t;
    leaves = text-leaf;
    points = λ l i o hl hi points ho. text-points l i o hl hi (points-not-kept t l i points) ho;
  }

  -- Any text that fits is the text of the tree.
  pub fits-same : (T : List ℕ) → fits T t ≡ true → T ≡ text_of t
  fits-same T h =
      let low : 0 < H t = omega (arith, k.bounds.levels_low) in
      let f = fits-facts T t low h in
      let c : Carries t k d (λ x y. at.leaf_byte t x ≡ get_or T y 0) = record {
        leaf = λ i o hi ho. sym (f.leaves i o hi ho);
        points = λ l i o x hi p ho e. e ∙ sym (f.points l i o (omega (arith, p.above)) hi (pointing-kind t l i p) ho);
      } in
      ext_get_or 0 T (text_of t) (f.size ∙ sym (text-length t)) (λ p hp.
      let below : p < at.text_length t = omega (arith, f.size) in
      let w = walk-text t k d (λ x y. at.leaf_byte t x ≡ get_or T y 0) c p below in
      sym (text_at t p below ∙ ap (leaf_of t) w.1 ∙ w.2))
