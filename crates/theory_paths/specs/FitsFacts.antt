-- A text fits a tree, as plain facts on its bytes.
use Rattle.std.specs.Prelude.{List, true, false, not, ◌||◌, ◌≡◌, refl, ◌⊎◌, length, get_or, eqb}
use Rattle.std.proofs.Math.Bool.{Bool}
use Rattle.std.proofs.Common.{sym, ap, ◌∙◌, inl, inr, arith, ext_get_or}
use Prim.Native.Nat.{ℕ, ◌+◌, ◌-◌, ◌≤◌, ◌<◌}
use borrow.Author.Tests.{eqb-true, eq-eqb, ne_eqb}
use Rattle.text.specs.Text.{tabulate, all_below, same_list, substring}
use Rattle.text.specs.ListLaws.{and_left, and_right, and_both, bool_cases, all_below-at, all_below-make, same_list-true, eq-same_list, length-tabulate}
use Rattle.text.specs.ListLaws.{get_or-tabulate, below_suc, or_left, or_right, not-eq-true}
use Rattle.text.specs.TextLaws.{length-substring, get_or-substring, substring-ext, substring-at}
use Rattle.format.specs.LayoutLaws.{Readable}
use Rattle.format.specs.Layout as at
use Rattle.format.specs.TreeReading.{last_level}
use Rattle.format.specs.FittingText.{block_fits, fits}
use Rattle.theory_paths.specs.Links.{H, N, s, len, Linked, points-not-kept}
use Rattle.theory_paths.specs.BlockStarts.{len-end, start-below}

-- A substring is the list of its bytes.
pub substring-tabulate : (T : List ℕ) (p x : ℕ) (f : ℕ → ℕ) → p + x ≤ length T → ((o : ℕ) → o < x → get_or T (p + o) 0 ≡ f o) → substring T p x ≡ tabulate x f
substring-tabulate T p x f h same =
    ext_get_or 0 (substring T p x) (tabulate x f) (length-substring T p x h ∙ sym (length-tabulate x f))
    (λ o l. (let m : o < x = rw (length-substring T p x h) at l in get_or-substring T p x o m ∙ same o m ∙ sym (get_or-tabulate x f o 0 m)))

module _ (T t : List ℕ) where
  pub record Fitting : Type 0 where
    pub size : length T ≡ at.text_length t
    -- The leaf bytes of each block of the last level are the bytes of the text at its start.
    pub leaves : (i o : ℕ) → i < N t (H t - 1) → o < len t (H t - 1) i
        → get_or T (s t (H t - 1) i + o) 0 ≡ at.leaf_byte t (at.link t (H t - 1) i + o)
    -- Each pointing block's bytes are those of its occurrence.
    pub points : (l i o : ℕ) → l < H t → i < N t l → at.is_pointing t l i ≡ true → o < len t l i
        → get_or T (s t l i + o) 0 ≡ get_or T (s t l (at.link t l i) + at.gap t l i + o) 0

  -- One block's two tests.

  abbrev bytes : ℕ → ℕ → List ℕ
  bytes l i = substring T (s t l i) (len t l i)

  abbrev leaf_bytes : ℕ → ℕ → List ℕ
  leaf_bytes l i = tabulate (len t l i) (λ o. at.leaf_byte t (at.link t l i + o))

  abbrev pointed_to : ℕ → ℕ → List ℕ
  pointed_to l i = substring T (s t l (at.link t l i) + at.gap t l i) (len t l i)

  abbrev leaves_test : ℕ → ℕ → Bool
  leaves_test l i = not (eqb l (last_level t)) || same_list (bytes l i) (leaf_bytes l i)

  abbrev points_test : ℕ → ℕ → Bool
  points_test l i = not (at.is_pointing t l i) || same_list (bytes l i) (pointed_to l i)

  leaves-fit : (i : ℕ) → block_fits T t (H t - 1) i ≡ true → bytes (H t - 1) i ≡ leaf_bytes (H t - 1) i
  unfolding block_fits last_level
  leaves-fit i h =
      let e = and_left (leaves_test (H t - 1) i) (points_test (H t - 1) i) h in
      same_list-true _ _ (rw (eq-eqb (H t - 1) (H t - 1) refl) at e)

  points-fit : (l i : ℕ) → at.is_pointing t l i ≡ true → block_fits T t l i ≡ true → bytes l i ≡ pointed_to l i
  unfolding block_fits
  points-fit l i points h =
      let e = and_right (leaves_test l i) (points_test l i) h in
      same_list-true _ _ (rw points at e)

  block-fits : fits T t ≡ true → (l i : ℕ) → l < H t → i < N t l → block_fits T t l i ≡ true
  unfolding fits
  block-fits h l i hl hi =
      let level : ℕ → Bool = λ x. all_below (N t x) (block_fits T t x) in
      all_below-at (N t l) (block_fits T t l) (all_below-at (H t) level (and_right (eqb (length T) (at.text_length t)) (all_below (H t) level) h) l hl) i hi

  fits-size : fits T t ≡ true → length T ≡ at.text_length t
  unfolding fits
  fits-size h = eqb-true (length T) (at.text_length t) (and_left (eqb (length T) (at.text_length t)) (all_below (H t) (λ x. all_below (N t x) (block_fits T t x))) h)

  pub fits-facts : 0 < H t → fits T t ≡ true → Fitting
  fits-facts low h = record {
    size = fits-size h;
    leaves = λ i o hi ho.
        let e = leaves-fit i (block-fits h (H t - 1) i (omega arith) hi) in
        sym (get_or-substring T (s t (H t - 1) i) (len t (H t - 1) i) o ho) ∙ ap (λ (x : List ℕ). get_or x o 0) e
        ∙ get_or-tabulate (len t (H t - 1) i) (λ y. at.leaf_byte t (at.link t (H t - 1) i + y)) o 0 ho;
    points = λ l i o hl hi un ho. substring-at T T _ _ (len t l i) (points-fit l i un (block-fits h l i hl hi)) o ho;
  }

  -- From the facts back to the tests.

  leaves-above : (l i : ℕ) → l + 1 < H t → leaves_test l i ≡ true
  unfolding last_level
  leaves-above l i hl = rw (ne_eqb l (H t - 1) (λ e. omega arith))

  leaves_last : (i : ℕ) → bytes (H t - 1) i ≡ leaf_bytes (H t - 1) i → leaves_test (H t - 1) i ≡ true
  unfolding last_level
  leaves_last i e = rw (eq-eqb (H t - 1) (H t - 1) refl) (eq-same_list _ _ e)

  tests-fit : (l i : ℕ) → leaves_test l i ≡ true → points_test l i ≡ true → block_fits T t l i ≡ true
  unfolding block_fits
  tests-fit l i x y = and_both x y

  module _ (k : Readable t) (d : Linked t) (f : Fitting) where
    fitting-block : (l i : ℕ) → l < H t → i < N t l → block_fits T t l i ≡ true
    fitting-block l i hl hi = tests-fit l i (leaves (below_suc l (H t - 1) (omega arith))) (points (bool_cases (at.is_pointing t l i)))
      where
        end : s t l i + len t l i ≤ length T
        end = omega (arith, len-end t l i (omega (arith, start-below t k d l i hl hi)), f.size)

        last : (x : ℕ) → x ≡ H t - 1 → i < N t x → s t x i + len t x i ≤ length T → leaves_test x i ≡ true
        last x e hx hy =
            let hi₁ : i < N t (H t - 1) = rw e at hx in
            let end₁ : s t (H t - 1) i + len t (H t - 1) i ≤ length T = rw e at hy in
            rw e (leaves_last i (substring-tabulate T _ _ (λ o. at.leaf_byte t (at.link t (H t - 1) i + o)) end₁ (λ o ho. f.leaves i o hi₁ ho)))

        leaves : (l < H t - 1) ⊎ (l ≡ H t - 1) → leaves_test l i ≡ true
        leaves (inl h) = leaves-above l i (omega arith)
        leaves (inr e) = last l e hi end

        points : (at.is_pointing t l i ≡ true) ⊎ (at.is_pointing t l i ≡ false) → points_test l i ≡ true
        points (inr other) = or_left _ (not-eq-true other)
        points (inl pointing) =
            or_right (not (at.is_pointing t l i)) (eq-same_list _ _
            (substring-ext T T (s t l i) (s t l (at.link t l i) + at.gap t l i) (len t l i) end
            (omega (arith, end, (d.points l i hl hi (points-not-kept t l i pointing)).ends)) (λ o ho. f.points l i o hl hi pointing ho)))

    pub fits-make : fits T t ≡ true
    unfolding fits
    fits-make =
        let level : ℕ → Bool = λ x. all_below (N t x) (block_fits T t x) in
        and_both (eq-eqb (length T) (at.text_length t) f.size)
        (all_below-make (H t) level (λ l hl. all_below-make (N t l) (block_fits T t l) (λ i hi. fitting-block l i hl hi)))
