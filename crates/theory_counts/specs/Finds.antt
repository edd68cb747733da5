-- Find (select) on an accepted tree: which block of a list of siblings holds the j-th byte, where a pointing block has it, and
-- that the place reached this way is the place of the j-th byte in the text, with its path's length.
use Rattle.std.specs.Prelude.{List, [], ◌∷◌, true, false, ◌≡◌, refl, ◌⊎◌}
use Rattle.std.proofs.Math.Option.{Option, some}
use Rattle.std.proofs.Common.{sym, ◌∙◌, inl, inr, zero-mul, add-zero, mul-div_cancel, ne_eqb}
use Rattle.std.proofs.Math.Path.{ap}
use Prim.Native.Nat.{ℕ, suc, ◌+◌, ◌-◌, ◌*◌, ◌≤◌, ◌<◌}
use native.Mathlib.Omega.{arith}
use Rattle.std.proofs.Math.Nat.{add-mul, one-mul, mul-le-mul_right}
use Rattle.std.proofs.Math.Arith.{digits_div, digits_mod}
use Rattle.text.specs.ListLaws.{lt-or-ge}
use Rattle.text.specs.Text.{substring, count_in, place_of}
use Rattle.text.specs.CountLaws.{Nth}
use Rattle.text.proofs.CountTheorems.{count-whole, count-mono, nth-earlier, nth-later, nth_past, nth-before, nth-place}
use Rattle.format.specs.Layout.{pieces}
use Rattle.format.specs.PieceLaws.{pieces-cover, pieces-start}
use Rattle.format.specs.LayoutLaws.{Readable, full-pos}
use Rattle.format.specs.Layout as at
use Rattle.format.specs.TreeReading.{Path, Visit, visit, entered, target_block, target_place, path_from, path_of, text_of}
use Rattle.format.specs.Answers.{total, path_length}
use Rattle.theory_paths.specs.Links.{H, N, b, s, len, Pointing, Follows, Linked, pointing-kind}
use Rattle.theory_paths.specs.BlockStarts.{len-small, len-inside, len-pos, start-below, Parent, in-parent, child, last-kept, leaf-below, target-full}
use Rattle.theory_paths.specs.BlockStarts.{second-inside}
use Rattle.theory_paths.specs.PlacesResolved.{kept_block, kept-not, pointing-block, from_last, from-kept, from-pointing, target, target_first, target-second}
use Rattle.theory_paths.specs.PathWalk.{path-from-holds}
use Rattle.theory_paths.specs.OneText.{text-length}
use Rattle.theory_counts.specs.CountsLocal.{byte_of, in_leaf_bytes}
use Rattle.theory_counts.specs.LevelTrue.{tally, place_in_parent, Block, Level}
use Rattle.theory_counts.specs.CountedSubstrings.{tally-none, tally-parts, fitting, points-tally, leaves-tally}
use Rattle.theory_counts.specs.SiblingCounts.{child-of, child-tally}
use Rattle.theory_counts.specs.PointedCounts.{skip-points}

module _ (t : List ℕ) (k : Readable t) (d : Linked t) (a : (m : ℕ) → m < H t → Level t m) (c : ℕ) (hc : c < at.counted_count t) where
  tally-mono : (p x y : ℕ) → x ≤ y → tally t c p x ≤ tally t c p y
  unfolding tally
  tally-mono p x y h = count-mono (byte_of t c) (text_of t) p x y h

  -- Siblings on level 0.

  pub top-before : (i : ℕ) → i < N t 0 → at.before t 0 i c ≡ tally t c 0 (i * b t 0)
  unfolding place_in_parent
  top-before i hi =
      let e : s t 0 i - 0 ≡ i * b t 0 = omega (arith, d.start0 i hi) in
      rw e at (a 0 (omega (arith, k.bounds.levels_low)) i c hi hc).before-is

  -- The last block ends the text.
  top-end : (i : ℕ) → i < N t 0 → N t 0 ≤ i + 1 → s t 0 i + len t 0 i ≡ at.text_length t
  unfolding at.block_length_at
  top-end i hi last =
      let e : N t 0 ≡ i + 1 = omega arith in
      let cover = rw (← k.level0, e, add-mul i 1 (b t 0), one-mul) at (pieces-cover (at.text_length t) (b t 0) (full-pos t k 0)) in
      omega (arith, d.start0 i hi, start-below t k d 0 i (omega (arith, k.bounds.levels_low)) hi)

  -- Any other ends where the next one starts.
  top-meets : (i : ℕ) → i + 1 < N t 0 → s t 0 i + len t 0 i ≡ (i + 1) * b t 0
  unfolding at.block_length_at
  top-meets i h =
      omega (
        arith,
        d.start0 i (omega arith),
        d.start0 (i + 1) h,
        start-below t k d 0 (i + 1) (omega (arith, k.bounds.levels_low)) h,
        add-mul i 1 (b t 0),
        one-mul (b t 0),
      )

  top-both : (i : ℕ) → i < N t 0 → at.before t 0 i c + at.inside t 0 i c ≡ tally t c 0 (s t 0 i + len t 0 i)
  top-both i hi =
      let hl : 0 < H t = omega (arith, k.bounds.levels_low) in
      let e = top-before i hi in
      let f = rw (← d.start0 i hi) at e in
      omega (arith, f, (a 0 hl i c hi hc).inside_is, tally-parts t c 0 (s t 0 i) (s t 0 i) (len t 0 i) (s t 0 i + len t 0 i) (omega arith) refl)

  whole-text : tally t c 0 (at.text_length t) ≡ count_in (byte_of t c) (text_of t)
  unfolding tally
  whole-text = count-whole (byte_of t c) (text_of t) (at.text_length t) (omega (arith, text-length t))

  -- The total is the text's count; a text of no bytes has no block.
  pub total_is : total t c ≡ count_in (byte_of t c) (text_of t)
  unfolding total
  total_is = go (lt-or-ge 0 (N t 0))
    where
      go : (0 < N t 0) ⊎ (N t 0 ≤ 0) → total t c ≡ count_in (byte_of t c) (text_of t)
      go (inl some_block) =
          let hi : N t 0 - 1 < N t 0 = omega arith in
          rw (ne_eqb (N t 0) 0 (λ e. omega arith)) (top-both (N t 0 - 1) hi ∙ rw (top-end (N t 0 - 1) hi (omega arith)) whole-text)
      go (inr none) =
          let e : N t 0 ≡ 0 = omega arith in
          let cover = rw (← k.level0, e, zero-mul) at (pieces-cover (at.text_length t) (b t 0) (full-pos t k 0)) in
          let few : at.text_length t ≡ 0 = omega arith in
          rw e (sym (tally-none t c 0) ∙ rw few at whole-text)

  -- befores do not fall along the list
  pub top-rises : (i j : ℕ) → i ≤ j → j < N t 0 → at.before t 0 i c ≤ at.before t 0 j c
  top-rises i j h hj = omega (arith, top-before i (omega arith), top-before j hj, tally-mono 0 (i * b t 0) (j * b t 0) (mul-le-mul_right (b t 0) h))

  -- The last block before any whose before is n or more holds the n-th byte.
  pub top-holds : (i n : ℕ) → i < N t 0 → n ≤ total t c → (i + 1 < N t 0 → n ≤ at.before t 0 (i + 1) c) → n ≤ at.before t 0 i c + at.inside t 0 i c
  top-holds i n hi high next = go (lt-or-ge (i + 1) (N t 0))
    where
      go : (i + 1 < N t 0) ⊎ (N t 0 ≤ i + 1) → n ≤ at.before t 0 i c + at.inside t 0 i c
      go (inl h) =
          let e : s t 0 i + len t 0 i ≡ (i + 1) * b t 0 = top-meets i h in
          let f = rw e at (top-both i hi) in
          omega (arith, next h, top-before (i + 1) h, f)
      go (inr h) =
          let f = rw (top-end i hi h) at (top-both i hi) in
          omega (arith, f, total_is, whole-text)

  -- Siblings below: the children of a kept block.
  module _ (l i : ℕ) (hl : l + 1 < H t) (hi : i < N t l) (kept : at.is_kept t l i ≡ true) where
    -- How many there are.
    abbrev pub width : ℕ
    width = pieces (len t l i) (b t (l + 1))

    child-number : (j : ℕ) → j < width → Parent t l (at.link t l i + j) i j
    child-number j h = child-of t k d l i j hl hi kept (pieces-start (len t l i) (b t (l + 1)) j h (full-pos t k (l + 1)))

    pub child-in : (j : ℕ) → j < width → at.link t l i + j < N t (l + 1)
    child-in j h =
        let q = child t k d l i (j * b t (l + 1)) hl hi kept (child-number j h).within in
        rw (mul-div_cancel j (full-pos t k (l + 1))) at q.below

    child-true : (j : ℕ) → j < width → Block t (l + 1) (at.link t l i + j) c
    child-true j h = a (l + 1) hl (at.link t l i + j) c (child-in j h) hc

    child-before : (j : ℕ) → j < width → at.before t (l + 1) (at.link t l i + j) c ≡ tally t c (s t l i) (j * b t (l + 1))
    child-before j h =
        let e : j * b t (l + 1) + 0 ≡ j * b t (l + 1) = add-zero _ in
        omega (arith, rw e at (child-tally t k d l i j c 0 hl (child-number j h) (child-true j h)), tally-none t c (s t (l + 1) (at.link t l i + j)))

    -- The first child's before is 0.
    pub first-before : 0 < width → at.before t (l + 1) (at.link t l i + 0) c ≡ 0
    first-before h = child-before 0 h ∙ rw (zero-mul (b t (l + 1))) (tally-none t c (s t l i))

    child-both : (j : ℕ) → j < width → at.before t (l + 1) (at.link t l i + j) c + at.inside t (l + 1) (at.link t l i + j) c
        ≡ tally t c (s t l i) (j * b t (l + 1) + len t (l + 1) (at.link t l i + j))
    child-both j h =
        omega (arith, child-tally t k d l i j c (len t (l + 1) (at.link t l i + j)) hl (child-number j h) (child-true j h), (child-true j h).inside_is)

    -- A child that is not the last is full, the last one ends the block.
    child-full : (j : ℕ) → j + 1 < width → j * b t (l + 1) + len t (l + 1) (at.link t l i + j) ≡ (j + 1) * b t (l + 1)
    unfolding at.block_length_at
    child-full j h =
        let p = child-number j (omega arith) in
        let q = child-number (j + 1) h in
        omega (arith, p.start_is, len-inside t l i ((j + 1) * b t (l + 1)) q.within, add-mul j 1 (b t (l + 1)), one-mul (b t (l + 1)))

    child-last : (j : ℕ) → j < width → width ≤ j + 1 → len t l i ≤ j * b t (l + 1) + len t (l + 1) (at.link t l i + j)
    unfolding at.block_length_at
    child-last j h last =
        let p = child-number j h in
        let cover = pieces-cover (len t l i) (b t (l + 1)) (full-pos t k (l + 1)) in
        let most : width * b t (l + 1) ≤ (j + 1) * b t (l + 1) = mul-le-mul_right (b t (l + 1)) last in
        omega (arith, p.start_is, add-mul j 1 (b t (l + 1)), one-mul (b t (l + 1)))

    -- The last child before any whose before is n or more holds the block's n-th byte.
    pub child-holds : (j n : ℕ) → j < width → n ≤ at.inside t l i c → (j + 1 < width → n ≤ at.before t (l + 1) (at.link t l i + (j + 1)) c)
        → n ≤ at.before t (l + 1) (at.link t l i + j) c + at.inside t (l + 1) (at.link t l i + j) c
    child-holds j n h high next = go (lt-or-ge (j + 1) width)
      where
        go : (j + 1 < width) ⊎ (width ≤ j + 1) → n ≤ at.before t (l + 1) (at.link t l i + j) c + at.inside t (l + 1) (at.link t l i + j) c
        go (inl m) = omega (arith, next m, child-before (j + 1) m, rw (child-full j m) at (child-both j h))
        go (inr m) =
            omega (
              arith,
              child-both j h,
              (a l (omega arith) i c hi hc).inside_is,
              tally-mono (s t l i) (len t l i) (j * b t (l + 1) + len t (l + 1) (at.link t l i + j)) (child-last j h m),
            )

  -- Places.

  -- The n-th occurrence in block i of level l is at its place o, and the path from the block to it enters e blocks.
  pub record Lands (l i n o e : ℕ) : Type 0 where
    pub inside : o < len t l i
    pub nth : Nth (byte_of t c) n (text_of t) (s t l i) o
    pub entered_is : path_length t (path_from t (H t - 1 - l) l i o) ≡ e

  entered-one : (v : Visit) (r : Option Path) (q : Path) → r ≡ some q → path_length t (entered (v ∷ []) r) ≡ path_length t r + 1
  entered-one v r q e = rw e (omega arith)

  -- In a last-level block by its leaf bytes.
  last-lands : (i n o : ℕ) → i < N t (H t - 1) → o < len t (H t - 1) i → at.leaf_byte t (at.link t (H t - 1) i + o) ≡ byte_of t c
      → in_leaf_bytes t (H t - 1) i o c + 1 ≡ n → Lands (H t - 1) i n o 1
  unfolding tally
  last-lands i n o hi ho byte_is rank =
      let l = H t - 1 in
      let kept = last-kept t k d i hi in
      let e : H t - 1 - (H t - 1) ≡ 0 = omega arith in record {
        inside = ho;
        nth = record {
          within = omega (arith, len-inside t l i o ho, text-length t);
          byte_is = (fitting t k d).leaves i o hi ho ∙ byte_is;
          rank = omega (arith, leaves-tally t k d l i o c (omega (arith, k.bounds.levels_low)) hi (omega arith));
        };
        entered_is = rw (e, from_last t l i o (kept_block t l i hi kept) (leaf-below t k d i o hi ho));
      }

  pub lands-leaf : (l i n o : ℕ)
      → l + 1 ≡ H t → i < N t l → o < len t l i → at.leaf_byte t (at.link t l i + o) ≡ byte_of t c → in_leaf_bytes t l i o c + 1 ≡ n → Lands l i n o 1
  lands-leaf l i n o e hi ho byte_is rank = go l (omega arith) hi ho byte_is rank
    where
      go : (m : ℕ) → m ≡ H t - 1 → i < N t m → o < len t m i → at.leaf_byte t (at.link t m i + o) ≡ byte_of t c → in_leaf_bytes t m i o c + 1 ≡ n → Lands m i n o 1
      go m e hi ho byte_is rank =
          let h₁ : i < N t (H t - 1) = rw e at hi in
          let h₂ : o < len t (H t - 1) i = rw e at ho in
          let h₃ : at.leaf_byte t (at.link t (H t - 1) i + o) ≡ byte_of t c = rw e at byte_is in
          let h₄ : in_leaf_bytes t (H t - 1) i o c + 1 ≡ n = rw e at rank in
          rw e (last-lands i n o h₁ h₂ h₃ h₄)

  -- In a kept block by the child that holds it.
  pub lands-child : (l i j n o e : ℕ) → l + 1 < H t → i < N t l → at.is_kept t l i ≡ true → j < pieces (len t l i) (b t (l + 1))
      → at.before t (l + 1) (at.link t l i + j) c < n → Lands (l + 1) (at.link t l i + j) (n - at.before t (l + 1) (at.link t l i + j) c) o e
      → Lands l i n (j * b t (l + 1) + o) (e + 1)
  unfolding tally
  lands-child l i j n o e hl hi kept hj low h =
      let m = at.link t l i + j in
      let w = b t (l + 1) in
      let p = child-number l i hl hi kept j hj in
      let q = in-parent t k d l m i j o hl p h.inside in
      let below = H t - 1 - (l + 1) in
      let left : H t - 1 - l ≡ suc below = omega arith in
      let path = path-from-holds t k d below (l + 1) m o (omega arith) (child-in l i hl hi kept j hj) h.inside in
      let before-is : at.before t (l + 1) m c ≡ count_in (byte_of t c) (substring (text_of t) (s t l i) (j * w)) = child-before l i hl hi kept j hj in
      let rank : count_in (byte_of t c) (substring (text_of t) (s t l i) (j * w)) + (n - at.before t (l + 1) m c) ≡ n = omega arith in record {
        inside = q.inside;
        nth = rw rank at (nth-earlier (byte_of t c) (n - at.before t (l + 1) m c) (text_of t) (s t l i) (j * w) o (rw p.start_is at h.nth));
        entered_is =
            rw (left, from-kept t below l i (j * w + o) (kept_block t l i hi kept), q.back, q.rest)
            (entered-one (visit l i (j * w + o)) _ path.0 path.1)
            ∙ ap (λ (x : ℕ). x + 1) h.entered_is;
      }

  -- In a pointing block: the (n + skip)-th of the first target, or past that one's inside the rest in the second.
  module _ (l i n : ℕ) (hl : l < H t) (hi : i < N t l) (un : at.is_kept t l i ≡ false) (low : 1 ≤ n) (high : n ≤ at.inside t l i c) where
    abbrev j : ℕ
    j = at.link t l i

    abbrev g : ℕ
    g = at.gap t l i

    p : Pointing t l i
    p = d.points l i hl hi un

    skip_is : at.skip t l i c ≡ tally t c (s t l j) g
    skip_is = skip-points t k d l i c un (a l hl i c hi hc)

    first-is : at.inside t l j c ≡ tally t c (s t l j) (b t l)
    first-is = (a l hl j c p.target_below hc).inside_is ∙ ap (tally t c (s t l j)) (target-full t k d l i p hi)

    -- The gap and the block's own length from there on.
    both-are : at.skip t l i c + at.inside t l i c ≡ tally t c (s t l j) (g + len t l i)
    both-are =
        omega (
          arith,
          skip_is,
          (a l hl i c hi hc).inside_is,
          points-tally t k d l i (len t l i) c hi un (omega arith) hl,
          tally-parts t c (s t l j) (s t l j + g) g (len t l i) (g + len t l i) refl refl,
        )

    -- From the occurrence to the block itself.
    record Own (y : ℕ) : Type 0 where
      gap_low : g ≤ y
      inside : y - g < len t l i
      nth : Nth (byte_of t c) n (text_of t) (s t l i) (y - g)

    own : (y : ℕ) → Nth (byte_of t c) (n + at.skip t l i c) (text_of t) (s t l j) y → Own y
    unfolding tally
    own y h =
        let x = byte_of t c in
        let T = text_of t in
        let past : g ≤ y = nth_past x (n + at.skip t l i c) T (s t l j) g y h (omega (arith, skip_is)) in
        let o = y - g in
        let e : y ≡ g + o = omega arith in
        let f : n + at.skip t l i c ≡ count_in x (substring T (s t l j) g) + n = omega (arith, skip_is) in
        let later : Nth x n T (s t l j + g) o = nth-later x n T (s t l j) g o (own_at y (g + o) e f h) in
        let whole : tally t c (s t l i) (len t l i) ≡ tally t c (s t l j + g) (len t l i) = points-tally t k d l i (len t l i) c hi un (omega arith) hl in
        let within : o < len t l i = nth-before x n T (s t l j + g) (len t l i) o later (omega (arith, (a l hl i c hi hc).inside_is)) in record {
          gap_low = past;
          inside = within;
          nth = record {
            within = omega (arith, len-inside t l i o within, text-length t);
            byte_is = (fitting t k d).points l i o hl hi (pointing-kind t l i (d.points l i hl hi un)) within ∙ later.byte_is;
            rank = omega (arith, later.rank, points-tally t k d l i o c hi un (omega arith) hl);
          };
        }
      where
        own_at : (y z : ℕ) → y ≡ z → {m₁ m₂ : ℕ} → m₁ ≡ m₂ → Nth (byte_of t c) m₁ (text_of t) (s t l j) y → Nth (byte_of t c) m₂ (text_of t) (s t l j) z
        own_at y z e f h = rw (← e, ← f) h

    -- The place of a block that refers to a target.
    entered-target : (o : ℕ) → o < len t l i
        → path_length t (path_from t (H t - 1 - l) l i o) ≡ path_length t (path_from t (H t - 1 - l) l (target_block t l i o) (target_place t l i o)) + 1
    entered-target o ho =
        let w = target t k d l i o hi p ho in
        let below = H t - 1 - (l + 1) in
        let left : H t - 1 - l ≡ suc below = omega (arith, p.above) in
        let path = path-from-holds t k d (suc below) l (target_block t l i o) (target_place t l i o) (omega (arith, p.above)) w.below w.inside in
        rw (left, from-pointing t below l i o (kept-not t l i hi un) (pointing-block t l i hi p) (kept_block t l (target_block t l i o) w.below w.kept))
        (entered-one (visit l i o) _ path.0 path.1)

    -- In the first target.
    pub lands-first : (x e : ℕ) → Lands l j (n + at.skip t l i c) x e → (g ≤ x) × Lands l i n (x - g) (e + 1)
    lands-first x e h =
        let w = own x h.nth in
        let full = target-full t k d l i p hi in
        let gap_low = w.gap_low in
        let o = x - g in
        let back : g + o ≡ x = omega arith in
        let tg = target_first t l i o (omega (arith, h.inside)) in
        let place : target_place t l i o ≡ x = tg.1 ∙ back in (
          gap_low,
          record {
            inside = w.inside;
            nth = w.nth;
            entered_is = entered-target o w.inside ∙ rw (tg.0, place) (ap (λ (y : ℕ). y + 1) h.entered_is);
          },
        )

    -- Past the first target's inside there is a second, which holds the rest.
    pub second_holds : at.inside t l j c < n + at.skip t l i c → Follows t l j × (n + at.skip t l i c - at.inside t l j c ≤ at.inside t l (j + 1) c)
    second_holds past = go (lt-or-ge (b t l) (g + len t l i))
      where
        go : (b t l < g + len t l i) ⊎ (g + len t l i ≤ b t l) → Follows t l j × (n + at.skip t l i c - at.inside t l j c ≤ at.inside t l (j + 1) c)
        go (inl over) =
            let f = p.next over in
            let rest = g + len t l i - b t l in
            let pos = len-pos t k d l i hl hi in
            let within : rest - 1 < len t l (j + 1) =
            (let z : g + (len t l i - 1) - b t l ≡ rest - 1 = omega arith in
            rw z at (second-inside t k d l i (len t l i - 1) p f hi (omega arith) (omega arith))) in
            let two = tally-parts t c (s t l j) (s t l (j + 1)) (b t l) rest (g + len t l i) f.start_is (omega arith) in (
              f,
              omega (
                arith,
                both-are,
                first-is,
                two,
                (a l hl (j + 1) c f.below hc).inside_is,
                tally-mono (s t l (j + 1)) rest (len t l (j + 1)) (omega arith),
              ),
            )
        go (inr short) = absurd (let z : ⊥ = omega (arith, both-are, first-is, tally-mono (s t l j) (g + len t l i) (b t l) short) in z)

    -- In the second.
    pub lands-second : at.inside t l j c < n + at.skip t l i c → (x e : ℕ) → Lands l (j + 1) (n + at.skip t l i c - at.inside t l j c) x e
        → (g ≤ b t l + x) × Lands l i n (b t l + x - g) (e + 1)
    unfolding tally
    lands-second past x e h =
        let f = (second_holds past).0 in
        let m = n + at.skip t l i c - at.inside t l j c in
        let rank : count_in (byte_of t c) (substring (text_of t) (s t l j) (b t l)) + m ≡ n + at.skip t l i c = omega (arith, first-is) in
        let w = own (b t l + x) (rw rank at (nth-earlier (byte_of t c) m (text_of t) (s t l j) (b t l) x (rw f.start_is at h.nth))) in
        let gap_low = w.gap_low in
        let o = b t l + x - g in
        let tg = target-second t l i o (omega arith) in
        let back : g + o - b t l ≡ x = omega arith in
        let place : target_place t l i o ≡ x = tg.1 ∙ back in (
          gap_low,
          record {
            inside = w.inside;
            nth = w.nth;
            entered_is = entered-target o w.inside ∙ rw (tg.0, place) (ap (λ (y : ℕ). y + 1) h.entered_is);
          },
        )

  -- On level 0: the place of the n-th byte in the text, and its path's length.
  pub lands-top : (i n o e : ℕ) → i < N t 0 → at.before t 0 i c < n → Lands 0 i (n - at.before t 0 i c) o e
      → (place_of (byte_of t c) n (text_of t) ≡ s t 0 i + o) × (path_length t (path_of t (s t 0 i + o)) ≡ e)
  unfolding tally path_of
  lands-top i n o e hi low h =
      let x = byte_of t c in
      let start = d.start0 i hi in
      let small : o < b t 0 = omega (arith, len-small t 0 i, h.inside) in
      let before-is : at.before t 0 i c ≡ count_in x (substring (text_of t) 0 (s t 0 i)) = rw (← start) at (top-before i hi) in
      let rank : count_in x (substring (text_of t) 0 (s t 0 i)) + (n - at.before t 0 i c) ≡ n = omega arith in
      let zero_is : s t 0 i ≡ 0 + s t 0 i = omega arith in
      let left : H t - 1 - 0 ≡ H t - 1 = omega arith in (
        nth-place x n (text_of t) (s t 0 i + o) (rw rank at (nth-earlier x (n - at.before t 0 i c) (text_of t) 0 (s t 0 i) o (rw zero_is at h.nth))),
        rw (start, digits_div i small, digits_mod i small) (rw left at h.entered_is),
      )
