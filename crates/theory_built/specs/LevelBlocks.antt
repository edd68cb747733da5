-- The blocks of a level and of the level below it: they ascend, start at multiples of the block length, and cover what the kept blocks above them cover. They
-- are given by plain functions: block i starts at `start i`.
use Rattle.std.specs.Prelude.{Bool, true, false, ◌≡◌, refl, ◌⊎◌, ℕ, zero, suc, ◌+◌, ◌-◌, ◌*◌, ◌≤◌, ◌<◌, min}
use Rattle.std.proofs.Common.{sym, ap, ◌∙◌, inl, inr, arith, suc-mul, add-mul, mul_assoc, mul-le-mul_right}
use Rattle.text.specs.Text.{sum_below}
use Rattle.text.specs.ListLaws.{lt-or-ge, sum_below-part, bool_cases}
use Rattle.format.specs.Layout.{pieces}
use Rattle.theory_built.specs.Gather.{Placed, placed}
use Rattle.format.specs.PieceLaws.{pieces-start, whole-left}

-- A text of n bytes.
module _ (n : ℕ) where
  -- N blocks of b bytes, in the order of the text, none over another
  pub record Level (b N : ℕ) (start : ℕ → ℕ) : Type 0 where
    pub size : 0 < b
    pub rising : (i j : ℕ) → i < j → j < N → start i + b ≤ start j
    pub within : (i : ℕ) → i < N → start i < n
    pub whole : (i : ℕ) → i < N → (k : ℕ) × (start i ≡ k * b)

  -- Level 0.
  pub level-top : (b N : ℕ) (start : ℕ → ℕ) → 0 < b → N ≡ pieces n b → ((i : ℕ) → i < N → start i ≡ i * b) → Level b N start
  level-top b N start pos count at = record {
    size = pos;
    rising = λ i j l h. omega (arith, at i (omega arith), at j h, suc-mul i b, mul-le-mul_right {m = suc i} {n = j} b l);
    within = λ i l. rw (at i l) (pieces-start n b i (omega arith) pos);
    whole = λ i l. (i, at i l);
  }

  module _ (b N : ℕ) (start : ℕ → ℕ) where
    pub start-le : Level b N start → (i j : ℕ) → i ≤ j → j < N → start i ≤ start j
    start-le lv i j l h = go (lt-or-ge i j)
      where
        go : (i < j) ⊎ (j ≤ i) → start i ≤ start j
        go (inl k) = omega (arith, lv.rising i j k h)
        go (inr k) = let e : i ≡ j = omega arith in rw e (omega arith)

    -- A block whose start is not after that of another is not after it.
    pub le-of-start : Level b N start → (i j : ℕ) → i < N → start i ≤ start j → i ≤ j
    le-of-start lv i j h l = go (lt-or-ge j i)
      where
        go : (j < i) ⊎ (i ≤ j) → i ≤ j
        go (inl k) = absurd (let z : ⊥ = omega (arith, lv.rising j i k h, lv.size) in z)
        go (inr k) = k

    pub start-ge : Level b N start → (i : ℕ) → i < N → i ≤ start i
    start-ge lv zero h = omega arith
    start-ge lv (suc i) h = omega (arith, start-ge lv i (omega arith), lv.rising i (suc i) (omega arith) h, lv.size)

    -- No more blocks than bytes.
    pub count-le : Level b N start → N ≤ n
    count-le lv = go N refl
      where
        go : (k : ℕ) → k ≡ N → N ≤ n
        go zero e = omega arith
        go (suc k) e = omega (arith, start-ge lv k (omega arith), lv.within k (omega arith))

  -- Blocks of b bytes and, below them, those that the kept ones are cut into, of c bytes each.
  pub record Cut (b N : ℕ) (start : ℕ → ℕ) (kept : ℕ → Bool) (width : ℕ → ℕ) (c M : ℕ) (lower : ℕ → ℕ) : Type 0 where
    pub arity : ℕ
    pub lengths : b ≡ arity * c
    pub size : 0 < c
    pub cut : (i : ℕ) → kept i ≡ true → width i ≡ pieces (min b (n - start i)) c
    pub uncut : (i : ℕ) → kept i ≡ false → width i ≡ 0
    pub count : M ≡ sum_below N width
    pub child : (i j : ℕ) → i < N → j < width i → lower (sum_below i width + j) ≡ start i + j * c

  module _ (b N : ℕ) (start : ℕ → ℕ) (kept : ℕ → Bool) (width : ℕ → ℕ) (c M : ℕ) (lower : ℕ → ℕ)
      (up : Level b N start) (cut : Cut b N start kept width c M lower) where
    pub child-inside : (i j : ℕ) → j < width i → j * c < min b (n - start i)
    child-inside i j h = go (bool_cases (kept i))
      where
        go : (kept i ≡ true) ⊎ (kept i ≡ false) → j * c < min b (n - start i)
        go (inl k) = pieces-start _ c j (rw (cut.cut i k) at h) cut.size
        go (inr k) = absurd (let z : ⊥ = omega (arith, cut.uncut i k) in z)

    pub child-ends : (i j : ℕ) → j < width i → j * c + c ≤ b
    child-ends i j h = rw cut.lengths (whole-left j cut.arity c (rw cut.lengths at (let z : j * c < b = omega (arith, child-inside i j h) in z)))

    pub child-below : (i j : ℕ) → i < N → j < width i → sum_below i width + j < M
    child-below i j l h = omega (arith, cut.count, sum_below-part N width i l)

    from : (x : ℕ) → x < M → Placed N width x
    from x h = placed N width x (omega (arith, cut.count))

    lower-is : (x : ℕ) (h : x < M) → lower x ≡ start (from x h).part + (from x h).place * c
    lower-is x h = ap lower (from x h).is ∙ cut.child (from x h).part (from x h).place (from x h).part_lt (from x h).place_lt

    rises : (x y : ℕ) → x < y → (p : Placed N width x) → (q : Placed N width y)
        → start p.part + p.place * c + c ≤ start q.part + q.place * c
    rises x y l p q = go (lt-or-ge p.part q.part) (lt-or-ge q.part p.part)
      where
        go : (p.part < q.part) ⊎ (q.part ≤ p.part) → (q.part < p.part) ⊎ (p.part ≤ q.part)
            → start p.part + p.place * c + c ≤ start q.part + q.place * c
        go (inl k) _ = omega (arith, child-ends p.part p.place p.place_lt, up.rising p.part q.part k q.part_lt)
        go (inr k) (inl k') = absurd (let z : ⊥ = omega (arith, sum_below-part p.part width q.part k', p.is, q.is, q.place_lt) in z)
        go (inr k) (inr k') =
            let e : p.part ≡ q.part = omega arith in
            let s : start p.part ≡ start q.part = ap start e in
            let w : sum_below p.part width ≡ sum_below q.part width = ap (λ (i : ℕ). sum_below i width) e in
            let lt : p.place < q.place = omega (arith, p.is, q.is) in
            omega (arith, suc-mul p.place c, mul-le-mul_right {m = suc p.place} {n = q.place} c lt)

    pub level-below : Level c M lower
    level-below = record {
      size = cut.size;
      rising = λ x y l h. rw (lower-is x (omega arith), lower-is y h) (rises x y l (from x (omega arith)) (from y h));
      within = λ x h. rw (lower-is x h)
          (omega (arith, child-inside (from x h).part (from x h).place (from x h).place_lt, up.within (from x h).part (from x h).part_lt));
      whole = λ x h. let k = up.whole (from x h).part (from x h).part_lt in (
        k.0 * cut.arity + (from x h).place,
        lower-is x h ∙ ap (λ (s : ℕ). s + (from x h).place * c) (k.1 ∙ ap (λ (z : ℕ). k.0 * z) cut.lengths ∙ sym (mul_assoc k.0 cut.arity c))
            ∙ sym (add-mul (k.0 * cut.arity) (from x h).place c),
      );
    }
