-- What kept blocks hold, the blocks below them hold; and a pointing block's occurrence ends before it.
use Rattle.std.specs.Prelude.{Bool, true, false, cond, ◌≡◌, ◌⊎◌, leb}
use Rattle.std.proofs.Common.{sym, ◌∙◌, inl, inr, le-leb}
use Rattle.std.proofs.Math.Path.{ap}
use Prim.Native.Nat.{ℕ, zero, suc, ◌+◌, ◌-◌, ◌*◌, ◌/◌, ◌≤◌, ◌<◌, min}
use native.Mathlib.Omega.{arith}
use Rattle.std.proofs.Math.Nat.{suc-mul, div-add-mod', mod-lt}
use Rattle.std.proofs.lemmas.Bool.{lt-leb}
use Rattle.text.specs.Text.{sum_below, count_below}
use Rattle.text.specs.ListLaws.{lt-or-ge, bool_clash}
use Rattle.format.specs.PieceLaws.{lt-pieces, pieces-cover}
use Rattle.theory_built.specs.LevelBlocks.{Level, Cut, child-below, child-ends, start-le, le-of-start}
use Rattle.theory_built.specs.OccurrencesLand.{Holds, Pair}

module _ (at : ℕ → ℕ) (n b N : ℕ) (start : ℕ → ℕ) (kept : ℕ → Bool) (width : ℕ → ℕ) (c M : ℕ) (lower : ℕ → ℕ)
    (up : Level n b N start) (cut : Cut n b N start kept width c M lower) (p len i : ℕ) (some_bytes : 0 < len) (fits : p + len ≤ n)
    (h : Holds at n b N start i p len) (k : kept i ≡ true) (k' : Pair at n b N start i → kept (suc i) ≡ true) where
  -- The child that holds p.
  j : ℕ
  j = (p - start i) / c

  x : ℕ
  x = sum_below i width + j

  inside : (j * c ≤ p - start i) × (p - start i < j * c + c)
  unfolding j
  inside = (omega (arith, div-add-mod' (p - start i) c), omega (arith, div-add-mod' (p - start i) c, mod-lt (p - start i) {m = c} cut.size))

  j-lt : j < width i
  j-lt = rw (cut.cut i k) (lt-pieces (min b (n - start i)) c j cut.size (omega (arith, h.from, h.before, inside)))

  x_lt : x < M
  unfolding x
  x_lt = child-below n b N start kept width c M lower up cut i j h.below j-lt

  x-start : lower x ≡ start i + j * c
  unfolding x
  x-start = cut.child i j h.below j-lt

  -- The next child of the same block.
  next_here : suc j < width i → Pair at n c M lower x
  unfolding x
  next_here l =
      let e : suc (sum_below i width + j) ≡ sum_below i width + suc j = omega arith in (
        rw e (child-below n b N start kept width c M lower up cut i (suc j) h.below l),
        ap lower e ∙ cut.child i (suc j) h.below l ∙ omega (arith, suc-mul j c, x-start),
      )

  -- The first child of the next block.
  next-there : width i ≤ suc j → lower x + c < p + len → Pair at n c M lower x
  unfolding x sum_below
  next-there w over = go h.ends
    where
      wide : width i ≡ suc j
      wide = omega (arith, j-lt)

      cover : min b (n - start i) ≤ j * c + c
      cover = omega (arith, rw (sym (cut.cut i k), wide, suc-mul) at (pieces-cover (min b (n - start i)) c cut.size))

      full : b ≡ j * c + c
      full = omega (arith, x-start, cover, child-ends n b N start kept width c M lower up cut i j j-lt)

      go : (p + len ≤ start i + b) ⊎ Pair at n b N start i → Pair at n c M lower x
      go (inl l) = absurd (let z : ⊥ = omega (arith, x-start, full) in z)
      go (inr pr) =
          let s : start (suc i) < n = omega (arith, pr.1, x-start, full) in
          let w' : 0 < width (suc i) = rw (cut.cut (suc i) (k' pr)) (lt-pieces (min b (n - start (suc i))) c 0 cut.size (omega (arith, up.size))) in
          let e : suc (sum_below i width + j) ≡ sum_below (suc i) width + 0 = omega (arith, wide) in (
            rw e (child-below n b N start kept width c M lower up cut (suc i) 0 pr.0 w'),
            ap lower e ∙ cut.child (suc i) 0 pr.0 w' ∙ omega (arith, pr.1, x-start, full),
          )

  pub holds-below : (y : ℕ) × Holds at n c M lower y p len
  holds-below = (
    x,
    record {
      below = x_lt;
      from = omega (arith, x-start, inside, h.from);
      before = omega (arith, x-start, inside, h.from);
      ends = go (lt-or-ge (lower x + c) (p + len)) (lt-or-ge (suc j) (width i));
    },
  )
    where
      go : (lower x + c < p + len) ⊎ (p + len ≤ lower x + c) → (suc j < width i) ⊎ (width i ≤ suc j) → (p + len ≤ lower x + c) ⊎ Pair at n c M lower x
      go (inr l) _ = inl l
      go (inl l) (inl w) = inr (next_here w)
      go (inl l) (inr w) = inr (next-there w l)

-- How many numbers below N have a test that holds up to m and not from there on.
pub count_below-upto : (N m : ℕ) (test : ℕ → Bool) → ((i : ℕ) → i < N → i < m → test i ≡ true) → ((i : ℕ) → i < N → m ≤ i → test i ≡ false)
    → count_below N test ≡ min m N
unfolding count_below
count_below-upto zero m test low high = omega arith
count_below-upto (suc N) m test low high = go (lt-or-ge N m) (count_below-upto N m test (λ i l. low i (omega arith)) (λ i l. high i (omega arith)))
  where
    go : (N < m) ⊎ (m ≤ N) → count_below N test ≡ min m N → cond (test N) (count_below N test + 1) (count_below N test) ≡ min m (suc N)
    go (inl l) e = rw (low N (omega arith) l, e) (omega arith)
    go (inr l) e = rw (high N (omega arith) l, e) (omega arith)

module _ (at : ℕ → ℕ) (n b N : ℕ) (start : ℕ → ℕ) (lv : Level n b N start) (p len j : ℕ) (h : Holds at n b N start j p len) where
  -- The number of the block that holds p.
  pub holder : count_below N (λ i. leb (start i) p) - 1 ≡ j
  holder = omega (
    arith,
    h.below,
    count_below-upto N (suc j) (λ i. leb (start i) p)
        (λ i l m. le-leb (start i) p (omega (arith, h.from, start-le n b N start lv i j (omega arith) h.below)))
        (λ i l m. lt-leb (start i) p (omega (arith, h.before, lv.rising j i (omega arith) l))),
  )

  -- An occurrence that lies in kept blocks, at or before a block that is not kept, ends at or before that block's start.
  pub ends-before : (kept : ℕ → Bool) (i : ℕ) → i < N → kept i ≡ false → p ≤ start i → len ≤ b → kept j ≡ true
      → (Pair at n b N start j → kept (suc j) ≡ true) → p + len ≤ start i
  ends-before kept i l points lo small k k' = go h.ends
    where
      apart : (m : ℕ) → kept m ≡ true → m ≤ i → m < i
      apart m is-kept le = other (lt-or-ge m i)
        where
          other : (m < i) ⊎ (i ≤ m) → m < i
          other (inl z) = z
          other (inr z) = bool_clash (kept m) is-kept (ap kept (let e : m ≡ i = omega arith in e) ∙ points)

      before : j < i
      before = apart j k (le-of-start n b N start lv j i h.below (omega (arith, h.from)))

      go : (p + len ≤ start j + b) ⊎ Pair at n b N start j → p + len ≤ start i
      go (inl z) = omega (arith, lv.rising j i before l)
      go (inr pr) = omega (arith, h.before, pr.1, lv.rising (suc j) i (apart (suc j) (k' pr) before) l)
