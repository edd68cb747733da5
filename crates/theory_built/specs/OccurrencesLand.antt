-- Where a first occurrence is on one level: inside kept blocks, if the blocks of the level cover it.
use Rattle.std.specs.Prelude.{ℕ, zero, suc, ◌+◌, ◌-◌, ◌≤◌, ◌<◌, min, ◌≡◌, refl, ◌⊎◌}
use Rattle.std.proofs.Common.{sym, ap, ◌∙◌, subst, inl, inr, arith}
use Rattle.std.proofs.Math.Decide.{dec_lt, ℕ_discrete}

-- A text: the byte at each place, and how many there are.
module _ (at : ℕ → ℕ) (n : ℕ) where
  abbrev pub Same : ℕ → ℕ → ℕ → Type 0
  Same p s len = (k : ℕ) → k < len → at (p + k) ≡ at (s + k)

  -- The len bytes at p occur at no earlier place.
  pub record First (p len : ℕ) : Type 0 where
    pub within : p + len ≤ n
    pub absent : (q : ℕ) → q < p → Same q p len → ⊥

  -- Bytes that contain a first occurrence occur there first too.
  pub around : (s L p len : ℕ) → First p len → s ≤ p → p + len ≤ s + L → s + L ≤ n → First s L
  around s L p len f lo hi fits = record {
    within = fits;
    absent = λ q lt same. f.absent (q + (p - s)) (omega arith) (λ k h. ap at (later q k) ∙ same (p - s + k) (omega arith) ∙ ap at (there k));
  }
    where
      later : (q k : ℕ) → q + (p - s) + k ≡ q + (p - s + k)
      later q k = omega arith

      there : (k : ℕ) → s + (p - s + k) ≡ p + k
      there k = omega arith

  -- One level.
  module _ (b N : ℕ) (start : ℕ → ℕ) where
    abbrev pub Pair : ℕ → Type 0
    Pair i = (suc i < N) × (start (suc i) ≡ start i + b)

    abbrev pub FirstPair : ℕ → Type 0
    FirstPair i = Pair i × First (start i) (min (b + b) (n - start i))

    -- Block i holds p, and with the next one, where that is needed, the len bytes from there.
    pub record Holds (i p len : ℕ) : Type 0 where
      pub below : i < N
      pub from : start i ≤ p
      pub before : p < start i + b
      pub ends : (p + len ≤ start i + b) ⊎ Pair i

    pub record Marks (kept : ℕ → Type 0) : Type 0 where
      pub left : (i : ℕ) → FirstPair i → kept i
      pub right : (i : ℕ) → FirstPair i → kept (suc i)
      pub alone : (i : ℕ) → i < N → ((h : ℕ) → i ≡ suc h → Pair h → ⊥) → (Pair i → ⊥) → kept i

    dec_pair : (i : ℕ) → Pair i ⊎ (Pair i → ⊥)
    dec_pair i = go (dec_lt (suc i) N) (ℕ_discrete (start (suc i)) (start i + b))
      where
        go : Dec (suc i < N) → Dec (start (suc i) ≡ start i + b) → Pair i ⊎ (Pair i → ⊥)
        go (yes h) (yes e) = inl (h, e)
        go (yes h) (no e) = inr (λ q. e q.1)
        go (no h) (yes e) = inr (λ q. h q.0)
        go (no h) (no e) = inr (λ q. h q.0)

    module _ (p len : ℕ) (small : len ≤ b) (f : First p len) where
      first_pair : (i : ℕ) → Pair i → start i ≤ p → p < start i + b + b → p + len ≤ start i + b + b → FirstPair i
      first_pair i pr lo hi end =
          (pr, around (start i) (min (b + b) (n - start i)) p len f lo (omega (arith, f.within)) (omega (arith, f.within)))

      -- A block that contains the start of a first occurrence is kept, and so is the next block if the occurrence continues there.
      module _ (kept : ℕ → Type 0) (marks : Marks kept) where
        pub holds_kept : (i : ℕ) → Holds i p len → kept i
        holds_kept i h = go (dec_pair i)
          where
            end : p + len ≤ start i + b + b
            end = omega (arith, h.before)

            alone-or-right : (Pair i → ⊥) → (j : ℕ) → j ≡ i → kept i
            alone-or-right un zero e = marks.alone i h.below (λ k e'. absurd (let z : ⊥ = omega arith in z)) un
            alone-or-right un (suc j) e = two (dec_pair j)
              where
                two : Pair j ⊎ (Pair j → ⊥) → kept i
                two (inl pr) =
                    let s : start i ≡ start j + b = ap start (sym e) ∙ pr.1 in
                    let r : kept (suc j) = marks.right j (first_pair j pr (omega (arith, h.from)) (omega (arith, h.before)) (spill h.ends s)) in
                    subst kept e r
                  where
                    spill : (p + len ≤ start i + b) ⊎ Pair i → start i ≡ start j + b → p + len ≤ start j + b + b
                    spill (inl l) s = omega arith
                    spill (inr pr') s = absurd (un pr')
                two (inr un') = marks.alone i h.below (λ k e' pk. un' (subst (λ (x : ℕ). Pair x) (let z : k ≡ j = omega arith in z) pk)) un

            go : Pair i ⊎ (Pair i → ⊥) → kept i
            go (inl pr) = marks.left i (first_pair i pr h.from (omega (arith, h.before)) end)
            go (inr un) = alone-or-right un i refl

        pub holds-next : (i : ℕ) → Holds i p len → Pair i → kept (suc i)
        holds-next i h pr = marks.right i (first_pair i pr h.from (omega (arith, h.before)) (omega (arith, h.before)))
