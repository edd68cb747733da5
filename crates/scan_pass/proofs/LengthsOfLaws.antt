-- The lengths that are noted while blocks and pairs are entered.
use mathlib.Core.List.{List}
use mathlib.Core.Path.{◌≡◌, refl, sym, subst}
use mathlib.Core.Logic.{◌⊎◌, inl, inr}
use Prim.Native.Nat.{ℕ, ◌+◌, ◌≤◌, ◌<◌}
use native.Mathlib.Omega.{arith}
use native.Mathlib.Decide.{ℕ_discrete}
use lib.ListN.{length}
use borrow.Author.Tests.{eq-eqb, ne_eqb, lt-ltb, le-ltb}
use Rattle.text.specs.ListLaws.{lt-or-ge}
use Rattle.scan_hash_table.specs.declared.Items.{Items}
use Rattle.scan_hash_table.specs.Entries.{Placed, length_at}
use Rattle.scan_pass.specs.declared.Lengths.{Lengths}
use Rattle.scan_pass.specs.Passes.{Present, Ordered, Among, Has, LengthsOf, Covers, EnteredItems, with_length}
use Rattle.scan_pass.proofs.ItemLengths.{length-low, length_high, length_most, short-is-last, cut-is-last}

-- What `with_length` comes to.
module _ (l : Lengths) (size n : ℕ) where
  pub lengths_none : n ≡ 0 → l ≡ with_length l size n
  lengths_none e = rw (eq-eqb n 0 e)

  module _ (some : n ≡ 0 → ⊥) where
    pub lengths_short : n < size → record { block = l.block; pair = l.pair; last = n; ending = l.ending } ≡ with_length l size n
    lengths_short a = rw (ne_eqb n 0 some, lt-ltb n size a)

    pub lengths-full : size ≤ n → n ≡ size → record { block = n; pair = l.pair; last = l.last; ending = l.ending } ≡ with_length l size n
    lengths-full a e = rw (ne_eqb n 0 some, le-ltb n size a, eq-eqb n size e)

    pub lengths-both : size ≤ n → (n ≡ size → ⊥) → n ≡ size + size
        → record { block = l.block; pair = n; last = l.last; ending = l.ending } ≡ with_length l size n
    lengths-both a d e = rw (ne_eqb n 0 some, le-ltb n size a, ne_eqb n size d, eq-eqb n (size + size) e)

    pub lengths-cut : size ≤ n → (n ≡ size → ⊥)
        → (n ≡ size + size → ⊥) → record { block = l.block; pair = l.pair; last = l.last; ending = n } ≡ with_length l size n
    lengths-cut a d e = rw (ne_eqb n 0 some, le-ltb n size a, ne_eqb n size d, ne_eqb n (size + size) e)

module _ (T out : List ℕ) (it : Items) (o : Ordered T out it) (h : Placed T out it) where
  abbrev no_lengths : Lengths
  no_lengths = record { block = 0; pair = 0; last = 0; ending = 0 }

  pub lengths-first : LengthsOf T out it 0 no_lengths
  lengths-first = record {
    covers = λ x l p. absurd (let z : ⊥ = omega arith in z);
    block_is = inl refl;
    pair_is = inl refl;
    last_is = inl refl;
    ending_is = inl refl;
  }

  has_more : (k n : ℕ) → Has T out it k n → Has T out it (k + 1) n
  has_more k n (x, l, p, e) = (x, omega arith, p, e)

  module _ (k : ℕ) (l : Lengths) (s : LengthsOf T out it k l) where
    block_more : (l.block ≡ 0)
        ⊎ ((l.block ≡ it.size) × Has T out it k l.block) → (l.block ≡ 0) ⊎ ((l.block ≡ it.size) × Has T out it (k + 1) l.block)
    block_more (inl e) = inl e
    block_more (inr (e, g)) = inr (e, has_more k l.block g)

    pair-more : (l.pair ≡ 0) ⊎ ((l.pair ≡ it.size + it.size) × Has T out it k l.pair)
        → (l.pair ≡ 0) ⊎ ((l.pair ≡ it.size + it.size) × Has T out it (k + 1) l.pair)
    pair-more (inl e) = inl e
    pair-more (inr (e, g)) = inr (e, has_more k l.pair g)

    last_more : (l.last ≡ 0) ⊎ ((l.last < it.size) × Has T out it k l.last) → (l.last ≡ 0) ⊎ ((l.last < it.size) × Has T out it (k + 1) l.last)
    last_more (inl e) = inl e
    last_more (inr (e, g)) = inr (e, has_more k l.last g)

    ending-more : (l.ending ≡ 0) ⊎ ((it.size < l.ending) × (l.ending < it.size + it.size) × Has T out it k l.ending)
        → (l.ending ≡ 0) ⊎ ((it.size < l.ending) × (l.ending < it.size + it.size) × Has T out it (k + 1) l.ending)
    ending-more (inl e) = inl e
    ending-more (inr (e, f, g)) = inr (e, f, has_more k l.ending g)

    -- Item k is not there.
    pub lengths-past : (Present T out it k → ⊥) → LengthsOf T out it (k + 1) l
    lengths-past un = record {
      covers = λ x xl p. go x p (lt-or-ge x k) (omega arith);
      block_is = block_more s.block_is;
      pair_is = pair-more s.pair_is;
      last_is = last_more s.last_is;
      ending_is = ending-more s.ending_is;
    }
      where
        go : (x : ℕ) → Present T out it x → (x < k) ⊎ (k ≤ x) → x ≤ k → Among it.size l (length_at T out it x)
        go x p (inl a) b = s.covers x a p
        go x p (inr a) b = let q : x ≡ k = omega arith in absurd (un (subst (Present T out it) q p))

    -- Item k is there and has n bytes.
    module _ (kl : k < it.items) (p : Present T out it k) (n : ℕ) (n-is : length_at T out it k ≡ n) where
      own : Has T out it (k + 1) n
      own = (k, omega arith, p, n-is)

      some : n ≡ 0 → ⊥
      some e = omega (arith, length-low T out it o h k kl)

      -- New lengths that have n in its place, and all that the items before it have.
      covering : (new : Lengths) → Among it.size new n → ((x : ℕ) → x < k → Present T out it x → Among it.size new (length_at T out it x))
          → (x : ℕ) → x < k + 1 → Present T out it x → Among it.size new (length_at T out it x)
      covering new mine before x xl q = go (lt-or-ge x k)
        where
          go : (x < k) ⊎ (k ≤ x) → Among it.size new (length_at T out it x)
          go (inl a) = before x a q
          go (inr a) = let e : k ≡ x = omega arith in
              subst (λ (y : ℕ). Among it.size new (length_at T out it y)) e (subst (Among it.size new) (sym n-is) mine)

      with-short : n < it.size → LengthsOf T out it (k + 1) (record { block = l.block; pair = l.pair; last = n; ending = l.ending })
      with-short a = record {
        covers = covering (record { block = l.block; pair = l.pair; last = n; ending = l.ending })
            (record {
              short = λ _. refl;
              full = λ e. absurd (let z : ⊥ = omega arith in z);
              both = λ e. absurd (let z : ⊥ = omega arith in z);
              cut = λ b c. absurd (let z : ⊥ = omega arith in z);
            })
            (λ x xl q. let m = s.covers x xl q in record {
              short = λ b. absurd (let z : ⊥ =
                  omega (arith, short-is-last T out it o h x (omega arith) q b, short-is-last T out it o h k kl p (omega arith)) in z);
              full = m.full;
              both = m.both;
              cut = m.cut;
            });
        block_is = block_more s.block_is;
        pair_is = pair-more s.pair_is;
        last_is = inr (a, own);
        ending_is = ending-more s.ending_is;
      }

      with-full : n ≡ it.size → LengthsOf T out it (k + 1) (record { block = n; pair = l.pair; last = l.last; ending = l.ending })
      with-full a = record {
        covers = covering (record { block = n; pair = l.pair; last = l.last; ending = l.ending })
            (record {
              short = λ e. absurd (let z : ⊥ = omega arith in z);
              full = λ _. refl;
              both = λ e. absurd (let z : ⊥ = omega (arith, o.size_low) in z);
              cut = λ b c. absurd (let z : ⊥ = omega arith in z);
            })
            (λ x xl q. let m = s.covers x xl q in record { short = m.short; full = λ b. omega arith; both = m.both; cut = m.cut });
        block_is = inr (a, own);
        pair_is = pair-more s.pair_is;
        last_is = last_more s.last_is;
        ending_is = ending-more s.ending_is;
      }

      with-both : n ≡ it.size + it.size → LengthsOf T out it (k + 1) (record { block = l.block; pair = n; last = l.last; ending = l.ending })
      with-both a = record {
        covers = covering (record { block = l.block; pair = n; last = l.last; ending = l.ending })
            (record {
              short = λ e. absurd (let z : ⊥ = omega arith in z);
              full = λ e. absurd (let z : ⊥ = omega (arith, o.size_low) in z);
              both = λ _. refl;
              cut = λ b c. absurd (let z : ⊥ = omega arith in z);
            })
            (λ x xl q. let m = s.covers x xl q in record { short = m.short; full = m.full; both = λ b. omega arith; cut = m.cut });
        block_is = block_more s.block_is;
        pair_is = inr (a, own);
        last_is = last_more s.last_is;
        ending_is = ending-more s.ending_is;
      }

      with-cut : it.size < n → n < it.size + it.size → LengthsOf T out it (k + 1) (record { block = l.block; pair = l.pair; last = l.last; ending = n })
      with-cut a b = record {
        covers = covering (record { block = l.block; pair = l.pair; last = l.last; ending = n })
            (record {
              short = λ e. absurd (let z : ⊥ = omega arith in z);
              full = λ e. absurd (let z : ⊥ = omega arith in z);
              both = λ e. absurd (let z : ⊥ = omega arith in z);
              cut = λ _ _. refl;
            })
            (λ x xl q. let m = s.covers x xl q in record {
              short = m.short;
              full = m.full;
              both = m.both;
              cut = λ c d. absurd (let z : ⊥ =
                  omega (arith, cut-is-last T out it o h x (omega arith) q c d, cut-is-last T out it o h k kl p (omega arith) (omega arith)) in z);
            });
        block_is = block_more s.block_is;
        pair_is = pair-more s.pair_is;
        last_is = last_more s.last_is;
        ending_is = inr (a, b, own);
      }

      pub lengths-more : LengthsOf T out it (k + 1) (with_length l it.size n)
      lengths-more = go (lt-or-ge n it.size) (ℕ_discrete n it.size) (ℕ_discrete n (it.size + it.size))
        where
          go : (n < it.size) ⊎ (it.size ≤ n) → Dec (n ≡ it.size) → Dec (n ≡ it.size + it.size) → LengthsOf T out it (k + 1) (with_length l it.size n)
          go (inl a) d e = subst (LengthsOf T out it (k + 1)) (lengths_short l it.size n some a) (with-short a)
          go (inr a) (yes d) e = subst (LengthsOf T out it (k + 1)) (lengths-full l it.size n some a d) (with-full d)
          go (inr a) (no d) (yes e) = subst (LengthsOf T out it (k + 1)) (lengths-both l it.size n some a d e) (with-both e)
          go (inr a) (no d) (no e) = subst (LengthsOf T out it (k + 1)) (lengths-cut l it.size n some a d e)
              (with-cut (let z : it.size < n = omega (arith, d) in z) (let z : n < it.size + it.size = omega (arith, e, length_most T out it o h k) in z))

  -- Every item in a chain has one of the lengths.
  module _ (W : List ℕ) (l : Lengths) (e : EnteredItems T out it W it.items) (s : LengthsOf T out it it.items l) where
    among : (n : ℕ) → n ≤ it.size + it.size → Among it.size l n → (n ≡ l.block) ⊎ ((n ≡ l.pair) ⊎ ((n ≡ l.last) ⊎ (n ≡ l.ending)))
    among n most m = go (lt-or-ge n it.size) (ℕ_discrete n it.size) (ℕ_discrete n (it.size + it.size))
      where
        go : (n < it.size) ⊎ (it.size ≤ n)
            → Dec (n ≡ it.size) → Dec (n ≡ it.size + it.size) → (n ≡ l.block) ⊎ ((n ≡ l.pair) ⊎ ((n ≡ l.last) ⊎ (n ≡ l.ending)))
        go (inl a) d f = inr (inr (inl (sym (m.short a))))
        go (inr a) (yes d) f = inl (sym (m.full d))
        go (inr a) (no d) (yes f) = inr (inl (sym (m.both f)))
        go (inr a) (no d) (no f) =
            inr (inr (inr (sym (m.cut (let z : it.size < n = omega (arith, d) in z) (let z : n < it.size + it.size = omega (arith, f) in z)))))

    held : (n : ℕ) → Has T out it it.items n → n ≤ length T
    held n (x, xl, p, q) = omega (arith, length_high T out it o h x xl)

    pub covers-all : Covers T out it W l
    covers-all = record {
      one = λ x xl i. among (length_at T out it x) (length_most T out it o h x) (s.covers x xl (e.there x xl i));
      block_in = go-block s.block_is;
      pair_in = go-pair s.pair_is;
      last_in = go-last s.last_is;
      ending_in = go-ending s.ending_is;
    }
      where
        go-block : (l.block ≡ 0) ⊎ ((l.block ≡ it.size) × Has T out it it.items l.block) → l.block ≤ length T
        go-block (inl z) = omega arith
        go-block (inr (a, g)) = held l.block g

        go-pair : (l.pair ≡ 0) ⊎ ((l.pair ≡ it.size + it.size) × Has T out it it.items l.pair) → l.pair ≤ length T
        go-pair (inl z) = omega arith
        go-pair (inr (a, g)) = held l.pair g

        go-last : (l.last ≡ 0) ⊎ ((l.last < it.size) × Has T out it it.items l.last) → l.last ≤ length T
        go-last (inl z) = omega arith
        go-last (inr (a, g)) = held l.last g

        go-ending : (l.ending ≡ 0) ⊎ ((it.size < l.ending) × (l.ending < it.size + it.size) × Has T out it it.items l.ending) → l.ending ≤ length T
        go-ending (inl z) = omega arith
        go-ending (inr (a, b, g)) = held l.ending g
