-- The laws of borders: how one more byte continues the longest match.
use mathlib.Core.List.{List}
use mathlib.Core.Bool.{true, false, ◌&&◌}
use mathlib.Core.Path.{◌≡◌, refl, sym, ap, ◌∙◌}
use mathlib.Core.Logic.{◌⊎◌, inl, inr, ◌≢◌}
use Prim.Native.Nat.{ℕ, zero, suc, ◌+◌, ◌-◌, ◌≤◌, ◌<◌}
use native.Mathlib.Omega.{arith}
use lib.ListN.{length, get_or, set}
use lib.Seq.{get_or-set_same, get_or-set_other}
use lib.Dec.{ltb, eqb}
use borrow.Author.Tests.{ltb-true, lt-ltb, eqb-true, eq-eqb}
use Rattle.text.specs.ListLaws.{and_left, and_right, and_both, bool_clash, below_suc, lt-or-ge}
use Rattle.search_kmp.specs.Borders.{Ends, Longest, Borders, Next, GoesOn}

module _ (P : List ℕ) where
  -- The pattern's own bytes.
  abbrev own : ℕ → ℕ
  own x = get_or P x 0

  -- A match and a shorter one: the shorter is a border of the longer.
  ends-border : (f : ℕ → ℕ) (from i k j : ℕ) → Ends P f from i k → Ends P f from i j → j < k → Ends P own 1 k j
  ends-border f from i k j a b less = record {
    short = b.short;
    room = omega arith;
    same = λ x h.
        let e : i - k + (k - j + x) ≡ i - j + x = omega (arith, a.room) in
        sym (a.same (k - j + x) (omega arith)) ∙ ap f e ∙ b.same x h;
  }

  -- A border of a match is a match.
  border-ends : (f : ℕ → ℕ) (from i k j : ℕ) → Ends P f from i k → Ends P own 1 k j → Ends P f from i j
  border-ends f from i k j a b = record {
    short = b.short;
    room = omega (arith, a.room, b.room);
    same = λ x h.
        let e : i - j + x ≡ i - k + (k - j + x) = omega (arith, a.room, b.room) in
        ap f e ∙ a.same (k - j + x) (omega (arith, b.room)) ∙ b.same x h;
  }

  -- A match that goes on with byte c.
  ends_more : (f : ℕ → ℕ) (from i k c : ℕ) → Ends P f from i k → f i ≡ c → k < length P → get_or P k 0 ≡ c → Ends P f from (i + 1) (k + 1)
  ends_more f from i k c a is low here = record {
    short = omega arith;
    room = omega (arith, a.room);
    same = λ x h. go x (below_suc x k (omega arith));
  }
    where
      go : (x : ℕ) → (x < k) ⊎ (x ≡ k) → f (i + 1 - (k + 1) + x) ≡ get_or P x 0
      go x (inl l) =
          let e : i + 1 - (k + 1) + x ≡ i - k + x = omega (arith, a.room) in
          ap f e ∙ a.same x l
      go x (inr e) =
          let z : i + 1 - (k + 1) + x ≡ i = omega (arith, a.room) in
          ap f z ∙ is ∙ sym here ∙ ap own (sym e)

  -- A match that was continued.
  ends-less : (f : ℕ → ℕ) (from i j c : ℕ) → Ends P f from (i + 1) (suc j) → f i ≡ c → Ends P f from i j × (j < length P) × (get_or P j 0 ≡ c)
  ends-less f from i j c a is = (
    record {
      short = omega (arith, a.short);
      room = omega (arith, a.room);
      same = λ x h.
          let e : i - j + x ≡ i + 1 - suc j + x = omega (arith, a.room) in
          ap f e ∙ a.same x (omega arith);
    },
    a.short,
    (let e : i + 1 - suc j + j ≡ i = omega (arith, a.room) in sym (a.same j (omega arith)) ∙ ap f e ∙ is),
  )

  -- Going back over the borders for byte c, from state s to k: k is a match too, and no match that goes on with c is longer.
  pub record Back (s c k : ℕ) : Type 0 where
    pub low : k ≤ s
    pub ends : (f : ℕ → ℕ) (from i : ℕ) → Longest P f from i s → Ends P f from i k
    pub most : (f : ℕ → ℕ) (from i : ℕ) → Longest P f from i s → (j : ℕ) → Ends P f from i j → j < length P → get_or P j 0 ≡ c → j ≤ k

  pub back_start : (s c : ℕ) → Back s c s
  back_start s c = record { low = omega arith; ends = λ f from i l. l.ends; most = λ f from i l j e h is. l.most j e }

  module _ (s c k : ℕ) (b : Back s c k) where
    -- The byte goes on with k.
    pub next_more : (ltb k (length P) && eqb (get_or P k 0) c) ≡ true → (k + 1 ≤ length P) × Next P s c (k + 1)
    next_more fits =
        let low : k < length P = ltb-true _ _ (and_left (ltb k (length P)) (eqb (get_or P k 0) c) fits) in
        let here : get_or P k 0 ≡ c = eqb-true _ _ (and_right (ltb k (length P)) (eqb (get_or P k 0) c) fits) in (
          omega arith,
          record {
            next = λ f from i l is. record {
              ends = ends_more f from i k c (b.ends f from i l) is low here;
              most = λ j e. go f from i l is j e;
            };
          },
        )
      where
        go : (f : ℕ → ℕ) (from i : ℕ) → Longest P f from i s → f i ≡ c → (j : ℕ) → Ends P f from (i + 1) j → j ≤ k + 1
        go f from i l is zero e = omega arith
        go f from i l is (suc j) e =
            let z = ends-less f from i j c e is in
            omega (arith, b.most f from i l j z.0 z.1 z.2)

    -- A match that goes on with c is shorter than k.
    shorter : (ltb k (length P) && eqb (get_or P k 0) c) ≡ false → (f : ℕ → ℕ) (from i : ℕ) → Longest P f from i s
        → (j : ℕ) → Ends P f from i j → j < length P → get_or P j 0 ≡ c → j < k
    shorter miss f from i l j e h is = go (lt-or-ge j k)
      where
        go : (j < k) ⊎ (k ≤ j) → j < k
        go (inl m) = m
        go (inr m) =
            let z : k ≡ j = omega (arith, b.most f from i l j e h is) in
            bool_clash _ (and_both (lt-ltb k (length P) (omega arith)) (eq-eqb (get_or P k 0) c (ap own z ∙ is))) miss

    -- Nothing goes on with it.
    next-none : k ≡ 0 → (ltb k (length P) && eqb (get_or P k 0) c) ≡ false → Next P s c 0
    next-none none miss = record {
      next = λ f from i l is. record {
        ends = record { short = omega arith; room = omega (arith, l.ends.room); same = λ x h. absurd (let y : ⊥ = omega arith in y) };
        most = λ j e. go f from i l is j e;
      };
    }
      where
        go : (f : ℕ → ℕ) (from i : ℕ) → Longest P f from i s → f i ≡ c → (j : ℕ) → Ends P f from (i + 1) j → j ≤ 0
        go f from i l is zero e = omega arith
        go f from i l is (suc j) e =
            let z = ends-less f from i j c e is in
            omega (arith, shorter miss f from i l j z.0 z.1 z.2)

    -- back to the border of k
    pub back-border : (table : List ℕ) → Borders P table s → 0 < k → (ltb k (length P) && eqb (get_or P k 0) c) ≡ false
        → (r : ℕ) → r ≡ get_or table (k - 1) 0 → Back s c r × (r < k)
    back-border table t pos miss r r-is =
        let z : k - 1 + 1 ≡ k = omega arith in
        let g : Longest P own 1 k r = rw r-is (rw z at (t.border (k - 1) (omega (arith, b.low)))) in
        let less : r < k = omega (arith, g.ends.room) in (
          record {
            low = omega (arith, b.low);
            ends = λ f from i l. border-ends f from i k r (b.ends f from i l) g.ends;
            most = λ f from i l j e h is. g.most j (ends-border f from i k j (b.ends f from i l) e (shorter miss f from i l j e h is));
          },
          less,
        )

  -- back at the pattern's start
  module _ (s c k : ℕ) (b : Back s c k) (none : k ≤ 0) where
    start : Back s c 0
    start = let z : k ≡ 0 = omega arith in rw z at b

    pub first_more : (ltb 0 (length P) && eqb (get_or P 0 0) c) ≡ true → (1 ≤ length P) × Next P s c 1
    first_more fits = next_more s c 0 start fits

    pub first-none : (ltb 0 (length P) && eqb (get_or P 0 0) c) ≡ false → Next P s c 0
    first-none miss = next-none s c 0 start refl miss

-- The table of borders, filled in from its start.

pub borders-fewer : (P table : List ℕ) (n k : ℕ) → Borders P table n → k ≤ n → Borders P table k
borders-fewer P table n k b h = record { border = λ x l. b.border x (omega arith) }

-- One byte has no border.
first-border : (P : List ℕ) → Longest P (λ x. get_or P x 0) 1 1 0
first-border P = record {
  ends = record { short = omega arith; room = omega arith; same = λ x h. absurd (let y : ⊥ = omega arith in y) };
  most = λ j e. omega (arith, e.room);
}

-- n entries are filled in, and k is the last one
pub record Filling (P table : List ℕ) (n k : ℕ) : Type 0 where
  pub borders : Borders P table n
  pub last : Longest P (λ x. get_or P x 0) 1 n k

pub filling-start : (P table : List ℕ) → 0 < length table → Filling P (set table 0 0) 1 0
filling-start P table h = record { borders = record { border = λ k l. go k l }; last = first-border P }
  where
    go : (k : ℕ) → k < 1 → Longest P (λ x. get_or P x 0) 1 (k + 1) (get_or (set table 0 0) k 0)
    go zero l = rw (get_or-set_same table 0 0 0 h) (first-border P)
    go (suc k) l = absurd (let y : ⊥ = omega arith in y)

module _ (P table : List ℕ) (n k : ℕ) (a : Filling P table n k) where
  pub filling-small : k < n
  filling-small = omega (arith, a.last.ends.room)

  module _ (c r : ℕ) (c_is : c ≡ get_or P n 0) (next : Next P k c r) where
    new : Longest P (λ x. get_or P x 0) 1 (n + 1) r
    new = next.next (λ x. get_or P x 0) 1 n a.last (sym c_is)

    pub filling-next : r ≤ n
    filling-next = omega (arith, new.ends.room)

pub filling-more : (P table : List ℕ) (n k : ℕ)
    → Filling P table n k → n < length table → (c r : ℕ) → c ≡ get_or P n 0 → Next P k c r → Filling P (set table n r) (n + 1) r
filling-more P table n k a in_table c r c_is next =
    record { borders = record { border = λ x l. go x (below_suc x n (omega arith)) }; last = new P table n k a c r c_is next }
  where
    go : (x : ℕ) → (x < n) ⊎ (x ≡ n) → Longest P (λ y. get_or P y 0) 1 (x + 1) (get_or (set table n r) x 0)
    go x (inl l) = let other : x ≢ n = λ e. omega arith in rw (get_or-set_other table n x r 0 other) (a.borders.border x l)
    go x (inr e) = rw (e, get_or-set_same table n r 0 in_table) (new P table n k a c r c_is next)

-- Bytes that go on with a state.
pub goes_none : (P t : List ℕ) (from s : ℕ) → GoesOn P t from s 0
goes_none P t from s = record { same = λ x h. absurd (let y : ⊥ = omega arith in y); short = λ x h. absurd (let y : ⊥ = omega arith in y) }

pub goes-more : (P t : List ℕ) (from s k : ℕ) → GoesOn P t from s k → s + k + 1 < length P → get_or t (from + k) 0 ≡ get_or P (s + k) 0
    → GoesOn P t from s (k + 1)
goes-more P t from s k g room here = record {
  same = λ x h. same x (below_suc x k (omega arith));
  short = λ x h. omega arith;
}
  where
    same : (x : ℕ) → (x < k) ⊎ (x ≡ k) → get_or t (from + x) 0 ≡ get_or P (s + x) 0
    same x (inl l) = g.same x l
    same x (inr e) = rw e here
