-- One item more in the table.
use mathlib.Core.List.{List}
use mathlib.Core.Path.{◌≡◌, sym, ap, ◌∙◌, subst}
use mathlib.Core.Logic.{◌⊎◌, inl, inr}
use Prim.Native.Nat.{ℕ, suc, ◌+◌, ◌-◌, ◌*◌, ◌/◌, ◌%◌, ◌≤◌, ◌<◌}
use native.Mathlib.Omega.{arith}
use native.Mathlib.Nat.{mod-lt}
use native.Mathlib.Decide.{ℕ_discrete}
use lib.ListN.{length, get_or, set, length-set}
use lib.Seq.{get_or-set_same, get_or-set_other}
use Rattle.text.specs.ListLaws.{lt-or-ge}
use Rattle.text.specs.Text.{substring}
use Rattle.scan_rolling_hash.specs.Fingerprints.{fingerprint}
use Rattle.scan_hash_table.specs.declared.Items.{Items}
use Rattle.scan_hash_table.specs.ChainHeads.{link_of, mark_of, bucket_of}
use Rattle.scan_hash_table.specs.Entries.{Listed, Link, Chained, start_at, length_at, bytes_at, chain_at, next_in, fingerprint_in, item_place_in, head_in}
use Rattle.scan_hash_table.specs.ItemsEntered.{Cleared, Put, Turn, Leads, EqualItem, Entered, Skipped}
use Rattle.scan_hash_table.proofs.Chains.{chain-lt}

module _ (T out : List ℕ) (it : Items) where
  abbrev Is : List ℕ → ℕ → Type 0
  Is W x = Listed T out it W x

  -- No item is entered yet.
  pub chained-none : (W Z : List ℕ) → Cleared W Z (3 * it.items) it.heads → Chained T out it Z 0
  unfolding head_in link_of
  chained-none W Z c = record {
    within = omega arith;
    next = λ x l i. absurd (let z : ⊥ = omega arith in z);
    fingerprints = λ x l i. absurd (let z : ⊥ = omega arith in z);
    heads = λ g l.
        let e : get_or Z (3 * it.items + g) 0 / 256 ≡ 0 = ap (λ (w : ℕ). w / 256) (c.empty g l) in
        record {
          low = omega arith;
          listed = λ y q. absurd (let z : ⊥ = omega arith in z);
          chain = λ y q. absurd (let z : ⊥ = omega arith in z);
          all = λ y m i d. absurd (let z : ⊥ = omega arith in z);
        };
    marks = λ x l i. absurd (let z : ⊥ = omega arith in z);
  }

  -- The words of items below x are as they were.
  module _ (W Z : List ℕ) (x : ℕ) (places : (y : ℕ) → y < x → item_place_in Z y ≡ item_place_in W y) where
    was-listed : (y : ℕ) → y < x → Is Z y → Is W y
    was-listed y l i = omega (arith, places y l, i)

    link-same : (g k e : ℕ) → k ≤ x → Link T out it W g k e → Link T out it Z g k e
    link-same g k e kl n = record {
      low = n.low;
      listed = λ y q. omega (arith, places y (omega (arith, n.low)), n.listed y q);
      chain = n.chain;
      all = λ y l i c. n.all y l (was-listed y (omega arith) i) c;
    }

    -- With no item more in its chain.
    link-more : (g e : ℕ) → (Is Z x → chain_at T out it x ≡ g → ⊥) → Link T out it W g x e → Link T out it Z g (x + 1) e
    link-more g e un n =
        let m = link-same g x e (omega arith) n in
        record {
          low = omega (arith, m.low);
          listed = m.listed;
          chain = m.chain;
          all = λ y l i c. go y i c (lt-or-ge y x) (omega arith);
        }
      where
        go : (y : ℕ) → Is Z y → chain_at T out it y ≡ g → (y < x) ⊎ (x ≤ y) → y ≤ x → y < e
        go y i c (inl l) le = (link-same g x e (omega arith) n).all y l i c
        go y i c (inr l) le =
            let q : y ≡ x = omega arith in
            absurd (un (subst (λ (k : ℕ). Is Z k) q i) (subst (λ (k : ℕ). chain_at T out it k ≡ g) q c))

    -- Item x is in no chain.
    module _ (t : Turn T out it W x) (nexts : (y : ℕ) → y < x → next_in Z y ≡ next_in W y)
        (fingerprints : (y : ℕ) → y < x → fingerprint_in Z y ≡ fingerprint_in W y)
        (heads : (g : ℕ) → head_in it.items Z g ≡ head_in it.items W g) (out_of_lem : length T ≤ item_place_in Z x) where
      h : Chained T out it W x
      h = t.chained

      below : (y : ℕ) → y < x + 1 → Is Z y → y < x
      below y l i = go (lt-or-ge y x)
        where
          go : (y < x) ⊎ (x ≤ y) → y < x
          go (inl m) = m
          go (inr m) =
              let q : y ≡ x = omega arith in
              let z : item_place_in Z y ≡ item_place_in Z x = ap (item_place_in Z) q in
              absurd (let n : ⊥ = omega (arith, i, out_of_lem) in n)

      pub chained-out : Chained T out it Z (x + 1)
      chained-out = record {
        within = omega (arith, t.item_in);
        next = λ y l i. let m = below y l i in
            subst (λ (e : ℕ). Link T out it Z (chain_at T out it y) y e) (sym (nexts y m))
            (link-same (chain_at T out it y) y (next_in W y) (omega arith) (h.next y m (was-listed y m i)));
        fingerprints = λ y l i. let m = below y l i in fingerprints y m ∙ h.fingerprints y m (was-listed y m i);
        heads = λ g l. subst (λ (w : ℕ). Link T out it Z g (x + 1) (link_of w)) (sym (heads g))
            (link-more g (link_of (head_in it.items W g)) (λ i c. let n : ⊥ = omega (arith, i, out_of_lem) in n) (h.heads g l));
        marks = λ y l i. let m = below y l i in rw (heads (chain_at T out it y)) (h.marks y m (was-listed y m i));
      }

  -- Item x is left out, or equal to an earlier one: one word is written.
  module _ (W : List ℕ) (x v : ℕ) (t : Turn T out it W x) (high : length T ≤ v) where
    abbrev Y : List ℕ
    Y = set W (3 * x + 2) v

    place_here : item_place_in Y x ≡ v
    unfolding item_place_in
    place_here = get_or-set_same W (3 * x + 2) v 0 (omega (arith, t.laid.room, t.item_in))

    place-before : (y : ℕ) → y < x → item_place_in Y y ≡ item_place_in W y
    unfolding item_place_in
    place-before y l = get_or-set_other W (3 * x + 2) (3 * y + 2) v 0 (λ q. omega arith)

    out-chained : Chained T out it Y (x + 1)
    unfolding next_in fingerprint_in head_in
    out-chained = chained-out W Y x place-before t (λ y l. get_or-set_other W (3 * x + 2) (3 * y) v 0 (λ q. omega arith))
        (λ y l. get_or-set_other W (3 * x + 2) (3 * y + 1) v 0 (λ q. omega arith))
        (λ g. get_or-set_other W (3 * x + 2) (3 * it.items + g) v 0 (λ q. omega (arith, t.item_in))) (omega (arith, place_here))

    pub is-skipped : Skipped T out it W Y x
    is-skipped = record { same_length = length-set W (3 * x + 2) v; chained = out-chained; before = place-before; left_out = omega (arith, place_here) }

    pub is-equal : (e : ℕ) → (e ≡ 0 → ⊥) → EqualItem T out it W x (start_at T out it x) (length_at T out it x) e → v ≡ length T + (e - 1) → Entered T out it W Y x
    unfolding bytes_at
    is-equal e n w ve = record {
      same_length = length-set W (3 * x + 2) v;
      chained = out-chained;
      before = place-before;
      own = λ i. absurd (let z : ⊥ = omega (arith, i, place_here) in z);
      equal_item = λ y q.
          let s : e ≡ suc y = omega (arith, place_here) in
          let l : y < x = omega (arith, w.low) in
          (l, omega (arith, place-before y l, w.listed y s), w.same_length y s, w.same y s);
    }

  -- Item x in front of its chain.
  module _ (W Z : List ℕ) (x h s g : ℕ) (t : Turn T out it W x) (p : Put it.items W Z x h s g) (h-is : h ≡ fingerprint it.seed (bytes_at T out it x))
      (s-is : s ≡ start_at T out it x) (g-is : g ≡ chain_at T out it x) where
    old : Chained T out it W x
    old = t.chained

    g-in : g < it.heads
    g-in = omega (arith, g-is, chain-lt T out it t.laid.heads_low x)

    x-listed : Is Z x
    x-listed = omega (arith, p.place, s-is, t.laid.placed.within x t.item_in)

    new-next : (y : ℕ) → y < x + 1 → Is Z y → Link T out it Z (chain_at T out it y) y (next_in Z y)
    new-next y l i = go (lt-or-ge y x)
      where
        go : (y < x) ⊎ (x ≤ y) → Link T out it Z (chain_at T out it y) y (next_in Z y)
        go (inl m) = subst (λ (e : ℕ). Link T out it Z (chain_at T out it y) y e) (sym (p.nexts y m))
            (link-same W Z x p.places (chain_at T out it y) y (next_in W y) (omega arith) (old.next y m (was-listed W Z x p.places y m i)))
        go (inr m) =
            let q : x ≡ y = omega arith in
            subst (λ (k : ℕ). Link T out it Z (chain_at T out it k) k (next_in Z k)) q
            (subst (λ (e : ℕ). Link T out it Z (chain_at T out it x) x e) (sym p.next)
            (subst (λ (f : ℕ). Link T out it Z f x (link_of (head_in it.items W g)))
            g-is (link-same W Z x p.places g x (link_of (head_in it.items W g)) (omega arith) (old.heads g g-in))))

    new-fingerprints : (y : ℕ) → y < x + 1 → Is Z y → fingerprint_in Z y ≡ fingerprint it.seed (bytes_at T out it y)
    new-fingerprints y l i = go (lt-or-ge y x)
      where
        go : (y < x) ⊎ (x ≤ y) → fingerprint_in Z y ≡ fingerprint it.seed (bytes_at T out it y)
        go (inl m) = p.fingerprints y m ∙ old.fingerprints y m (was-listed W Z x p.places y m i)
        go (inr m) =
            let q : x ≡ y = omega arith in
            subst (λ (k : ℕ). fingerprint_in Z k ≡ fingerprint it.seed (bytes_at T out it k)) q (p.fingerprint ∙ h-is)

    new-heads : (f : ℕ) → f < it.heads → Link T out it Z f (x + 1) (link_of (head_in it.items Z f))
    new-heads f l = go (ℕ_discrete f g)
      where
        front : Link T out it Z g (x + 1) (x + 1)
        front = record {
          low = omega arith;
          listed = λ y q. let r : x ≡ y = omega arith in subst (λ (k : ℕ). Is Z k) r x-listed;
          chain = λ y q. let r : x ≡ y = omega arith in subst (λ (k : ℕ). chain_at T out it k ≡ g) r (sym g-is);
          all = λ y m i c. m;
        }

        go : Dec (f ≡ g) → Link T out it Z f (x + 1) (link_of (head_in it.items Z f))
        go (yes e) = subst (λ (k : ℕ). Link T out it Z k (x + 1) (link_of (head_in it.items Z k)))
            (sym e) (subst (λ (k : ℕ). Link T out it Z g (x + 1) k) (sym p.head.link) front)
        go (no d) = subst (λ (w : ℕ). Link T out it Z f (x + 1) (link_of w)) (sym (p.heads f d))
            (link-more W Z x p.places f (link_of (head_in it.items W f)) (λ i c. d (sym c ∙ sym g-is)) (old.heads f l))

    new-marks : (y : ℕ) → y < x + 1 → Is Z y → mark_of (head_in it.items Z (chain_at T out it y)) (fingerprint it.seed (bytes_at T out it y) % 8) ≡ 1
    new-marks y l i = go (lt-or-ge y x)
      where
        old-mark : (m : y < x) → Dec (chain_at T out it y ≡ g)
            → mark_of (head_in it.items Z (chain_at T out it y)) (fingerprint it.seed (bytes_at T out it y) % 8) ≡ 1
        old-mark m (yes e) = subst (λ (f : ℕ). mark_of (head_in it.items Z f) (fingerprint it.seed (bytes_at T out it y) % 8) ≡ 1) (sym e)
            (p.head.others (fingerprint it.seed (bytes_at T out it y) % 8) (mod-lt (fingerprint it.seed (bytes_at T out it y)) (omega arith))
            (subst (λ (f : ℕ). mark_of (head_in it.items W f) (fingerprint it.seed (bytes_at T out it y) % 8) ≡ 1) e
            (old.marks y m (was-listed W Z x p.places y m i))))
        old-mark m (no d) = rw (p.heads (chain_at T out it y) d) (old.marks y m (was-listed W Z x p.places y m i))

        own-mark : mark_of (head_in it.items Z (chain_at T out it x)) (fingerprint it.seed (bytes_at T out it x) % 8) ≡ 1
        own-mark = subst (λ (f : ℕ). mark_of (head_in it.items Z f) (fingerprint it.seed (bytes_at T out it x) % 8) ≡ 1) g-is
            (subst (λ (k : ℕ). mark_of (head_in it.items Z g) (k % 8) ≡ 1) h-is p.head.mark)

        go : (y < x) ⊎ (x ≤ y) → mark_of (head_in it.items Z (chain_at T out it y)) (fingerprint it.seed (bytes_at T out it y) % 8) ≡ 1
        go (inl m) = old-mark m (ℕ_discrete (chain_at T out it y) g)
        go (inr m) =
            let q : x ≡ y = omega arith in
            subst (λ (k : ℕ). mark_of (head_in it.items Z (chain_at T out it k)) (fingerprint it.seed (bytes_at T out it k) % 8) ≡ 1) q own-mark

    pub is-entered : Entered T out it W Z x
    is-entered = record {
      same_length = p.same_length;
      chained = record { within = omega (arith, t.item_in); next = new-next; fingerprints = new-fingerprints; heads = new-heads; marks = new-marks };
      before = p.places;
      own = λ i. p.place ∙ s-is;
      equal_item = λ y q. absurd (let z : ⊥ = omega (arith, x-listed) in z);
    }

  -- The search for an equal item.
  module _ (W : List ℕ) (x : ℕ) (t : Turn T out it W x) where
    pub head-leads : (g : ℕ) → g < it.heads → Leads T out it W x (link_of (head_in it.items W g))
    head-leads g l = let n = t.chained.heads g l in record { low = n.low; listed = n.listed }

    module _ (e : ℕ) (n : e ≡ 0 → ⊥) (w : Leads T out it W x e) where
      e-is : e ≡ suc (e - 1)
      e-is = omega arith

      pub item-below : e - 1 < x
      item-below = omega (arith, w.low)

      pub item-here : e - 1 < it.items
      item-here = omega (arith, item-below, t.item_in)

      onward : Link T out it W (chain_at T out it (e - 1)) (e - 1) (next_in W (e - 1))
      onward = t.chained.next (e - 1) item-below (w.listed (e - 1) e-is)

      pub next-leads : Leads T out it W x (next_in W (e - 1))
      next-leads = record { low = omega (arith, onward.low, item-below); listed = onward.listed }

      pub next-falls : next_in W (e - 1) < e
      next-falls = omega (arith, onward.low)

      pub equal-found : (p n : ℕ) → length_at T out it (e - 1) ≡ n → bytes_at T out it (e - 1) ≡ substring T p n → EqualItem T out it W x p n e
      equal-found p n en es = record {
        low = w.low;
        listed = w.listed;
        same_length = λ y q. let r : e - 1 ≡ y = omega arith in subst (λ (k : ℕ). length_at T out it k ≡ n) r en;
        same = λ y q. let r : e - 1 ≡ y = omega arith in subst (λ (k : ℕ). bytes_at T out it k ≡ substring T p n) r es;
      }

    pub equal-none : (p n : ℕ) → EqualItem T out it W x p n 0
    equal-none p n = record {
      low = omega arith;
      listed = λ y q. absurd (let z : ⊥ = omega arith in z);
      same_length = λ y q. absurd (let z : ⊥ = omega arith in z);
      same = λ y q. absurd (let z : ⊥ = omega arith in z);
    }

    -- The chain of a fingerprint.
    pub chain-of : (h r : ℕ) → h ≡ fingerprint it.seed (bytes_at T out it x) → r ≡ bucket_of it.heads h → r ≡ chain_at T out it x
    unfolding chain_at
    chain-of h r eh er = er ∙ ap (bucket_of it.heads) eh

    pub equal-at : (s n e : ℕ)
        → s ≡ start_at T out it x → n ≡ length_at T out it x → EqualItem T out it W x s n e → EqualItem T out it W x (start_at T out it x) (length_at T out it x) e
    equal-at s n e es en w = subst (λ (k : ℕ). EqualItem T out it W x k (length_at T out it x) e) es (subst (λ (k : ℕ). EqualItem T out it W x s k e) en w)
