-- The chains of the table, and what a look-up leaves as it was.
use mathlib.Core.List.{List}
use mathlib.Core.Path.{◌≡◌, refl, sym, ap, ◌∙◌, subst}
use mathlib.Core.Logic.{◌⊎◌, inl, inr}
use Prim.Native.Nat.{ℕ, ◌+◌, ◌*◌, ◌≤◌, ◌<◌}
use native.Mathlib.Omega.{arith}
use native.Mathlib.Decide.{ℕ_discrete}
use lib.ListN.{length, set, length-set}
use lib.Seq.{get_or-set_same, get_or-set_other}
use Rattle.text.specs.ListLaws.{lt-or-ge}
use Rattle.text.specs.Text.{substring}
use Rattle.scan_rolling_hash.specs.Fingerprints.{fingerprint}
use Rattle.scan_rolling_hash.proofs.WindowFingerprintLaws.{fingerprint-below}
use Rattle.scan_hash_table.proofs.ChainHeadLaws.{bucket-lt}
use Rattle.scan_hash_table.specs.declared.Items.{Items}
use Rattle.scan_hash_table.specs.ChainHeads.{link_of, bucket_of}
use Rattle.scan_hash_table.specs.Entries.{Listed, Link, Chained, Found, Searched, length_at, bytes_at, chain_at, next_in, fingerprint_in, item_place_in, head_in}
use Rattle.scan_hash_table.specs.LookedUp.{Asks, ItemCompared}

module _ (T out : List ℕ) (it : Items) where
  abbrev Is : List ℕ → ℕ → Type 0
  Is W x = Listed T out it W x

  pub chain-lt : 1 ≤ it.heads → (x : ℕ) → chain_at T out it x < it.heads
  unfolding chain_at bucket_of
  chain-lt low x = bucket-lt (fingerprint it.seed (bytes_at T out it x)) it.heads (fingerprint-below it.seed (bytes_at T out it x)) low

  -- The same bytes are in the same chain.
  pub same-chain : (x p n : ℕ) → bytes_at T out it x ≡ substring T p n → chain_at T out it x ≡ bucket_of it.heads (fingerprint it.seed (substring T p n))
  unfolding chain_at
  same-chain x p n e = ap (λ (s : List ℕ). bucket_of it.heads (fingerprint it.seed s)) e

  pub searched-none : (W : List ℕ) → Searched T out it W W
  searched-none W = record {
    same_length = refl;
    nexts = λ x l. refl;
    fingerprints = λ x l. refl;
    heads = λ g l. refl;
    listed = λ x l i. i;
    others = λ x l o. refl;
    found = λ x q l i f. f;
  }

  pub searched-then : (W Z Y : List ℕ) → Searched T out it W Z → Searched T out it Z Y → Searched T out it W Y
  searched-then W Z Y a b = record {
    same_length = b.same_length ∙ a.same_length;
    nexts = λ x l. b.nexts x l ∙ a.nexts x l;
    fingerprints = λ x l. b.fingerprints x l ∙ a.fingerprints x l;
    heads = λ g l. b.heads g l ∙ a.heads g l;
    listed = λ x l i. b.listed x l (a.listed x l i);
    others = λ x l o. b.others x l (rw (a.others x l o) o) ∙ a.others x l o;
    found = λ x q l i f. b.found x q l (a.listed x l i) (a.found x q l i f);
  }

  module _ (W Z : List ℕ) (s : Searched T out it W Z) where
    -- An item that is in a chain now was in one before.
    pub listed-before : (x : ℕ) → x < it.items → Is Z x → Is W x
    listed-before x l i = go (lt-or-ge (item_place_in W x) (length T))
      where
        go : (item_place_in W x < length T) ⊎ (length T ≤ item_place_in W x) → Is W x
        go (inl j) = j
        go (inr o) = absurd (let z : ⊥ = omega (arith, s.others x l o) in z)

    pub link-after : (g k e : ℕ) → k ≤ it.items → Link T out it W g k e → Link T out it Z g k e
    link-after g k e kl n = record {
      low = n.low;
      listed = λ y q. s.listed y (omega (arith, n.low)) (n.listed y q);
      chain = n.chain;
      all = λ y l i c. n.all y l (listed-before y (omega arith) i) c;
    }

    pub chained-after : (k : ℕ) → 1 ≤ it.heads → Chained T out it W k → Chained T out it Z k
    chained-after k low h = record {
      within = h.within;
      next = λ x l i. subst (λ (e : ℕ). Link T out it Z (chain_at T out it x) x e) (sym (s.nexts x (omega (arith, h.within))))
          (link-after (chain_at T out it x) x (next_in W x) (omega (arith, h.within)) (h.next x l (listed-before x (omega (arith, h.within)) i)));
      fingerprints = λ x l i. s.fingerprints x (omega (arith, h.within)) ∙ h.fingerprints x l (listed-before x (omega (arith, h.within)) i);
      heads = λ g l. subst (λ (w : ℕ). Link T out it Z g k (link_of w))
          (sym (s.heads g l)) (link-after g k (link_of (head_in it.items W g)) h.within (h.heads g l));
      marks = λ x l i. rw (s.heads (chain_at T out it x) (chain-lt low x)) (h.marks x l (listed-before x (omega (arith, h.within)) i));
    }

  -- A window compared with item x.
  module _ (W : List ℕ) (x p n : ℕ) where
    -- The window has other bytes.
    pub passed-by : length_at T out it x ≡ n → (bytes_at T out it x ≡ substring T p n → ⊥) → Found T out it W x p → Found T out it W x (p + 1)
    passed-by en un f = record {
      near = f.near;
      same = f.same;
      absent = λ r l m e. go r m e (lt-or-ge r p) (omega arith);
    }
      where
        go : (r : ℕ) → r < item_place_in W x → substring T r (length_at T out it x) ≡ bytes_at T out it x → (r < p) ⊎ (p ≤ r) → r ≤ p → ⊥
        go r m e (inl a) b = f.absent r a m e
        go r m e (inr a) b =
            let q : r ≡ p = omega arith in
            un (sym e ∙ rw (q, en))

    -- The item was found before.
    pub passed-after : item_place_in W x ≤ p → Found T out it W x p → Found T out it W x (p + 1)
    passed-after a f = record { near = f.near; same = f.same; absent = λ r l m e. f.absent r (omega arith) m e }

  module _ (W : List ℕ) (h p n x : ℕ) (a : Asks T out it W h p n) (xl : x < it.items) (is : Is W x) where
    pub compared-none : (length_at T out it x ≡ n → Found T out it W x p → Found T out it W x (p + 1)) → ItemCompared T out it W W x p n
    compared-none f = record { searched = searched-none W; here = f }

    pub other-fingerprint : (fingerprint_in W x ≡ h → ⊥) → ItemCompared T out it W W x p n
    other-fingerprint un =
        compared-none (λ en. passed-by W x p n en (λ e. un (a.chained.fingerprints x xl is ∙ ap (fingerprint it.seed) e ∙ sym a.fingerprint_is)))

    pub found_before : item_place_in W x ≤ p → ItemCompared T out it W W x p n
    found_before l = compared-none (λ en. passed-after W x p n l)

    pub other-bytes : (length_at T out it x ≡ n → bytes_at T out it x ≡ substring T p n → ⊥) → ItemCompared T out it W W x p n
    other-bytes un = compared-none (λ en. passed-by W x p n en (un en))

    -- The window has the item's bytes, at a place before the one found so far.
    module _ (before : p < item_place_in W x) (en : length_at T out it x ≡ n) (es : bytes_at T out it x ≡ substring T p n) where
      abbrev Z : List ℕ
      Z = set W (3 * x + 2) p

      x_fits : 3 * x + 2 < length W
      x_fits = omega (arith, a.laid.room)

      place-new : item_place_in Z x ≡ p
      unfolding item_place_in
      place-new = get_or-set_same W (3 * x + 2) p 0 x_fits

      place_other : (y : ℕ) → (y ≡ x → ⊥) → item_place_in Z y ≡ item_place_in W y
      unfolding item_place_in
      place_other y d = get_or-set_other W (3 * x + 2) (3 * y + 2) p 0 (λ q. d (omega arith))

      p-in : p < length T
      p-in = omega (arith, before, is)

      new-found : (q : ℕ) → Found T out it W x q → Found T out it Z x q
      new-found q f = record {
        near = omega (arith, place-new, before, f.near);
        same = rw (place-new, en) (sym es);
        absent = λ r l m e. f.absent r l (omega (arith, place-new)) e;
      }

      kept-found : (y q : ℕ) → (y ≡ x → ⊥) → Found T out it W y q → Found T out it Z y q
      kept-found y q d f = record {
        near = omega (arith, place_other y d, f.near);
        same = rw (place_other y d) f.same;
        absent = λ r l m e. f.absent r l (omega (arith, place_other y d)) e;
      }

      pub found_here : ItemCompared T out it W Z x p n
      unfolding next_in fingerprint_in head_in
      found_here = record {
        searched = record {
          same_length = length-set W (3 * x + 2) p;
          nexts = λ y l. get_or-set_other W (3 * x + 2) (3 * y) p 0 (λ q. omega arith);
          fingerprints = λ y l. get_or-set_other W (3 * x + 2) (3 * y + 1) p 0 (λ q. omega arith);
          heads = λ g l. get_or-set_other W (3 * x + 2) (3 * it.items + g) p 0 (λ q. omega arith);
          listed = λ y l i. go-listed y i (ℕ_discrete y x);
          others = λ y l o. place_other y (λ q. let z : item_place_in W y ≡ item_place_in W x = ap (item_place_in W) q in omega (arith, is));
          found = λ y q l i f. go-found y q f (ℕ_discrete y x);
        };
        here = λ en f. passed-after Z x p n (omega (arith, place-new)) (new-found p f);
      }
        where
          go-listed : (y : ℕ) → Is W y → Dec (y ≡ x) → Is Z y
          go-listed y i (yes e) = let z : item_place_in Z y ≡ item_place_in Z x = ap (item_place_in Z) e in omega (arith, z, place-new, p-in)
          go-listed y i (no d) = omega (arith, place_other y d, i)

          go-found : (y q : ℕ) → Found T out it W y q → Dec (y ≡ x) → Found T out it Z y q
          go-found y q f (yes e) = subst (λ (k : ℕ). Found T out it Z k q) (sym e) (new-found q (subst (λ (k : ℕ). Found T out it W k q) e f))
          go-found y q f (no d) = kept-found y q d f
