-- A window compared with every item of its chain.
use mathlib.Core.List.{List}
use mathlib.Core.Bool.{Bool, false}
use mathlib.Core.Path.{◌≡◌, sym, ap, ◌∙◌, subst}
use mathlib.Core.Logic.{◌⊎◌, inl, inr}
use Prim.Native.Nat.{ℕ, suc, ◌+◌, ◌-◌, ◌%◌, ◌≤◌, ◌<◌}
use native.Mathlib.Omega.{arith}
use native.Mathlib.Decide.{ℕ_discrete}
use lib.Dec.{eqb}
use borrow.Author.Tests.{eqb-false}
use Rattle.text.specs.ListLaws.{lt-or-ge}
use Rattle.text.specs.Text.{substring}
use Rattle.scan_rolling_hash.specs.Fingerprints.{fingerprint}
use Rattle.scan_hash_table.specs.declared.Items.{Items}
use Rattle.scan_hash_table.specs.ChainHeads.{link_of, mark_of, bucket_of}
use Rattle.scan_hash_table.specs.Entries.{Laid, Listed, Link, Chained, Found, Searched, WindowLookedUp, length_at, bytes_at, chain_at, next_in, head_in}
use Rattle.scan_hash_table.specs.LookedUp.{Asks, ItemCompared, ChainTraversed}
use Rattle.scan_hash_table.proofs.Chains.{searched-none, searched-then, chained-after, passed-by, same-chain}

module _ (T out : List ℕ) (it : Items) (W : List ℕ) (h p n : ℕ) where
  abbrev g : ℕ
  g = bucket_of it.heads h

  -- On the way down the chain, before link e.
  pub record Visiting (Z : List ℕ) (e : ℕ) : Type 0 where
    pub asks : Asks T out it Z h p n
    pub searched : Searched T out it W Z
    pub low : e ≤ it.items
    pub listed : (y : ℕ) → e ≡ suc y → Listed T out it Z y
    pub chain : (y : ℕ) → e ≡ suc y → chain_at T out it y ≡ g
    pub finished : (x : ℕ) → x < it.items
        → e ≤ x → Listed T out it W x → chain_at T out it x ≡ g → length_at T out it x ≡ n → Found T out it W x p → Found T out it Z x (p + 1)

  pub visiting-first : (e : ℕ) → Asks T out it W h p n → Link T out it W g it.items e → Visiting W e
  visiting-first e a k = record {
    asks = a;
    searched = searched-none T out it W;
    low = k.low;
    listed = k.listed;
    chain = k.chain;
    finished = λ x l m i c en f. absurd (let z : ⊥ = omega (arith, k.all x l i c) in z);
  }

  module _ (Z : List ℕ) (e : ℕ) (v : Visiting Z e) (some : e ≡ 0 → ⊥) where
    e-is : e ≡ suc (e - 1)
    e-is = omega arith

    pub item_in : e - 1 < it.items
    item_in = omega (arith, v.low)

    pub item-listed : Listed T out it Z (e - 1)
    item-listed = v.listed (e - 1) e-is

    module _ (Y : List ℕ) (t : ItemCompared T out it Z Y (e - 1) p n) where
      y : ℕ
      y = e - 1

      new-chained : Chained T out it Y it.items
      new-chained = chained-after T out it Z Y t.searched it.items v.asks.laid.heads_low v.asks.chained

      new-asks : Asks T out it Y h p n
      new-asks = record {
        laid = subst (λ (k : ℕ). Laid T out it k) (sym t.searched.same_length) v.asks.laid;
        chained = new-chained;
        fits = v.asks.fits;
        fingerprint_is = v.asks.fingerprint_is;
      }

      onward : Link T out it Y (chain_at T out it (e - 1)) (e - 1) (next_in Y (e - 1))
      onward = new-chained.next (e - 1) item_in (t.searched.listed (e - 1) item_in item-listed)

      pub next-falls : next_in Y (e - 1) < e
      next-falls = omega (arith, onward.low)

      all_done : (x : ℕ) → x < it.items → next_in Y (e - 1) ≤ x
          → Listed T out it W x → chain_at T out it x ≡ g → length_at T out it x ≡ n → Found T out it W x p → Found T out it Y x (p + 1)
      all_done x l m i c en f = go (lt-or-ge x e)
        where
          here : (x < e - 1) ⊎ (e - 1 ≤ x) → x < e → Found T out it Y x (p + 1)
          here (inl a) b = absurd (let z : ⊥ =
              omega (arith, onward.all x a (t.searched.listed x l (v.searched.listed x l i)) (c ∙ sym (v.chain (e - 1) e-is))) in z)
          here (inr a) b =
              let q : x ≡ e - 1 = omega arith in
              subst (λ (k : ℕ). Found T out it Y k (p + 1)) (sym q)
              (t.here (subst (λ (k : ℕ). length_at T out it k ≡ n) q en) (subst (λ (k : ℕ). Found T out it Z k p) q (v.searched.found x p l i f)))

          go : (x < e) ⊎ (e ≤ x) → Found T out it Y x (p + 1)
          go (inl a) = here (lt-or-ge x (e - 1)) a
          go (inr a) = t.searched.found x (p + 1) l (v.searched.listed x l i) (v.finished x l a i c en f)

      pub visiting-next : Visiting Y (next_in Y (e - 1))
      visiting-next = record {
        asks = new-asks;
        searched = searched-then T out it W Z Y v.searched t.searched;
        low = omega (arith, onward.low, item_in);
        listed = onward.listed;
        chain = λ y q. onward.chain y q ∙ v.chain (e - 1) e-is;
        finished = all_done;
      }

  pub traversed-all : (Z : List ℕ) (e : ℕ) → Visiting Z e → e ≡ 0 → ChainTraversed T out it W Z g p n
  traversed-all Z e v z = record { searched = v.searched; here = λ x l i c en f. v.finished x l (omega arith) i c en f }

  -- A window looked up.
  module _ (a : Asks T out it W h p n) where
    -- The mark of its fingerprint is not set: no item has its bytes.
    pub looked-up-unmarked : (r : Bool) → r ≡ eqb (mark_of (head_in it.items W g) (h % 8)) 1 → r ≡ false → WindowLookedUp T out it W W p n
    looked-up-unmarked r e f = record {
      searched = searched-none T out it W;
      here = λ x l i en. passed-by T out it W x p n en (λ es. eqb-false _ _ (sym e ∙ f) (marked_by x l i es));
    }
      where
        marked_by : (x : ℕ) → x < it.items → Listed T out it W x → bytes_at T out it x ≡ substring T p n → mark_of (head_in it.items W g) (h % 8) ≡ 1
        marked_by x l i es =
            let q : fingerprint it.seed (bytes_at T out it x) ≡ h = ap (fingerprint it.seed) es ∙ sym a.fingerprint_is in
            let c : chain_at T out it x ≡ g = same-chain T out it x p n es ∙ ap (bucket_of it.heads) (sym a.fingerprint_is) in
            subst (λ (k : ℕ). mark_of (head_in it.items W g) (k % 8) ≡ 1) q
            (subst (λ (k : ℕ). mark_of (head_in it.items W k) (fingerprint it.seed (bytes_at T out it x) % 8) ≡ 1) c (a.chained.marks x l i))

    pub looked-up-chain : (Z : List ℕ) → ChainTraversed T out it W Z g p n → WindowLookedUp T out it W Z p n
    looked-up-chain Z v = record {
      searched = v.searched;
      here = λ x l i en f. go x l i en f (ℕ_discrete (chain_at T out it x) g);
    }
      where
        go : (x : ℕ) → x < it.items
            → Listed T out it W x → length_at T out it x ≡ n → Found T out it W x p → Dec (chain_at T out it x ≡ g) → Found T out it Z x (p + 1)
        go x l i en f (yes c) = v.here x l i c en f
        go x l i en f (no d) = v.searched.found x (p + 1) l i
            (passed-by T out it W x p n en (λ es. d (same-chain T out it x p n es ∙ ap (bucket_of it.heads) (sym a.fingerprint_is))) f)

    -- The head that the code reads.
    module _ (r : ℕ) (r-is : r ≡ bucket_of it.heads h) (r-in : r < it.heads) where
      pub head-link : Link T out it W (bucket_of it.heads h) it.items (link_of (head_in it.items W r))
      head-link = subst (λ (k : ℕ). Link T out it W k it.items (link_of (head_in it.items W r))) r-is (a.chained.heads r r-in)

      pub looked-up-past : (m : Bool) → m ≡ eqb (mark_of (head_in it.items W r) (h % 8)) 1 → m ≡ false → WindowLookedUp T out it W W p n
      looked-up-past m e f = looked-up-unmarked m (e ∙ ap (λ (k : ℕ). eqb (mark_of (head_in it.items W k) (h % 8)) 1) r-is) f
