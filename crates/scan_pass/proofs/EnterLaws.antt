-- Items taken one after the other.
use mathlib.Core.List.{List}
use mathlib.Core.Path.{◌≡◌, refl, sym, ap, ◌∙◌, subst}
use mathlib.Core.Logic.{◌⊎◌, inl, inr}
use Prim.Native.Nat.{ℕ, ◌+◌, ◌-◌, ◌*◌, ◌%◌, ◌^◌, ◌≤◌, ◌<◌}
use native.Mathlib.Omega.{arith}
use lib.ListN.{length}
use Rattle.text.specs.ListLaws.{lt-or-ge}
use Rattle.text.specs.Text.{substring}
use Rattle.scan_rolling_hash.specs.Fingerprints.{base_of, fingerprint}
use Rattle.scan_rolling_hash.proofs.WindowFingerprintLaws.{fingerprint-join}
use Rattle.scan_hash_table.specs.declared.Items.{Items}
use Rattle.scan_hash_table.specs.Entries.{Laid, Placed, Listed, start_at, length_at, bytes_at, item_place_in}
use Rattle.scan_hash_table.specs.ItemsEntered.{Cleared, Turn, Entered, Skipped}
use Rattle.scan_hash_table.proofs.EntryLaws.{chained-none}
use Rattle.scan_pass.specs.declared.Lengths.{Lengths}
use Rattle.scan_pass.specs.Passes.{Present, Ordered, ItemProcessed, EnteredItems, PairAnswer, LengthsOf, with_length}
use Rattle.scan_pass.proofs.ItemLengths.{start-same, length-low, length_high, full_block, pair_parts, pair-there}
use Rattle.scan_pass.proofs.LengthsOfLaws.{lengths_none, lengths-first, lengths-past, lengths-more}

module _ (T out : List ℕ) (it : Items) where
  module _ (W Z : List ℕ) (x : ℕ) where
    pub processed-entered : Present T out it x → Entered T out it W Z x → ItemProcessed T out it W Z x
    processed-entered p e = record {
      same_length = e.same_length;
      chained = e.chained;
      before = e.before;
      there = λ i. p;
      own = e.own;
      equal_item = λ p. e.equal_item;
    }

    pub processed-skipped : (Present T out it x → ⊥) → Skipped T out it W Z x → ItemProcessed T out it W Z x
    processed-skipped un e = record {
      same_length = e.same_length;
      chained = e.chained;
      before = e.before;
      there = λ i. absurd (let z : ⊥ = omega (arith, i, e.left_out) in z);
      own = λ i. absurd (let z : ⊥ = omega (arith, i, e.left_out) in z);
      equal_item = λ p. absurd (un p);
    }

  pub items-entered-none : (W Z : List ℕ) → Laid T out it (length W) → Cleared W Z (3 * it.items) it.heads → EnteredItems T out it Z 0
  items-entered-none W Z h c = record {
    laid = subst (λ (k : ℕ). Laid T out it k) (sym c.same_length) h;
    chained = chained-none T out it W Z c;
    there = λ x l i. absurd (let z : ⊥ = omega arith in z);
    own = λ x l i. absurd (let z : ⊥ = omega arith in z);
    equal_item = λ x l p y e. absurd (let z : ⊥ = omega arith in z);
  }

  module _ (W : List ℕ) (k : ℕ) (e : EnteredItems T out it W k) where
    pub turn : k < it.items → Turn T out it W k
    turn l = record { laid = e.laid; item_in = l; chained = e.chained }

    module _ (Z : List ℕ) (t : ItemProcessed T out it W Z k) where
      was : (x : ℕ) → x < k → Listed T out it Z x → Listed T out it W x
      was x l i = omega (arith, t.before x l, i)

      is : (x : ℕ) → x < k → Listed T out it W x → Listed T out it Z x
      is x l i = omega (arith, t.before x l, i)

      same : (x : ℕ) → x < k + 1 → (x < k) ⊎ (x ≡ k)
      same x l = go (lt-or-ge x k)
        where
          go : (x < k) ⊎ (k ≤ x) → (x < k) ⊎ (x ≡ k)
          go (inl a) = inl a
          go (inr a) = inr (omega arith)

      new-there : (x : ℕ) → (x < k) ⊎ (x ≡ k) → Listed T out it Z x → Present T out it x
      new-there x (inl a) i = e.there x a (was x a i)
      new-there x (inr q) i = subst (Present T out it) (sym q) (t.there (subst (Listed T out it Z) q i))

      new-own : (x : ℕ) → (x < k) ⊎ (x ≡ k) → Listed T out it Z x → item_place_in Z x ≡ start_at T out it x
      new-own x (inl a) i = t.before x a ∙ e.own x a (was x a i)
      new-own x (inr q) i = subst (λ (y : ℕ). item_place_in Z y ≡ start_at T out it y) (sym q) (t.own (subst (Listed T out it Z) q i))

      new-equal : (x : ℕ) → (x < k) ⊎ (x ≡ k) → Present T out it x → (y : ℕ) → item_place_in Z x ≡ length T + y
          → (y < x) × Listed T out it Z y × (length_at T out it y ≡ length_at T out it x) × (bytes_at T out it y ≡ bytes_at T out it x)
      new-equal x (inl a) p y q =
          let w = e.equal_item x a p y (sym (t.before x a) ∙ q) in
          (w.0, is y (omega (arith, w.0)) w.1, w.2, w.3)
      new-equal x (inr r) p y q =
          subst (λ (z : ℕ). (y < z) × Listed T out it Z y × (length_at T out it y ≡ length_at T out it z) × (bytes_at T out it y ≡ bytes_at T out it z)) (sym r)
          (t.equal_item (subst (Present T out it) r p) y (subst (λ (z : ℕ). item_place_in Z z ≡ length T + y) r q))

      pub items-entered-more : EnteredItems T out it Z (k + 1)
      items-entered-more = record {
        laid = subst (λ (n : ℕ). Laid T out it n) (sym t.same_length) e.laid;
        chained = t.chained;
        there = λ x l i. new-there x (same x l) i;
        own = λ x l i. new-own x (same x l) i;
        equal_item = λ x l p y q. new-equal x (same x l) p y q;
      }

  pub items-entered-two : (Z : List ℕ) (k : ℕ) → EnteredItems T out it Z (k + 1 + 1) → EnteredItems T out it Z (k + 2)
  items-entered-two Z k e = subst (EnteredItems T out it Z) (let q : k + 1 + 1 ≡ k + 2 = omega arith in q) e

  -- Block i and the pair after it.
  module _ (o : Ordered T out it) (h : Placed T out it) (i : ℕ) (more : 2 * i + 2 < it.items) where
    abbrev x : ℕ
    x = 2 * i + 1

    odd : x % 2 ≡ 1
    odd = omega arith

    start_first : start_at T out it (2 * i) ≡ start_at T out it x
    start_first = start-same T out it (2 * i) x (omega arith)

    pub block-full : length_at T out it (2 * i) ≡ it.size
    block-full = full_block T out it o h (2 * i) (omega arith) (omega arith)

    module _ (s t : ℕ) (s-is : s ≡ start_at T out it x) (t-is : t ≡ start_at T out it (x + 1)) where
      pub is-pair : t ≡ s + it.size → start_at T out it (x + 1) ≡ start_at T out it x + it.size
      is-pair e = omega arith

      pub no-pair : (t ≡ s + it.size → ⊥) → Present T out it x → ⊥
      no-pair un p = un (omega (arith, pair-there T out it o h x odd p))

    -- The pair's fingerprint, of those of its blocks.
    module _ (p : start_at T out it (x + 1) ≡ start_at T out it x + it.size) where
      parts : length_at T out it x ≡ it.size + length_at T out it (x + 1)
      parts = pair_parts T out it o h x odd (omega arith) p

      pub pair-low : it.size ≤ length_at T out it x
      pair-low = omega (arith, parts)

      pub pair-fingerprint : (g next top n r : ℕ) → g ≡ fingerprint it.seed (bytes_at T out it (2 * i))
          → next ≡ fingerprint it.seed (bytes_at T out it (2 * i + 2)) → n ≡ length_at T out it x
          → top ≡ base_of it.seed ^ (n - it.size) % 2147483647 → r ≡ (g * top + next) % 2147483647 → r ≡ fingerprint it.seed (bytes_at T out it x)
      unfolding bytes_at
      pair-fingerprint g next top n r eg en el et er =
          let second : n - it.size ≡ length_at T out it (x + 1) = omega (arith, parts) in
          let q : 2 * i + 2 ≡ x + 1 = omega arith in
          er ∙ fingerprint-join it.seed T (start_at T out it x) it.size (length_at T out it (x + 1)) g top next
          (omega (arith, p, length_high T out it o h (x + 1) (omega arith)))
          (eg ∙ ap (λ (k : ℕ). fingerprint it.seed (substring T k (length_at T out it (2 * i)))) start_first
          ∙ ap (λ (k : ℕ). fingerprint it.seed (substring T (start_at T out it x) k)) block-full)
          (et ∙ ap (λ (k : ℕ). base_of it.seed ^ k % 2147483647) second)
          (en ∙ ap (λ (k : ℕ). fingerprint it.seed (substring T (start_at T out it k) (length_at T out it k))) q
          ∙ ap (λ (k : ℕ). fingerprint it.seed (substring T k (length_at T out it (x + 1)))) p)
          ∙ ap (λ (k : ℕ). fingerprint it.seed (substring T (start_at T out it x) k)) (sym parts)

    -- The lengths of both.
    pub lengths-both : (l : Lengths) (n : ℕ)
        → LengthsOf T out it (2 * i) l → PairAnswer T out it x n
        → LengthsOf T out it (2 * (i + 1)) (with_length (with_length l it.size it.size) it.size n)
    lengths-both l n s w = go (lt-or-ge n 1)
      where
        one : LengthsOf T out it (2 * i + 1) (with_length l it.size it.size)
        one = lengths-more T out it o h (2 * i) l s (omega arith) (inl (omega arith)) it.size block-full

        to : 2 * i + 1 + 1 ≡ 2 * (i + 1)
        to = omega arith

        go : (n < 1) ⊎ (1 ≤ n) → LengthsOf T out it (2 * (i + 1)) (with_length (with_length l it.size it.size) it.size n)
        go (inl a) = subst (λ (k : ℕ). LengthsOf T out it k (with_length (with_length l it.size it.size) it.size n)) to
            (subst (LengthsOf T out it (2 * i + 1 + 1)) (lengths_none (with_length l it.size it.size) it.size n (omega arith))
            (lengths-past T out it o h x (with_length l it.size it.size) one (λ p. omega (arith, w.present p, length-low T out it o h x (omega arith)))))
        go (inr a) = subst (λ (k : ℕ). LengthsOf T out it k (with_length (with_length l it.size it.size) it.size n)) to
            (there (lt-or-ge (start_at T out it (x + 1)) (start_at T out it x + it.size)) (lt-or-ge (start_at T out it x + it.size) (start_at T out it (x + 1))))
          where
            there : (start_at T out it (x + 1) < start_at T out it x + it.size) ⊎ (start_at T out it x + it.size ≤ start_at T out it (x + 1))
                → (start_at T out it x + it.size < start_at T out it (x + 1)) ⊎ (start_at T out it (x + 1) ≤ start_at T out it x + it.size)
                → LengthsOf T out it (2 * i + 1 + 1) (with_length (with_length l it.size it.size) it.size n)
            there (inl b) c = absurd (let z : n ≡ 0 = w.absent (no-pair (start_at T out it x) (start_at T out it (x + 1)) refl refl (λ q. omega arith)) in
                let y : ⊥ = omega arith in y)
            there (inr b) (inl c) = absurd (let z : n ≡ 0 =
                w.absent (no-pair (start_at T out it x) (start_at T out it (x + 1)) refl refl (λ q. omega arith)) in let y : ⊥ = omega arith in y)
            there (inr b) (inr c) =
                let p : Present T out it x = inr (omega arith) in
                lengths-more T out it o h x (with_length l it.size it.size) one (omega arith) p n (sym (w.present p))

  -- The loop over the blocks, before block i.
  pub record Going (W₀ W : List ℕ) (l : Lengths) (h i : ℕ) : Type 0 where
    pub same_length : length W ≡ length W₀
    pub items_entered : EnteredItems T out it W (2 * i)
    pub lengths_are : LengthsOf T out it (2 * i) l
    pub fingerprint_is : h ≡ fingerprint it.seed (bytes_at T out it (2 * i))
    pub within : 2 * i < it.items

  module _ (o : Ordered T out it) (placed : Placed T out it) where
    pub going-first : (V₀ W : List ℕ) (h : ℕ) → Laid T out it (length V₀) → Cleared V₀ W (3 * it.items) it.heads
        → h ≡ fingerprint it.seed (bytes_at T out it 0) → Going W W (record { block = 0; pair = 0; last = 0; ending = 0 }) h 0
    going-first V₀ W h laid c e = record {
      same_length = refl;
      items_entered = items-entered-none V₀ W laid c;
      lengths_are = lengths-first T out it o placed;
      fingerprint_is = e;
      within = omega (arith, o.items_are);
    }

    module _ (W₀ W : List ℕ) (l : Lengths) (h i : ℕ) (g : Going W₀ W l h i) where
      -- Another block follows.
      module _ (more : 2 * i + 1 < it.items) where
        pub next-block : 2 * i + 2 < it.items
        next-block = omega (arith, o.items_are)

        pub next-fingerprint : (next : ℕ) → next ≡ fingerprint it.seed (bytes_at T out it (2 * (i + 1)))
            → next ≡ fingerprint it.seed (bytes_at T out it (2 * i + 2))
        next-fingerprint next e = e ∙ ap (λ (k : ℕ). fingerprint it.seed (bytes_at T out it k)) (let q : 2 * (i + 1) ≡ 2 * i + 2 = omega arith in q)

        pub going_next : (Z : List ℕ) (n next : ℕ) (l₁ l₂ : Lengths) → length Z ≡ length W → EnteredItems T out it Z (2 * i + 2)
            → PairAnswer T out it (2 * i + 1) n
            → next ≡ fingerprint it.seed (bytes_at T out it (2 * (i + 1))) → l₁ ≡ with_length l it.size it.size → l₂ ≡ with_length l₁ it.size n
            → Going W₀ Z l₂ next (i + 1)
        going_next Z n next l₁ l₂ same e w en e₁ e₂ = record {
          same_length = same ∙ g.same_length;
          items_entered = subst (EnteredItems T out it Z) (let q : 2 * i + 2 ≡ 2 * (i + 1) = omega arith in q) e;
          lengths_are = subst (LengthsOf T out it (2 * (i + 1)))
              (sym (e₂ ∙ ap (λ (k : Lengths). with_length k it.size n) e₁)) (lengths-both o placed i next-block l n g.lengths_are w);
          fingerprint_is = en;
          within = omega (arith, next-block);
        }

      -- The block is the last one.
      module _ (end : it.items ≤ 2 * i + 1) where
        last_is : 2 * i + 1 ≡ it.items
        last_is = omega (arith, g.within)

        pub all-entered : (Z : List ℕ) → Entered T out it W Z (2 * i) → EnteredItems T out it Z it.items
        all-entered Z e =
            subst (EnteredItems T out it Z) last_is (items-entered-more W (2 * i) g.items_entered Z (processed-entered W Z (2 * i) (inl (omega arith)) e))

        pub all-lengths : (n : ℕ) (l' : Lengths) → n ≡ length_at T out it (2 * i) → l' ≡ with_length l it.size n → LengthsOf T out it it.items l'
        all-lengths n l' e q = subst (λ (k : ℕ). LengthsOf T out it k l') last_is (subst (LengthsOf T out it (2 * i + 1)) (sym q)
            (lengths-more T out it o placed (2 * i) l g.lengths_are g.within (inl (omega arith)) n (sym e)))
