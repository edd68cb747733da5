-- The test of edges: one edge, a block, a level, all of them.
use mathlib.Core.List.{List, [], ◌∷◌}
use mathlib.Core.Option.{Option, none, some}
use mathlib.Core.Bool.{Bool, true, false}
use mathlib.Core.Path.{◌≡◌, refl, sym, ◌∙◌}
use Prim.Native.Nat.{ℕ, ◌+◌, ◌-◌, ◌≤◌, ◌<◌, min}
use native.Mathlib.Omega.{arith}
use native.Mathlib.Nat.{add-zero}
use borrow.Author.Tests.{ne_eqb, eq-eqb, lt-ltb, le-ltb}
use lib.Dec.{ltb, eqb}
use lib.ListN.{length, get_or, replicate}
use Rattle.text.specs.Text.{all_below, same_list, substring}
use Rattle.text.specs.ListLaws.{and-false, all_below-make, all_below-not}
use Rattle.format.specs.Layout.{max_leaf, plain_words, count_at}
use Rattle.format.specs.Layout as at
use Rattle.format.specs.TreeReading.{text_of, edges_true, Short, short_from, visit}
use Rattle.format.specs.WordLaws.{word_at-lt}
use Rattle.format.specs.LayoutLaws.{Readable, full-last, size-high, edges-inside, leaf-start-inside}
use Rattle.theory_paths.specs.Links.{Linked, linked-facts}
use Rattle.theory_paths.specs.BlockStarts.{len-pos, len-small, last-kept, leaf-below}
use Rattle.theory_paths.specs.PlacesResolved.{kept_block}
use Rattle.theory_edges.specs.SpanSteps.{last_step}
use Rattle.theory_edges.specs.ChildEdges.{Full, full-facts, Part, part}
use Rattle.theory_edges.specs.EdgesLocal.{edge_is, own_bytes, walked_edges, child_edges, has_full_children, edges_local, level_edges, all_edges_of}
use Rattle.theory_edges.specs.Theorems.{edges-exact}
use Rattle.layout.specs.declared.header.Header.{Header}
use Rattle.layout.specs.HeaderFields.{HeaderOf}
use Rattle.layout.specs.Record.{FieldIn, EdgesIn, field_in}
use Rattle.walk_steps.proofs.StepLaws.{field-there}
use Rattle.walk_short.specs.declared.gather.Parts.{Parts}
use Rattle.std.specs.Prelude.{Some, None}
use Rattle.std.specs.Prelude as prelude
use Rattle.walk_short.specs.Gathered.{gathered, Walking, InRange}
use Rattle.check_edges.specs.EdgesMatch.{Linking, Edged, Leafy, found_is}
use Rattle.walk_short.proofs.WholeLaws.{within-tree}

-- One edge.
module _ (t : List ℕ) (m a x : ℕ) (found : prelude.Option Parts) (q : Parts) (is : found ≡ Some q) where
  abbrev first : Bool
  first = same_list (substring t a q.size) (substring t q.from q.size)

  abbrev second : Bool
  second = same_list (substring t (a + q.size) (x - q.size)) (substring t q.next (x - q.size))

  abbrev third : Bool
  third = same_list (substring t (a + x) (m - x)) (replicate (m - x) 0)

  pub first-fails : first ≡ false → false ≡ found_is t m a x found
  first-fails e = rw (is, e)

  pub second-fails : first ≡ true → second ≡ false → false ≡ found_is t m a x found
  second-fails e f = rw (is, e, f)

  pub third-decides : first ≡ true → second ≡ true → (r : Bool) → r ≡ third → r ≡ found_is t m a x found
  third-decides e f r g = g ∙ rw (is, e, f)

pub none_found : (t : List ℕ) (m a x : ℕ) (found : prelude.Option Parts) → found ≡ None → false ≡ found_is t m a x found
none_found t m a x found is = rw is

found-edge : (t : List ℕ) (a x n : ℕ) (r : Option Short) → found_is t (at.settings t).leaf a x (gathered n r) ≡ edge_is t a x r
unfolding gathered
found-edge t a x n none = refl
found-edge t a x n (some q) = refl

-- A block.
module _ (t : List ℕ) (h : Header) (level b i : ℕ) (k : Edged t h level b i) where
  header : HeaderOf t h
  header = k.tree.header

  facts : Readable t
  facts = header.facts

  d : Linked t
  d = linked-facts t k.tree.linked

  abbrev m : ℕ
  m = h.settings.leaf

  pub edges-asked : EdgesIn t h.record_size h.settings.counted level
  edges-asked = record {
    header = facts.long;
    level_low = omega (arith, k.on.level_in, facts.bounds.levels_high);
    size_is = header.size_is;
    size_few = rw header.size_is (size-high t facts);
    counted_is = header.counted_is;
    counted_few = rw header.counted_is facts.bounds.counted_high;
  }

  module _ (long own e : ℕ) (long-is : long ≡ at.block_length_at t level i) (own_is : own ≡ min m long) (e-is : e ≡ at.edges_at t level i) where
    own-low : 1 ≤ own
    own-low = omega (arith, own_is, long-is, len-pos t facts d level i k.on.level_in k.block_in, header.leaf_is, facts.bounds.leaf_low)

    long-few : long ≤ b
    long-few = omega (arith, long-is, len-small t level i, k.on.b_is)

    own-right : own ≡ own_bytes t level i
    unfolding own_bytes
    own-right = own_is ∙ rw (header.leaf_is, long-is)

    pub walk-asks : (o : ℕ) → o + own ≤ long → Walking t h.record_size level b o own 0
    walk-asks o ho = record {
      on = k.on;
      place-in = omega (arith, own-low, long-few);
      short = omega (arith, own_is, header.leaf_is);
      few = omega arith;
    }

    pub front-in : 0 + own ≤ long
    front-in = omega (arith, own_is)

    pub back_in : long - own + own ≤ long
    back_in = omega (arith, own_is)

    -- What a walk from the block gives.
    module _ (o : ℕ) (ho : o + own ≤ long) (r : prelude.Option Parts)
        (r-is : r ≡ gathered 0 (short_from t ((at.settings t).levels - 1 - level) level (i + 0) o own)) where
      r-right : r ≡ gathered 0 (short_from t ((at.settings t).levels - 1 - level) level i o own)
      r-right = r-is ∙ rw (add-zero i)

      pub within : InRange t own r
      within = within-tree t h header
          k.two own own-low (omega (arith, own_is)) ((at.settings t).levels - 1 - level) level i o (omega (arith, k.on.level_in))
          (omega (arith, own-low, long-few, k.on.b_is)) r 0 r-right

      edge-answers : (a : ℕ) → found_is
          t m a own r ≡ edge_is t a (own_bytes t level i) (short_from t ((at.settings t).levels - 1 - level) level i o (own_bytes t level i))
      edge-answers a = rw (r-right, own-right, header.leaf_is)
          (found-edge t a (own_bytes t level i) 0 (short_from t ((at.settings t).levels - 1 - level) level i o (own_bytes t level i)))

    room : e + (m + m) ≤ length t
    room = omega (arith, e-is, edges-inside t facts level i k.two k.on.level_in k.block_in, leaf-start-inside t facts, header.leaf_is)

    few : (own ≤ m) × (m ≤ max_leaf)
    few = (omega (arith, own_is), omega (arith, header.leaf_is, facts.bounds.leaf_high))

    pub first-asks : (r : prelude.Option Parts) → InRange t own r → (e + m ≤ length t) × (own ≤ m) × (m ≤ max_leaf) × InRange t own r
    first-asks r w = (omega (arith, room), few.0, few.1, w)

    pub last-asks : (r : prelude.Option Parts) → InRange t own r → (e + m + m ≤ length t) × (own ≤ m) × (m ≤ max_leaf) × InRange t own r
    last-asks r w = (omega (arith, room), few.0, few.1, w)

    module _ (r : prelude.Option Parts) (r-is : r ≡ gathered 0 (short_from t ((at.settings t).levels - 1 - level) level (i + 0) 0 own)) where
      pub first-fails-block : found_is t m e own r ≡ false → false ≡ walked_edges t level i
      unfolding walked_edges
      first-fails-block f = rw (sym (edge-answers 0 front-in r r-is (at.edges_at t level i)) ∙ rw e-is at f)

      pub last-decides : found_is t m e own r ≡ true
          → (u : prelude.Option Parts) → u ≡ gathered 0 (short_from t ((at.settings t).levels - 1 - level) level (i + 0) (long - own) own)
          → (y : Bool) → y ≡ found_is t m (e + m) own u → y ≡ walked_edges t level i
      unfolding walked_edges
      last-decides f u u-is y y-is =
          let one : edge_is t (at.edges_at t level i)
          (own_bytes t level i) (short_from t ((at.settings t).levels - 1 - level) level i 0 (own_bytes t level i)) ≡ true =
          sym (edge-answers 0 front-in r r-is (at.edges_at t level i)) ∙ rw e-is at f in
          let two : y ≡ edge_is t (at.edges_at t level i + (at.settings t).leaf) (own_bytes t level i)
          (short_from t ((at.settings t).levels - 1 - level) level i (at.block_length_at t level i - own_bytes t level i) (own_bytes t level i)) =
          rw (e-is, header.leaf_is, long-is, own-right) at (y-is ∙ edge-answers (long - own) back_in u u-is (e + m)) in
          two ∙ rw one

-- A block of the last level, whose bytes are leaf bytes.
module _ (t : List ℕ) (h : Header) (level i own : ℕ) (k : Leafy t h level i own) where
  leafy-facts : Readable t
  leafy-facts = k.tree.header.facts

  leafy-links : Linked t
  leafy-links = linked-facts t k.tree.linked

  level_is : level ≡ (at.settings t).levels - 1
  level_is = omega (arith, k.last)

  pub leaf-there : FieldIn t h.record_size level i 2
  leaf-there = field_in t leafy-facts h.record_size level i 2 k.tree.header.size_is (omega (arith, k.last)) k.block_in (omega arith)

  last_found : (l : ℕ) → l ≡ (at.settings t).levels - 1 → i < at.level_count t l → own ≡ at.block_length_at t l i
      → short_from t 0 l i 0 own ≡ some (record { visits = visit l i 0 ∷ []; from = at.leaf_offset t + (at.link t l i + 0); size = own; next = 0 })
  last_found l e hi is =
      let hi₁ : i < at.level_count t ((at.settings t).levels - 1) = rw e at hi in
      let is₁ : own ≡ at.block_length_at t ((at.settings t).levels - 1) i = rw e at is in
      let low : l < (at.settings t).levels = omega (arith, k.last, level_is) in
      let pos = len-pos t leafy-facts leafy-links l i low hi in
      let end = leaf-below t leafy-facts leafy-links i (own - 1) hi₁ (omega (arith, is₁, is, pos)) in
      let kept : at.is_kept t l i ≡ true = rw e (last-kept t leafy-facts leafy-links i hi₁) in
      last_step t l i 0 own (omega (arith, is, len-small t l i)) (kept_block t l i hi kept) (omega (arith, rw (sym e) at end, pos, is))

  pub leaf-found : (link : ℕ) → link ≡ at.link t level i
      → Some (record { entered = 1; from = h.leaf_offset + link; size = own; next = 0 })
      ≡ gathered 0 (short_from t ((at.settings t).levels - 1 - level) level (i + 0) 0 own)
  unfolding gathered
  leaf-found link e =
      let none : (at.settings t).levels - 1 - level ≡ 0 = omega (arith, level_is) in
      rw (none, add-zero i, last_found level level_is k.block_in k.own_is, add-zero (at.link t level i), e, k.tree.header.offset_is)

module _ (t : List ℕ) (h : Header) (level b i : ℕ) (k : Edged t h level b i) (last : level + 1 ≡ h.settings.levels) (own : ℕ)
    (own_is : own ≡ at.block_length_at t level i) where
  pub leafy : Leafy t h level i own
  leafy = record { tree = k.tree; last = last ∙ k.tree.header.levels_is; block_in = k.block_in; own_is = own_is }

  pub own-all : own ≡ min h.settings.leaf own
  own-all =
      let e : level ≡ (at.settings t).levels - 1 = omega (arith, last, k.tree.header.levels_is) in
      let b_leaf : at.full_length t level ≡ (at.settings t).leaf = rw e (full-last t k.tree.header.facts) in
      omega (arith, own_is, len-small t level i, b_leaf, k.tree.header.leaf_is)

  pub found-again : (r : prelude.Option Parts) → r ≡ gathered 0 (short_from t ((at.settings t).levels - 1 - level) level (i + 0) 0 own)
      → r ≡ gathered 0 (short_from t ((at.settings t).levels - 1 - level) level (i + 0) (own - own) own)
  found-again r e = let none : own - own ≡ 0 = omega arith in e ∙ rw none

-- A block by its kind.
module _ (t : List ℕ) (h : Header) (level b i : ℕ) (k : Edged t h level b i) where
  pub plain-there : (f : ℕ) → f < plain_words → FieldIn t h.record_size level i f
  plain-there f hf = field-there t h.record_size level b i f k.on k.block_in hf

  module _ (kind : ℕ) (kind_is : kind ≡ at.kind t level i) where
    pub not_full : (kind ≡ 0 → ⊥) → false ≡ has_full_children t level i
    unfolding has_full_children at.is_kept
    not_full n = rw (ne_eqb (at.kind t level i) 0 (λ e. n (kind_is ∙ e)), and-false (ltb (level + 1) (at.settings t).levels))

    pub full-if : level + 1 < h.settings.levels → kind ≡ 0 → (long : ℕ) → long ≡ at.block_length_at t level i → (r : Bool) → r ≡ eqb long b
        → r ≡ has_full_children t level i
    unfolding has_full_children at.is_kept
    full-if above kept long long-is r r-is =
        let up : level + 1 < (at.settings t).levels = omega (arith, k.tree.header.levels_is) in
        r-is ∙ rw (lt-ltb (level + 1) (at.settings t).levels up, eq-eqb (at.kind t level i) 0 (sym kind_is ∙ kept), long-is, k.on.b_is)

  pub last_block : level + 1 ≡ h.settings.levels → (y : Bool) → y ≡ walked_edges t level i → y ≡ edges_local t level i
  unfolding edges_local has_full_children
  last_block last y is = is ∙ rw (le-ltb (level + 1) (at.settings t).levels (omega (arith, last, k.tree.header.levels_is)))

  pub full_block : has_full_children t level i ≡ true → (y : Bool) → y ≡ child_edges t level i → y ≡ edges_local t level i
  unfolding edges_local
  full_block full y is = is ∙ rw full

  pub other_block : has_full_children t level i ≡ false → (y : Bool) → y ≡ walked_edges t level i → y ≡ edges_local t level i
  unfolding edges_local
  other_block full y is = is ∙ rw full

  -- One with full children.
  module _ (is : has_full_children t level i ≡ true) where
    full : Full t level i
    full = full-facts t level i is

    pub under-asked : EdgesIn t h.record_size h.settings.counted (level + 1)
    under-asked = record {
      header = k.tree.header.facts.long;
      level_low = omega (arith, full.above, k.tree.header.facts.bounds.levels_high);
      size_is = k.tree.header.size_is;
      size_few = (edges-asked t h level b i k).size_few;
      counted_is = k.tree.header.counted_is;
      counted_few = (edges-asked t h level b i k).counted_few;
    }

    children : (y : ℕ) → y < (at.settings t).arity
        → Part t k.tree.header.facts (linked-facts t k.tree.linked) level i k.block_in full y
    children = part t k.tree.header.facts (linked-facts t k.tree.linked) level i k.block_in full

    pub arity-some : 1 ≤ h.settings.arity
    arity-some = omega (arith, k.tree.header.arity_is, k.tree.header.facts.bounds.arity_low)

    first_in : at.link t level i < at.level_count t (level + 1)
    first_in = rw (add-zero (at.link t level i)) at (children 0 (omega (arith, k.tree.header.facts.bounds.arity_low))).block_in

    pub last_in : at.link t level i + (h.settings.arity - 1) < at.level_count t (level + 1)
    last_in = rw k.tree.header.arity_is
        (children ((at.settings t).arity - 1) (omega (arith, k.tree.header.facts.bounds.arity_low))).block_in

    pub last_fits : ((x : ℕ) → get_or t x 0 < 256) → (link : ℕ) → link ≡ at.link t level i → link + (h.settings.arity - 1) < 4294967296
    unfolding at.level_count
    last_fits bytes link e = omega (arith, last_in, word_at-lt t (count_at (level + 1)) bytes)

    room_of : (l x e : ℕ) → l < (at.settings t).levels → x < at.level_count t l → e ≡ at.edges_at t l x → e + (h.settings.leaf + h.settings.leaf) ≤ length t
    room_of l x e hl hx is =
        let ok = k.tree.header.facts in
        omega (arith, is, edges-inside t ok l x k.two hl hx, leaf-start-inside t ok, k.tree.header.leaf_is)

    module _ (link e f : ℕ) (link_is : link ≡ at.link t level i) (e-is : e ≡ at.edges_at t level i) (f-is : f ≡ at.edges_at t (level + 1) link) where
      abbrev leaf : ℕ
      leaf = h.settings.leaf

      pub first-room : (e + leaf ≤ length t) × (f + leaf ≤ length t)
      first-room = (
        omega (arith, room_of level i e k.on.level_in k.block_in e-is),
        omega (arith, room_of (level + 1) link f full.above (rw link_is first_in) f-is),
      )

      pub first-differs : same_list (substring t e leaf) (substring t f leaf) ≡ false → false ≡ child_edges t level i
      unfolding child_edges
      first-differs n =
          let z : same_list (substring t (at.edges_at t level i) (at.settings t).leaf)
          (substring t (at.edges_at t (level + 1) (at.link t level i)) (at.settings t).leaf) ≡ false =
          rw (e-is, f-is, link_is, k.tree.header.leaf_is) at n in
          rw z

      module _ (g : ℕ) (g-is : g ≡ at.edges_at t (level + 1) (link + (h.settings.arity - 1))) where
        pub last-room : (e + leaf + leaf ≤ length t) × (g + leaf + leaf ≤ length t)
        last-room = (
          omega (arith, room_of level i e k.on.level_in k.block_in e-is),
          omega (arith, room_of (level + 1) (link + (h.settings.arity - 1)) g full.above (rw link_is last_in) g-is),
        )

        pub last-compared : same_list (substring t e leaf) (substring t f leaf) ≡ true
            → (y : Bool) → y ≡ same_list (substring t (e + leaf) leaf) (substring t (g + leaf) leaf) → y ≡ child_edges t level i
        unfolding child_edges
        last-compared same y is =
            let z : same_list (substring t (at.edges_at t level i) (at.settings t).leaf)
            (substring t (at.edges_at t (level + 1) (at.link t level i)) (at.settings t).leaf) ≡ true =
            rw (e-is, f-is, link_is, k.tree.header.leaf_is) at same in
            rw (e-is, g-is, link_is, k.tree.header.leaf_is, k.tree.header.arity_is) at is ∙ rw z

-- A level, and all of them.
module _ (t : List ℕ) (h : Header) (k : Linking t h) where
  pub block-asks : at.layout t ≡ 2
      → (level b i : ℕ) → level < (at.settings t).levels → b ≡ at.full_length t level → i < at.level_count t level → Edged t h level b i
  block-asks two level b i hl hb hi = record {
    tree = k;
    two = two;
    on = record { facts = k.header.facts; size_is = k.header.size_is; level_in = hl; b_is = hb };
    block_in = hi;
  }

  module _ (level n : ℕ) (n-is : n ≡ at.level_count t level) where
    pub level-fails : (i : ℕ) → i < n → edges_local t level i ≡ false → false ≡ level_edges t level
    unfolding level_edges
    level-fails i l e = sym (all_below-not (at.level_count t level) (edges_local t level) i (omega arith) e)

    pub level_holds : (i : ℕ) → ((x : ℕ) → x < i → edges_local t level x ≡ true) → n ≤ i → true ≡ level_edges t level
    unfolding level_edges
    level_holds i f l = sym (all_below-make (at.level_count t level) (edges_local t level) (λ x hx. f x (omega arith)))

  exact : all_edges_of t ≡ edges_true (text_of t) t
  exact = edges-exact t k.header.passes k.linked

  pub plain-holds : (h.layout ≡ 2 → ⊥) → true ≡ edges_true (text_of t) t
  unfolding all_edges_of at.has_edges
  plain-holds other = rw (ne_eqb (at.layout t) 2 (λ e. other (k.header.layout_is ∙ e))) at exact

  module _ (two : h.layout ≡ 2) where
    pub is-two : at.layout t ≡ 2
    is-two = sym k.header.layout_is ∙ two

    pub all-fail : (l : ℕ) → l < h.settings.levels → level_edges t l ≡ false → false ≡ edges_true (text_of t) t
    unfolding all_edges_of at.has_edges
    all-fail l hl e =
        let none : all_below (at.settings t).levels (level_edges t) ≡ false =
        all_below-not (at.settings t).levels (level_edges t) l (omega (arith, k.header.levels_is)) e in
        rw (is-two, none) at exact

    pub all_hold : (l : ℕ) → ((x : ℕ) → x < l → level_edges t x ≡ true) → h.settings.levels ≤ l → true ≡ edges_true (text_of t) t
    unfolding all_edges_of at.has_edges
    all_hold l f hl =
        let all : all_below (at.settings t).levels (level_edges t) ≡ true =
        all_below-make (at.settings t).levels (level_edges t) (λ x hx. f x (omega (arith, k.header.levels_is))) in
        rw (is-two, all) at exact
