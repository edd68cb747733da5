-- The end of a path among the leaf bytes, from the walk down to the last level; and the blocks that continue it.
use mathlib.Core.List.{List, [], ◌∷◌, ◌++◌}
use mathlib.Core.Option.{none, some}
use mathlib.Core.Bool.{Bool, true, false, ◌&&◌}
use mathlib.Core.Logic.{◌⊎◌, inl, inr}
use mathlib.Core.Path.{◌≡◌, refl, sym, ap, ◌∙◌}
use Prim.Native.Nat.{ℕ, ◌+◌, ◌-◌, ◌*◌, ◌/◌, ◌%◌, ◌≤◌, ◌<◌, min}
use native.Mathlib.Omega.{arith}
use native.Mathlib.Nat.{div-eq_of_lt, mod-eq_of_lt, one-mul, add-mul}
use borrow.Author.Tests.{lt-ltb, le-ltb, ne_eqb, eqb-true}
use lib.Arith.{digits_div, digits_mod}
use lib.Dec.{eqb}
use lib.ListN.{length, get_or}
use Rattle.text.specs.ListLaws.{lt-or-ge, and_left, and_right}
use Rattle.format.specs.Layout.{max_text, plain_words}
use Rattle.format.specs.Layout as at
use Rattle.format.specs.LayoutLaws.{full-last}
use Rattle.format.specs.TreeReading.{Path, Visit, visit, entered, is_kept_block, path_from, path_of}
use Rattle.format.specs.Answers.{refused, byte_answer, byte_of, left_over}
use Rattle.theory_paths.specs.PlaceBytes.{byte-path}
use Rattle.theory_paths.specs.Visits.{goes, goes-short}
use Rattle.theory_paths.specs.PlacesResolved.{from_last}
use Rattle.theory_paths.specs.Shift.{further, length-further, left-most, left-in-blocks}
use Rattle.theory_paths.specs.Reads.{byte-of-path}
use Rattle.walk_steps.proofs.StepLaws.{kept_in}
use Rattle.layout.specs.declared.header.Header.{Header}
use Rattle.layout.specs.HeaderFields.{HeaderOf}
use Rattle.layout.specs.Record.{FieldIn, field_in}
use Rattle.walk_path.specs.declared.PathEnd.{PathEnd}
use Rattle.std.specs.Prelude.{Some, None}
use Rattle.std.specs.Prelude as prelude
use Rattle.walk_path.specs.Above.{Above, above_of, through_last}
use Rattle.walk_path.specs.Walk.{walked}
use Rattle.walk_path.proofs.EndLaws.{PathEnds, ends, path-broken}
use Rattle.walk_path.proofs.WalkLaws.{from-last-points, from-no-leaf}
use Rattle.walk_path.proofs.AlongLaws.{path-of-above, above_place, above-block, above-along, shifted}
use Rattle.walk_ranges.specs.declared.leaf_end.LeafEnd.{LeafEnd}
use Rattle.walk_ranges.specs.LeafEnds.{last_level, EndsIn, LeafEndAt, Joined}

-- A block of the last level.
module _ (t : List ℕ) (l i : ℕ) where
  pub kept_by : (k : ℕ) → k ≡ at.kind t l i → k ≡ 0 → i < at.level_count t l → is_kept_block t l i ≡ true
  unfolding is_kept_block at.is_kept
  kept_by k k_is z there = rw (lt-ltb _ _ there, ← k_is, z)

  pub unkept-by : (k : ℕ) → k ≡ at.kind t l i → (k ≡ 0 → ⊥) → i < at.level_count t l → is_kept_block t l i ≡ false
  unfolding is_kept_block at.is_kept
  unkept-by k k_is z there = rw (lt-ltb _ _ there, ← k_is, ne_eqb k 0 z)

  pub unkept-past : at.level_count t l ≤ i → is_kept_block t l i ≡ false
  unfolding is_kept_block
  unkept-past past = rw (le-ltb _ _ past)

-- The last level, by the header.
module _ (t : List ℕ) (h : Header) (k : HeaderOf t h) where
  pub last_is : h.settings.levels - 1 ≡ last_level t
  last_is = ap (λ (n : ℕ). n - 1) k.levels_is

  pub last-field : (i f : ℕ) → i < at.level_count t (last_level t) → f < plain_words → FieldIn t h.record_size (h.settings.levels - 1) i f
  last-field i f there small =
      rw last_is (field_in t k.facts h.record_size (last_level t) i f k.size_is (omega (arith, k.facts.bounds.levels_low)) there (omega arith))

  module _ (i kind : ℕ) (kind_is : kind ≡ at.kind t (h.settings.levels - 1) i) (there : i < at.level_count t (last_level t)) where
    pub last-kept : kind ≡ 0 → is_kept_block t (last_level t) i ≡ true
    last-kept z = kept_by t (last_level t) i kind (kind_is ∙ ap (λ (l : ℕ). at.kind t l i) last_is) z there

    pub last-unkept : (kind ≡ 0 → ⊥) → is_kept_block t (last_level t) i ≡ false
    last-unkept z = unkept-by t (last_level t) i kind (kind_is ∙ ap (λ (l : ℕ). at.kind t l i) last_is) z there

  pub last-link : (i link : ℕ) → link ≡ at.link t (h.settings.levels - 1) i → link ≡ at.link t (last_level t) i
  last-link i link e = e ∙ ap (λ (l : ℕ). at.link t l i) last_is

  -- The answer of `follows`.
  module _ (i leaf count : ℕ) (count_is : count ≡ at.level_count t (h.settings.levels - 1)) where
    pub in_table : i < count → i < at.level_count t (last_level t)
    in_table less = omega (arith, ap (at.level_count t) last_is)

    pub follows-past : count ≤ i → false ≡ (is_kept_block t (last_level t) i && eqb (at.link t (last_level t) i) leaf)
    follows-past past = rw (unkept-past t (last_level t) i (omega (arith, ap (at.level_count t) last_is)))

  pub follows-none : (i leaf : ℕ) → is_kept_block t (last_level t) i ≡ false → false ≡ (is_kept_block t (last_level t) i && eqb (at.link t (last_level t) i) leaf)
  follows-none i leaf un = rw un

  pub follows-link : (i leaf : ℕ) → is_kept_block t (last_level t) i ≡ true → (link : ℕ) → link ≡ at.link t (h.settings.levels - 1) i
      → eqb link leaf ≡ (is_kept_block t (last_level t) i && eqb (at.link t (last_level t) i) leaf)
  follows-link i leaf kept link link_is = rw (kept, last-link i link link_is)

length-append-one : (vs : List Visit) (v : Visit) → length (vs ++ (v ∷ [])) ≡ length vs + 1
length-append-one [] v = omega arith
length-append-one (u ∷ vs) v = omega (arith, length-append-one vs v)

-- The last step from a block and a place that are known by other figures.
module _ (t : List ℕ) (a : Above) (i o : ℕ) (i-is : a.block ≡ i) (o_is : a.place ≡ o) where
  through-some : through_last t (some a) ≡ entered a.visits (path_from t 0 (last_level t) i o)
  unfolding through_last
  through-some = rw (← i-is, ← o_is)

  through-kept : is_kept_block t (last_level t) i ≡ true → (x : ℕ) → at.link t (last_level t) i + o ≡ x → x < at.leaf_count t
      → through_last t (some a) ≡ some (record { visits = a.visits ++ (visit (last_level t) i o ∷ []); leaf = x })
  through-kept kept x x-is small = through-some ∙ rw (from_last t (last_level t) i o kept (omega arith), x-is)

-- The walk to the last level, and the last step.
module _ (t : List ℕ) (p : ℕ) (h : Header) (k : HeaderOf t h) (low : p < h.text_length) where
  low-text : p < at.text_length t
  low-text = omega (arith, k.length_is)

  refused-14 : path_of t p ≡ none → byte_answer t p ≡ refused 14
  refused-14 e = byte-path t k.passes p low-text ∙ ap (byte_of t) e

  module _ (w : prelude.Option PathEnd) (w-is : w ≡ walked t (record { entered = 0; left = h.text_length - p }) (above_of t p)) where
    pub end-broken : w ≡ None → byte_answer t p ≡ refused 14
    unfolding through_last
    end-broken b =
        let z = path-broken t (record { entered = 0; left = h.text_length - p }) (above_of t p) (sym b ∙ w-is) in
        refused-14 (path-of-above t k.facts p ∙ rw z)

    module _ (r : PathEnd) (e : w ≡ Some r) where
      pub end-walk : PathEnds t (record { entered = 0; left = h.text_length - p }) (above_of t p) r
      end-walk = ends t (record { entered = 0; left = h.text_length - p }) (above_of t p) r (sym e ∙ w-is)

      pub end-there : r.block.0 < at.level_count t (last_level t)
      end-there = rw end-walk.block_is (above-block t k.facts p end-walk.above end-walk.is)

      end-path : path_of t p ≡ entered end-walk.above.visits (path_from t 0 (last_level t) r.block.0 r.place.0)
      end-path =
          path-of-above t k.facts p ∙ ap (through_last t) end-walk.is
          ∙ through-some t end-walk.above r.block.0 r.place.0 (sym end-walk.block_is) (sym end-walk.place_is)

      pub end-unkept : is_kept_block t (last_level t) r.block.0 ≡ false → byte_answer t p ≡ refused 14
      end-unkept un = refused-14 (end-path ∙ rw (from-last-points t (last_level t) r.block.0 r.place.0 un))

      pub end-past : is_kept_block t (last_level t) r.block.0 ≡ true → at.leaf_count t ≤ at.link t (last_level t) r.block.0 + r.place.0
          → byte_answer t p ≡ refused 14
      end-past kept past = refused-14 (end-path ∙ rw (from-no-leaf t (last_level t) r.block.0 r.place.0 past kept))

      pub end-place : r.place.0 < (at.settings t).leaf
      end-place = omega (arith, above_place t k.facts p end-walk.above end-walk.is, end-walk.place_is, full-last t k.facts)

      pub end-few : is_kept_block t (last_level t) r.block.0 ≡ true → at.link t (last_level t) r.block.0 + r.place.0 < at.leaf_count t
          → r.state.entered + 1 < 4294967296
      unfolding path_of
      end-few kept small =
          let vs = end-walk.above.visits ++ (visit (last_level t) r.block.0 r.place.0 ∷ []) in
          let q : Path = record { visits = vs; leaf = at.link t (last_level t) r.block.0 + r.place.0 } in
          let is : path_of t p ≡ some q = end-path ∙ rw (from_last t (last_level t) r.block.0 r.place.0 kept small) in
          let few = goes-short t (goes t (last_level t) 0 (p / at.full_length t 0) (p % at.full_length t 0) q is) in
          omega (
            arith,
            end-walk.entered_is,
            length-append-one end-walk.above.visits (visit (last_level t) r.block.0 r.place.0),
            k.facts.bounds.levels_high,
          )

      pub end-reached : is_kept_block t (last_level t) r.block.0 ≡ true
          → (leaf : ℕ) → leaf ≡ at.link t (last_level t) r.block.0 + r.place.0 → leaf < at.leaf_count t
          → LeafEndAt t p (record { block = r.block; place = r.place; leaf = leaf; left = r.state.left; entered = r.state.entered + 1 })
      end-reached kept leaf leaf_is leaf-in = record {
        ends_in = record { kept = kept; place-in = end-place; leaf_is = leaf_is; leaf-in = leaf-in };
        above = end-walk.above;
        is = end-walk.is;
        block_is = end-walk.block_is;
        place_is = end-walk.place_is;
        left_is = end-walk.left_is ∙ ap (λ (n : ℕ). left_over t end-walk.above.visits (n - p)) k.length_is;
        entered_is = omega (arith, end-walk.entered_is);
      }

      -- The same, with the kind as it was read from the block.
      module _ (kind : ℕ) (kind_is : kind ≡ at.kind t (h.settings.levels - 1) r.block.0) where
        pub end-other : (kind ≡ 0 → ⊥) → byte_answer t p ≡ refused 14
        end-other z = end-unkept (last-unkept t h k r.block.0 kind kind_is end-there z)

        module _ (z : kind ≡ 0) (link leaf : ℕ) (link_is : link ≡ at.link t (h.settings.levels - 1) r.block.0) (leaf_is : leaf ≡ link + r.place.0) where
          is-kept : is_kept_block t (last_level t) r.block.0 ≡ true
          is-kept = last-kept t h k r.block.0 kind kind_is end-there z

          is_leaf : leaf ≡ at.link t (last_level t) r.block.0 + r.place.0
          is_leaf = omega (arith, last-link t h k r.block.0 link link_is)

          pub end-no-leaf : h.leaf_count ≤ leaf → byte_answer t p ≡ refused 14
          end-no-leaf past = end-past is-kept (omega (arith, is_leaf, k.count_is))

          pub end-entered-fits : leaf < h.leaf_count → r.state.entered + 1 < 4294967296
          end-entered-fits low-leaf = end-few is-kept (omega (arith, is_leaf, k.count_is))

          pub end-found : leaf < h.leaf_count
              → LeafEndAt t p (record { block = r.block; place = r.place; leaf = leaf; left = r.state.left; entered = r.state.entered + 1 })
          end-found low-leaf = end-reached is-kept leaf is_leaf (omega (arith, k.count_is))

-- Block after block.

module _ (t : List ℕ) (h : Header) (k : HeaderOf t h) (r : LeafEnd) (e : EndsIn t r) where
  abbrev m : ℕ
  m = (at.settings t).leaf

  -- The first block.
  pub join_first : (n : ℕ) → n ≡ h.settings.leaf - r.place.0 → Joined t r n
  join_first n n-is =
      let l = last_level t in record {
        some_byte = omega (arith, e.place-in, k.leaf_is);
        kept = λ x less. (let z : (r.place.0 + x) / m ≡ 0 = div-eq_of_lt (omega (arith, k.leaf_is)) in
            let y : r.block.0 + 0 ≡ r.block.0 = omega arith in rw (z, y) e.kept);
        leaf = λ x less. (let z : (r.place.0 + x) / m ≡ 0 = div-eq_of_lt (omega (arith, k.leaf_is)) in
            let o : (r.place.0 + x) % m ≡ r.place.0 + x = mod-eq_of_lt (omega (arith, k.leaf_is)) in
            let y : r.block.0 + 0 ≡ r.block.0 = omega arith in rw (z, y, o) (omega (arith, e.leaf_is)));
      }

  -- One more.
  pub join-next : (n i : ℕ) → r.block.0 < i → Joined t r n → n + r.place.0 ≡ (i - r.block.0) * m
      → (f : Bool) → f ≡ (is_kept_block t (last_level t) i && eqb (at.link t (last_level t) i) (r.leaf + n)) → f ≡ true → Joined t r (n + m)
  join-next n i after j whole f f-is true-is = record {
    some_byte = omega (arith, j.some_byte);
    kept = λ x less. kept_at x less (lt-or-ge x n);
    leaf = λ x less. leaf-at x less (lt-or-ge x n);
  }
    where
      c : ℕ
      c = i - r.block.0

      is-next : r.block.0 + c ≡ i
      is-next = omega arith

      next : (is_kept_block t (last_level t) i && eqb (at.link t (last_level t) i) (r.leaf + n)) ≡ true
      next = sym f-is ∙ true-is

      kept_at : (x : ℕ) → x < n + m → (x < n) ⊎ (n ≤ x) → is_kept_block t (last_level t) (r.block.0 + (r.place.0 + x) / m) ≡ true
      kept_at x less (inl old) = j.kept x old
      kept_at x less (inr new) =
          let s : r.place.0 + x ≡ c * m + (x - n) = omega arith in
          let z : (r.place.0 + x) / m ≡ c = ap (λ (y : ℕ). y / m) s ∙ digits_div c (omega arith) in
          rw (z, is-next) (and_left (is_kept_block t (last_level t) i) (eqb (at.link t (last_level t) i) (r.leaf + n)) next)

      leaf-at : (x : ℕ) → x < n + m → (x < n) ⊎ (n ≤ x)
          → at.link t (last_level t) (r.block.0 + (r.place.0 + x) / m) + (r.place.0 + x) % m ≡ r.leaf + x
      leaf-at x less (inl old) = j.leaf x old
      leaf-at x less (inr new) =
          let s : r.place.0 + x ≡ c * m + (x - n) = omega arith in
          let z : (r.place.0 + x) / m ≡ c = ap (λ (y : ℕ). y / m) s ∙ digits_div c (omega arith) in
          let o : (r.place.0 + x) % m ≡ x - n = ap (λ (y : ℕ). y % m) s ∙ digits_mod c (omega arith) in
          let first : at.link t (last_level t) i ≡ r.leaf + n =
          eqb-true _ _ (and_right (is_kept_block t (last_level t) i) (eqb (at.link t (last_level t) i) (r.leaf + n)) next) in
          rw (z, o, is-next) (omega arith)

-- A number that grows by w with each block from block i on.
pub steps-one : (i w : ℕ) → (i + 1 - i) * w ≡ w
steps-one i w =
    let s : i + 1 - i ≡ 1 = omega arith in
    rw s (one-mul w)

pub steps-more : (i next w : ℕ) → i ≤ next → (next + 1 - i) * w ≡ (next - i) * w + w
steps-more i next w after =
    let s : next + 1 - i ≡ next - i + 1 = omega arith in
    rw s (omega (arith, add-mul (next - i) 1 w, one-mul w))

-- byte's answers from an end on

left-append : (t : List ℕ) (vs : List Visit) (v : Visit) (most : ℕ)
    → left_over t (vs ++ (v ∷ [])) most ≡ min (left_over t vs most) (at.full_length t v.level - v.place)
unfolding left_over
left-append t [] v most = refl
left-append t (u ∷ vs) v most = left-append t vs v (min most (at.full_length t u.level - u.place))

-- A bound that is put in at the start may as well be put in at the end.
pub left-min : (t : List ℕ) (vs : List Visit) (a c : ℕ) → left_over t vs (min a c) ≡ min (left_over t vs a) c
unfolding left_over
left-min t [] a c = refl
left-min t (v ∷ vs) a c =
    let x = at.full_length t v.level - v.place in
    let e : min (min a c) x ≡ min (min a x) c = omega arith in
    rw e (left-min t vs (min a x) c)

same_block : (i j o p d c m : ℕ) → j ≡ i → p ≡ o → c ≡ m → i + (o + d) / c ≡ j + (p + d) / m
same_block i j o p d c m a b e = rw (a, b, e)

same_place : (o p d c m : ℕ) → p ≡ o → c ≡ m → (o + d) % c ≡ (p + d) % m
same_place o p d c m a e = rw (a, e)

module _ (t : List ℕ) (p : ℕ) (h : Header) (k : HeaderOf t h) (r : LeafEnd) (e : LeafEndAt t p r) where
  -- The path itself.
  pub end_is : path_of t p ≡ some (record { visits = e.above.visits ++ (visit (last_level t) r.block.0 r.place.0 ∷ []); leaf = r.leaf })
  end_is =
      path-of-above t k.facts p ∙ ap (through_last t) e.is
      ∙ through-kept t e.above r.block.0 r.place.0 (sym e.block_is) (sym e.place_is) e.ends_in.kept r.leaf (sym e.ends_in.leaf_is)
      e.ends_in.leaf-in

  pub end-left : (most : ℕ) → left_over t (e.above.visits ++ (visit (last_level t) r.block.0 r.place.0 ∷ [])) most
      ≡ min (left_over t e.above.visits most) ((at.settings t).leaf - r.place.0)
  end-left most =
      left-append t e.above.visits (visit (last_level t) r.block.0 r.place.0) most
      ∙ ap (λ (n : ℕ). min (left_over t e.above.visits most) (n - r.place.0)) (full-last t k.facts)

  pub end-left-small : r.left ≤ max_text
  end-left-small = rw e.left_is (omega (arith, left-most t e.above.visits (at.text_length t - p), k.facts.bounds.text_high))

  pub end-entered : length (e.above.visits ++ (visit (last_level t) r.block.0 r.place.0 ∷ [])) ≡ r.entered
  end-entered = length-append-one e.above.visits (visit (last_level t) r.block.0 r.place.0) ∙ sym e.entered_is

  -- A place further on, within the blocks above and within the blocks that continue the last one.
  module _ (n : ℕ) (j : Joined t r n) (d : ℕ) (less : d < n) (within : d < r.left) (in_tree : r.leaf + d < at.leaf_count t) where
    abbrev joined_block : ℕ
    joined_block = r.block.0 + (r.place.0 + d) / (at.settings t).leaf

    abbrev joined_place : ℕ
    joined_place = (r.place.0 + d) % (at.settings t).leaf

    joined-path : path_of t (p + d)
        ≡ some (record { visits = further d e.above.visits ++ (visit (last_level t) joined_block joined_place ∷ []); leaf = r.leaf + d })
    joined-path =
        let full = full-last t k.facts in
        let w = left-in-blocks t e.above.visits (at.text_length t - p) d (omega (arith, e.left_is)) in
        let i = same_block e.above.block r.block.0 e.above.place r.place.0 d _ _ e.block_is e.place_is full in
        let o = same_place e.above.place r.place.0 d _ _ e.place_is full in
        let kept = j.kept d less in
        let there = kept_in t (last_level t) joined_block kept in
        let on = above-along t k.facts p d e.above e.is w (rw i there) in
        path-of-above t k.facts (p + d) ∙ ap (through_last t) on
        ∙ through-kept t (shifted t (last_level t) d e.above) joined_block joined_place i o kept (r.leaf + d) (j.leaf d less) in_tree

    pub joined-answers : p < at.text_length t → (from : ℕ) → from ≡ at.leaf_offset t + r.leaf
        → byte_answer t (p + d) ≡ record { number = 0; value = get_or t (from + d) 0; entered = r.entered }
    unfolding at.leaf_byte
    joined-answers low from from_is =
        let in_text : p + d < at.text_length t = omega (arith, left-most t e.above.visits (at.text_length t - p), e.left_is) in
        let start : at.leaf_offset t + (r.leaf + d) ≡ from + d = omega arith in
        let blocks : length (further d e.above.visits ++ (visit (last_level t) joined_block joined_place ∷ [])) ≡ r.entered =
        length-append-one (further d e.above.visits) (visit (last_level t) joined_block joined_place)
        ∙ omega (arith, length-further d e.above.visits, e.entered_is) in
        byte-of-path t k.facts k.passes (p + d) in_text _ joined-path ∙ rw (blocks, start)
