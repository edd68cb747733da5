-- The steps of a path, from what was read to what they give.
use mathlib.Core.List.{List}
use mathlib.Core.Bool.{true, cond, ◌&&◌}
use mathlib.Core.Logic.{◌⊎◌, inl, inr}
use mathlib.Core.Path.{◌≡◌, ap, ◌∙◌}
use Prim.Native.Nat.{ℕ, ◌+◌, ◌-◌, ◌*◌, ◌/◌, ◌%◌, ◌≤◌, ◌<◌, min}
use native.Mathlib.Omega.{arith}
use native.Mathlib.Nat.{add-zero, zero-mul, one-mul, div-add-mod'}
use lib.Dec.{ltb}
use borrow.Author.Tests.{ltb-true, lt-ltb, le-ltb, eq-eqb, ne_eqb}
use Rattle.text.specs.ListLaws.{lt-or-ge, and_left, and_right, and-false}
use Rattle.format.specs.Layout.{max_text, plain_words}
use Rattle.format.specs.Layout as at
use Rattle.format.specs.TreeReading.{is_kept_block, pointing_block, target_block, target_place}
use Rattle.format.specs.LayoutLaws.{full-pos, full-small, level0-holds}
use Rattle.theory_paths.specs.PlacesResolved.{target_first, target-second}
use Rattle.layout.specs.Record.{FieldIn, field_in}
use Rattle.layout.specs.declared.place.BlockNumber.{BlockNumber}
use Rattle.layout.specs.declared.place.BlockPlace.{BlockPlace}
use Rattle.walk_steps.specs.declared.position.BlockPosition.{BlockPosition}
use Rattle.walk_steps.specs.declared.DivRem.{DivRem}
use Rattle.walk_steps.specs.declared.BlockKind.{BlockKind}
use Rattle.walk_steps.specs.declared.BlockKind.TheVariants.{Kept, Points, Off}
use Rattle.std.specs.Prelude as prelude
use Rattle.std.specs.Prelude.{Some, None}
use Rattle.walk_steps.proofs.NextLaws.{next-kept, next-points, next-off}
use Rattle.walk_steps.specs.Steps.{OnLevel, InTable, Pointing, block_kind_at, child_at, resolved_target}

-- The first four fields of a block of a table can be read.
pub field-there : (t : List ℕ) (size level b i f : ℕ) → OnLevel t size level b → i < at.level_count t level → f < plain_words → FieldIn t size level i f
field-there t size level b i f on hi hf = field_in t on.facts size level i f on.size_is on.level_in hi (omega arith)

module _ (t : List ℕ) (size level b : ℕ) (on : OnLevel t size level b) where
  pub b-pos : 0 < b
  b-pos = rw on.b_is (full-pos t on.facts level)

  pub b-small : b ≤ max_text
  b-small = rw on.b_is (full-small t on.facts level)

  -- A block past the table.
  pub classify-past : (i o : ℕ) → at.level_count t level ≤ i → Off ≡ block_kind_at t level i o
  unfolding block_kind_at is_kept_block pointing_block
  classify-past i o p = rw (le-ltb i (at.level_count t level) p)

-- What the kind and the gap of a block in the table imply.
module _ (t : List ℕ) (size level b i o k : ℕ) (there : InTable t size level b i) (k_is : k ≡ at.kind t level i) where
  pub classify-kept : k ≡ 0 → Kept (record { 0 = i }) (record { 0 = o }) ≡ block_kind_at t level i o
  unfolding block_kind_at is_kept_block at.is_kept
  classify-kept z = rw (lt-ltb _ _ there.block_in, ← k_is, z)

  pub classify-other : (k ≡ 0 → ⊥) → (k ≡ 1 → ⊥) → Off ≡ block_kind_at t level i o
  unfolding block_kind_at is_kept_block at.is_kept pointing_block at.is_pointing
  classify-other z n = rw (lt-ltb _ _ there.block_in, ← k_is, ne_eqb k 0 z, ne_eqb k 1 n)

  module _ (g : ℕ) (g-is : g ≡ at.gap t level i) (z : k ≡ 0 → ⊥) (one : k ≡ 1) where
    pub classify-points : g < b → Points (record { 0 = i }) (record { 0 = o }) ≡ block_kind_at t level i o
    unfolding block_kind_at is_kept_block at.is_kept pointing_block at.is_pointing
    classify-points s = rw (lt-ltb _ _ there.block_in, ← k_is, ne_eqb k 0 z, eq-eqb k 1 one, ← g-is, ← there.on.b_is, lt-ltb g b s)

    pub classify-wide : b ≤ g → Off ≡ block_kind_at t level i o
    unfolding block_kind_at is_kept_block at.is_kept pointing_block at.is_pointing
    classify-wide s = rw (lt-ltb _ _ there.block_in, ← k_is, ne_eqb k 0 z, eq-eqb k 1 one, ← g-is, ← there.on.b_is, le-ltb g b s)

-- The block of level 0 that holds a place is in its table.
pub first-there : (t : List ℕ) (size b p : ℕ) → OnLevel t size 0 b → p < at.text_length t → p / b < at.level_count t 0
first-there t size b p on small = rw on.b_is (level0-holds t on.facts p small)

-- What it means that a block is kept, or that it points.
module _ (t : List ℕ) (level i : ℕ) where
  pub kept_in : is_kept_block t level i ≡ true → i < at.level_count t level
  unfolding is_kept_block
  kept_in k = ltb-true _ _ (and_left (ltb i (at.level_count t level)) (at.is_kept t level i) k)

  pub pointing-in : pointing_block t level i ≡ true → i < at.level_count t level
  unfolding pointing_block
  pointing-in k =
      let within = ltb i (at.level_count t level) in
      let points = at.is_pointing t level i in
      ltb-true _ _ (and_left within points (and_left (within && points) (ltb (at.gap t level i) (at.full_length t level)) k))

  pub pointing-gap : pointing_block t level i ≡ true → at.gap t level i < at.full_length t level
  unfolding pointing_block
  pointing-gap k = ltb-true _ _ (and_right (ltb i (at.level_count t level) && at.is_pointing t level i) (ltb (at.gap t level i) (at.full_length t level)) k)

-- The link of a kept block whose children's level is known.
pub link-there : (t : List ℕ) (size level b i : ℕ) → OnLevel t size (level + 1) b → i < at.level_count t level → FieldIn t size level i 2
link-there t size level b i on hi = field_in t on.facts size level i 2 on.size_is (omega (arith, on.level_in)) hi (omega arith)

module _ (t : List ℕ) (size level b i o : ℕ) (s : Pointing t size level b i o) where
  pub pointing-there : (f : ℕ) → f < plain_words → FieldIn t size level i f
  pointing-there f hf = field-there t size level b i f s.on (pointing-in t level i s.points) hf

  -- Gap + place is below twice the block length.
  pub sum-small : (g : ℕ) → g ≡ at.gap t level i → g + o < (2 * max_text)
  sum-small g e = omega (arith, pointing-gap t level i s.points, s.on.b_is, s.place-in, b-small t size level b s.on)

  module _ (k g : ℕ) (k_is : k ≡ at.link t level i) (g-is : g ≡ at.gap t level i) (r : BlockKind) where
    target-here : g + o < b → r ≡ block_kind_at t level (k + 0) (g + o) → r ≡ block_kind_at t level (target_block t level i o) (target_place t level i o)
    target-here small e =
        let z = target_first t level i o (omega (arith, s.on.b_is)) in
        e ∙ rw (z.0, z.1, k_is, g-is, add-zero)

    target-next : b ≤ g + o → r ≡ block_kind_at t level (k + 1) (g + o - b) → r ≡ block_kind_at t level (target_block t level i o) (target_place t level i o)
    target-next large e =
        let z = target-second t level i o (omega (arith, s.on.b_is)) in
        e ∙ rw (z.0, z.1, k_is, g-is, s.on.b_is)

    pub target-by : (over : ℕ) → over ≡ cond (ltb (g + o) b) 0 1 → r ≡ block_kind_at t level (k + over) (g + o - over * b)
        → r ≡ block_kind_at t level (target_block t level i o) (target_place t level i o)
    target-by over over-is e = go (lt-or-ge (g + o) b)
      where
        go : (g + o < b) ⊎ (b ≤ g + o) → r ≡ block_kind_at t level (target_block t level i o) (target_place t level i o)
        go (inl small) =
            let z : over ≡ 0 = over-is ∙ rw (lt-ltb (g + o) b small) in
            let p : g + o - over * b ≡ g + o = omega (arith, z, zero-mul b, ap (λ (x : ℕ). x * b) z) in
            target-here small (e ∙ ap (block_kind_at t level (k + over)) p ∙ ap (λ (x : ℕ). block_kind_at t level (k + x) (g + o)) z)
        go (inr large) =
            let z : over ≡ 1 = over-is ∙ rw (le-ltb (g + o) b large) in
            let p : g + o - over * b ≡ g + o - b = omega (arith, one-mul b, ap (λ (x : ℕ). x * b) z) in
            target-next large (e ∙ ap (block_kind_at t level (k + over)) p ∙ ap (λ (x : ℕ). block_kind_at t level (k + x) (g + o - b)) z)

-- A block's length.

module _ (t : List ℕ) (size level b i start n : ℕ) (k : InTable t size level b i) (start_is : start ≡ at.start t level i) (n-is : n ≡ at.text_length t) where
  pub length_is : (r : ℕ) → (r ≡ min b (n - start)) × (r ≤ b) → (r ≡ at.block_length_at t level i) × (r ≤ b)
  unfolding at.block_length_at
  length_is r e = (e.0 ∙ rw (k.on.b_is, start_is, n-is), e.1)

-- A position by its parts.
abbrev pub located : BlockNumber → BlockPlace → prelude.Option BlockPosition
located i o = Some (record { block = i; place = o })

-- The part of a place.
pub rest_is : (x b q : ℕ) → q ≡ x / b → (q * b ≤ x) × (x - q * b ≡ x % b)
rest_is x b q e =
    let d : x / b * b + x % b ≡ x = div-add-mod' x b in
    let f : q * b ≡ x / b * b = ap (λ (y : ℕ). y * b) e in
    (omega arith, omega arith)

-- The child that contains a place.
module _ (t : List ℕ) (l k link count o b : ℕ)
    (x : DivRem) (link_is : link ≡ k) (count_is : count ≡ at.level_count t l) (x-is : x ≡ record { blocks = o / b; place = record { 0 = o % b } }) where
  blocks-are : x.blocks ≡ o / b
  blocks-are = ap (λ (y : DivRem). y.blocks) x-is

  pub child-past : count ≤ link + x.blocks → None ≡ child_at t l (k + o / b) (o % b)
  unfolding child_at
  child-past high = rw (le-ltb (k + o / b) (at.level_count t l) (omega (arith, link_is, blocks-are, count_is)))

  pub child-there : (q : BlockPlace)
      → q ≡ x.place → link + x.blocks < count → located (record { 0 = link + x.blocks }) q ≡ child_at t l (k + o / b) (o % b)
  unfolding child_at
  child-there q q-is low =
      let f : q ≡ record { 0 = o % b } = q-is ∙ ap (λ (y : DivRem). y.place) x-is in
      let z : k + o / b < at.level_count t l = omega (arith, link_is, blocks-are, count_is) in
      rw (lt-ltb (k + o / b) (at.level_count t l) z, f, link_is, blocks-are)

-- The kept block that a place refers to.
module _ (t : List ℕ) (l i o : ℕ) where
  pub resolved-last : (at.settings t).levels ≤ l + 1 → None ≡ resolved_target t l i o
  unfolding resolved_target
  resolved-last last = rw (le-ltb _ _ last)

  module _ (x : BlockKind) (x-is : x ≡ block_kind_at t l (target_block t l i o) (target_place t l i o)) where
    pub resolved-kept : (j : BlockNumber) (p : BlockPlace) → l + 1 < (at.settings t).levels → x ≡ Kept j p → located j p ≡ resolved_target t l i o
    unfolding resolved_target
    resolved-kept j p more e =
        let z = next-kept t l (target_block t l i o) (target_place t l i o) x x-is j p e in
        rw (lt-ltb _ _ more, z.0) (rw (z.1, z.2))

    pub resolved-points : (j : BlockNumber) (p : BlockPlace) → x ≡ Points j p → None ≡ resolved_target t l i o
    unfolding resolved_target
    resolved-points j p e = rw ((next-points t l (target_block t l i o) (target_place t l i o) x x-is j p e).0, and-false (ltb (l + 1) (at.settings t).levels))

    pub resolved-off : x ≡ Off → None ≡ resolved_target t l i o
    unfolding resolved_target
    resolved-off e = rw ((next-off t l (target_block t l i o) (target_place t l i o) x x-is e).0, and-false (ltb (l + 1) (at.settings t).levels))

-- The part of a place.
pub part_is : (x b q : ℕ)
    → q ≡ x / b → ◌≡◌ {A = DivRem} (record { blocks = q; place = record { 0 = x - q * b } }) (record { blocks = x / b; place = record { 0 = x % b } })
part_is x b q e = rw ((rest_is x b q e).1, e)

pub top-position-is : (x b q : ℕ) → q ≡ x / b
    → ◌≡◌ {A = BlockPosition} (record { block = record { 0 = q }; place = record { 0 = x - q * b } })
    (record { block = record { 0 = x / b }; place = record { 0 = x % b } })
top-position-is x b q e = rw ((rest_is x b q e).1, e)
