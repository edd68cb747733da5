-- The walk of a short span, step by step, from what was read to what it gives.
use mathlib.Core.List.{List, ◌++◌}
use mathlib.Core.Option.{Option, none, some}
use mathlib.Core.Bool.{Bool, true, false, ◌&&◌}
use mathlib.Core.Path.{◌≡◌, refl, sym, ap, ◌∙◌}
use mathlib.Core.Logic.{◌⊎◌, inl, inr}
use Prim.Native.Nat.{ℕ, ◌+◌, ◌-◌, ◌*◌, ◌^◌, ◌/◌, ◌%◌, ◌≤◌, ◌<◌}
use native.Mathlib.Omega.{arith}
use native.Mathlib.Nat.{add-mul}
use borrow.Author.Tests.{lt-ltb, le-ltb, le-leb, lt-leb, ltb-true, ltb-false}
use lib.Dec.{ltb}
use lib.ListN.{length, length-append}
use Rattle.text.specs.ListLaws.{lt-or-ge, and_left, and_right}
use Rattle.format.specs.Layout.{max_leaf, max_counted, field_bytes, word_at, leaf_at, counted_count_at}
use Rattle.format.specs.SizeLaws.{max_record}
use Rattle.format.specs.Layout as at
use Rattle.format.specs.TreeReading.{Visit, is_kept_block, target_block, target_place, Short, led, by_edges, in_one_leaf}
use Rattle.format.specs.LayoutLaws.{Readable, size-high, full-pos}
use Rattle.theory_edges.specs.SpanSteps as edges
use Rattle.theory_paths.specs.PlacesResolved.{target_first, target-second}
use Rattle.layout.specs.declared.place.BlockNumber.{BlockNumber}
use Rattle.layout.specs.declared.place.BlockPlace.{BlockPlace}
use Rattle.layout.specs.Record.{EdgesIn}
use Rattle.walk_steps.specs.declared.BlockKind.{BlockKind}
use Rattle.walk_steps.specs.declared.BlockKind.TheVariants as next
use Rattle.walk_steps.specs.declared.DivRem.{DivRem}
use Rattle.layout.specs.declared.fields.Shape.{Shape}
use Rattle.walk_steps.specs.Steps.{block_kind_at, OnLevel, Pointing}
use Rattle.layout.proofs.ShapeLaws.{Shapes}
use Rattle.walk_steps.proofs.StepLaws.{kept_in, pointing-gap}
use Rattle.walk_steps.proofs.NextLaws.{next-kept, next-points, next-off}
use Rattle.std.specs.Prelude.{Some, None}
use Rattle.std.specs.Prelude as prelude
use Rattle.walk_short.specs.declared.gather.Parts.{Parts}
use Rattle.walk_short.specs.declared.gather.SpanStep.{SpanStep}
use Rattle.walk_short.specs.declared.gather.SpanStep.TheVariants as step
use Rattle.walk_short.specs.Gathered.{gathered, packed, unpacked, down_to, pointed_to, span_step, Crossing}
use Rattle.walk_short.proofs.PackedLaws.{unpacked-is}

-- Blocks entered before are counted with those entered after.
pub gathered-led : (vs : List Visit) (n k : ℕ) (r : Option Short) → length vs ≡ k → gathered (n + k) r ≡ gathered n (led vs r)
unfolding gathered
gathered-led vs n k none e = refl
gathered-led vs n k (some q) e =
    let same : n + k + length q.visits ≡ n + length (vs ++ q.visits) = rw (length-append vs q.visits) (omega arith) in
    ap (λ (x : ℕ). Some (record { entered = x; from = q.from; size = q.size; next = q.next })) same

-- Over the end of a block.
module _ (t : List ℕ) (size level b o entered : ℕ) (k : Crossing t size level b o entered) where
  facts : Readable t
  facts = k.on.facts

  counted-word : word_at t counted_count_at ≡ at.counted_count t
  unfolding at.counted_count
  counted-word = refl

  pub leaf-word : (m : ℕ) → m ≡ word_at t leaf_at → m ≡ (at.settings t).leaf
  unfolding at.settings
  leaf-word m e = e

  -- What is left of the block is no more than an edge.
  pub leaf_few : (m : ℕ) → m ≡ word_at t leaf_at → (m ≤ max_leaf) × (b - o ≤ m)
  leaf_few m e = (omega (arith, leaf-word m e, facts.bounds.leaf_high), omega (arith, leaf-word m e, k.near))

  pub edges-asked : (counted : ℕ) → counted ≡ word_at t counted_count_at → EdgesIn t size counted level
  edges-asked counted e = record {
    header = facts.long;
    level_low = omega (arith, k.on.level_in, facts.bounds.levels_high);
    size_is = k.on.size_is;
    size_few = rw k.on.size_is (size-high t facts);
    counted_is = e ∙ counted-word;
    counted_few = rw (e ∙ counted-word) facts.bounds.counted_high;
  }

  pub over_none : (i : ℕ) → at.level_count t level ≤ i + 1 → None ≡ gathered entered (by_edges t level i o)
  unfolding gathered by_edges
  over_none i past = rw (le-ltb (i + 1) (at.level_count t level) past)

  edges-next : (i : ℕ) → at.edges_at t level (i + 1) ≡ at.edges_at t level i + at.record_size t
  unfolding at.edges_at
  edges-next i = omega (arith, add-mul i 1 (at.record_size t))

  pub over-at : (i e m : ℕ) → i + 1 < at.level_count t level → e ≡ at.edges_at t level i → m ≡ word_at t leaf_at
      → Some (record { entered = entered + 2; from = e + (m + m - (b - o)); size = b - o; next = e + size }) ≡ gathered entered (by_edges t level i o)
  unfolding gathered
  over-at i e m more is m-is =
      let next : e + size ≡ at.edges_at t level (i + 1) = omega (arith, edges-next i, k.on.size_is) in
      rw (edges.edges-give t level i o more, next, is, k.on.b_is, leaf-word m m-is)

  -- The number of blocks, of bytes in the last edge, and the place of the first of them are small.
  pub over-small : (m e : ℕ) → m ≡ word_at t leaf_at → e ≤ 2 ^ 32 * max_record + 2 ^ 32 + field_bytes max_counted
      → (entered + 2 < 32) × (b - o < 512) × (e + (m + m - (b - o)) < 281474976710656)
  over-small m e m-is few = (
    omega (arith, k.few, k.on.level_in, facts.bounds.levels_high),
    omega (arith, (leaf_few m m-is).0, (leaf_few m m-is).1),
    omega (arith, (leaf_few m m-is).0),
  )

  pub over-packed : (i e m : ℕ) → i + 1 < at.level_count t level → e ≡ at.edges_at t level i → m ≡ word_at t leaf_at
      → (x : ℕ) → x ≡ packed 1 (entered + 2) (b - o) (e + (m + m - (b - o))) → unpacked t x ≡ gathered entered (by_edges t level i o)
  over-packed i e m more is m-is x x-is =
      let f = e + (m + m - (b - o)) in
      let few = leaf_few m m-is in
      let next : f + (b - o) + at.record_size t - ((at.settings t).leaf + (at.settings t).leaf) ≡ e + size =
      omega (arith, few.1, leaf-word m m-is, k.on.size_is) in
      unpacked-is t 1 (entered + 2) (b - o) f x (omega arith) (omega (arith, k.few, k.on.level_in, facts.bounds.levels_high))
      (omega (arith, few.0, few.1)) x-is
      ∙ ap (λ (n : ℕ). Some (record { entered = entered + 2; from = f; size = b - o; next = n })) next ∙ over-at i e m more is m-is

-- A span in the leaf bytes.
module _ (t : List ℕ) (x : Shape)
    (k : Shapes t x) (level i o len entered link : ℕ) (kept : is_kept_block t level i ≡ true) (link_is : link ≡ at.link t level i) where
  pub leaf-past : x.leaf_count < link + o + len → None ≡ gathered entered (in_one_leaf t level i o len)
  unfolding gathered in_one_leaf
  leaf-past past =
      let far : at.leaf_count t < at.link t level i + o + len = omega (arith, k.count_is) in
      rw (kept, lt-leb (at.link t level i + o + len) (at.leaf_count t) far)

  pub leaf-at : link + o + len ≤ x.leaf_count
      → Some (record { entered = entered + 1; from = x.leaf_offset + (link + o); size = len; next = 0 }) ≡ gathered entered (in_one_leaf t level i o len)
  unfolding gathered in_one_leaf
  leaf-at near =
      let in_leaves : at.link t level i + o + len ≤ at.leaf_count t = omega (arith, k.count_is) in
      rw (kept, le-leb (at.link t level i + o + len) (at.leaf_count t) in_leaves, link_is, k.offset_is)

  pub leaf-packed : link + o + len ≤ x.leaf_count → entered + 1 < 32 → len < 512
      → (r : ℕ) → r ≡ packed 0 (entered + 1) len (x.leaf_offset + (link + o)) → unpacked t r ≡ gathered entered (in_one_leaf t level i o len)
  leaf-packed near few short r r-is = unpacked-is t 0 (entered + 1) len (x.leaf_offset + (link + o)) r (omega arith) few short r-is ∙ leaf-at near

pub leaf-none : (t : List ℕ) (level i o len entered : ℕ) → is_kept_block t level i ≡ false → None ≡ gathered entered (in_one_leaf t level i o len)
unfolding gathered in_one_leaf
leaf-none t level i o len entered un = rw un

-- The block of the last level that a span lies in.
module _ (t : List ℕ) (level i o len entered : ℕ) (x : BlockKind) (x-is : x ≡ block_kind_at t level i o) where
  pub last-kept : (j : BlockNumber) (p : BlockPlace) → x ≡ next.Kept j p → is_kept_block t level j.0 ≡ true
  last-kept j p e = let z = next-kept t level i o x x-is j p e in rw z.1 z.0

  pub last-by : (j : BlockNumber) (p : BlockPlace) → x ≡ next.Kept j p → (r : prelude.Option Parts) → r ≡ gathered entered (in_one_leaf t level j.0 p.0 len)
      → r ≡ gathered entered (in_one_leaf t level i o len)
  last-by j p e r r-is = let z = next-kept t level i o x x-is j p e in r-is ∙ rw (z.1, z.2)

  pub last-points : (j : BlockNumber) (p : BlockPlace) → x ≡ next.Points j p → None ≡ gathered entered (in_one_leaf t level i o len)
  last-points j p e = leaf-none t level i o len entered (next-points t level i o x x-is j p e).0

  pub last_off : x ≡ next.Off → None ≡ gathered entered (in_one_leaf t level i o len)
  last_off e = leaf-none t level i o len entered (next-off t level i o x x-is e).0

-- To the children.
pub down_is : (t : List ℕ) (level c i o n link : ℕ) → link ≡ at.link t level i
    → (part : DivRem) → part ≡ record { blocks = o / c; place = record { 0 = o % c } }
    → step.Down (record { 0 = link }) part.blocks part.place n ≡ down_to t level c i o n
unfolding down_to
down_is t level c i o n link e part part_is = rw (e, part_is)

-- The gap of a pointing block, and the length of a child.
pub gap_low : (t : List ℕ) (size level b i o : ℕ) → Pointing t size level b i o → (g : ℕ) → g ≡ at.gap t level i → g < b
gap_low t size level b i o k g e = omega (arith, pointing-gap t level i k.points, k.on.b_is)

pub child-pos : (t : List ℕ) (size level b : ℕ) → OnLevel t size level b → 0 < at.full_length t (level + 1)
child-pos t size level b on = full-pos t on.facts (level + 1)

-- A span that no border splits.
pub not-split : (b p len : ℕ) (r : Bool) → r ≡ (ltb p b && ltb b (p + len)) → r ≡ false → p < b → p + len ≤ b
not-split b p len r e f low = ltb-false b (p + len) (rw (lt-ltb p b low) at (sym e ∙ f))

pub split : (b p len : ℕ) (r : Bool) → r ≡ (ltb p b && ltb b (p + len)) → r ≡ true → (p < b) × (b < p + len)
split b p len r e f =
    (ltb-true p b (and_left (ltb p b) (ltb b (p + len)) (sym e ∙ f)), ltb-true b (p + len) (and_right (ltb p b) (ltb b (p + len)) (sym e ∙ f)))

-- The next step of a span from a pointing block.
module _ (t : List ℕ) (size level b c i o len : ℕ) (k : Pointing t size level b i o) (fits : o + len ≤ b) (c_is : c ≡ at.full_length t (level + 1))
    (link gap : ℕ) (link_is : link ≡ at.link t level i) (gap_is : gap ≡ at.gap t level i) where
  here : gap + o < b → (target_block t level i o ≡ at.link t level i) × (target_place t level i o ≡ gap + o)
  here low =
      let e = target_first t level i o (omega (arith, gap_is, k.on.b_is)) in
      (e.0, omega (arith, e.1, gap_is))

  pub pointed-over : gap + o < b → b < gap + o + len → step.Over (record { 0 = link }) (record { 0 = gap + o }) ≡ pointed_to t level i o len
  unfolding pointed_to
  pointed-over low past =
      let e = here low in
      let wide : at.full_length t level < target_place t level i o + len = omega (arith, e.1, k.on.b_is) in
      rw (lt-leb (target_place t level i o + len) (at.full_length t level) wide, e.0, e.1, link_is)

  -- The span is inside the target.
  module _ (gap_low : gap < b) (inside : gap + o < b → gap + o + len ≤ b) where
    in-target : target_place t level i o + len ≤ at.full_length t level
    in-target = go (lt-or-ge (gap + o) b)
      where
        go : (gap + o < b) ⊎ (b ≤ gap + o) → target_place t level i o + len ≤ at.full_length t level
        go (inl low) = omega (arith, (here low).1, inside low, k.on.b_is)
        go (inr high) = omega (arith, (target-second t level i o (omega (arith, gap_is, k.on.b_is))).1, gap_is, gap_low, fits, k.on.b_is)

    module _ (x : BlockKind) (x-is : x ≡ block_kind_at t level (target_block t level i o) (target_place t level i o)) where
      pub pointed-in : (j : BlockNumber) (p : BlockPlace)
          → x ≡ next.Kept j p → (r : SpanStep) → r ≡ down_to t level c j.0 p.0 2 → r ≡ pointed_to t level i o len
      unfolding pointed_to
      pointed-in j p e r r-is =
          let z = next-kept t level (target_block t level i o) (target_place t level i o) x x-is j p e in
          r-is ∙ rw (le-leb (target_place t level i o + len) (at.full_length t level) in-target, z.0, c_is, z.1, z.2)

      off : is_kept_block t level (target_block t level i o) ≡ false → step.Off ≡ pointed_to t level i o len
      unfolding pointed_to
      off un = rw (le-leb (target_place t level i o + len) (at.full_length t level) in-target, un)

      pub pointed-twice : (j : BlockNumber) (p : BlockPlace) → x ≡ next.Points j p → step.Off ≡ pointed_to t level i o len
      pointed-twice j p e = off (next-points t level (target_block t level i o) (target_place t level i o) x x-is j p e).0

      pub pointed-off : x ≡ next.Off → step.Off ≡ pointed_to t level i o len
      pointed-off e = off (next-off t level (target_block t level i o) (target_place t level i o) x x-is e).0

      pub target_in : (j : BlockNumber) (p : BlockPlace) → x ≡ next.Kept j p → j.0 < at.level_count t level
      target_in j p e =
          let z = next-kept t level (target_block t level i o) (target_place t level i o) x x-is j p e in
          rw z.1 (kept_in t level (target_block t level i o) z.0)

-- The step of a span in a block above the last level.
module _ (t : List ℕ) (level c i o len : ℕ) (c_is : c ≡ at.full_length t (level + 1)) (x : BlockKind) (x-is : x ≡ block_kind_at t level i o) where
  pub step_kept : (j : BlockNumber) (p : BlockPlace) → x ≡ next.Kept j p → (r : SpanStep) → r ≡ down_to t level c j.0 p.0 1 → r ≡ span_step t level i o len
  unfolding span_step
  step_kept j p e r r-is =
      let z = next-kept t level i o x x-is j p e in
      r-is ∙ rw (z.0, c_is, z.1, z.2)

  pub step-points : (j : BlockNumber) (p : BlockPlace)
      → x ≡ next.Points j p → (r : SpanStep) → r ≡ pointed_to t level j.0 p.0 len → r ≡ span_step t level i o len
  unfolding span_step
  step-points j p e r r-is =
      let z = next-points t level i o x x-is j p e in
      r-is ∙ rw (z.0, z.1, z.2, z.3)

  pub step-off : x ≡ next.Off → step.Off ≡ span_step t level i o len
  unfolding span_step
  step-off e = let z = next-off t level i o x x-is e in rw (z.0, z.1)

  pub kept_there : (j : BlockNumber) (p : BlockPlace) → x ≡ next.Kept j p → j.0 < at.level_count t level
  kept_there j p e = let z = next-kept t level i o x x-is j p e in rw z.1 (kept_in t level i z.0)

  pub points-there : (size b : ℕ)
      → OnLevel t size level b → o < b → (j : BlockNumber) (p : BlockPlace) → x ≡ next.Points j p → Pointing t size level b j.0 p.0
  points-there size b on low j p e =
      let z = next-points t level i o x x-is j p e in
      rw (z.2, z.3) (record { on = on; place-in = low; points = z.1 })

  pub points-place : (j : BlockNumber) (p : BlockPlace) → x ≡ next.Points j p → p.0 ≡ o
  points-place j p e = (next-points t level i o x x-is j p e).3
