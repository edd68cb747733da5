-- The way to the j-th byte on an accepted tree: each step has a block to go to, and lands on the place.
use mathlib.Core.List.{List}
use mathlib.Core.Bool.{Bool, true, false, cond}
use mathlib.Core.Path.{◌≡◌, refl, sym, ap, ◌∙◌}
use mathlib.Core.Logic.{◌⊎◌, inl, inr}
use Prim.Native.Nat.{ℕ, ◌+◌, ◌-◌, ◌*◌, ◌/◌, ◌≤◌, ◌<◌}
use native.Mathlib.Omega.{arith}
use native.Mathlib.Nat.{zero-mul}
use borrow.Author.Tests.{lt-ltb, ne_eqb}
use lib.ListN.{length, get_or}
use lib.Dec.{ltb}
use Rattle.text.specs.ListLaws.{bool_cases, bool_clash, and_right}
use Rattle.text.specs.Text.{substring, count_in}
use Rattle.format.specs.Layout.{pieces, max_text, counted_at}
use Rattle.format.specs.PieceLaws.{pieces-start, lt-pieces}
use Rattle.format.specs.LayoutLaws.{Readable, header-facts, full-pos}
use Rattle.query_counted.proofs.NamedLaws.{name-at}
use Rattle.format.specs.CheckResultLaws.{accepted-header, accepted-links}
use Rattle.format.specs.Layout as at
use Rattle.format.specs.TreeReading.{is_kept_block, pointing_block, check_result}
use Rattle.theory_paths.specs.Links.{H, N, s, len, Linked, linked-facts}
use Rattle.theory_paths.specs.Links as links
use Rattle.theory_paths.specs.BlockStarts.{len-small, len-pos}
use Rattle.theory_paths.specs.PlacesResolved.{kept_block, pointing-block}
use Rattle.layout.specs.declared.place.BlockNumber.{BlockNumber}
use Rattle.layout.specs.declared.place.BlockPlace.{BlockPlace}
use Rattle.walk_steps.specs.declared.BlockKind.{BlockKind}
use Rattle.walk_steps.specs.declared.BlockKind.TheVariants as next
use Rattle.walk_steps.specs.Steps.{OnLevel, InTable, block_kind_at}
use Rattle.layout.specs.declared.fields.Shape.{Shape}
use Rattle.walk_steps.proofs.NextLaws.{pointing-not-kept, level-below, next-kept, next-points, next-off}
use Rattle.layout.proofs.ShapeLaws.{Shapes}
use Rattle.walk_steps.proofs.StepLaws.{kept_in, pointing-in, pointing-gap, b-small, b-pos}
use Rattle.theory_counts.specs.LevelTrue.{Level, tally}
use Rattle.theory_counts.specs.CountsLocal.{byte_of, in_leaf_bytes}
use Rattle.theory_counts.specs.CountedSubstrings.{leaves-end, leaves-tally}
use Rattle.theory_counts.specs.Finds as finds
use Rattle.theory_counts.specs.Theorems as demands
use Rattle.query_select.specs.declared.seek.CountField.{CountField}
use Rattle.std.proofs.Common.{Option, Some, None}
use Rattle.query_select.specs.declared.seek.Target.{Target}
use Rattle.query_select.specs.declared.seek.Landing.{Landing}
use Rattle.byte_slices.specs.ByteSlices.{HasBytes}
use Rattle.query_select.specs.Seeks.{entering, KeptIn, PointsIn, Siblings, LastBefore, Chosen, ChildWith, Aimed, target_at}
use Rattle.query_select.specs.Seeks.{TargetWith, Seeking, Landed, FoundIn, HandedTo, HandsOn}
use Rattle.query_select.proofs.SeekLaws.{last-here}

-- Accepted trees.

module _ (t : List ℕ) (v : check_result t ≡ 0) where
  abbrev pub k : Readable t
  k = header-facts t (accepted-header t v)

  abbrev pub d : Linked t
  d = linked-facts t (accepted-links t v)

  abbrev pub a : (m : ℕ) → m < H t → Level t m
  a = demands.levels t v

  -- Every block is kept or points.
  pub one_of : (l i : ℕ) → l < H t → i < N t l → (is_kept_block t l i ≡ true) ⊎ (pointing_block t l i ≡ true)
  one_of l i hl hi = go (bool_cases (at.is_kept t l i))
    where
      go : (at.is_kept t l i ≡ true) ⊎ (at.is_kept t l i ≡ false) → (is_kept_block t l i ≡ true) ⊎ (pointing_block t l i ≡ true)
      go (inl kept) = inl (kept_block t l i hi kept)
      go (inr un) = inr (pointing-block t l i hi (d.points l i hl hi un))

  module _ (c : ℕ) (hc : c < at.counted_count t) where
    -- The children of a kept block are there.
    module _ (l i : ℕ) (hl : l + 1 < H t) (hi : i < N t l) (kept : at.is_kept t l i ≡ true) where
      pub some-child : 0 < pieces (len t l i) (at.full_length t (l + 1))
      some-child =
          let pos = full-pos t k (l + 1) in
          lt-pieces (len t l i) (at.full_length t (l + 1)) 0 pos (omega (arith, zero-mul (at.full_length t (l + 1)), len-pos t k d l i (omega arith) hi))

      pub children-end : at.link t l i + pieces (len t l i) (at.full_length t (l + 1)) ≤ N t (l + 1)
      children-end =
          let w = pieces (len t l i) (at.full_length t (l + 1)) in
          omega (arith, finds.child-in t k d a c hc l i hl hi kept (w - 1) (omega (arith, some-child)), some-child)

      pub first-none : at.before t (l + 1) (at.link t l i) c ≡ 0
      first-none =
          let e : at.link t l i + 0 ≡ at.link t l i = omega arith in
          rw e at (finds.first-before t k d a c hc l i hl hi kept some-child)

is-kept : (t : List ℕ) (l i : ℕ) → is_kept_block t l i ≡ true → at.is_kept t l i ≡ true
unfolding is_kept_block
is-kept t l i h = and_right (ltb i (N t l)) (at.is_kept t l i) h

-- The child that is chosen.

-- A kept block, with the number of its first child and how many children it has.
pub record Family (t : List ℕ) (field : CountField) (level b i below j link count : ℕ) : Type 0 where
  pub kept : KeptIn t field.size level b i
  pub lower : OnLevel t field.size (level + 1) below
  pub number_in : field.number < at.counted_count t
  pub low : 1 ≤ j
  pub link_is : link ≡ at.link t level i
  pub count_is : count ≡ pieces (at.block_length_at t level i) below

module _ (t : List ℕ) (field : CountField) (level b i below j link count : ℕ) (f : Family t field level b i below j link count) where
  abbrev c : ℕ
  c = field.number

  hi : i < N t level
  hi = kept_in t level i f.kept.kept

  nothing : (check_result t ≡ 0 → ⊥) → ChildWith t c level i below j None
  nothing never = record { chosen = λ x e. absurd (let z : ◌≡◌ {A = ℕ} 0 1 = cc in omega arith); off = λ e. never }

  pub child-past : at.level_count t (level + 1) < link + count → ChildWith t c level i below j None
  child-past past = nothing (λ v. (let e = children-end t v c f.number_in level i f.lower.level_in hi (is-kept t level i f.kept.kept) in
      let g = rw (← f.lower.b_is, ← f.count_is, ← f.link_is) at e in omega arith))

  pub child-none : count ≡ 0 → ChildWith t c level i below j None
  child-none none = nothing (λ v. (let e = some-child t v c f.number_in level i f.lower.level_in hi (is-kept t level i f.kept.kept) in
      let g = rw (← f.lower.b_is, ← f.count_is) at e in omega arith))

  pub siblings : link + count ≤ at.level_count t (level + 1) → (count ≡ 0 → ⊥) → Siblings t field (level + 1) link (link + count)
  siblings end some = record {
    facts = f.lower.facts;
    size_is = f.lower.size_is;
    level_in = f.lower.level_in;
    number_in = f.number_in;
    present = omega (arith, some);
    end_in = end;
  }

  module _ (x : ℕ) (end : link + count ≤ at.level_count t (level + 1)) (last : LastBefore t c (level + 1) link (link + count) j x) where
    pub child-there : InTable t field.size (level + 1) below x
    child-there = record { on = f.lower; block_in = omega (arith, last.high) }

    pub alone : Siblings t field (level + 1) x (x + 1)
    alone = record {
      facts = f.lower.facts;
      size_is = f.lower.size_is;
      level_in = f.lower.level_in;
      number_in = f.number_in;
      present = omega arith;
      end_in = omega (arith, last.high);
    }

    pub child-place : (x - link) * below < at.block_length_at t level i
    child-place =
        let pos = b-pos t field.size (level + 1) below f.lower in
        pieces-start (at.block_length_at t level i) below (x - link) (omega (arith, last.low, last.high, f.count_is)) pos

    pub child-place-small : (x - link) * below < max_text
    child-place-small = omega (arith, child-place, len-small t level i, f.kept.on.b_is, b-small t field.size level b f.kept.on)

    module _ (rest : ℕ) (rest_is : rest ≡ j - at.before t (level + 1) x c) where
      pub child-without : rest ≡ 0 → ChildWith t c level i below j None
      child-without none = nothing (λ v. (let low = last-here t c (level + 1) link (link + count) j x last
          (rw f.link_is (omega (arith, f.low, first-none t v c f.number_in level i f.lower.level_in hi (is-kept t level i f.kept.kept)))) in
          omega arith))

      chosen : (rest ≡ 0 → ⊥) → Chosen t c level i below j x ((x - link) * below) rest
      chosen some = record {
        link_low = omega (arith, last.low, f.link_is);
        within = omega (arith, last.low, last.high, f.link_is, f.count_is);
        in_table = omega (arith, last.high);
        place_is = rw f.link_is;
        place_low = omega (arith, child-place-small);
        before_low = omega (arith, some);
        rest_is = rest_is;
        next = λ m. last.next (omega (arith, last.low, f.link_is, f.count_is));
      }

      pub child-chosen : (n : BlockNumber) → n.0 ≡ x → (rest ≡ 0 → ⊥)
          → ChildWith t c level i below j (Some (record { block = n; start = record { 0 = (x - link) * below }; rest = rest }))
      child-chosen n n-is some = record {
        chosen = λ y e. (let z : (record { block = n; start = record { 0 = (x - link) * below }; rest = rest }) ≡ y = cc in
            rw (← z, n-is) (chosen some));
        off = λ e. absurd (let z : ◌≡◌ {A = ℕ} 0 1 = cc in omega arith);
      }

-- The target that is chosen.

case-target : (kept : Bool) (i f r : ℕ) (x : Target)
    → cond kept (Some (record { block = record { 0 = i }; forward = record { 0 = f }; rest = r })) None ≡ Some x
    → (kept ≡ true) × (x.block.0 ≡ i) × (x.forward.0 ≡ f) × (x.rest ≡ r)
case-target true i f r x e =
    let y : (record { block = record { 0 = i }; forward = record { 0 = f }; rest = r }) ≡ x = cc in
    (refl, sym (ap (λ (n : Target). n.block.0) y), sym (ap (λ (n : Target). n.forward.0) y), sym (ap (λ (n : Target). n.rest) y))
case-target false i f r x e = absurd (let z : ◌≡◌ {A = ℕ} 0 1 = cc in omega arith)

case-no-target : (kept : Bool) (x : Target) → cond kept (Some x) None ≡ None → kept ≡ true → ⊥
case-no-target true x e k = let z : ◌≡◌ {A = ℕ} 0 1 = cc in omega arith
case-no-target false x e k = bool_clash false k refl

pub target_kept : (t : List ℕ) (level i f r kind : ℕ)
    → i < N t level → kind ≡ at.kind t level i → kind ≡ 0
    → Some (record { block = record { 0 = i }; forward = record { 0 = f }; rest = r }) ≡ target_at t level i f r
unfolding target_at is_kept_block at.is_kept
target_kept t level i f r kind hi is z = rw (lt-ltb _ _ hi, ← is, z)

pub target-other : (t : List ℕ) (level i f r kind : ℕ) → i < N t level → kind ≡ at.kind t level i → (kind ≡ 0 → ⊥) → None ≡ target_at t level i f r
unfolding target_at is_kept_block at.is_kept
target-other t level i f r kind hi is z = rw (lt-ltb _ _ hi, ← is, ne_eqb kind 0 z)

not-kept : (t : List ℕ) (l i : ℕ) → pointing_block t l i ≡ true → at.is_kept t l i ≡ false
not-kept t l i p = go (bool_cases (at.is_kept t l i))
  where
    go : (at.is_kept t l i ≡ true) ⊎ (at.is_kept t l i ≡ false) → at.is_kept t l i ≡ false
    go (inl kept) = bool_clash (is_kept_block t l i) (kept_block t l i (pointing-in t l i p) kept) (pointing-not-kept t l i p)
    go (inr un) = un

module _ (t : List ℕ) (size c level b i j link : ℕ)
    (p : PointsIn t size level b i) (hc : c < at.counted_count t) (low : 1 ≤ j) (link_is : link ≡ at.link t level i) where
  at_block : i < N t level
  at_block = pointing-in t level i p.points

  no-aim : (check_result t ≡ 0 → j ≤ at.inside t level i c → ⊥) → TargetWith t c level i b j None
  no-aim never = record { kept = λ x e. absurd (let z : ◌≡◌ {A = ℕ} 0 1 = cc in omega arith); off = λ e. never }

  module _ (v : check_result t ≡ 0) where
    points-at : links.Pointing t level i
    points-at = (d t v).points level i p.on.level_in at_block (not-kept t level i p.points)

  pub aim-past : at.level_count t level ≤ link → TargetWith t c level i b j None
  aim-past past = no-aim (λ v high. omega (arith, (points-at v).target_below))

  module _ (skip inside rank : ℕ) (skip_is : skip ≡ at.skip t level i c)
      (skip-small : skip ≤ 4294967295) (inside_is : inside ≡ at.inside t level link c) (rank_is : rank ≡ j + skip) where
    inside-link : inside ≡ at.inside t level (at.link t level i) c
    inside-link = rw link_is at inside_is

    pub aim-first : (r : Option Target) → rank ≤ inside → r ≡ target_at t level link 0 rank → TargetWith t c level i b j r
    unfolding target_at
    aim-first r within r-is = record {
      kept = λ x e.
          (let z = case-target (is_kept_block t level link) link 0 rank x (sym r-is ∙ e) in
          let same : x.block.0 ≡ link = z.1 in
          let kept : is_kept_block t level x.block.0 ≡ true = rw same z.0 in
          record {
            kept = kept;
            rest_low = omega (arith, z.3);
            rest_high = omega (arith, z.3);
            forward_low = omega (arith, z.2);
            either = inl (same ∙ link_is, z.2, z.3 ∙ rank_is ∙ ap (λ (n : ℕ). j + n) skip_is, omega (arith, z.3, inside-link));
          });
      off = λ e v high.
          case-no-target (is_kept_block t level link) _ (sym r-is ∙ e)
          (rw link_is (kept_block t level (at.link t level i) (points-at v).target_below (points-at v).target_kept));
    }

    module _ (past : inside < rank) where
      follows : (v : check_result t ≡ 0) → j ≤ at.inside t level i c → links.Follows t level (at.link t level i)
      follows v high =
          (finds.second_holds t (k t v)
          (d t v) (a t v) c hc level i j p.on.level_in at_block (not-kept t level i p.points) low high (omega (arith, inside-link))).0

      pub aim-no-second : link < at.level_count t level → at.level_count t level - link ≡ 1 → TargetWith t c level i b j None
      aim-no-second within one = no-aim (λ v high. omega (arith, (follows v high).below))

      pub aim-second : (r : Option Target) → r ≡ target_at t level (link + 1) b (rank - inside) → TargetWith t c level i b j r
      unfolding target_at
      aim-second r r-is = record {
        kept = λ x e.
            (let z = case-target (is_kept_block t level (link + 1)) (link + 1) b (rank - inside) x (sym r-is ∙ e) in
            let same : x.block.0 ≡ link + 1 = z.1 in
            let kept : is_kept_block t level x.block.0 ≡ true = rw same z.0 in
            record {
              kept = kept;
              rest_low = omega (arith, z.3);
              rest_high = omega (arith, z.3);
              forward_low = omega (arith, z.2);
              either = inr (omega (arith, same), z.2, omega (arith, inside-link), omega (arith, z.3, inside-link));
            });
        off = λ e v high.
            case-no-target (is_kept_block t level (link + 1)) _ (sym r-is ∙ e)
            (rw link_is (kept_block t level (at.link t level i + 1) (follows v high).below (follows v high).kept));
      }

-- The leaf bytes.

-- The counted byte that is read in the header.
pub named-byte : (t : List ℕ) (c : ℕ) → Readable t → c < at.counted_count t → get_or t (counted_at + c) 0 ≡ byte_of t c
unfolding byte_of
named-byte t c k hc = sym (name-at t (at.counted_count t) c (record { long = k.long; k_is = refl; k_low = k.bounds.counted_high }) hc)

module _ (t : List ℕ) (c level i j way : ℕ) where
  pub not_found : (r : ℕ) → (check_result t ≡ 0 → c < at.counted_count t → j ≤ at.inside t level i c → ⊥) → FoundIn t c level i j way r
  not_found r never = record { right = λ v hc high. absurd (never v hc high) }

module _ (t : List ℕ) (size c level b i j way link n offset count : ℕ) (kept : KeptIn t size level b i) (bottom : level + 1 ≡ H t)
    (link_is : link ≡ at.link t level i) (n-is : (n ≡ at.block_length_at t level i) × (n ≤ b))
    (offset_is : offset ≡ at.leaf_offset t) (count_is : count ≡ at.leaf_count t) where
  leaf-block : i < N t level
  leaf-block = kept_in t level i kept.kept

  pub leaf-past : (r : ℕ) → count < link + n → FoundIn t c level i j way r
  leaf-past r past = not_found t
      c level i j way r (λ v hc high. omega (arith, leaves-end t (k t v) (d t v) level i bottom leaf-block, n-is.0))

  pub leaf_room : link + n ≤ count → offset + link + n ≤ length t
  leaf_room within = omega (arith, kept.on.facts.size)

  module _ (byte : ℕ) (byte_is : byte ≡ byte_of t c) (r : ℕ) (z : HasBytes t (offset + link) n byte j r) where
    same-substring : (x : ℕ) → count_in byte (substring t (offset + link) x) ≡ in_leaf_bytes t level i x c
    unfolding in_leaf_bytes
    same-substring x = rw (offset_is, link_is, byte_is)

    pub leaf-fewer : (w : ℕ) → n ≤ r → FoundIn t c level i j way w
    unfolding tally
    leaf-fewer w past = not_found t c level i j way w (λ v hc high.
        (let e = leaves-tally t (k t v) (d t v) level i (len t level i) c bottom leaf-block (omega arith) in
        let f = (a t v level (omega (arith, bottom)) i c leaf-block hc).inside_is in
        let g : count_in byte (substring t (offset + link) n) ≡ in_leaf_bytes t level i (len t level i) c = same-substring n ∙ rw n-is.0 in
        omega (arith, z.fewer past)))

    pub leaf-found : (w : ℕ) → r < n → w ≡ entering way r 0 → FoundIn t c level i j way w
    unfolding at.leaf_byte entering
    leaf-found w within w-is = record {
      right = λ v hc high. record {
        place = r;
        entered = 1;
        is = omega arith;
        lands =
            let byte_at : get_or t (at.leaf_offset t + (at.link t level i + r)) 0 ≡ byte_of t c =
            (let e : offset + link + r ≡ at.leaf_offset t + (at.link t level i + r) = omega arith in
            rw e at (z.here within).0 ∙ byte_is) in
            finds.lands-leaf t (k t v) (d t v) (a t v) c hc level i j r bottom leaf-block (omega (arith, n-is.0)) byte_at
            (ap (λ (y : ℕ). y + 1) (sym (same-substring r)) ∙ (z.here within).1);
      };
    }

-- The way carried down.

lands-same : (t : List ℕ) (v : check_result t ≡ 0) (c : ℕ) (hc : c < at.counted_count t) (l x y n m o e : ℕ) → x ≡ y → n ≡ m
    → finds.Lands t (k t v) (d t v) (a t v) c hc l x n o e → finds.Lands t (k t v) (d t v) (a t v) c hc l y m o e
lands-same t v c hc l x y n m o e p q z = rw (← p, ← q) z

-- The level of a block's children.
pub lower-level : (t : List ℕ) (size level b below : ℕ) (x : Shape) → OnLevel t size level b → Shapes t x
    → (level + 1 ≡ x.levels → ⊥) → below ≡ b / x.arity → OnLevel t size (level + 1) below
lower-level t size level b below x on s more e =
    rw (e, s.arity_is) (level-below t size level b on (λ last. more (last ∙ sym s.levels_is)))

-- From a kept block to a child.
module _ (t : List ℕ) (field : CountField) (level b i j way : ℕ) (kept : KeptIn t field.size level b i)
    (seeks : Seeking t field level b j way (2 * level + 1)) where
  pub no-child : (r : ℕ) → (check_result t ≡ 0 → ⊥) → FoundIn t field.number level i j way r
  no-child r never = not_found t field.number level i j way r (λ v hc high. never v)

module _ (t : List ℕ) (field : CountField) (level b i j way below : ℕ) (kept : KeptIn t field.size level b i)
    (seeks : Seeking t field level b j way (2 * level + 1)) (lower : OnLevel t field.size (level + 1) below) where
  abbrev c₁ : ℕ
  c₁ = field.number

  module _ (x o rest further : ℕ) (ch : Chosen t c₁ level i below j x o rest) (further-is : further ≡ entering way o 0) where
    pub to-child : Seeking t field (level + 1) below rest further (2 * (level + 1))
    unfolding entering
    to-child = record {
      on = lower;
      number_in = seeks.number_in;
      low = omega (arith, ch.rest_is, ch.before_low);
      few = omega (arith, ch.rest_is, seeks.few);
      near = omega (arith, seeks.near, ch.place_low);
    }

    pub by-child : (r : ℕ) → FoundIn t c₁ (level + 1) x rest further r → FoundIn t c₁ level i j way r
    unfolding entering
    by-child r f = record { right = λ v hc high. go v hc high }
      where
        go : (v : check_result t ≡ 0) (hc : c₁ < at.counted_count t) → j ≤ at.inside t level i c₁ → Landed t v c₁ hc level i j way r
        go v hc high =
            let n = x - at.link t level i in
            let hi = kept_in t level i kept.kept in
            let k₁ = is-kept t level i kept.kept in
            let hl = lower.level_in in
            let e : at.link t level i + n ≡ x = omega (arith, ch.link_low) in
            let e₁ : at.link t level i + (n + 1) ≡ x + 1 = omega (arith, ch.link_low) in
            let within : n < pieces (len t level i) (at.full_length t (level + 1)) = rw lower.b_is at ch.within in
            let next : n + 1 < pieces (len t level i) (at.full_length t (level + 1)) → j ≤ at.before t (level + 1) (at.link t level i + (n + 1)) c₁ =
            λ q. rw e₁ (ch.next (rw lower.b_is q)) in
            let holds : j ≤ at.before t (level + 1) x c₁ + at.inside t (level + 1) x c₁ =
            rw e at (finds.child-holds t (k t v) (d t v) (a t v) c₁ hc level i hl hi k₁ n j within high next) in
            let z = f.right v hc (omega (arith, ch.rest_is, ch.before_low)) in
            let q = z.place in
            let lands : finds.Lands t (k t v)
            (d t v) (a t v) c₁ hc (level + 1) (at.link t level i + n) (j - at.before t (level + 1) (at.link t level i + n) c₁) q z.entered =
            lands-same t v c₁ hc (level + 1) x (at.link t level i + n)
            rest (j - at.before t (level + 1) (at.link t level i + n) c₁) q z.entered (sym e) (rw e ch.rest_is) z.lands in
            let low : at.before t (level + 1) (at.link t level i + n) c₁ < j = rw e ch.before_low in
            let place : o ≡ n * at.full_length t (level + 1) = ch.place_is ∙ rw lower.b_is in record {
              place = n * at.full_length t (level + 1) + q;
              entered = z.entered + 1;
              is = way_on (n * at.full_length t (level + 1)) q z.entered z.is place;
              lands = finds.lands-child t (k t v) (d t v) (a t v) c₁ hc level i n j q z.entered hl hi k₁ within low lands;
            }
          where
            way_on : (p q e : ℕ) → r ≡ further + e * 281474976710656 + q → o ≡ p → r ≡ way + (e + 1) * 281474976710656 + (p + q)
            way_on p q e h s = omega (arith, further-is)

-- From a block to the kept block that it hands its j-th byte to.
module _ (t : List ℕ) (field : CountField) (level b i j way : ℕ) where
  hands-off : (check_result t ≡ 0 → j ≤ at.inside t level i field.number → ⊥) → HandsOn t field level b i j way None
  hands-off never = record { to = λ x e. absurd (let z : ◌≡◌ {A = ℕ} 0 1 = cc in omega arith); off = λ e. never }

  hands_to : (x : BlockNumber) (rest further : ℕ)
      → HandedTo t field level b i j way x.0 rest further → HandsOn t field level b i j way (Some (record { block = x; rest = rest; way = further }))
  hands_to x rest further h = record {
    to = λ y e. (let f : (record { block = x; rest = rest; way = further }) ≡ y = cc in rw (← f) h);
    off = λ e. absurd (let z : ◌≡◌ {A = ℕ} 0 1 = cc in omega arith);
  }

-- From a pointing block to its target.
module _ (t : List ℕ) (field : CountField) (level b i j way : ℕ) (points : PointsIn t field.size level b i)
    (seeks : Seeking t field level b j way (2 * level)) where
  abbrev c₂ : ℕ
  c₂ = field.number

  pub last-points : level + 1 ≡ H t → HandsOn t field level b i j way None
  last-points last = hands-off t field level b i j way (λ v high.
      omega (arith, (points-at t field.size c₂ level b i j (at.link t level i) points seeks.number_in seeks.low refl v).above))

  pub gap_small : (gap : ℕ) → gap ≡ at.gap t level i → gap ≤ max_text
  gap_small gap e = omega (arith, pointing-gap t level i points.points, points.on.b_is, b-small t field.size level b points.on)

  module _ (x forward rest gap further : ℕ)
      (am : Aimed t c₂ level i b j x forward rest) (gap_is : gap ≡ at.gap t level i) (further-is : further ≡ entering way forward gap) where
    to-aimed : Seeking t field level b rest further (2 * level + 1)
    unfolding entering
    to-aimed = record {
      on = points.on;
      number_in = seeks.number_in;
      low = am.rest_low;
      few = omega (arith, seeks.few, am.rest_high);
      near = omega (arith, seeks.near, am.forward_low, b-small t field.size level b points.on);
    }

    by-aimed : (r : ℕ) → FoundIn t c₂ level x rest further r → FoundIn t c₂ level i j way r
    unfolding entering
    by-aimed r f = record { right = λ v hc high. go v hc high am.either }
      where
        way_on : (q e : ℕ) → r ≡ further + e * 281474976710656 + q → gap ≤ forward + q → r ≡ way + (e + 1) * 281474976710656 + (forward + q - gap)
        way_on q e h low = omega (arith, further-is, gap_small gap gap_is)

        go : (v : check_result t ≡ 0) (hc : c₂ < at.counted_count t) → j ≤ at.inside t level i c₂
            → ((x ≡ at.link t level i)
            × (forward ≡ 0) × (rest ≡ j + at.skip t level i c₂) × (rest ≤ at.inside t level (at.link t level i) c₂))
            ⊎ ((x ≡ at.link t level i + 1) × (forward ≡ b) × (at.inside t level (at.link t level i) c₂ < j + at.skip t level i c₂)
            × (rest ≡ j + at.skip t level i c₂ - at.inside t level (at.link t level i) c₂))
            → Landed t v c₂ hc level i j way r
        go v hc high (inl s) =
            let hi = pointing-in t level i points.points in
            let un = not-kept t level i points.points in
            let most-here : rest ≤ at.inside t level x c₂ = rw s.0 s.3 in
            let z = f.right v hc most-here in
            let q = z.place in
            let lands : finds.Lands t (k t v) (d t v) (a t v) c₂ hc level (at.link t level i) (j + at.skip t level i c₂) q z.entered =
            lands-same t v c₂ hc level x (at.link t level i) rest (j + at.skip t level i c₂) q z.entered s.0 s.2 z.lands in
            let got = finds.lands-first
            t (k t v) (d t v) (a t v) c₂ hc level i j points.on.level_in hi un seeks.low high q z.entered lands in
            let same : forward + q - gap ≡ q - at.gap t level i = omega (arith, s.1) in record {
              place = q - at.gap t level i;
              entered = z.entered + 1;
              is = rw (← same) (way_on q z.entered z.is (omega (arith, got.0, s.1)));
              lands = got.1;
            }
        go v hc high (inr s) =
            let hi = pointing-in t level i points.points in
            let un = not-kept t level i points.points in
            let second = finds.second_holds t (k t v) (d t v) (a t v) c₂ hc level i j points.on.level_in hi un seeks.low high s.2 in
            let most-here : rest ≤ at.inside t level x c₂ = rw (s.0, s.3) second.1 in
            let z = f.right v hc most-here in
            let q = z.place in
            let lands : finds.Lands t (k t v) (d t v)
            (a t v) c₂ hc level (at.link t level i + 1) (j + at.skip t level i c₂ - at.inside t level (at.link t level i) c₂) q z.entered =
            lands-same t v c₂ hc level x (at.link t level i + 1)
            rest (j + at.skip t level i c₂ - at.inside t level (at.link t level i) c₂) q z.entered s.0 s.3 z.lands in
            let got = finds.lands-second
            t (k t v) (d t v) (a t v) c₂ hc level i j points.on.level_in hi un seeks.low high s.2 q z.entered lands in
            let full = points.on.b_is in
            let same : forward + q - gap ≡ at.full_length t level + q - at.gap t level i = omega (arith, s.1) in record {
              place = at.full_length t level + q - at.gap t level i;
              entered = z.entered + 1;
              is = rw (← same) (way_on q z.entered z.is (omega (arith, got.0, s.1)));
              lands = got.1;
            }

    pub aimed : HandedTo t field level b i j way x rest further
    aimed = record { kept = record { on = points.on; kept = am.kept }; seeks = to-aimed; found = by-aimed }

  module _ (r : Option Target) (r-is : TargetWith t c₂ level i b j r) where
    pub pointer-to : (x : Target) (gap further : ℕ) → r ≡ Some x → gap ≡ at.gap t level i → further ≡ entering way x.forward.0 gap
        → HandsOn t field level b i j way (Some (record { block = x.block; rest = x.rest; way = further }))
    pointer-to x gap further e gap_is further-is =
        hands_to t field level b i j way x.block x.rest further
        (aimed x.block.0 x.forward.0 x.rest gap further (r-is.kept x e) gap_is further-is)

-- From a block that may be kept or may point.
module _ (t : List ℕ) (field : CountField) (level b : ℕ) (i : BlockNumber) (j way : ℕ) (there : InTable t field.size level b i.0)
    (seeks : Seeking t field level b j way (2 * level)) (x : BlockKind) (x-is : x ≡ block_kind_at t level i.0 0) where
  pub itself-kept : (n : BlockNumber) (p : BlockPlace) → x ≡ next.Kept n p
      → HandsOn t field level b i.0 j way (Some (record { block = i; rest = j; way = way }))
  itself-kept n p e = hands_to t field level b i.0 j way i j way (record {
    kept = record { on = there.on; kept = (next-kept t level i.0 0 x x-is n p e).0 };
    seeks = record {
      on = there.on;
      number_in = seeks.number_in;
      low = seeks.low;
      few = omega (arith, seeks.few);
      near = omega (arith, seeks.near);
    };
    found = λ r f. f;
  })

  pub itself-points : (n : BlockNumber) (p : BlockPlace) → x ≡ next.Points n p → PointsIn t field.size level b i.0
  itself-points n p e = record { on = there.on; points = (next-points t level i.0 0 x x-is n p e).1 }

  pub itself-off : x ≡ next.Off → HandsOn t field level b i.0 j way None
  itself-off e = hands-off t field level b i.0 j way (λ v high. (let z = next-off t level i.0 0 x x-is e in
      neither (is_kept_block t level i.0) (pointing_block t level i.0) z.0 z.1 (one_of t v level i.0 there.on.level_in there.block_in)))
    where
      neither : (k p : Bool) → k ≡ false → p ≡ false → (k ≡ true) ⊎ (p ≡ true) → ⊥
      neither k p a b (inl h) = bool_clash k h a
      neither k p a b (inr h) = bool_clash p h b

-- The kept block that was handed the j-th byte.
module _ (t : List ℕ) (field : CountField) (level b i j way : ℕ) (x : Option Landing) (x-is : HandsOn t field level b i j way x) where
  pub not-handed : x ≡ None → (r : ℕ) → FoundIn t field.number level i j way r
  not-handed e r = not_found t field.number level i j way r (λ v hc high. x-is.off e v high)
