-- The segments of a descent: where the bytes of one are in the next, and the bytes that are copied.
use mathlib.Core.List.{List, [], ◌∷◌}
use mathlib.Core.Option.{Option, none, some}
use mathlib.Core.Bool.{Bool, true, false, ◌&&◌}
use mathlib.Core.Logic.{◌⊎◌, inl, inr}
use mathlib.Core.Path.{◌≡◌, refl, sym, ap, ◌∙◌}
use Prim.Native.Nat.{ℕ, zero, suc, ◌+◌, ◌-◌, ◌*◌, ◌/◌, ◌%◌, ◌≤◌, ◌<◌, min}
use native.Mathlib.Omega.{arith}
use native.Mathlib.Nat.{add_assoc, div-add-mod', div-eq_of_lt, mod-eq_of_lt, mod-lt, mod-le, mul_comm, mul_assoc, mul-le-mul_right}
use native.Mathlib.Nat.{add-mul-mod_self_left, add-mul-div_left, one-mul, zero-mul}
use borrow.Author.Tests.{eq-eqb, ne_eqb, eqb-true}
use lib.Arith.{digits_div, digits_mod}
use lib.Dec.{ltb, eqb}
use Rattle.text.specs.ListLaws.{lt-or-ge, bool_cases, and_left, and_right}
use Rattle.format.specs.Layout.{max_text}
use Rattle.format.specs.Layout as at
use Rattle.format.specs.LayoutLaws.{Readable, full-step, full-pos, full-small}
use Rattle.format.specs.TreeReading.{Path, Visit, visit, entered, provided, is_kept_block, pointing_block, target_block, target_place, path_from}
use Rattle.theory_paths.specs.Links.{b, H}
use Rattle.theory_paths.specs.PlacesResolved.{from-kept, from-pointing, target_first, target-second}
use Rattle.walk_path.proofs.WalkLaws.{from-off, from-no-target, from-last-points}
use Rattle.walk_path.proofs.AlongLaws.{carry-div, carry-mod}
use Rattle.walk_steps.specs.Steps.{OnLevel, Pointing}
use Rattle.walk_steps.specs.declared.DivRem.{DivRem}
use Rattle.walk_steps.proofs.NextLaws.{level-below, pointing-not-kept}
use Rattle.walk_steps.proofs.StepLaws.{pointing-gap, b-pos}
use Rattle.walk_steps.specs.declared.position.LevelAt.{LevelAt}
use Rattle.layout.specs.declared.place.BlockPlace.{BlockPlace}
use Rattle.walk_ranges.specs.declared.segments.Segment.{Segment}
use Rattle.walk_ranges.specs.declared.segments.Piece.{Piece}
use Rattle.std.specs.Prelude.{Some, None}
use Rattle.std.specs.Prelude as prelude
use Rattle.walk_ranges.proofs.LeafEndLaws.{kept_by, unkept-by, unkept-past}
use Rattle.walk_ranges.specs.Segments.{leaf_number, leaf_from, leaf_in, full_width, KeptOn, SegmentAt, NextAt, IsNext}

-- A place of blocks of c * r bytes, in blocks of c bytes.
split-div : (q c r : ℕ) → 0 < c → q / (c * r) * r + q % (c * r) / c ≡ q / c
split-div q c r pos =
    let z = q / (c * r) in
    let e : q ≡ q % (c * r) + c * (z * r) =
    omega (arith, div-add-mod' q (c * r), mul_comm z (c * r), mul_assoc c r z, ap (λ (x : ℕ). c * x) (mul_comm r z)) in
    sym (ap (λ (x : ℕ). x / c) e ∙ add-mul-div_left (q % (c * r)) (z * r) pos ∙ omega arith)

split-mod : (q c r : ℕ) → q % (c * r) % c ≡ q % c
split-mod q c r =
    let z = q / (c * r) in
    let e : q ≡ q % (c * r) + c * (z * r) =
    omega (arith, div-add-mod' q (c * r), mul_comm z (c * r), mul_assoc c r z, ap (λ (x : ℕ). c * x) (mul_comm r z)) in
    sym (ap (λ (x : ℕ). x % c) e ∙ add-mul-mod_self_left (q % (c * r)) c (z * r))

-- Leaf numbers.

pub leaf-enter : (vs : List Visit) (p : Option Path) → leaf_number (entered vs p) ≡ leaf_number p
leaf-enter vs none = refl
leaf-enter vs (some q) = refl

leaf-provided : (y : Bool) (vs : List Visit) (z : ℕ) → leaf_number (provided y (some (record { visits = vs; leaf = z }))) ≡ provided y (some z)
leaf-provided true vs z = refl
leaf-provided false vs z = refl

provided-none : (y : Bool) → provided {A = ℕ} y none ≡ none
provided-none true = refl
provided-none false = refl

-- Widths.
module _ (t : List ℕ) (l : ℕ) where
  pub width-last : l + 1 ≡ H t → b t l ≡ full_width t l
  unfolding full_width
  width-last e = rw (eq-eqb (l + 1) (H t) e)

  pub width_above : (l + 1 ≡ H t → ⊥) → (at.settings t).arity ≡ full_width t l
  unfolding full_width
  width_above n = rw (ne_eqb (l + 1) (H t) n)

  module _ (k : Readable t) (low : l < H t) where
    pub width-in : (1 ≤ full_width t l) × (full_width t l ≤ b t l)
    width-in = go (lt-or-ge (l + 1) (H t))
      where
        go : (l + 1 < H t) ⊎ (H t ≤ l + 1) → (1 ≤ full_width t l) × (full_width t l ≤ b t l)
        go (inl more) =
            let w = width_above (λ e. omega arith) in
            let r = (at.settings t).arity in
            let s : 1 * r ≤ b t (l + 1) * r = mul-le-mul_right r (full-pos t k (l + 1)) in
            (omega (arith, k.bounds.arity_low), omega (arith, full-step t k l more, one-mul r))
        go (inr last) = let w = width-last (omega arith) in (omega (arith, full-pos t k l), omega arith)

module _ (t : List ℕ) (k : Readable t) (l : ℕ) (low : l < H t) where
  left_here : H t - l ≡ suc (H t - (l + 1))
  left_here = omega arith

  -- The block of a place, and the place in it.
  in_block : (p first o x : ℕ) → leaf_in t p l first (o + x) ≡ leaf_in t p l (first + o / b t l) (o % b t l + x)
  unfolding leaf_in leaf_from
  in_block zero first o x =
      let pos = full-pos t k l in
      rw (left_here, carry-div o x (b t l) pos, carry-mod o x (b t l), add_assoc first (o / b t l) ((o % b t l + x) / b t l))
  in_block (suc p) first o x =
      let pos = full-pos t k l in
      rw (left_here, carry-div o x (b t l) pos, carry-mod o x (b t l), add_assoc first (o / b t l) ((o % b t l + x) / b t l))

  in-none : (p first o : ℕ) → leaf_from t (H t - l) l first o ≡ none → leaf_in t p l first o ≡ none
  unfolding leaf_in
  in-none zero first o e = rw e (provided-none (is_kept_block t l (first + o / b t l)))
  in-none (suc p) first o e = e

  last_leaf : (j o : ℕ) → is_kept_block t l j ≡ true → (x : ℕ) → at.link t l j + o ≡ x
      → leaf_number (path_from t 0 l j o) ≡ provided (ltb x (at.leaf_count t)) (some x)
  unfolding path_from
  last_leaf j o kept x x-is = rw (kept, x-is) (leaf-provided (ltb x (at.leaf_count t)) (visit l j o ∷ []) x)

  -- From the kept blocks that follow each other to what is below them.
  module _ (i o n : ℕ) (on : KeptOn t l i o n) (x : ℕ) (less : x < n) where
    kept-leaf : leaf_from t (H t - l) l i (o + x) ≡ leaf_from t (H t - (l + 1)) (l + 1) (at.link t l i) (o + x)
    unfolding leaf_from
    kept-leaf = go (lt-or-ge (l + 1) (H t))
      where
        q : ℕ
        q = o + x

        j : ℕ
        j = i + q / b t l

        go : (l + 1 < H t) ⊎ (H t ≤ l + 1) → leaf_from t (H t - l) l i q ≡ leaf_from t (H t - (l + 1)) (l + 1) (at.link t l i) q
        go (inl more) =
            let m = H t - (l + 2) in
            let c = b t (l + 1) in
            let r = (at.settings t).arity in
            let s : H t - l ≡ suc (suc m) = omega arith in
            let u : H t - (l + 1) ≡ suc m = omega arith in
            let w : full_width t l ≡ r = sym (width_above t l (λ e. omega arith)) in
            let full = full-step t k l more in
            let to : at.link t l j + q % b t l / c ≡ at.link t l i + q / c =
            ap (λ (y : ℕ). y + q % b t l / c) (on.links x less) ∙ add_assoc (at.link t l i) (q / b t l * full_width t l) (q % b t l / c)
            ∙ ap (λ (y : ℕ). at.link t l i + y) (rw (w, full) (split-div q c r (full-pos t k (l + 1)))) in
            let rest : q % b t l % c ≡ q % c = rw full (split-mod q c r) in
            rw (s, u) (ap leaf_number (from-kept t m l j (q % b t l) (on.kept x less))
            ∙ leaf-enter (visit l j (q % b t l) ∷ []) (path_from t m (l + 1) (at.link t l j + q % b t l / c) (q % b t l % c))
            ∙ rw (to, rest))
        go (inr last) =
            let s : H t - l ≡ 1 = omega arith in
            let u : H t - (l + 1) ≡ 0 = omega arith in
            let w : full_width t l ≡ b t l = sym (width-last t l (omega arith)) in
            let to : at.link t l j + q % b t l ≡ at.link t l i + q =
            omega (arith, on.links x less, ap (λ (y : ℕ). q / b t l * y) w, div-add-mod' q (b t l)) in
            rw (s, u) (last_leaf j (q % b t l) (on.kept x less) (at.link t l i + q) to)

    -- A pointer may be followed here or not.
    pub kept-in-leaf : (p : ℕ) → leaf_in t p l i (o + x) ≡ leaf_in t 1 (l + 1) (at.link t l i) (o + x)
    unfolding leaf_in
    kept-in-leaf zero = rw (on.kept x less) kept-leaf
    kept-in-leaf (suc p) = kept-leaf

  -- The children of the kept blocks.
  pub below_next : (size p c i n most m : ℕ) (o : BlockPlace) → OnLevel t size l c → KeptOn t l i o.0 n → 1 ≤ most → m ≡ min n most
      → o.0 + most ≤ 2 * max_text
      → (s : Segment) → s ≡ record {
        rules = record { record_size = size; pointers = 1 };
        on = record { level = l + 1; b = c / full_width t l };
        from = record { block = record { 0 = at.link t l i }; place = o };
      } → NextAt t p l i o.0 most s m
  below_next size p c i n most m o there on least m-is near s s-is = rw s-is (record {
    some_byte = omega (arith, on.some_byte);
    at_most = omega arith;
    segment = record {
      facts = k;
      size_is = there.size_is;
      level_in = omega arith;
      b_is = λ more. (let w : full_width t l ≡ (at.settings t).arity = sym (width_above t l (λ e. omega arith)) in
          rw w (level-below t size l c there (λ e. omega arith)).b_is);
      near = omega arith;
      some_leaf = λ past. (omega (arith, on.some_byte), omega arith);
    };
    falls = omega arith;
    same = λ x less. kept-in-leaf i o.0 n on x (omega arith) p;
  })

  -- From a pointing block to its targets.
  module _ (i o : ℕ) (pt : pointing_block t l i ≡ true) where
    un : is_kept_block t l i ≡ false
    un = pointing-not-kept t l i pt

    target_in : o < b t l → (target_block t l i o ≡ at.link t l i + (at.gap t l i + o) / b t l) × (target_place t l i o ≡ (at.gap t l i + o) % b t l)
    target_in small = go (lt-or-ge (at.gap t l i + o) (b t l))
      where
        go : (at.gap t l i + o < b t l) ⊎ (b t l ≤ at.gap t l i + o)
            → (target_block t l i o ≡ at.link t l i + (at.gap t l i + o) / b t l) × (target_place t l i o ≡ (at.gap t l i + o) % b t l)
        go (inl here) =
            let e = target_first t l i o here in
            (rw (div-eq_of_lt here) (e.0 ∙ omega arith), rw (mod-eq_of_lt here) e.1)
        go (inr next) =
            let e = target-second t l i o next in
            let s : at.gap t l i + o ≡ 1 * b t l + (at.gap t l i + o - b t l) = omega (arith, one-mul (b t l)) in
            let low-rest : at.gap t l i + o - b t l < b t l = omega (arith, pointing-gap t l i pt) in
            let d : (at.gap t l i + o) / b t l ≡ 1 = ap (λ (y : ℕ). y / b t l) s ∙ digits_div 1 low-rest in
            let m : (at.gap t l i + o) % b t l ≡ at.gap t l i + o - b t l = ap (λ (y : ℕ). y % b t l) s ∙ digits_mod 1 low-rest in
            (rw d e.0, rw m e.1)

    here-leaf : o < b t l → leaf_from t (H t - l) l i o ≡ leaf_number (path_from t (H t - (l + 1)) l i o)
    unfolding leaf_from
    here-leaf small =
        let z : i + 0 ≡ i = omega arith in
        rw (left_here, div-eq_of_lt small, mod-eq_of_lt small, z)

    -- No pointer may be followed here, or no block points on this level.
    pub across-none : o < b t l → leaf_in t 0 l i o ≡ none
    unfolding leaf_in
    across-none small =
        let z : i + 0 ≡ i = omega arith in
        rw (div-eq_of_lt small, z, un)

    pub across-last : o < b t l → l + 1 ≡ H t → (p : ℕ) → leaf_in t p l i o ≡ none
    across-last small last p =
        let z : H t - (l + 1) ≡ 0 = omega arith in
        in-none p i o (here-leaf small ∙ rw z (ap leaf_number (from-last-points t l i o un)))

    across-leaf : o < b t l → l + 1 < H t → (p : ℕ) → leaf_in t (suc p) l i o ≡ leaf_in t 0 l (at.link t l i) (at.gap t l i + o)
    unfolding leaf_in leaf_from
    across-leaf small more p = here-leaf small ∙ go (bool_cases (is_kept_block t l j))
      where
        m : ℕ
        m = H t - (l + 2)

        s : H t - (l + 1) ≡ suc m
        s = omega arith

        u : H t - l ≡ suc (suc m)
        u = omega arith

        j : ℕ
        j = target_block t l i o

        g : ℕ
        g = at.gap t l i + o

        go : (is_kept_block t l j ≡ true) ⊎ (is_kept_block t l j ≡ false)
            → leaf_number (path_from t (H t - (l + 1)) l i o) ≡ leaf_in t 0 l (at.link t l i) g
        go (inl kept) =
            let e = target_in small in
            rw (s, u, ← e.0, ← e.1, kept) (ap leaf_number (from-pointing t m l i o un pt kept)
            ∙ leaf-enter (visit l i o ∷ []) (path_from t (suc m) l j (target_place t l i o)))
        go (inr off) =
            let e = target_in small in
            rw (s, ← e.0, off) (ap leaf_number (from-no-target t m l i o un off pt))

  pub across-next : (size p c i o most m : ℕ) → Pointing t size l c i o → (p ≡ 0 → ⊥) → (l + 1 ≡ H t → ⊥) → 1 ≤ most → m ≡ min (c - o) most
      → (s : Segment) → s ≡ record {
        rules = record { record_size = size; pointers = 0 };
        on = record { level = l; b = c };
        from = record { block = record { 0 = at.link t l i }; place = record { 0 = at.gap t l i + o } };
      } → NextAt t p l i o most s m
  across-next size zero c i o most m there may above least m-is s s-is = absurd (may refl)
  across-next size (suc p) c i o most m there may above least m-is s s-is = rw s-is (record {
    some_byte = omega (arith, there.place-in);
    at_most = omega arith;
    segment = record {
      facts = k;
      size_is = there.on.size_is;
      level_in = omega arith;
      b_is = λ more. there.on.b_is;
      near = omega (arith, there.place-in, there.on.b_is, pointing-gap t l i there.points, full-small t k l);
      some_leaf = λ past. absurd (let y : ⊥ = omega arith in y);
    };
    falls = omega arith;
    same = λ x less. (let e = across-leaf i (o + x) there.points (omega (arith, there.on.b_is)) (omega arith) p in
        rw (← add_assoc (at.gap t l i) o x) at e);
  })

  -- A block that is neither kept nor points.
  pub off-none : (p i o : ℕ) → is_kept_block t l i ≡ false → pointing_block t l i ≡ false → o < b t l → leaf_in t p l i o ≡ none
  unfolding leaf_from
  off-none p i o unkept apart small =
      let z : i + 0 ≡ i = omega arith in
      in-none p i o (rw (left_here, div-eq_of_lt small, mod-eq_of_lt small, z) (ap leaf_number (from-off t (H t - (l + 1)) l i o unkept apart)))

  -- The answer for a block and a place in it is that for a place of the segment.
  pub next-from : (p first o most j q : ℕ) → j ≡ first + o / b t l → q ≡ o % b t l → (r : prelude.Option Piece) → IsNext t p l j q most r
      → IsNext t p l first o most r
  next-from p first o most j q j-is q-is (Some x) e = record {
    some_byte = e.some_byte;
    at_most = e.at_most;
    segment = e.segment;
    falls = e.falls;
    same = λ x less. in_block p first o x ∙ rw (j-is, q-is) at (e.same x less);
  }
  next-from p first o most j q j-is q-is None e =
      let z : o + 0 ≡ o = omega arith in
      let y : o % b t l + 0 ≡ o % b t l = omega arith in
      rw (z, y) at (in_block p first o 0) ∙ rw (j-is, q-is) at e

-- The level of a segment of blocks, and the block of a place in it.
pub segment-level : (t : List ℕ) (p size l c o n : ℕ) → SegmentAt t p size l c o n → l < H t → OnLevel t size l c
segment-level t p size l c o n s low = record { facts = s.facts; size_is = s.size_is; level_in = low; b_is = s.b_is low }

module _ (t : List ℕ) (p size l c o n : ℕ) (s : SegmentAt t p size l c o n) (low : l < H t) (x : DivRem)
    (x-is : x ≡ record { blocks = o / c; place = record { 0 = o % c } }) (q : ℕ) (q-is : q ≡ x.place.0) where
  rest_at : q ≡ o % c
  rest_at = q-is ∙ ap (λ (y : DivRem). y.place.0) x-is

  pub place-there : (q < c) × (q + n ≤ 2 * max_text)
  place-there = (
    omega (arith, rest_at, mod-lt o (b-pos t size l c (segment-level t p size l c o n s low))),
    omega (arith, rest_at, mod-le o c, s.near),
  )

  -- The answer for this block and this place in it.
  pub segment-next : (first j : ℕ) → j ≡ first + x.blocks → (r : prelude.Option Piece) → IsNext t p l j q n r → IsNext t p l first o n r
  segment-next first j j-is r e =
      let c_is = s.b_is low in
      let block : j ≡ first + o / b t l = j-is ∙ ap (λ (y : DivRem). first + y.blocks) x-is ∙ ap (λ (y : ℕ). first + o / y) c_is in
      next-from t s.facts l low p first o n j q block (rest_at ∙ ap (λ (y : ℕ). o % y) c_is) r e

  pub segment-off : (first : ℕ) → is_kept_block t l (first + x.blocks) ≡ false → pointing_block t l (first + x.blocks) ≡ false
      → leaf_in t p l first o ≡ none
  segment-off first unkept apart =
      segment-next first (first + x.blocks) refl None
      (off-none t s.facts l low p (first + x.blocks) q unkept apart (omega (arith, place-there.0, s.b_is low)))

-- The answers of `children` and of `targets`.
pub children-are : (size level b link i step w q : ℕ) (place : BlockPlace) → link ≡ i → step ≡ w → q ≡ b / step
    → ◌≡◌ {A = Segment} (record {
      rules = record { record_size = size; pointers = 1 };
      on = record { level = level + 1; b = q };
      from = record { block = record { 0 = link }; place = place };
    }) (record {
      rules = record { record_size = size; pointers = 1 };
      on = record { level = level + 1; b = b / w };
      from = record { block = record { 0 = i }; place = place };
    })
children-are size level b link i step w q place link_is step_is q-is = rw (q-is, step_is, link_is)

pub targets-are : (size : ℕ) (on : LevelAt) (link i gap g o : ℕ) → link ≡ i → gap ≡ g
    → ◌≡◌ {A = Segment} (record {
      rules = record { record_size = size; pointers = 0 };
      on = on;
      from = record { block = record { 0 = link }; place = record { 0 = gap + o } };
    }) (record {
      rules = record { record_size = size; pointers = 0 };
      on = on;
      from = record { block = record { 0 = i }; place = record { 0 = g + o } };
    })
targets-are size on link i gap g o link_is gap_is = rw (link_is, gap_is)

-- The answer of `continues`.
module _ (t : List ℕ) (l i link : ℕ) where
  pub continues-past : (count : ℕ) → count ≡ at.level_count t l → count ≤ i → false ≡ (is_kept_block t l i && eqb (at.link t l i) link)
  continues-past count count_is past = rw (unkept-past t l i (omega arith))

  module _ (kind : ℕ) (kind_is : kind ≡ at.kind t l i) where
    pub continues-none : (kind ≡ 0 → ⊥) → i < at.level_count t l → false ≡ (is_kept_block t l i && eqb (at.link t l i) link)
    continues-none z there = rw (unkept-by t l i kind kind_is z there)

    pub continues-link : kind ≡ 0 → i < at.level_count t l → (first : ℕ) → first ≡ at.link t l i
        → eqb first link ≡ (is_kept_block t l i && eqb (at.link t l i) link)
    continues-link z there first first-is = rw (kept_by t l i kind kind_is z there, first-is)

-- Kept blocks with consecutive links, block after block.
module _ (t : List ℕ) (k : Readable t) (l : ℕ) (low : l < H t) (i o : ℕ) (small : o < b t l) where
  pub kept-first : (n : ℕ) → is_kept_block t l i ≡ true → n ≡ b t l - o → KeptOn t l i o n
  kept-first n kept n-is = record {
    some_byte = omega arith;
    kept = λ x less. (let z : (o + x) / b t l ≡ 0 = div-eq_of_lt (omega arith) in
        let y : i + 0 ≡ i = omega arith in rw (z, y) kept);
    links = λ x less. (let z : (o + x) / b t l ≡ 0 = div-eq_of_lt (omega arith) in
        let y : i + 0 ≡ i = omega arith in rw (z, y) (omega (arith, zero-mul (full_width t l))));
  }

  pub kept_more : (n c j link : ℕ) → KeptOn t l i o n → n + o ≡ c * b t l → j ≡ i + c → link ≡ at.link t l i + c * full_width t l
      → (f : Bool) → f ≡ (is_kept_block t l j && eqb (at.link t l j) link) → f ≡ true → KeptOn t l i o (n + b t l)
  kept_more n c j link on whole j-is link_is f f-is true-is = record {
    some_byte = omega (arith, on.some_byte);
    kept = λ x less. kept_at x less (lt-or-ge x n);
    links = λ x less. link_at x less (lt-or-ge x n);
  }
    where
      next : (is_kept_block t l j && eqb (at.link t l j) link) ≡ true
      next = sym f-is ∙ true-is

      block : (x : ℕ) → x < n + b t l → n ≤ x → (o + x) / b t l ≡ c
      block x less new =
          let s : o + x ≡ c * b t l + (x - n) = omega arith in
          ap (λ (y : ℕ). y / b t l) s ∙ digits_div c (omega arith)

      kept_at : (x : ℕ) → x < n + b t l → (x < n) ⊎ (n ≤ x) → is_kept_block t l (i + (o + x) / b t l) ≡ true
      kept_at x less (inl old) = on.kept x old
      kept_at x less (inr new) = rw (block x less new, ← j-is) (and_left (is_kept_block t l j) (eqb (at.link t l j) link) next)

      link_at : (x : ℕ) → x < n + b t l → (x < n) ⊎ (n ≤ x)
          → at.link t l (i + (o + x) / b t l) ≡ at.link t l i + (o + x) / b t l * full_width t l
      link_at x less (inl old) = on.links x old
      link_at x less (inr new) =
          rw (block x less new, ← j-is, ← link_is) (eqb-true _ _ (and_right (is_kept_block t l j) (eqb (at.link t l j) link) next))
