-- Paths that are walked together, step by step.
use mathlib.Core.List.{List, [], ◌∷◌}
use mathlib.Core.Bool.{Bool, true, false}
use mathlib.Core.Option.{Option, none}
use mathlib.Core.Path.{◌≡◌, refl, sym, ap, ◌∙◌}
use Prim.Native.Nat.{ℕ, zero, suc, ◌+◌, ◌-◌, ◌*◌, ◌/◌, ◌%◌, ◌≤◌, ◌<◌}
use native.Mathlib.Omega.{arith}
use native.Mathlib.Nat.{mod-lt}
use lib.ListN.{get_or, set, length, drop, length-set}
use lib.Seq.{get_or-set_same, get_or-set_other, drop-set-lt}
use borrow.Author.Count.{below_more}
use borrow.Author.Tests.{lt-ltb}
use Rattle.std.specs.Prelude as prelude
use Rattle.std.proofs.Common.{Some, None}
use Rattle.format.specs.Layout as at
use Rattle.format.specs.TreeReading.{visit, is_kept_block, pointing_block, target_block, target_place, path_from, path_of}
use Rattle.theory_paths.specs.PlacesResolved.{from_last, from-kept, from-pointing}
use Rattle.layout.specs.declared.header.Header.{Header}
use Rattle.layout.specs.declared.place.BlockNumber.{BlockNumber}
use Rattle.layout.specs.declared.place.BlockPlace.{BlockPlace}
use Rattle.layout.specs.HeaderFields.{HeaderOf}
use Rattle.walk_steps.specs.declared.BlockKind.{BlockKind}
use Rattle.walk_steps.specs.declared.BlockKind.TheVariants.{Kept, Points, Off}
use Rattle.walk_steps.specs.declared.position.BlockPosition.{BlockPosition}
use Rattle.walk_steps.specs.Steps.{OnLevel, Pointing, block_kind_at, child_at, resolved_target}
use Rattle.walk_steps.proofs.NextLaws.{on-top, next-kept, next-points, next-off, child-at, child-off, resolved-at, resolved-off}
use Rattle.walk_steps.proofs.StepLaws.{b-pos, first-there, kept_in}
use Rattle.walk_path.proofs.WalkLaws.{from-off, from-no-target, from_past, from-last-points, from-no-leaf}
use Rattle.walk_ranges.specs.Segments.{leaf_number, has_leaf, leaves_written, Copied}
use Rattle.walk_ranges.specs.LeafEnds.{last_level}
use Rattle.walk_ranges.proofs.NextSegmentLaws.{leaf-enter}
use Rattle.walk_ranges.proofs.LeafEndLaws.{last-kept, last-unkept, last-link}
use Rattle.walk_group.specs.Groups.{InBlock, GroupAt, GoesTo, leaf_at, group_leaf, place_leaf, AtTop, PlacesBelow, StepAnswer, WalkedTo, LeafByteAnswer}

-- The leaf byte of a place of a block above the last level.
module _ (t : List ℕ) (l : ℕ) (more : l + 1 < (at.settings t).levels) where
  left_is : (at.settings t).levels - 1 - l ≡ suc ((at.settings t).levels - 1 - (l + 1))
  left_is = omega arith

  leaf-kept : (i o : ℕ) → is_kept_block t l i ≡ true
      → leaf_at t l i o ≡ leaf_at t (l + 1) (at.link t l i + o / at.full_length t (l + 1)) (o % at.full_length t (l + 1))
  unfolding leaf_at
  leaf-kept i o kept =
      let n = (at.settings t).levels - 1 - (l + 1) in
      let b = at.full_length t (l + 1) in
      rw left_is (ap leaf_number (from-kept t n l i o kept) ∙ leaf-enter (visit l i o ∷ []) (path_from t n (l + 1) (at.link t l i + o / b) (o % b)))

  leaf-target : (i o : ℕ) → is_kept_block t l i ≡ false → pointing_block t l i ≡ true → is_kept_block t l (target_block t l i o) ≡ true
      → leaf_at t l i o ≡ leaf_at t l (target_block t l i o) (target_place t l i o)
  unfolding leaf_at
  leaf-target i o un points kept =
      let n = (at.settings t).levels - 1 - (l + 1) in
      rw left_is
      (ap leaf_number (from-pointing t n l i o un points kept)
      ∙ leaf-enter (visit l i o ∷ []) (path_from t (suc n) l (target_block t l i o) (target_place t l i o)))

-- One step of a path.
module _ (t : List ℕ) (size l b below i o : ℕ) (on : OnLevel t size l b) (lower : OnLevel t size (l + 1) below) (here : InBlock t l i o) where
  more : l + 1 < (at.settings t).levels
  more = lower.level_in

  -- From a kept block to its child.
  module _ (j q : ℕ) (kept : is_kept_block t l j ≡ true) (same : leaf_at t l j q ≡ leaf_at t l i o) where
    child-leaf : leaf_at t (l + 1) (at.link t l j + q / below) (q % below) ≡ leaf_at t l i o
    child-leaf = rw lower.b_is (sym (leaf-kept t l more j q kept)) ∙ same

    to-child : (x : prelude.Option BlockPosition) → x ≡ child_at t (l + 1) (at.link t l j + q / below) (q % below) → StepAnswer t l i o x
    unfolding leaf_at
    to-child (Some y) e =
        let z = child-at t (l + 1) (at.link t l j + q / below) (q % below) _ e y refl in
        let m : q % below < below = mod-lt q (b-pos t size (l + 1) below lower) in record {
          there = record { block_in = rw z.1 z.0; place-in = rw (z.2, ← lower.b_is) m };
          same_leaf = rw (z.1, z.2) child-leaf;
        }
    to-child None e =
        sym child-leaf
        ∙ ap leaf_number (from_past t _ (l + 1) (at.link t l j + q / below) (q % below)
        (child-off t (l + 1) (at.link t l j + q / below) (q % below) _ e refl))

  module _ (x : BlockKind) (x-is : x ≡ block_kind_at t l i o) where
    pub step_kept : (j : BlockNumber) (p : BlockPlace) → x ≡ Kept j p → (y : prelude.Option BlockPosition)
        → y ≡ child_at t (l + 1) (at.link t l i + o / below) (o % below) → StepAnswer t l i o y
    step_kept j p e y y-is = to-child i o (next-kept t l i o x x-is j p e).0 refl y y-is

    pub step-off : x ≡ Off → leaf_at t l i o ≡ none
    unfolding leaf_at
    step-off e = let z = next-off t l i o x x-is e in ap leaf_number (from-off t _ l i o z.0 z.1)

    module _ (j : BlockNumber) (p : BlockPlace) (e : x ≡ Points j p) where
      pub step-pointing : Pointing t size l b i o
      step-pointing = record { on = on; place-in = rw on.b_is here.place-in; points = (next-points t l i o x x-is j p e).1 }

      module _ (y : prelude.Option BlockPosition) (y-is : y ≡ resolved_target t l i o) where
        pub step-no-target : y ≡ None → leaf_at t l i o ≡ none
        unfolding leaf_at
        step-no-target f =
            let n = next-points t l i o x x-is j p e in
            let z : is_kept_block t l (target_block t l i o) ≡ false = rw (lt-ltb _ _ more) at (resolved-off t l i o y y-is f) in
            rw (left_is t l more) (ap leaf_number (from-no-target t _ l i o n.0 z n.1))

        module _ (k : BlockPosition) (f : y ≡ Some k) where
          target_kept : is_kept_block t l k.block.0 ≡ true
          target_kept = let z = resolved-at t l i o y y-is k f in rw z.2 z.1

          pub step-child : (OnLevel t size (l + 1) below) × (k.block.0 < at.level_count t l)
          step-child = (lower, kept_in t l k.block.0 target_kept)

          pub step-target : (w : prelude.Option BlockPosition)
              → w ≡ child_at t (l + 1) (at.link t l k.block.0 + k.place.0 / below) (k.place.0 % below) → StepAnswer t l i o w
          step-target w w-is =
              let n = next-points t l i o x x-is j p e in
              let z = resolved-at t l i o y y-is k f in
              to-child k.block.0 k.place.0 target_kept (rw (z.2, z.3) (sym (leaf-target t l more i o n.0 n.1 z.1))) w w-is

-- Places of level 0.
module _ (p s b : ℕ) where
  -- The first k positions are written.
  pub record TopUpTo (is₀ os₀ is os : List ℕ) (k : ℕ) : Type 0 where
    pub same_blocks : length is ≡ length is₀
    pub same_places : length os ≡ length os₀
    pub tops : AtTop p s k b is os

-- One step of each path.
module _ (t : List ℕ) (l : ℕ) (is₀ os₀ : List ℕ) where
  -- The first k paths went on to the next level; the others are where they were.
  pub record StepsUpTo (is os : List ℕ) (k : ℕ) : Type 0 where
    pub same_blocks : length is ≡ length is₀
    pub same_places : length os ≡ length os₀
    pub moved : (j : ℕ) → j < k → GoesTo t l (get_or is₀ j 0) (get_or os₀ j 0) (l + 1) (get_or is j 0) (get_or os j 0)
    pub others : (j : ℕ) → k ≤ j → (get_or is j 0 ≡ get_or is₀ j 0) × (get_or os j 0 ≡ get_or os₀ j 0)

  module _ (is os : List ℕ) (k : ℕ) (c : StepsUpTo is os k) where
    module _ (x : prelude.Option BlockPosition) (x-is : StepAnswer t l (get_or is k 0) (get_or os k 0) x) where
      pub steps-off : (n : ℕ) → k < n → x ≡ None → WalkedTo t l (l + 1) n is₀ os₀ is os false
      unfolding group_leaf
      steps-off n less e = let z = c.others k (omega arith) in (k, less, rw (z.0, z.1) at (rw e at x-is))

      pub steps-more : (y : BlockPosition) → x ≡ Some y → k < length is₀ → k < length os₀
          → StepsUpTo (set is k y.block.0) (set os k y.place.0) (k + 1)
      steps-more y e low low₂ =
          let z = c.others k (omega arith) in
          let js = set is k y.block.0 in
          let qs = set os k y.place.0 in
          let far : (m : ℕ) → (m ≡ k → ⊥) → (get_or js m 0 ≡ get_or is m 0) × (get_or qs m 0 ≡ get_or os m 0) =
          λ m apart. (get_or-set_other is k m y.block.0 0 apart, get_or-set_other os k m y.place.0 0 apart) in
          let new : (get_or js k 0 ≡ y.block.0) × (get_or qs k 0 ≡ y.place.0) =
          (get_or-set_same is k y.block.0 0 (omega (arith, c.same_blocks)), get_or-set_same os k y.place.0 0 (omega (arith, c.same_places))) in
          let here : GoesTo t l (get_or is₀ k 0) (get_or os₀ k 0) (l + 1) y.block.0 y.place.0 = rw (z.0, z.1) at (rw e at x-is) in record {
            same_blocks = simp length-set c.same_blocks;
            same_places = simp length-set c.same_places;
            moved = below_more (λ m. GoesTo t l (get_or is₀ m 0) (get_or os₀ m 0) (l + 1) (get_or js m 0) (get_or qs m 0)) k
                (λ m less. (let v = far m (λ u. omega arith) in rw (v.0, v.1) (c.moved m less)))
                (rw (new.0, new.1) here);
            others = λ m past. (let v = far m (λ u. omega arith) in
                let w = c.others m (omega arith) in (v.0 ∙ w.0, v.1 ∙ w.1));
          }

-- Level by level.
module _ (t : List ℕ) (n : ℕ) (is₀ os₀ : List ℕ) where
  -- The first n paths have come to level l.
  pub record LevelsUpTo (is os : List ℕ) (l : ℕ) : Type 0 where
    pub same_blocks : length is ≡ length is₀
    pub same_places : length os ≡ length os₀
    pub moved : WalkedTo t 0 l n is₀ os₀ is os true

  module _ (is os : List ℕ) (l : ℕ) (c : LevelsUpTo is os l) where
    pub levels-here : GroupAt t l n is os
    levels-here k less = (c.moved k less).there

    module _ (js qs : List ℕ) (r : Bool) (r-is : WalkedTo t l (l + 1) n is os js qs r) where
      pub levels-off : r ≡ false → (k : ℕ) × (k < n) × (group_leaf t 0 is₀ os₀ k ≡ none)
      unfolding group_leaf
      levels-off e = let z = rw e at r-is in (z.0, z.1, sym (c.moved z.0 z.1).same_leaf ∙ z.2)

      pub levels-more : r ≡ true → length js ≡ length is → length qs ≡ length os → LevelsUpTo js qs (l + 1)
      levels-more e same same₂ =
          let z = rw e at r-is in record {
            same_blocks = same ∙ c.same_blocks;
            same_places = same₂ ∙ c.same_places;
            moved = λ k less. record { there = (z k less).there; same_leaf = (z k less).same_leaf ∙ (c.moved k less).same_leaf };
          }

-- The leaf byte of a place of the last level.
module _ (t : List ℕ) (h : Header) (k : HeaderOf t h) (i o : ℕ) (here : InBlock t (last_level t) i o) where
  none_left : (at.settings t).levels - 1 - last_level t ≡ 0
  none_left = omega arith

  module _ (kind : ℕ) (kind_is : kind ≡ at.kind t (h.settings.levels - 1) i) where
    pub byte-other : (kind ≡ 0 → ⊥) → leaf_at t (last_level t) i o ≡ none
    unfolding leaf_at
    byte-other z = rw none_left (ap leaf_number (from-last-points t (last_level t) i o (last-unkept t h k i kind kind_is here.block_in z)))

    module _ (z : kind ≡ 0) (link : ℕ) (link_is : link ≡ at.link t (h.settings.levels - 1) i) where
      kept : is_kept_block t (last_level t) i ≡ true
      kept = last-kept t h k i kind kind_is here.block_in z

      pub byte_past : h.leaf_count ≤ link + o → leaf_at t (last_level t) i o ≡ none
      unfolding leaf_at
      byte_past past =
          rw none_left (ap leaf_number (from-no-leaf t (last_level t) i o (omega (arith, k.count_is, last-link t h k i link link_is)) kept))

      pub byte-there : link + o < h.leaf_count → (v : ℕ) → v ≡ get_or t (h.leaf_offset + (link + o)) 0 → LeafByteAnswer t i o (Some v)
      unfolding leaf_at at.leaf_byte
      byte-there low v v-is =
          let e : at.link t (last_level t) i + o ≡ link + o = omega (arith, last-link t h k i link link_is) in (
            link + o,
            rw (none_left, ← e) (ap leaf_number (from_last t (last_level t) i o kept (omega (arith, k.count_is)))),
            rw k.offset_is at v-is,
          )

-- The leaf bytes of paths that have reached the last level, written one after the other.
module _ (t is os : List ℕ) (to : ℕ) (d : List ℕ) where
  abbrev leaf : ℕ → Option ℕ
  leaf = group_leaf t (last_level t) is os

  -- Buffer e, where k of the bytes were written to buffer d.
  pub record BytesUpTo (e : List ℕ) (k : ℕ) : Type 0 where
    pub same_length : length e ≡ length d
    pub bytes : e ≡ leaves_written t d to leaf k
    pub found : (x : ℕ) → x < k → has_leaf (leaf x) ≡ true
    pub past : (j : ℕ) → to + k ≤ j → drop j e ≡ drop j d

  module _ (e : List ℕ) (k : ℕ) (c : BytesUpTo e k) where
    module _ (x : prelude.Option ℕ) (x-is : LeafByteAnswer t (get_or is k 0) (get_or os k 0) x) where
      pub bytes-off : x ≡ None → (n : ℕ) → k < n → Copied t leaf n to d e 14
      unfolding group_leaf
      bytes-off f n less = (refl, (k, less, rw f at x-is), λ j far. c.past j (omega arith))

      pub bytes-more : (v : ℕ) → x ≡ Some v → BytesUpTo (set e (to + k) v) (k + 1)
      unfolding group_leaf
      bytes-more v f =
          let z = rw f at x-is in record {
            same_length = simp length-set c.same_length;
            bytes = let s : k + 1 ≡ suc k = omega arith in rw (s, z.1, ← z.2, ← c.bytes);
            found = below_more (λ j. has_leaf (leaf j) ≡ true) k c.found (rw z.1);
            past = λ j far. drop-set-lt j e (to + k) v (omega arith) ∙ c.past j (omega arith);
          }

-- The same leaves by another name.
leaves-same : (t d : List ℕ) (to n : ℕ) (f g : ℕ → Option ℕ) → ((x : ℕ) → x < n → f x ≡ g x) → leaves_written t d to f n ≡ leaves_written t d to g n
leaves-same t d to zero f g same = refl
leaves-same t d to (suc n) f g same = rw (leaves-same t d to n f g (λ x less. same x (omega arith)), same n (omega arith))

copied-same : (t : List ℕ) (f g : ℕ → Option ℕ) (n to : ℕ) (d e : List ℕ) (r : ℕ) → ((x : ℕ) → x < n → f x ≡ g x) → Copied t f n to d e r
    → Copied t g n to d e r
copied-same t f g n to d e zero same c = (c.0 ∙ leaves-same t d to n f g same, λ x less. ap has_leaf (sym (same x less)) ∙ c.1 x less)
copied-same t f g n to d e (suc q) same c = (c.0, (c.1.0, c.1.1, sym (same c.1.0 c.1.1) ∙ c.1.2), c.2)

-- The whole.
module _ (t : List ℕ) (h : Header) (k : HeaderOf t h) (p s n : ℕ) (is os : List ℕ) (tops : AtTop p s n h.top_length is os) where
  pub places-at : PlacesBelow p s n h.text_length → GroupAt t 0 n is os
  places-at low x less =
      let z = tops x less in
      let on = on-top t h k in record {
        block_in = rw z.0 (first-there t _ _ _ on (rw k.length_is at (low x less)));
        place-in = rw (z.1, ← k.block_is) (mod-lt (p + x * s) (b-pos t _ _ _ on));
      }

  top-leaf : (x : ℕ) → x < n → group_leaf t 0 is os x ≡ place_leaf t p s x
  unfolding group_leaf place_leaf leaf_at path_of
  top-leaf x less =
      let z = tops x less in
      let e : (at.settings t).levels - 1 - 0 ≡ (at.settings t).levels - 1 = omega arith in
      rw (z.0, z.1, k.block_is, e)

  module _ (m : ℕ) (js qs : List ℕ) (r : Bool) (r-is : WalkedTo t 0 m n is os js qs r) where
    pub places-off : r ≡ false → (to : ℕ) (d : List ℕ) → Copied t (place_leaf t p s) n to d d 14
    places-off broken to d = let z = rw broken at r-is in (refl, (z.0, z.1, sym (top-leaf z.0 z.1) ∙ z.2), λ j far. refl)

    module _ (good : r ≡ true) where
      pub places-reached : GroupAt t m n js qs
      places-reached x less = ((rw good at r-is) x less).there

      same-walked : (x : ℕ) → x < n → group_leaf t m js qs x ≡ group_leaf t 0 is os x
      unfolding group_leaf
      same-walked x less = ((rw good at r-is) x less).same_leaf

      pub places-copied : (to : ℕ) (d e : List ℕ) (q : ℕ) → Copied t (group_leaf t m js qs) n to d e q → Copied t (place_leaf t p s) n to d e q
      places-copied to d e q c =
          copied-same t (group_leaf t m js qs) (place_leaf t p s) n to d e q (λ x less. same-walked x less ∙ top-leaf x less) c
