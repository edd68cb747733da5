-- The tests of the code on a block decide the conditions of question 8.
use mathlib.Core.List.{List}
use mathlib.Core.Logic.{◌≢◌}
use mathlib.Core.Bool.{Bool, true, false, not, ◌&&◌, ◌||◌}
use mathlib.Core.Path.{◌≡◌, refl, sym, ap, ◌∙◌}
use Prim.Native.Nat.{ℕ, ◌+◌, ◌-◌, ◌*◌, ◌≤◌, ◌<◌, min}
use native.Mathlib.Omega.{arith}
use native.Mathlib.Nat.{div-one}
use borrow.Author.Tests.{eq-eqb, ne_eqb, lt-ltb, le-ltb, le-leb, lt-leb, ltb-true}
use lib.Dec.{eqb, leb, ltb}
use Rattle.text.specs.Text.{all_below, sum_below}
use Rattle.text.specs.ListLaws.{and_left}
use Rattle.format.specs.Layout.{plain_words, start_field, pieces, max_text}
use Rattle.format.specs.Layout as at
use Rattle.format.specs.TreeReading.{last_level, width_at, kept_right, pointing_right, block_right}
use Rattle.format.specs.LayoutLaws.{full-small}
use Rattle.layout.specs.Record.{FieldIn, field_in}
use Rattle.check_links.specs.declared.level_read.Level.{Level}
use Rattle.check_links.specs.LevelAsked.{LevelOf, length_of_part, room_below, child_as_cut, is_target_right, next_right}
use Rattle.check_links.proofs.LevelReadLaws.{part-fits}

pub pieces-one : (x : ℕ) → pieces x 1 ≡ x
unfolding pieces
pieces-one x = let e : x + (1 - 1) ≡ x = omega arith in rw e (div-one x)

module _ (t : List ℕ) (v : Level) (k : LevelOf t v) where
  -- A field of a record of the level.
  pub there : (i f : ℕ) → i < v.count → f < plain_words → FieldIn t v.size v.number i f
  there i f h g = field_in t k.header_read v.size v.number i f k.size_is k.level_in (omega (arith, k.count_is)) (omega arith)

  -- Above the last level.
  module _ (n : v.number ≡ v.last → ⊥) where
    pub not_last : eqb v.number (last_level t) ≡ false
    not_last = ne_eqb _ _ (λ e. n (e ∙ sym k.last_is))

    pub part-above : v.part ≡ at.full_length t (v.number + 1)
    unfolding length_of_part
    part-above = rw not_last at k.part_is

    room-above : v.room ≡ at.level_count t (v.number + 1)
    unfolding room_below
    room-above = rw not_last at k.room_is

    above : v.number + 1 < (at.settings t).levels
    unfolding last_level
    above = let m : v.number ≢ v.last = n in omega (arith, k.last_is, k.level_in)

    pub child-there : (i : ℕ) → i < v.room → FieldIn t v.size (v.number + 1) i start_field
    child-there i h = field_in t k.header_read v.size (v.number + 1) i start_field k.size_is above (omega (arith, room-above)) (omega arith)

  -- The sizes that a block is cut by.
  pub full_high : v.full ≤ max_text
  full_high = omega (arith, k.full_is, full-small t k.header_read v.number)

  pub part_low : 0 < v.part
  part_low = (part-fits t k.header_read v.number v.part k.part_is).0

  pub part-high : v.part ≤ max_text
  part-high = (part-fits t k.header_read v.number v.part k.part_is).1

  pub kept-kind : (i kind : ℕ) → kind ≡ at.kind t v.number i → kind ≡ 0 → at.is_kept t v.number i ≡ true
  unfolding at.is_kept
  kept-kind i kind e z = eq-eqb _ _ (sym e ∙ z)

  pub other-kind : (i kind : ℕ) → kind ≡ at.kind t v.number i → (kind ≡ 0 → ⊥) → at.is_kept t v.number i ≡ false
  unfolding at.is_kept
  other-kind i kind e n = ne_eqb _ _ (λ q. n (e ∙ q))

  pub length_is : (i start len : ℕ) → start ≡ at.start t v.number i → len ≡ min v.full (v.length - start) → len ≡ at.block_length_at t v.number i
  unfolding at.block_length_at
  length_is i start len s e = rw (e, k.full_is, k.length_is, s)

  -- The width of a block.
  pub width-none : (i : ℕ) → at.is_kept t v.number i ≡ false → 0 ≡ width_at t v.number i
  unfolding width_at
  width-none i e = rw e

  width-cases : (i : ℕ) (b : Bool) → eqb v.number (last_level t) ≡ b → at.is_kept t v.number i ≡ true
      → pieces (at.block_length_at t v.number i) v.part ≡ width_at t v.number i
  unfolding width_at length_of_part
  width-cases i true e kept = rw (kept, k.part_is, e) (pieces-one _)
  width-cases i false e kept = rw (kept, k.part_is, e)

  pub width-kept : (i start len w : ℕ) → at.is_kept t v.number i ≡ true → start ≡ at.start t v.number i → len ≡ min v.full (v.length - start)
      → w ≡ pieces len v.part → w ≡ width_at t v.number i
  width-kept i start len w kept s e q =
      q ∙ ap (λ (x : ℕ). pieces x v.part) (length_is i start len s e) ∙ width-cases i _ refl kept

  pub width-full : (i start len : ℕ) → at.is_kept t v.number i ≡ true → start ≡ at.start t v.number i → len ≡ min v.full (v.length - start)
      → len ≡ v.full → v.most ≡ width_at t v.number i
  width-full i start len kept s e q = width-kept i start len v.most kept s e (k.most_is ∙ ap (λ (x : ℕ). pieces x v.part) (sym q))

  -- The children.
  module _ (start link j child : ℕ) (n : v.number ≡ v.last → ⊥) (c : child ≡ at.start t (v.number + 1) (link + j)) where
    pub child-off : (child ≡ start + j * v.part → ⊥) → child_as_cut t v.number link start j ≡ false
    child-off f = ne_eqb _ _ (λ e. f (rw (c, part-above n) e))

    pub child-on : child ≡ start + j * v.part → child_as_cut t v.number link start j ≡ true
    child-on e = eq-eqb _ _ (rw (c, part-above n) at e)

  -- A target.
  module _ (j gap len start : ℕ) where
    pub target_none : v.count ≤ j → false ≡ is_target_right t v.number j gap len start
    unfolding is_target_right
    target_none h = rw (le-ltb j (at.level_count t v.number) (omega (arith, k.count_is)))

    module _ (h : j < v.count) (kind : ℕ) (kind_is : kind ≡ at.kind t v.number j) where
      in_table : ltb j (at.level_count t v.number) ≡ true
      in_table = lt-ltb j (at.level_count t v.number) (omega (arith, k.count_is))

      pub target-points : (kind ≡ 0 → ⊥) → false ≡ is_target_right t v.number j gap len start
      unfolding is_target_right
      target-points n = rw (in_table, other-kind j kind kind_is n)

      pub target-ends : (from : ℕ) → kind ≡ 0 → from ≡ at.start t v.number j → leb (from + gap + len) start ≡ is_target_right t v.number j gap len start
      unfolding is_target_right
      target-ends from z e = rw (in_table, kept-kind j kind kind_is z, e)

  pub target_in : (j gap len start : ℕ) → is_target_right t v.number j gap len start ≡ true → j < v.count
  unfolding is_target_right
  target_in j gap len start h =
      let below = ltb j (at.level_count t v.number) in
      let kept = at.is_kept t v.number j in
      let ends = leb (at.start t v.number j + gap + len) start in
      omega (arith, ltb-true j (at.level_count t v.number) (and_left below kept (and_left (below && kept) ends h)), k.count_is)

  -- The block after it.
  module _ (j : ℕ) where
    pub next-none : v.count ≤ j + 1 → false ≡ next_right t v.number j
    unfolding next_right
    next-none h = rw (le-ltb (j + 1) (at.level_count t v.number) (omega (arith, k.count_is)))

    module _ (h : j + 1 < v.count) (kind : ℕ) (kind_is : kind ≡ at.kind t v.number (j + 1)) where
      next-table : ltb (j + 1) (at.level_count t v.number) ≡ true
      next-table = lt-ltb (j + 1) (at.level_count t v.number) (omega (arith, k.count_is))

      pub next-points : (kind ≡ 0 → ⊥) → false ≡ next_right t v.number j
      unfolding next_right
      next-points n = rw (next-table, other-kind (j + 1) kind kind_is n)

      pub next-follows : (from to : ℕ) → kind ≡ 0 → from ≡ at.start t v.number j → to ≡ at.start t v.number (j + 1)
          → eqb to (from + v.full) ≡ next_right t v.number j
      unfolding next_right
      next-follows from to z e q = rw (next-table, kept-kind (j + 1) kind kind_is z, e, q, k.full_is)

  -- A kept block.
  module _ (i before width link : ℕ) (before-is : before ≡ sum_below i (width_at t v.number)) (link_is : link ≡ at.link t v.number i) where
    pub kept-link : (link ≡ before → ⊥) → false ≡ kept_right t v.number i
    unfolding kept_right
    kept-link n = rw (ne_eqb (at.link t v.number i) (sum_below i (width_at t v.number)) (λ e. n (link_is ∙ e ∙ sym before-is)))

    module _ (same : link ≡ before) (gap : ℕ) (gap_is : gap ≡ at.gap t v.number i) where
      linked : eqb (at.link t v.number i) (sum_below i (width_at t v.number)) ≡ true
      linked = eq-eqb _ _ (sym link_is ∙ same ∙ before-is)

      pub kept-gap : (gap ≡ 0 → ⊥) → false ≡ kept_right t v.number i
      unfolding kept_right
      kept-gap n = rw (linked, ne_eqb (at.gap t v.number i) 0 (λ e. n (gap_is ∙ e)))

      module _ (none : gap ≡ 0) where
        no_gap : eqb (at.gap t v.number i) 0 ≡ true
        no_gap = eq-eqb _ _ (sym gap_is ∙ none)

        pub kept-last : v.number ≡ v.last → true ≡ kept_right t v.number i
        unfolding kept_right
        kept-last e = rw (linked, no_gap, eq-eqb v.number (last_level t) (e ∙ k.last_is))

        pub kept-children : (v.number ≡ v.last → ⊥) → (start : ℕ) (r : Bool) → width ≡ width_at t v.number i → start ≡ at.start t v.number i
            → r ≡ all_below width (child_as_cut t v.number link start) → r ≡ kept_right t v.number i
        unfolding kept_right
        kept-children n start r w s e = rw (linked, no_gap, not_last n, ← w, ← s, ← link_is) e

  -- A pointing block, with its parts named.
  pointing-is : (i : ℕ) → pointing_right t v.number i
      ≡ (eqb (at.kind t v.number i) 1 && not (eqb v.number (last_level t)) && ltb (at.gap t v.number i) (at.full_length t v.number)
      && is_target_right t v.number (at.link t v.number i) (at.gap t v.number i) (at.block_length_at t v.number i) (at.start t v.number i)
      && (leb (at.gap t v.number i + at.block_length_at t v.number i) (at.full_length t v.number) || next_right t v.number (at.link t v.number i)))
  unfolding pointing_right is_target_right next_right
  pointing-is i = refl

  module _ (i kind : ℕ) (kind_is : kind ≡ at.kind t v.number i) where
    pub pointing-kind : (kind ≡ 1 → ⊥) → false ≡ pointing_right t v.number i
    pointing-kind n = rw (pointing-is i, ne_eqb (at.kind t v.number i) 1 (λ e. n (kind_is ∙ e)))

    module _ (one : kind ≡ 1) where
      points : eqb (at.kind t v.number i) 1 ≡ true
      points = eq-eqb _ _ (sym kind_is ∙ one)

      pub pointing-last : v.number ≡ v.last → false ≡ pointing_right t v.number i
      pointing-last e = rw (pointing-is i, points, eq-eqb v.number (last_level t) (e ∙ k.last_is))

      module _ (n : v.number ≡ v.last → ⊥) (gap : ℕ) (gap_is : gap ≡ at.gap t v.number i) where
        pub pointing-gap : v.full ≤ gap → false ≡ pointing_right t v.number i
        pointing-gap h = rw (pointing-is i, points, not_last n, le-ltb (at.gap t v.number i) (at.full_length t v.number) (omega (arith, k.full_is)))

        module _ (h : gap < v.full) (link start len : ℕ) (link_is : link ≡ at.link t v.number i) (start_is : start ≡ at.start t v.number i)
            (len_is : len ≡ min v.full (v.length - start)) where
          gap-fits : ltb (at.gap t v.number i) (at.full_length t v.number) ≡ true
          gap-fits = lt-ltb (at.gap t v.number i) (at.full_length t v.number) (omega (arith, k.full_is))

          target_is : (r : Bool) → is_target_right t v.number link gap len start ≡ r
              → is_target_right t v.number (at.link t v.number i) (at.gap t v.number i) (at.block_length_at t v.number i) (at.start t v.number i) ≡ r
          target_is r e = rw (← link_is, ← gap_is, ← length_is i start len start_is len_is, ← start_is) e

          pub pointing-target : is_target_right t v.number link gap len start ≡ false → false ≡ pointing_right t v.number i
          pointing-target f = rw (pointing-is i, points, not_last n, gap-fits, target_is false f)

          module _ (r : is_target_right t v.number link gap len start ≡ true) where
            -- What is left to be decided.
            rest_is : (x : Bool) → leb (gap + len) v.full ≡ x → pointing_right t v.number i ≡ (x || next_right t v.number link)
            rest_is x e =
                rw (
                  pointing-is i,
                  points,
                  not_last n,
                  gap-fits,
                  target_is true r,
                  ← gap_is,
                  ← length_is i start len start_is len_is,
                  ← k.full_is,
                  e,
                  ← link_is,
                )

            pub pointing-within : gap + len ≤ v.full → true ≡ pointing_right t v.number i
            pointing-within w = sym (rest_is true (le-leb (gap + len) v.full w))

            pub pointing-next : v.full < gap + len → (x : Bool) → x ≡ next_right t v.number link → x ≡ pointing_right t v.number i
            pointing-next w x e = e ∙ sym (rest_is false (lt-leb (gap + len) v.full w))

  -- Either kind.
  module _ (i kind : ℕ) (kind_is : kind ≡ at.kind t v.number i) (r : Bool) where
    pub block-kept : kind ≡ 0 → r ≡ kept_right t v.number i → r ≡ block_right t v.number i
    unfolding block_right
    block-kept z e = rw (kept-kind i kind kind_is z) e

    pub block-pointing : (kind ≡ 0 → ⊥) → r ≡ pointing_right t v.number i → r ≡ block_right t v.number i
    unfolding block_right
    block-pointing n e = rw (other-kind i kind kind_is n) e
