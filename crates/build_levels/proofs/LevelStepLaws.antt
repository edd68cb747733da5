-- From level to level: the next level is that of the tree, and what was written before is unchanged.
use mathlib.Core.List.{List}
use mathlib.Core.Path.{◌≡◌, refl, sym, ap, ◌∙◌}
use mathlib.Core.Logic.{inl, inr}
use Prim.Native.Nat.{ℕ, suc, ◌+◌, ◌-◌, ◌≤◌, ◌<◌}
use native.Mathlib.Omega.{arith}
use native.Mathlib.Numerals.{add-one}
use lib.ListN.{length}
use Rattle.text.specs.Text.{sum_below}
use Rattle.format.specs.Layout.{set_word, Settings, block_length, max_levels, count_at, leaf_offset_at, leaf_count_at, header_length}
use Rattle.format.specs.Blocks.{tree_of, leaf_bytes}
use Rattle.theory_built.specs.BlockSizes.{Taken, BuiltBounds, bounds, size-pos, size-falls, max_table, max_tree}
use Rattle.theory_built.specs.Structure.{count, width_of, count-below}
use Rattle.theory_built.specs.BuiltLeafBytes.{leaf-count}
use Rattle.theory_built.specs.Pairs.{offset}
use Rattle.theory_built.specs.SizeBounds.{offset-le}
use Rattle.theory_built.specs.Shape.{tree-length}
use Rattle.theory_built.specs.Built.{tree-small}
use Rattle.build_records.specs.declared.level_written.Level.{Level}
use Rattle.std.proofs.Common.{Some, None}
use Rattle.build_records.specs.WritesOnlyTree.{WritesOnlyTree, AgreesOn}
use Rattle.build_levels.specs.Head.{pair_written, unused_written}
use Rattle.build_records.specs.RecordPlaces.{record_place}
use Rattle.build_records.specs.State.{record_settings_of, LevelIs, RecordsUpTo, Below, place_at}
use Rattle.build_levels.specs.LeafBytesWritten.{LeafBytesUpTo}
use Rattle.build_levels.specs.Trees.{next_at, next_of, LevelReady, LevelWritten, StepIs, TreeComplete}
use Rattle.build_records.proofs.WritesOnlyTreeLaws.{only-tree-trans, agrees-only-tree, within-part, within-join}
use Rattle.build_levels.proofs.LevelZeroLaws.{divided, step-ready, step-none}
use Rattle.build_levels.proofs.HeaderWrittenLaws.{level-only-tree, level-within, end-only-tree, end-within}
use Rattle.build_records.proofs.StateLaws.{place_is, place_end, offset-low, table-inside, RecordFew, record-few}

pub next-made : (level : Level) (count p : ℕ) (cs : List ℕ) → p ≡ record_place level.table level.count (record_settings_of level.settings cs)
    → next_at level count p ≡ next_of level count cs
next-made level count p cs e = rw e

-- The preconditions of writing the words of a level in the header.
pub pair-asks : (S : Settings) (T out : List ℕ) (level : Level) (total : ℕ)
    → LevelWritten S T out level total → (header_length ≤ length out) × (level.number < max_levels)
pair-asks S T out level total r =
    (omega (arith, r.room, offset-low S T (suc level.number)), omega (arith, r.level_is.number_in, (bounds S T r.level_is.taken).levels_high))

-- The records of a level are written, and its words in the header.
module _ (T cs : List ℕ) (level : Level) (out two : List ℕ) (total : ℕ) (r : LevelWritten (record_settings_of level.settings cs) T out level total)
    (two_is : two ≡ pair_written out level.number level.count level.table) where
  abbrev S : Settings
  S = record_settings_of level.settings cs

  abbrev l : ℕ
  l = level.number

  abbrev D : List ℕ
  D = tree_of S T

  h : LevelIs S T level
  h = r.level_is

  taken : Taken S T
  taken = h.taken

  limits : BuiltBounds S T
  limits = bounds S T taken

  table-end : record_place level.table level.count (record_settings_of level.settings cs) ≡ offset S T (suc l)
  table-end = place_is S T level h level.count ∙ ap (place_at S T l) h.count_is ∙ place_end S T l

  -- The level's records end where the leaf bytes or the next level begin, which is a word.
  pub table-small : record_place level.table level.count (record_settings_of level.settings cs) ≤ max_table
  table-small = rw table-end (offset-le S T taken (suc l) (omega (arith, h.number_in)))

  room_out : header_length ≤ length out
  room_out = (pair-asks S T out level total r).0

  two-right : two ≡ pair_written out l (count S T l) (offset S T l)
  two-right = two_is ∙ rw (h.count_is, h.table_is)

  pub pair-only-tree : WritesOnlyTree D out two
  pair-only-tree = level-only-tree S T taken out two l room_out h.number_in two-right

  header-two : AgreesOn D two 0 (count_at (l + 1))
  header-two = level-within S T taken out two l room_out h.number_in two-right r.header

  body-two : AgreesOn D two header_length (offset S T (suc l))
  body-two = agrees-only-tree D out two header_length (offset S T (suc l)) pair-only-tree r.body

  pub room-two : header_length ≤ length two
  room-two = omega (arith, room_out, pair-only-tree.same_length)

  -- Above the last level.
  module _ (up : l + 1 < S.levels) where
    up' : suc l < S.levels
    up' = omega arith

    abbrev next : Level
    next = next_of level total cs

    count_next : total ≡ count S T (l + 1)
    count_next = r.total_is ∙ ap (λ (k : ℕ). sum_below k (width_of S T l)) h.count_is ∙ sym (count-below S T taken l up') ∙ ap (count S T) (sym (add-one l))

    next_is : LevelIs S T next
    next_is = record {
      taken = taken;
      number_in = up;
      leaf_is = refl;
      above_low = rw h.size_is (size-pos S T taken l);
      above_is = λ k e. h.size_is ∙ ap (block_length S) (let z : l ≡ k = omega arith in z);
      size_is = h.below_is up' ∙ ap (block_length S) (sym (add-one l));
      below_is = λ u. divided S.arity level.below (block_length S (suc (l + 1))) (omega (arith, limits.arity_low))
          (h.below_is up' ∙ ap (block_length S) (sym (add-one l)) ∙ size-falls S T taken (l + 1) u);
      count_is = count_next;
      table_is = table-end ∙ ap (offset S T) (sym (add-one l));
    }

    end-next : record_place next.table next.count (record_settings_of next.settings cs) ≡ offset S T (suc (suc l))
    end-next =
        let e : place_at S T (l + 1) (count S T (l + 1)) ≡ offset S T (suc (suc l)) = place_end S T (l + 1) ∙ ap (λ (k : ℕ). offset S T (suc k)) (add-one l) in
        place_is S T next next_is next.count ∙ ap (place_at S T (l + 1)) count_next ∙ e

    no_room : (p : ℕ) → p ≡ record_place next.table next.count (record_settings_of next.settings cs) → length two < p → length two < length D
    no_room p e k = omega (arith, end-next, table-inside S T taken (suc l) up')

    below-first : (p : ℕ) → p ≡ record_place next.table next.count (record_settings_of next.settings cs) → p ≤ length two → Below S T two level next 0
    unfolding sum_below
    below-first p e k = record {
      level_is = h;
      next_is = next_is;
      follows = add-one l;
      room = omega (arith, end-next);
      body = body-two;
      finished = record { starts = λ x a b. absurd (let z : ⊥ = omega arith in z) };
    }

    ready-next : (new : List ℕ) → WritesOnlyTree D two new → RecordsUpTo S T new (suc l) 0 → LevelReady S T new next
    ready-next new more filled = record {
      level_is = next_is;
      filled = rw (← add-one l) at filled;
      header = agrees-only-tree D two new 0 (count_at (l + 1)) more header-two;
    }

    -- For the level that the code makes.
    module _ (n : Level) (n-is : n ≡ next) where
      n-level : LevelIs S T n
      n-level = rw n-is next_is

      pub next-few : RecordFew S T n
      next-few = record-few S T n n-level

      pub step-full : (p : ℕ) → p ≡ record_place n.table n.count (record_settings_of n.settings cs)
          → length two < p → StepIs S T two level.settings (l + 1) None
      step-full p e k = step-none S T two level.settings (l + 1) (no_room p (rw n-is at e) k)

      pub step-below : (p : ℕ) → p ≡ record_place n.table n.count (record_settings_of n.settings cs) → p ≤ length two → Below S T two level n 0
      step-below p e k = rw n-is (below-first p (rw n-is at e) k)

      pub step-to : (new : List ℕ) → WritesOnlyTree D two new → RecordsUpTo S T new (suc l) 0 → StepIs S T new level.settings (l + 1) (Some n)
      step-to new more filled = rw n-is (step-ready S T new level.settings (l + 1) next (refl, refl, ready-next new more filled))

  -- On the last level.
  module _ (last : l + 1 ≡ S.levels) where
    last' : suc l ≡ S.levels
    last' = sym (add-one l) ∙ last

    total-leaves : total ≡ length (leaf_bytes S T)
    total-leaves = r.total_is ∙ ap (λ (k : ℕ). sum_below k (width_of S T l)) h.count_is ∙ sym (leaf-count S T taken l last')

    module _ (at : ℕ) (at-is : at ≡ record_place level.table level.count (record_settings_of level.settings cs)) where
      at_right : at ≡ offset S T S.levels
      at_right = at-is ∙ table-end ∙ ap (offset S T) last'

      end_is : at + total ≡ length D
      end_is = rw (at_right, total-leaves) (sym (tree-length S T taken))

      pub end-small : at + total ≤ max_tree
      end-small = omega (arith, end_is, tree-small S T taken)

      pub not-fits : length two < at + total → TreeComplete D two 0
      not-fits k = inl (refl, omega (arith, end_is))

      module _ (fits : at + total ≤ length two) (three : List ℕ)
          (three-is : three ≡ set_word (set_word (unused_written two S.levels (max_levels - S.levels)) leaf_offset_at at) leaf_count_at total) where
        three-right : three ≡ set_word
            (set_word (unused_written two S.levels (max_levels - S.levels)) leaf_offset_at (offset S T S.levels)) leaf_count_at (length (leaf_bytes S T))
        three-right = three-is ∙ rw (at_right, total-leaves)

        pub three-only-tree : WritesOnlyTree D two three
        three-only-tree = end-only-tree S T taken two room-two three three-right

        header-three : AgreesOn D three 0 header_length
        header-three =
            let e : l + 1 ≡ S.levels = last in
            end-within S T taken two room-two three three-right (rw e at header-two)

        pub leaf-bytes-first : LeafBytesUpTo S T three level at 0
        unfolding sum_below
        leaf-bytes-first = record {
          level_is = h;
          last = last';
          room = omega (arith, end_is, three-only-tree.same_length);
          body = within-part D three header_length (offset S T (suc l)) header_length
              at (agrees-only-tree D two three header_length (offset S T (suc l)) three-only-tree body-two) (omega arith) (omega (arith, at-is, table-end));
          to_is = omega (arith, at_right);
        }

        module _ (four : List ℕ) (leaves : WritesOnlyTree D three four) (all : AgreesOn D four header_length (length D)) where
          pub finish-only-tree : WritesOnlyTree D out four
          finish-only-tree = only-tree-trans D out two four pair-only-tree (only-tree-trans D two three four three-only-tree leaves)

          pub finished : TreeComplete D four (at + total)
          finished = inr (
            end_is,
            omega (arith, end_is, three-only-tree.same_length, leaves.same_length),
            within-join D four 0 header_length (length D) (agrees-only-tree D three four 0 header_length leaves header-three) all,
          )
