-- Records of a level, one after the other.
use mathlib.Core.List.{List}
use mathlib.Core.Bool.{Bool}
use mathlib.Core.Path.{◌≡◌, refl, sym, ap, ◌∙◌}
use Prim.Native.Nat.{ℕ, suc, ◌+◌, ◌≤◌, ◌<◌}
use native.Mathlib.Omega.{arith}
use native.Mathlib.Numerals.{add-one}
use Rattle.text.specs.Text.{sum_below}
use Rattle.text.specs.ListLaws.{sum_below-suc}
use Rattle.format.specs.Layout.{Settings, max_text, count_at, header_length}
use Rattle.format.specs.Blocks.{tree_of}
use Rattle.theory_built.specs.Structure.{width_of}
use Rattle.theory_built.specs.BlockSizes.{BuiltBounds, bounds}
use Rattle.theory_built.specs.BuiltLeafBytes.{widths-le}
use Rattle.theory_built.specs.Pairs.{offset}
use Rattle.build_records.specs.declared.level_written.Level.{Level}
use Rattle.build_records.specs.WritesOnlyTree.{WritesOnlyTree, AgreesOn}
use Rattle.build_records.specs.State.{LevelIs, RecordsUpTo, BlockNext, place_at}
use Rattle.build_records.proofs.WritesOnlyTreeLaws.{only-tree-refl, only-tree-trans, agrees-only-tree, within-part}
use Rattle.build_records.proofs.StateLaws.{filled-only-tree, place_end}
use Rattle.build_levels.specs.Trees.{LevelWritten}
use Rattle.build_marking.specs.declared.pair.Pair.{Pair}
use Rattle.build_marking.specs.declared.pair.Pair.TheVariants.{Apart}
use Rattle.build_marking.specs.MarkingRule.{is_kept_by, pair_of, pair_before, Next}
use Rattle.build_marking.proofs.PairLaws.{kept_rule}

-- The loop over the blocks of a level, before block i.
pub record Going (S : Settings) (T : List ℕ) (level : Level) (out₀ out : List ℕ) (left : Pair) (link i : ℕ) : Type 0 where
  pub only_tree : WritesOnlyTree (tree_of S T) out₀ out
  pub filled : RecordsUpTo S T out level.number i
  pub left_is : left ≡ pair_before S T level.number i
  pub link_is : link ≡ sum_below i (width_of S T level.number)

module _ (S : Settings) (T : List ℕ) (level : Level) (h : LevelIs S T level) where
  abbrev l : ℕ
  l = level.number

  abbrev D : List ℕ
  D = tree_of S T

  limits : BuiltBounds S T
  limits = bounds S T h.taken

  pub going-first : (out : List ℕ) → RecordsUpTo S T out l 0 → Going S T level out out Apart 0 0
  unfolding pair_before sum_below
  going-first out f = record { only_tree = only-tree-refl D out; filled = f; left_is = refl; link_is = refl }

  module _ (out₀ out : List ℕ) (left : Pair) (link i : ℕ) (g : Going S T level out₀ out left link i) (il : i < level.count) where
    pub going_on : BlockNext S T out level i
    going_on = record { level_is = h; filled = g.filled; block_in = il }

    module _ (right : Pair) (right_is : right ≡ pair_of S T l i) (kept : Bool) (kept_is : kept ≡ is_kept_by left right) where
      pub going_next : Next S T out level i kept link
      going_next = record { on = going_on; kept_is = kept_is ∙ rw (g.left_is, right_is) (sym (kept_rule S T l i)); link_is = g.link_is }

      module _ (new : List ℕ) (wide : ℕ)
          (wide_is : wide ≡ width_of S T l i) (more : WritesOnlyTree D out new) (body : AgreesOn D new header_length (place_at S T l (i + 1))) where
        link-next : link + wide ≡ sum_below (i + 1) (width_of S T l)
        link-next = rw (g.link_is, wide_is) (sym (sum_below-suc i (width_of S T l)))

        pub link-few : link + wide ≤ max_text
        link-few = omega (arith, link-next, widths-le S T h.taken l (i + 1) h.number_in (omega (arith, h.count_is)), limits.text_high)

        before-next : right ≡ pair_before S T l (i + 1)
        unfolding pair_before
        before-next = right_is ∙ rw (add-one i)

        pub going_more : Going S T level out₀ new right (link + wide) (i + 1)
        going_more =
            let f = filled-only-tree S T out new l i g.filled more in
            record {
              only_tree = only-tree-trans D out₀ out new g.only_tree more;
              filled = record { room = f.room; body = body; starts = f.starts };
              left_is = before-next;
              link_is = link-next;
            }

  -- All records of the level are written.
  module _ (out₀ out : List ℕ) (left : Pair) (link i : ℕ) (g : Going S T level out₀ out left link i) (last : i ≡ level.count) where
    pub all-written : AgreesOn D out₀ 0 (count_at l) → LevelWritten S T out level link
    all-written header = record {
      level_is = h;
      room = g.filled.room;
      body = within-part D out header_length (place_at S T l i) header_length (offset S T (suc l)) g.filled.body (omega arith)
          (omega (arith, place_end S T l, ap (place_at S T l) (last ∙ h.count_is)));
      header = agrees-only-tree D out₀ out 0 (count_at l) g.only_tree header;
      total_is = rw last at g.link_is;
    }
