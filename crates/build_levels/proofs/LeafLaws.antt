-- Leaf bytes, block by block.
use mathlib.Core.List.{List}
use mathlib.Core.Path.{◌≡◌, sym, ap, ◌∙◌}
use Prim.Native.Nat.{ℕ, suc, ◌+◌, ◌≤◌, ◌<◌}
use native.Mathlib.Omega.{arith}
use lib.ListN.{length, get_or}
use Rattle.text.specs.Text.{sum_below}
use Rattle.text.specs.ListLaws.{sum_below-suc, sum_below-part}
use Rattle.format.specs.Layout.{Settings, header_length}
use Rattle.format.specs.Blocks.{tree_of}
use Rattle.theory_built.specs.BlockSizes.{Taken, max_tree}
use Rattle.theory_built.specs.Structure.{count, width_of}
use Rattle.theory_built.specs.BuiltLeafBytes.{width-last, leaf-count, leaf-at}
use Rattle.theory_built.specs.Pairs.{offset}
use Rattle.theory_built.specs.Shape.{leaf-place, tree-length}
use Rattle.theory_built.specs.Built.{tree-small}
use Rattle.byte_slices.specs.ByteSlices.{bytes_written}
use Rattle.build_records.specs.declared.level_written.Level.{Level}
use Rattle.build_records.specs.declared.level_written.Substring.{Substring}
use Rattle.build_records.specs.WritesOnlyTree.{WritesOnlyTree, AgreesOn}
use Rattle.build_levels.specs.LeafBytesWritten.{LeafBytesUpTo}
use Rattle.build_records.specs.State.{BlockNext, SubstringIs}
use Rattle.build_records.proofs.WritesOnlyTreeLaws.{agrees-only-tree, within-part, within-join, bytes-only-tree, bytes-within}
use Rattle.build_records.proofs.RecordsRead.{on-written}
use Rattle.build_records.proofs.StateLaws.{table-inside}

module _ (S : Settings) (T out : List ℕ) (level : Level) (to i : ℕ) (w : LeafBytesUpTo S T out level to i) where
  abbrev l : ℕ
  l = level.number

  abbrev D : List ℕ
  D = tree_of S T

  taken : Taken S T
  taken = w.level_is.taken

  l-in : l < S.levels
  l-in = w.level_is.number_in

  -- The records end where the leaf bytes begin.
  end : offset S T (suc l) ≤ to
  end = omega (arith, w.to_is, ap (offset S T) w.last)

  module _ (il : i < level.count) where
    i-in : i < count S T l
    i-in = omega (arith, w.level_is.count_is)

    pub leaf-on : BlockNext S T out level i
    leaf-on = on-written S T out level i w.level_is (omega (arith, table-inside S T taken l l-in, w.room))
        (within-part D out header_length to header_length (offset S T (suc l)) w.body (omega arith) end) il

    module _ (own : Substring) (own_is : SubstringIs S T l i own) where
      abbrev s : ℕ
      s = own.start.0

      abbrev len : ℕ
      len = own.length

      pub len-width : len ≡ width_of S T l i
      len-width = own_is.length_is ∙ sym (width-last S T l i w.last)

      pub in_tree : to + len ≤ length D
      in_tree = omega (arith, w.to_is, len-width, tree-length S T taken, leaf-count S T taken l w.last, sum_below-part (count S T l) (width_of S T l) i i-in)

      pub leaf-fits : to + len ≤ length out
      leaf-fits = omega (arith, in_tree, w.room)

      bytes-are : (j : ℕ) → j < len → get_or D (to + j) 0 ≡ get_or T (s + j) 0
      bytes-are j h =
          let e : to + j ≡ offset S T S.levels + (sum_below i (width_of S T l) + j) = omega (arith, w.to_is) in
          rw (e, own_is.start_is) (leaf-place S T taken (sum_below i (width_of S T l) + j)
          ∙ leaf-at S T taken l i j w.last i-in (omega (arith, own_is.length_is)))

      module _ (new : List ℕ) (New-is : new ≡ bytes_written out to T s len) where
        pub leaf-only-tree : WritesOnlyTree D out new
        leaf-only-tree = rw New-is (bytes-only-tree D out T to s len leaf-fits in_tree bytes-are len (omega arith))

        pub leaf-within : AgreesOn D new to (to + len)
        leaf-within = rw New-is (bytes-within D out T to s len leaf-fits in_tree bytes-are)

    -- The next block.
    module _ (new : List ℕ) (len : ℕ) (len_is : len ≡ width_of S T l i) (g : WritesOnlyTree D out new) (here : AgreesOn D new to (to + len)) where
      pub leaf-bytes-more : LeafBytesUpTo S T new level (to + len) (i + 1)
      leaf-bytes-more = record {
        level_is = w.level_is;
        last = w.last;
        room = omega (arith, w.room, g.same_length);
        body = within-join D new header_length to (to + len) (agrees-only-tree D out new header_length to g w.body) here;
        to_is = omega (arith, w.to_is, len_is, sum_below-suc i (width_of S T l));
      }

      pub to-few : to + len ≤ max_tree
      to-few = omega (
        arith,
        w.to_is,
        len_is,
        tree-length S T taken,
        leaf-count S T taken l w.last,
        sum_below-part (count S T l) (width_of S T l) i i-in,
        tree-small S T taken,
      )

  -- All leaf bytes are written.
  pub leaf-bytes-all : i ≡ level.count → AgreesOn D out header_length (length D)
  leaf-bytes-all e =
      let all : to ≡ length D = w.to_is ∙ sym (tree-length S T taken ∙ ap (λ (x : ℕ). offset S T S.levels + x)
      (leaf-count S T taken l w.last ∙ ap (λ (x : ℕ). sum_below x (width_of S T l)) (sym (e ∙ w.level_is.count_is)))) in
      rw all at w.body
