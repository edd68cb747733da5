-- The starts of the children of a level's blocks, block by block.
use mathlib.Core.List.{List}
use mathlib.Core.Bool.{true}
use mathlib.Core.Path.{◌≡◌, sym, ap, ◌∙◌}
use mathlib.Core.Logic.{◌⊎◌, inl, inr}
use Prim.Native.Nat.{ℕ, suc, ◌+◌, ◌-◌, ◌*◌, ◌≤◌, ◌<◌}
use native.Mathlib.Omega.{arith}
use native.Mathlib.Nat.{add-mul, div-mul-le_self}
use lib.ListN.{length}
use Rattle.text.specs.Text.{sum_below}
use Rattle.text.specs.ListLaws.{lt-or-ge, sum_below-suc, sum_below-part}
use Rattle.format.specs.Layout.{word_at, kind_field, link_field, plain_bytes, Settings, block_length, pieces, max_text, header_length}
use Rattle.format.specs.SizeLaws.{max_record}
use Rattle.format.specs.Blocks.{tree_of, record_bytes}
use Rattle.theory_built.specs.BuiltBytes.{BytesAt}
use Rattle.theory_built.specs.BuiltLinks.{link-kept}
use Rattle.theory_built.specs.BlockSizes.{BuiltBounds, bounds, size-pos, max_table}
use Rattle.theory_built.specs.Structure.{size, count, start, kept_at, width_of, bytes_in-is, cut_at, count-below, start-below}
use Rattle.theory_built.specs.BuiltLeafBytes.{widths-le}
use Rattle.theory_built.specs.Pairs.{offset}
use Rattle.theory_built.specs.BuiltRecords.{kind_of, link_of}
use Rattle.theory_built.specs.SizeBounds.{kind-le, link-le}
use Rattle.build_records.specs.declared.level_written.Level.{Level}
use Rattle.build_records.specs.declared.level_written.Substring.{Substring}
use Rattle.build_records.specs.WritesOnlyTree.{WritesOnlyTree, AgreesOn}
use Rattle.build_records.specs.RecordPlaces.{record_place}
use Rattle.build_records.specs.WrittenStarts.{starts_written, StartsAsk}
use Rattle.build_records.specs.State.{LevelIs, record_settings_of, RecordsUpTo, Below, Started, BlockNext, SubstringIs, place_at}
use Rattle.build_records.proofs.WritesOnlyTreeLaws.{read_right, agrees-only-tree, within-part}
use Rattle.build_records.proofs.RecordsRead.{on-written}
use Rattle.build_records.proofs.WrittenStartsLaws.{starts-only-tree, starts-within}
use Rattle.build_records.proofs.StateLaws.{record-size, place_is, place-le, place_end, record-inside-table, table-inside, offset-low}
use Rattle.build_records.proofs.StateLaws.{offset-rises, size-high, start-bytes, kind-bytes, link-bytes}
use Rattle.build_records.proofs.Widths.{kept-by-kind, points-by-kind}

-- No more blocks than bytes, and one more block's.
pub pieces-most : (x b : ℕ) → pieces x b * b ≤ x + (b - 1)
unfolding pieces
pieces-most x b = div-mul-le_self (x + (b - 1)) b

module _ (S : Settings) (T out : List ℕ) (level next : Level) (i : ℕ) (w : Below S T out level next i) (il : i < level.count) where
  abbrev l : ℕ
  l = level.number

  abbrev lev : LevelIs S T level
  lev = w.level_is

  abbrev P : ℕ
  P = place_at S T l i

  -- children of the blocks before this one
  abbrev sum : ℕ
  sum = sum_below i (width_of S T l)

  limits : BuiltBounds S T
  limits = bounds S T lev.taken

  up : suc l < S.levels
  up = omega (arith, w.next_is.number_in, w.follows)

  i-in : i < count S T l
  i-in = omega (arith, lev.count_is)

  low : header_length ≤ P
  low = omega (arith, offset-low S T l)

  ends : P + record_bytes S ≤ offset S T (suc l)
  ends = record-inside-table S T l i i-in

  -- The records of the level are written.
  pub children-on : BlockNext S T out level i
  children-on = on-written S T out level i lev (omega (arith, offset-rises S T (suc l) (suc (suc l)) (omega arith), w.room)) w.body il

  module _ (at : ℕ) (at-is : at ≡ record_place level.table i (record_settings_of level.settings S.counted)) where
    at_right : at ≡ P
    at_right = at-is ∙ place_is S T level lev i

    pub record-fits : at + plain_bytes ≤ length out
    record-fits = omega (arith, at_right, ends, record-size S T, offset-rises S T (suc l) (suc (suc l)) (omega arith), w.room)

    word : (x v : ℕ) → x + 4 ≤ record_bytes S → BytesAt (tree_of S T) (P + x) v → v < 4294967296 → word_at out (at + x) ≡ v
    word x v in-record s small =
        rw at_right (read_right (tree_of S T) out (P + x)
        v (within-part (tree_of S T) out header_length (offset S T (suc l)) (P + x) (P + x + 4) w.body (omega (arith, low)) (omega (arith, ends))) s small)

    kind_read : word_at out (at + 4 * kind_field) ≡ kind_of S T l i
    kind_read = word (4 * kind_field) (kind_of S T l i) (omega (arith, record-size S T)) (kind-bytes S T lev.taken l i lev.number_in i-in)
        (omega (arith, kind-le S T l i))

    link-read : word_at out (at + 4 * link_field) ≡ link_of S T l i
    link-read =
        let e : P + 4 * kind_field + 4 ≡ P + 4 * link_field = omega arith in
        word (4 * link_field) (link_of S T l i) (omega (arith, record-size S T))
        (rw e at (link-bytes S T lev.taken l i lev.number_in i-in))
        (omega (arith, link-le S T lev.taken l lev.number_in i i-in, limits.text_high))

    module _ (kind : ℕ) (kind_is : kind ≡ word_at out (at + 4 * kind_field)) where
      -- A pointing block has no children.
      pub no-children : (kind ≡ 0 → ⊥) → Started S T out (suc l) 0 (sum_below (i + 1) (width_of S T l))
      no-children n =
          let e : sum_below (i + 1) (width_of S T l) ≡ sum =
          sum_below-suc i (width_of S T l) ∙ omega (arith, (cut_at S T lev.taken l up).uncut i (points-by-kind S T l i kind (kind_is ∙ kind_read) n)) in
          rw e w.finished

      module _ (zero-kind : kind ≡ 0) where
        kept : kept_at S T l i ≡ true
        kept = kept-by-kind S T l i kind (kind_is ∙ kind_read) zero-kind

        module _ (link : ℕ) (link_is : link ≡ word_at out (at + 4 * link_field)) where
          link-right : link ≡ sum
          link-right = link_is ∙ link-read ∙ link-kept S T l i kept

          pub link-few : link ≤ max_text
          link-few = omega (arith, link-right, widths-le S T lev.taken l i lev.number_in (omega (arith, i-in)), limits.text_high)

          module _ (own : Substring) (own_is : SubstringIs S T l i own) where
            size-right : next.size ≡ size S T (suc l)
            size-right = w.next_is.size_is ∙ ap (block_length S) w.follows

            pub pieces-asks : (own.length ≤ max_text) × (0 < next.size) × (next.size ≤ max_text)
            pieces-asks = (
              omega (arith, own_is.fits, limits.text_high),
              rw size-right (size-pos S T lev.taken (suc l)),
              rw size-right (size-high S T lev.taken (suc l)),
            )

            module _ (n : ℕ) (n-is : n ≡ pieces own.length next.size) (to : ℕ) (to_is : to ≡ record_place next.table link (record_settings_of
                next.settings S.counted)) (to-few : to ≤ max_table + max_record * max_text) (step : ℕ) (step_is : step ≡ record_bytes S) where
              n-right : n ≡ width_of S T l i
              n-right = n-is ∙ rw (own_is.length_is, size-right, bytes_in-is S T l i) (sym ((cut_at S T lev.taken l up).cut i kept))

              to-right : to ≡ place_at S T (suc l) sum
              to-right = to_is ∙ place_is S T next w.next_is link ∙ rw (w.follows, link-right)

              to-child : (j : ℕ) → to + j * record_bytes S ≡ place_at S T (suc l) (sum + j)
              to-child j = omega (arith, to-right, add-mul sum j (record_bytes S))

              child-in : (j : ℕ) → j < n → sum + j < count S T (suc l)
              child-in j h = omega (arith, count-below S T lev.taken l up, sum_below-part (count S T l) (width_of S T l) i i-in, n-right)

              all_in : sum + n ≤ count S T (suc l)
              all_in = omega (arith, count-below S T lev.taken l up, sum_below-part (count S T l) (width_of S T l) i i-in, n-right)

              child_fits : (j : ℕ) → j < n → to + j * record_bytes S + 4 ≤ offset S T (suc (suc l))
              child_fits j h = omega (arith, to-child j, record-inside-table S T (suc l) (sum + j) (child-in j h), record-size S T)

              start-bytes-at : (j : ℕ) → j < n → BytesAt (tree_of S T) (to + j * record_bytes S) (own.start.0 + j * next.size)
              start-bytes-at j h =
                  let e : start S T (suc l) (sum + j) ≡ own.start.0 + j * next.size =
                  start-below S T lev.taken l i j up i-in (omega (arith, n-right)) ∙ rw (own_is.start_is, size-right) in
                  rw (to-child j, ← e) (start-bytes S T lev.taken (suc l) (sum + j) up (child-in j h))

              pub starts-ask : StartsAsk out to step own.start.0 next.size n
              starts-ask = record {
                room = rw step_is (omega (arith, to-child n, place-le S T (suc l) (sum + n) (count S T (suc l)) all_in, place_end S T (suc l), w.room));
                step_low = omega (arith, step_is, record-size S T);
                step_few = omega (arith, step_is, record-size S T, limits.counted_high, limits.leaf_high);
                at_few = omega arith;
                count_few = omega (
                  arith,
                  n-right,
                  sum_below-part (count S T l) (width_of S T l) i i-in,
                  widths-le S T lev.taken l (count S T l) lev.number_in (omega arith),
                  limits.text_high,
                );
                ends = rw n-is (omega (arith, pieces-most own.length next.size, pieces-asks.0, pieces-asks.2, own_is.fits, limits.text_high));
              }

              module _ (new : List ℕ) (New-is : new ≡ starts_written out to step own.start.0 next.size n) where
                new-right : new ≡ starts_written out to (record_bytes S) own.start.0 next.size n
                new-right = New-is ∙ rw step_is

                fits : (j : ℕ) → j < n → to + j * record_bytes S + 4 ≤ length out
                fits j h = omega (arith, child_fits j h, w.room)

                inside : (j : ℕ) → j < n → to + j * record_bytes S + 4 ≤ length (tree_of S T)
                inside j h = omega (arith, child_fits j h, table-inside S T lev.taken (suc l) up)

                children-only-tree : WritesOnlyTree (tree_of S T) out new
                children-only-tree = rw new-right (starts-only-tree (tree_of S T) out to (record_bytes S) own.start.0 next.size n
                    start-bytes-at fits inside n (omega arith))

                child-started : (j : ℕ) → j < n → AgreesOn (tree_of S T) new (place_at S T (suc l) (sum + j)) (place_at S T (suc l) (sum + j) + 4)
                child-started j h = rw (← to-child j, new-right)
                    (starts-within (tree_of S T) out to (record_bytes S) own.start.0 next.size n start-bytes-at fits inside n (omega arith) j h)

                children-started : Started S T new (suc l) 0 (sum_below (i + 1) (width_of S T l))
                children-started = record { starts = λ x _ h. go x h (lt-or-ge x sum) }
                  where
                    go : (x : ℕ) → x < sum_below (i + 1) (width_of S T l)
                        → (x < sum) ⊎ (sum ≤ x) → AgreesOn (tree_of S T) new (place_at S T (suc l) x) (place_at S T (suc l) x + 4)
                    go x h (inl y) = agrees-only-tree
                        (tree_of S T) out new (place_at S T (suc l) x) (place_at S T (suc l) x + 4) children-only-tree (w.finished.starts x (omega arith) y)
                    go x h (inr y) =
                        let e : sum + (x - sum) ≡ x = omega arith in
                        let k : x - sum < n = omega (arith, sum_below-suc i (width_of S T l), n-right) in
                        rw e at (child-started (x - sum) k)

                pub children-written : WritesOnlyTree (tree_of S T) out new × Started S T new (suc l) 0 (sum_below (i + 1) (width_of S T l))
                children-written = (children-only-tree, children-started)

-- After the loop over the blocks.

pub below_all : (S : Settings) (T t : List ℕ) (level next : Level) (i : ℕ) → Below S T t level next i → i ≡ level.count
    → RecordsUpTo S T t (suc level.number) 0
below_all S T t level next i w e = record {
  room = w.room;
  body = within-part (tree_of S T)
      t header_length (offset S T (suc level.number)) header_length (place_at S T (suc level.number) 0) w.body (omega arith) (omega arith);
  starts = λ x h. w.finished.starts x (omega arith) (rw (all x) at h);
}
  where
    up : suc level.number < S.levels
    up = omega (arith, w.next_is.number_in, w.follows)

    all : (x : ℕ) → count S T (suc level.number) ≡ sum_below i (width_of S T level.number)
    all x = count-below S T w.level_is.taken level.number up ∙ ap (λ (k : ℕ). sum_below k (width_of S T level.number)) (sym (e ∙ w.level_is.count_is))
