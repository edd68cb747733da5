-- The results in the table for a block and the next one.
use mathlib.Core.List.{List}
use mathlib.Core.Bool.{true}
use mathlib.Core.Path.{◌≡◌, sym, ap, ap₂, ◌∙◌}
use Prim.Native.Nat.{ℕ, suc, ◌+◌, ◌-◌, ◌*◌, ◌<◌, min}
use native.Mathlib.Omega.{arith}
use native.Mathlib.Numerals.{add-one}
use lib.ListN.{length}
use borrow.Author.Tests.{lt-ltb, eq-eqb, ne_eqb}
use Rattle.text.specs.ListLaws.{and_both}
use Rattle.text.specs.Text.{leftmost}
use Rattle.format.specs.Layout.{word_at, Settings, block_length, pieces}
use Rattle.format.specs.Blocks.{starts_at, pair_at}
use Rattle.theory_built.specs.Structure.{count, start}
use Rattle.build_records.specs.declared.level_written.Level.{Level}
use Rattle.build_records.specs.RecordPlaces.{record_place}
use Rattle.build_records.specs.State.{record_settings_of, BlockNext}
use Rattle.build_records.proofs.RecordsRead.{start-read}
use Rattle.build_marking.specs.declared.pair.Pair.TheVariants.{First, Again}
use Rattle.build_marking.specs.MarkingRule.{pair_answer, pair_of}
use Rattle.build_marking.proofs.PairLaws.{pair_is}
use Rattle.scan_hash_table.specs.Entries.{item_place_in}
use Rattle.build_by_scan.specs.ItemTable.{items_of, pair_bytes, TableGivesMarking}

answers-first : (T : List ℕ) (s len : ℕ) → leftmost T s len ≡ s → First ≡ pair_answer T s len
answers-first T s len e = rw (eq-eqb (leftmost T s len) s e)

answers-again : (T : List ℕ) (s len : ℕ) → (leftmost T s len ≡ s → ⊥) → Again ≡ pair_answer T s len
answers-again T s len e = rw (ne_eqb (leftmost T s len) s e)

module _ (S : Settings) (T out : List ℕ) (level : Level) (i : ℕ) (w : BlockNext S T out level i) (W : List ℕ)
    (t : TableGivesMarking S T level.number W) where
  abbrev l : ℕ
  l = level.number

  pub block_here : i < count S T l
  block_here = omega (arith, w.block_in, w.level_is.count_is)

  not_last : level.number + 1 ≡ S.levels → ⊥
  not_last e = omega (arith, t.upper)

  module _ (s next : ℕ) (s-is : s ≡ word_at out (record_place level.table i (record_settings_of level.settings S.counted)))
      (more : i + 1 ≡ level.count → ⊥)
      (next_is : next ≡ word_at out (record_place level.table (i + 1) (record_settings_of level.settings S.counted))) (e : next ≡ s + level.size) where
    i-next : i + 1 < level.count
    i-next = omega (arith, w.block_in, more)

    s-right : s ≡ start S T l i
    s-right = s-is ∙ start-read S T out level i w i w.block_in

    next-right : next ≡ start S T l (suc i)
    next-right = next_is ∙ start-read S T out level i w (i + 1) i-next ∙ ap (start S T l) (add-one i)

    paired : pair_at T (block_length S l) (starts_at S T l) i ≡ true
    unfolding pair_at
    paired = and_both (lt-ltb (suc i) (count S T l) (omega (arith, i-next, w.level_is.count_is)))
        (eq-eqb (start S T l (suc i)) (start S T l i + block_length S l) (omega (arith, s-right, next-right, e, w.level_is.size_is)))

    bytes-are : leftmost T s (min (level.size + level.size) (length T - s)) ≡ leftmost T (start S T l i) (pair_bytes S T l i)
    bytes-are = ap₂ (λ (b p : ℕ). leftmost T p (min (b + b) (length T - p))) w.level_is.size_is s-right

    pub first-answered : item_place_in W (2 * i + 1) ≡ s → First ≡ pair_of S T l i
    first-answered q = pair_is S T out level i w s next s-is more next_is not_last e First
        (answers-first T s (min (level.size + level.size) (length T - s)) (bytes-are ∙ t.first i block_here paired (q ∙ s-right) ∙ sym s-right))

    pub again-answered : (item_place_in W (2 * i + 1) ≡ s → ⊥) → Again ≡ pair_of S T l i
    again-answered n = pair_is S T out level i w s next s-is more next_is not_last e Again
        (answers-again T s (min (level.size + level.size) (length T - s))
        (λ q. t.again i block_here paired (λ z. n (z ∙ sym s-right)) (sym bytes-are ∙ q ∙ s-right)))

pub same-items : (n step : ℕ) (level : Level) (seed p s h : ℕ) → p ≡ pieces n level.settings.leaf → s ≡ step
    → h ≡ min (4 * p - 3 * (level.count + level.count - 1)) (16 * (level.count + level.count - 1))
    → record { records = level.table; step = s; size = level.size; items = level.count + level.count - 1; heads = h; seed = seed }
    ≡ items_of n step level seed
same-items n step level seed p s h ep es eh = rw (eh, ep, es)
