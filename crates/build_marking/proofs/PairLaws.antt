-- The marking rule: the results of the searches decide the conditions of docs/FORMAT.md, "Blocks", on pairs.
use mathlib.Core.List.{List}
use mathlib.Core.Bool.{Bool, true, false, cond, not, ◌&&◌, ◌||◌}
use mathlib.Core.Path.{◌≡◌, refl, sym, ap, ◌∙◌}
use Prim.Native.Nat.{ℕ, zero, suc, ◌+◌, ◌-◌, ◌≤◌, ◌<◌, min}
use native.Mathlib.Omega.{arith}
use native.Mathlib.Numerals.{add-one}
use lib.ListN.{length}
use lib.Dec.{eqb, ltb}
use borrow.Author.Tests.{ltb-true, ltb-false, eq-eqb, ne_eqb, le-leb, lt-ltb, le-ltb}
use Rattle.text.specs.Text.{leftmost}
use Rattle.text.specs.TextLaws.{leftmost-le}
use Rattle.format.specs.Layout.{word_at, Settings, block_length}
use Rattle.format.specs.Blocks.{starts_at, pair_at, first_pair_at, kept_by_pairs, is_kept}
use Rattle.search.specs.Occurrences.{occurs_earlier_answer}
use Rattle.theory_built.specs.Structure.{count, start, kept_at}
use Rattle.build_records.specs.declared.level_written.Level.{Level}
use Rattle.build_marking.specs.declared.pair.Pair.{Pair}
use Rattle.build_marking.specs.declared.pair.Pair.TheVariants.{Apart, First, Again}
use Rattle.build_records.specs.RecordPlaces.{record_place}
use Rattle.build_marking.specs.MarkingRule.{is_kept_by, pair_answer, pair_by, pair_of, pair_before}
use Rattle.build_records.specs.State.{record_settings_of, BlockNext}
use Rattle.build_records.proofs.RecordsRead.{start-read}

module _ (T : List ℕ) (s len : ℕ) (fits : s + len ≤ length T) (r : Bool) (r-is : r ≡ occurs_earlier_answer T s len) where
  earlier : r ≡ ltb (leftmost T s len) s
  unfolding occurs_earlier_answer
  earlier = r-is ∙ rw (le-leb (s + len) (length T) fits)

  found-earlier : r ≡ true → Again ≡ pair_answer T s len
  found-earlier y =
      let l : leftmost T s len < s = ltb-true _ _ (sym earlier ∙ y) in
      rw (ne_eqb (leftmost T s len) s (λ e. omega arith))

  found_here : r ≡ false → First ≡ pair_answer T s len
  found_here y =
      let l : s ≤ leftmost T s len = ltb-false _ _ (sym earlier ∙ y) in
      rw (eq-eqb (leftmost T s len) s (omega (arith, leftmost-le T s len)))

-- The same for the bytes of a pair, which end with the text at the latest.
module _ (T : List ℕ) (s b len : ℕ) (r : Bool) (low : s ≤ length T) (len_is : len ≡ min (b + b) (length T - s)) (r-is : r ≡ occurs_earlier_answer T s len) where
  pub again-here : r ≡ true → Again ≡ pair_answer T s (min (b + b) (length T - s))
  again-here y = rw len_is at (found-earlier T s len (omega arith) r r-is y)

  pub first-here : r ≡ false → First ≡ pair_answer T s (min (b + b) (length T - s))
  first-here y = rw len_is at (found_here T s len (omega arith) r r-is y)

module _ (S : Settings) (T out : List ℕ) (level : Level) (i : ℕ) (w : BlockNext S T out level i) where
  abbrev l : ℕ
  l = level.number

  pub apart-last : level.number + 1 ≡ S.levels → Apart ≡ pair_of S T l i
  unfolding pair_of
  apart-last e = rw (eq-eqb (suc l) S.levels (sym (add-one l) ∙ e))

  not-pair : pair_at T (block_length S l) (starts_at S T l) i ≡ false → Apart ≡ pair_of S T l i
  unfolding pair_of first_pair_at
  not-pair e = rw e (go (eqb (suc l) S.levels))
    where
      go : (y : Bool) → Apart ≡ cond y Apart Apart
      go true = refl
      go false = refl

  no-next : ltb (suc i) (count S T l) ≡ false → pair_at T (block_length S l) (starts_at S T l) i ≡ false
  unfolding pair_at
  no-next f = rw f

  pub apart-end : i + 1 ≡ level.count → Apart ≡ pair_of S T l i
  apart-end e = not-pair (no-next (le-ltb (suc i) (count S T l) (omega (arith, w.level_is.count_is))))

  module _ (s next : ℕ) (s-is : s ≡ word_at out (record_place level.table i (record_settings_of level.settings S.counted)))
      (more : i + 1 ≡ level.count → ⊥)
      (next_is : next ≡ word_at out (record_place level.table (i + 1) (record_settings_of level.settings S.counted))) where
    i-next : i + 1 < level.count
    i-next = omega (arith, w.block_in, more)

    s-right : s ≡ start S T l i
    s-right = s-is ∙ start-read S T out level i w i w.block_in

    next-right : next ≡ start S T l (suc i)
    next-right = next_is ∙ start-read S T out level i w (i + 1) i-next ∙ ap (start S T l) (add-one i)

    pair-test : pair_at T (block_length S l) (starts_at S T l) i ≡ eqb next (s + level.size)
    unfolding pair_at
    pair-test = rw (lt-ltb (suc i) (count S T l) (omega (arith, i-next, w.level_is.count_is)), next-right, s-right, w.level_is.size_is)

    pub apart-far : (next ≡ s + level.size → ⊥) → Apart ≡ pair_of S T l i
    apart-far n = not-pair (pair-test ∙ ne_eqb next (s + level.size) n)

    pub pair_is : (level.number + 1 ≡ S.levels → ⊥)
        → next ≡ s + level.size → (r : Pair) → r ≡ pair_answer T s (min (level.size + level.size) (length T - s)) → r ≡ pair_of S T l i
    unfolding pair_of first_pair_at
    pair_is upper e r r-is =
        r-is ∙ rw (ne_eqb (suc l) S.levels (λ z. upper (add-one l ∙ z)), pair-test, eq-eqb next (s + level.size) e, s-right, w.level_is.size_is)
        (go (eqb (leftmost T (start S T l i) (min (block_length S l + block_length S l) (length T - start S T l i))) (start S T l i)))
      where
        go : (y : Bool) → cond y First Again ≡ cond y First Again
        go y = refl

-- The rule, over its tests.
kept_by : (f p f' p' : Bool) → ((f || f') || (not p && not p')) ≡ is_kept_by (pair_by f p) (pair_by f' p')
kept_by true p f' p' = refl
kept_by false true true p' = refl
kept_by false false true p' = refl
kept_by false true false true = refl
kept_by false true false false = refl
kept_by false false false true = refl
kept_by false false false false = refl

kept_top : (f p : Bool) → (f || not p) ≡ is_kept_by Apart (pair_by f p)
kept_top true p = refl
kept_top false true = refl
kept_top false false = refl

pub kept_rule : (S : Settings) (T : List ℕ) (l i : ℕ) → kept_at S T l i ≡ is_kept_by (pair_before S T l i) (pair_of S T l i)
unfolding is_kept kept_by_pairs pair_before pair_of
kept_rule S T l zero = go (eqb (suc l) S.levels)
  where
    go : (y : Bool) → (y || (first_pair_at T (block_length S l) (starts_at S T l) 0 || not (pair_at T (block_length S l) (starts_at S T l) 0)))
        ≡ is_kept_by Apart (cond y Apart (pair_by (first_pair_at T (block_length S l) (starts_at S T l) 0) (pair_at T (block_length S l) (starts_at S T l) 0)))
    go true = refl
    go false = kept_top (first_pair_at T (block_length S l) (starts_at S T l) 0) (pair_at T (block_length S l) (starts_at S T l) 0)
kept_rule S T l (suc i) = go (eqb (suc l) S.levels) (first_pair_at T (block_length S l) (starts_at S T l) i) (pair_at T (block_length S l) (starts_at S T l) i)
    (first_pair_at T (block_length S l) (starts_at S T l) (suc i)) (pair_at T (block_length S l) (starts_at S T l) (suc i))
  where
    go : (y f p f' p' : Bool) → (y || ((f || f') || (not p && not p'))) ≡ is_kept_by (cond y Apart (pair_by f p)) (cond y Apart (pair_by f' p'))
    go true f p f' p' = refl
    go false f p f' p' = kept_by f p f' p'
