use native.Mathlib.Omega.{arith}
use mathlib.Core.Path.{◌≡◌, sym, ◌∙◌, ap}
use Prim.Native.Nat.{ℕ, ◌*◌}
use borrow.Author.Tests.{not-true, not-false}
use Rattle.query_guide.specs.Guides.{guide_words}
use Rattle.query_guide.proofs.GuideList as list
use Rattle.build_guide.proofs.GuideWrittenLaws as laws
use Rattle.build_guide.proofs.guide_checked.right_by.Goals as goal

pub returns-then-guide-all : goal.returns-then-guide-all
returns-then-guide-all c =
    laws.wrong-length _ _ (λ e. c.if-guide-all.true (e ∙ ap (λ (n : ℕ). 4 * n)
    (sym (list.all_words _ _ _ c.requires.0.counted_is c.entries_before-all.ensures.0))))

pub loop-c-init : goal.loop-c-init
loop-c-init c = record { place_is = list.none_before _; right = λ i l. absurd (let z : ⊥ = omega arith in z) }

pub entries_right-requires-clause-count_value : goal.entries_right-requires-clause-count_value
entries_right-requires-clause-count_value c =
    let words = list.all_words _ _ _ c.requires.0.counted_is c.entries_before-all.ensures.0 in (
      c.entries_of-count.ensures.0,
      omega (
        arith,
        list.part-ends _ _ _ _ (omega (arith, c.requires.0.counted_is)) c.loop-c.invariant.place_is c.entries_of-count.ensures.0,
        words,
        c.if-guide-all.false,
      ),
    )

pub returns-then-not-entries_right : goal.returns-then-not-entries_right
returns-then-not-entries_right c = laws.wrong-entry _ _ _ _ _ c.entries_right.ensures (not-true _ c.if-not-entries_right.true-raw)

pub overflow_add-place : goal.overflow_add-place
overflow_add-place c =
    let words = list.all_words _ _ _ c.requires.0.counted_is c.entries_before-all.ensures.0 in
    omega (
      arith,
      list.part-ends _ _ _ _ (omega (arith, c.requires.0.counted_is)) c.loop-c.invariant.place_is c.entries_of-count.ensures.0,
      words,
      c.if-guide-all.false,
    )

pub loop-c-preserved : goal.loop-c-preserved
loop-c-preserved c = record {
  place_is = list.one_more _ _ _ _ c.loop-c.invariant.place_is c.entries_of-count.ensures.0;
  right = laws.right-more _ _ _ _ _ c.loop-c.invariant.right c.entries_right.ensures (not-false _ c.if-not-entries_right.false-raw);
}

pub returns : goal.returns
returns c =
    let words : c.entries_before-all.result ≡ guide_words c.args.t.now = list.all_words _ _ _ c.requires.0.counted_is c.entries_before-all.ensures.0 in
    laws.right-all _ _ (c.if-guide-all.false ∙ ap (λ (n : ℕ). 4 * n) words)
    (λ k. (c.type_inv.guide k).fits)
    _ (list.all_words _ _ _ (omega (arith, c.requires.0.counted_is)) c.loop-c.invariant.place_is) c.loop-c.invariant.right
