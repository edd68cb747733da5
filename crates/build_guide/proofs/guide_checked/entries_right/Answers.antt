use Prim.Native.Nat.{◌<◌}
use Rattle.query_guide.specs.Guides.{entries_of}
use native.Mathlib.Omega.{arith}
use mathlib.Core.Path.{sym, ◌∙◌}
use Rattle.build_guide.proofs.GuideWrittenLaws as laws
use Rattle.build_guide.proofs.GuideWrittenLaws.{false-not}
use Rattle.build_guide.proofs.guide_checked.entries_right.Goals as goal

pub loop-e-init : goal.loop-e-init
loop-e-init c = record {
  low = λ l. laws.from_first _ _ 0 c.requires.header_of.1 c.requires.header_of.2 (omega (arith, c.requires.count_value.0, l));
  right = λ i a b. absurd (let z : ⊥ = omega arith in z);
}

pub overflow_mul-e : goal.overflow_mul-e
overflow_mul-e c = omega (arith, laws.rank-few _ _ c.loop-e.e c.requires.header_of.1 c.requires.header_of.2 (omega (arith, c.requires.count_value.0)))

pub overflow_add-e : goal.overflow_add-e
overflow_add-e c = omega (arith, laws.rank-few _ _ c.loop-e.e c.requires.header_of.1 c.requires.header_of.2 (omega (arith, c.requires.count_value.0)))

pub returns-then-read-block : goal.returns-then-read-block
returns-then-read-block c =
    let h = c.requires.header_of in
    let there : c.loop-e.e < entries_of c.args.t.now c.args.number = omega (arith, c.requires.count_value.0) in
    let low = (c.loop-e.invariant.low c.loop-e-test.true).1 in record {
      yes = λ e. false-not e;
      no = λ e same. laws.entry-wrong _ _ h.1 _ _ (laws.entry-there _ _ c.loop-e.e h.1 h.2 there _ h.3)
          (laws.entry_found _ _ c.loop-e.e h.1 h.2 there _ _ low c.block_from-along.ensures.0 _ h.3) (λ q. c.if-read-block.true (c.read.ensures ∙ q)) same;
    }

pub loop-e-preserved : goal.loop-e-preserved
loop-e-preserved c =
    let h = c.requires.header_of in
    let there : c.loop-e.e < entries_of c.args.t.now c.args.number = omega (arith, c.requires.count_value.0) in
    let low = (c.loop-e.invariant.low c.loop-e-test.true).1 in record {
      low = λ _. laws.entry_next _ _ c.loop-e.e h.1 h.2 there _ _ low c.block_from-along.ensures.0;
      right = laws.next-right _ _ _ _ _ c.loop-e.invariant.right (sym c.read.ensures ∙ c.if-read-block.false)
          (laws.entry_found _ _ c.loop-e.e h.1 h.2 there _ _ low c.block_from-along.ensures.0 _ h.3);
    }
