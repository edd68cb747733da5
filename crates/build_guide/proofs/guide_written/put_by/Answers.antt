use native.Mathlib.Omega.{arith}
use mathlib.Core.Path.{◌∙◌, ap}
use Prim.Native.Nat.{ℕ}
use Rattle.query_guide.proofs.GuideList as list
use Rattle.build_guide.proofs.GuideWrittenLaws as laws
use Rattle.build_guide.proofs.guide_written.put_by.Goals as goal

pub entries_before-all-requires : goal.entries_before-all-requires
entries_before-all-requires c = (c.requires.0, omega (arith, c.requires.0.counted_is))

pub overflow_mul-all : goal.overflow_mul-all
overflow_mul-all c = omega (arith, c.entries_before-all.ensures.1)

pub returns-then-table-all : goal.returns-then-table-all
returns-then-table-all c = let u = laws.made-short _ _ c.requires.1
    (omega (arith, list.all_words _ _ _ c.requires.0.counted_is c.entries_before-all.ensures.0, c.if-table-all.true)) in record { result_value = (u.0, omega arith); table_after = u.1 }

pub put_all-requires : goal.put_all-requires
put_all-requires c = (c.requires.0, c.requires.1, omega (arith, list.all_words _ _ _ c.requires.0.counted_is c.entries_before-all.ensures.0, c.if-table-all.false))

pub returns : goal.returns
returns c = let e = list.all_words _ _ _ c.requires.0.counted_is c.entries_before-all.ensures.0 in record {
  result_value = (
    ap (λ (n : ℕ). record { number = 0; value = n; entered = 0 }) e
        ∙ (laws.made_all _ _ c.requires.1 (omega (arith, e, c.if-table-all.false))).0,
    tt,
  );
  table_after = c.put_all.ensures;
}
