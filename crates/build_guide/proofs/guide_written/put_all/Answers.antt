use native.Mathlib.Omega.{arith}
use Rattle.query_guide.proofs.GuideList as list
use Rattle.build_guide.proofs.GuideWrittenLaws as laws
use Rattle.build_guide.proofs.guide_written.put_all.Goals as goal

pub loop-c-init : goal.loop-c-init
loop-c-init c = record { place_is = list.none_before _; puts = laws.puts-start _ _ }

pub put_entries-requires-clause-count_value : goal.put_entries-requires-clause-count_value
put_entries-requires-clause-count_value c = (
  c.entries_of-count.ensures.0,
  omega (
    arith,
    list.part-ends _ _ _ _ (omega (arith, c.requires.0.counted_is)) c.loop-c.invariant.place_is c.entries_of-count.ensures.0,
    c.requires.2,
  ),
)

pub overflow_add-place : goal.overflow_add-place
overflow_add-place c = omega (
  arith,
  list.part-ends _ _ _ _ (omega (arith, c.requires.0.counted_is)) c.loop-c.invariant.place_is c.entries_of-count.ensures.0,
  c.requires.2,
)

pub loop-c-preserved : goal.loop-c-preserved
loop-c-preserved c = record {
  place_is = list.one_more _ _ _ _ c.loop-c.invariant.place_is c.entries_of-count.ensures.0;
  puts = laws.puts-on _ _ _ _ _ _ _ c.loop-c.invariant.puts c.put_entries.ensures;
}

pub returns : goal.returns
returns c =
    let words = list.all_words _ _ _ (omega (arith, c.requires.0.counted_is)) c.loop-c.invariant.place_is in
    (laws.made_all _ _ c.requires.1 c.requires.2).1 _ (laws.puts-all _ _ _ _ words c.loop-c.invariant.puts)
