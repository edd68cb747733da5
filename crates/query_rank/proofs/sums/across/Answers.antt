use native.Mathlib.Omega.{arith}
use Rattle.query_rank.proofs.SumsLaws as laws
use Rattle.query_rank.proofs.sums.across.Goals as goal

pub link-link-requires : goal.link-link-requires
link-link-requires c = (laws.field-on _ _ _ _ _ _ 2 c.requires.0.on c.requires.0.block_in c.requires.2.number_in (omega arith))

pub skip-skip-requires : goal.skip-skip-requires
skip-skip-requires c = laws.field-on _ _ _ _ _ _ _ c.requires.0.on c.requires.0.block_in c.requires.2.number_in (omega arith)

pub enter-requires : goal.enter-requires
enter-requires c = let s = laws.carried-small _ _ _ c.requires.2 c.requires.1 in (c.requires.1, s.0, s.1)

pub returns-then-pointer-link : goal.returns-then-pointer-link
returns-then-pointer-link c = record {
  value = laws.across-first _ _ _ _ _ _ _ _ c.if-pointer-link.true c.link-link.ensures c.skip-skip.ensures
      c.enter.ensures;
  carried = laws.carried_on _ _ _ _ _ _ c.requires.2 c.enter.ensures (omega arith) (omega arith);
}

pub inside-inside-requires : goal.inside-inside-requires
inside-inside-requires c = laws.field-on _ _ _ _ _ _ _ c.requires.0.on
    (omega (arith, c.link-link.ensures, c.requires.0.link_low, c.requires.0.target_in)) c.requires.2.number_in (omega arith)

pub enter-requires-2 : goal.enter-requires-2
enter-requires-2 c = let s = laws.carried-small _ _ _ c.requires.2 c.requires.1 in (c.requires.1, s.0, s.1)

pub returns : goal.returns
returns c = record {
  value = laws.across-second _ _ _ _ _ _ _ _ _ c.if-pointer-link.false
      c.link-link.ensures (rw c.link-link.ensures at c.inside-inside.ensures) c.skip-skip.ensures c.enter-2.ensures;
  carried = laws.carried_on _ _ _ _ _ _ c.requires.2 c.enter-2.ensures (omega arith) (omega arith);
}
