use Rattle.std.proofs.Common.{◌≡◌, ◌+◌, ◌-◌, ◌*◌, ◌%◌, arith}
use Rattle.search_byte.proofs.FirstByteLaws as laws
use Rattle.search_byte.proofs.find.Goals as goal

pub returns-then-k-lt16 : goal.returns-then-k-lt16
returns-then-k-lt16 c =
    laws.first-after _ _ _ _ _ _ _ c.loop-block.invariant c.first_of_16-k.ensures (omega arith) (omega (arith, c.if-k-lt16.true)) c.if-k-lt16.true

pub loop-block-preserved : goal.loop-block-preserved
loop-block-preserved c =
    let more : 16 * (c.loop-block.block + 1) ≡ 16 * c.loop-block.block + 16 = omega arith in
    rw more (laws.without-join _ _ _ _ _ c.loop-block.invariant (laws.first-none _ _ _ _ _ c.first_of_16-k.ensures c.if-k-lt16.false))

pub returns : goal.returns
returns c =
    let whole : 16 * c.loop-block.block ≡ c.args.n - c.args.n % 16 = omega arith in
    laws.first_rest _ _ _ _ _ _ (rw whole at c.loop-block.invariant) (omega arith) c.tail.ensures
