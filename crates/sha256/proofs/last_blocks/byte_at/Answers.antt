use mathlib.Core.Path.{refl}
use native.Mathlib.Omega.{arith}
use Rattle.sha256.proofs.LastBlocksLaws.{size_is, byte_left, byte-mark, byte-zero, byte-length}
use Rattle.sha256.proofs.last_blocks.byte_at.Goals as goal

pub returns-then-i-rest : goal.returns-then-i-rest
returns-then-i-rest c = byte_left c.args.rest.now c.args.n c.requires.0 c.args.i c.if-i-rest.true

pub returns-then-i-rest-2 : goal.returns-then-i-rest-2
returns-then-i-rest-2 c = byte-mark c.args.rest.now c.args.n c.requires.0 c.args.i c.if-i-rest-2.true

pub overflow_sub-size : goal.overflow_sub-size
overflow_sub-size c = omega (arith, size_is c.args.n)

pub returns-then-i-size : goal.returns-then-i-size
returns-then-i-size c = byte-zero c.args.rest.now c.args.n c.requires.0 c.args.i c.args.size c.requires.1 c.if-i-rest.false c.if-i-rest-2.false
    c.if-i-size.true

pub overflow_sub-k : goal.overflow_sub-k
overflow_sub-k c = omega (arith, size_is c.args.n)

pub returns : goal.returns
returns c = byte-length c.args.rest.now c.args.n c.requires.0 c.args.i c.args.size _ c.requires.1 c.requires.2 c.if-i-size.false refl
