use Prim.Native.Nat.{◌/◌, ◌<◌}
use mathlib.Core.Path.{◌≡◌}
use native.Mathlib.Omega.{arith}
use lib.ListN.{length}
use lib.Seq.{length-take-le}
use Rattle.cases_tokens.proofs.HexadecimalLaws.{byte_fits, right-more, bytes-in-front}
use Rattle.cases_tokens.proofs.hexadecimal.put.Goals as goal

pub overflow_cast-b : goal.overflow_cast-b
overflow_cast-b c =
    let there : c.loop-i.i < length c.args.word.now / 2 = omega (arith, length-take-le _ c.args.out.now c.requires.1) in
    omega (arith, byte_fits c.args.word.now _ _ there c.byte.ensures c.requires.0)

pub loop-i-preserved : goal.loop-i-preserved
loop-i-preserved c =
    let there : c.loop-i.i < length c.args.word.now / 2 = omega (arith, length-take-le _ c.args.out.now c.requires.1) in
    right-more c.args.word.now c.loop-i.i _ there c.byte.ensures c.loop-i.b-items (omega arith) c.loop-i.invariant

pub returns : goal.returns
returns c =
    let size : length c.loop-i.b-items ≡ length c.args.word.now / 2 = omega (arith, length-take-le _ c.args.out.now c.requires.1) in
    bytes-in-front c.args.word.now c.args.out.now c.loop-i.b-items size (λ k l. c.loop-i.invariant k (omega arith))
