use native.Mathlib.Omega.{arith}
use Rattle.list_lines.proofs.PutLaws as digits
use Rattle.list_lines.proofs.put.number.Goals as goal

pub bytes-requires : goal.bytes-requires
bytes-requires c = omega (
  arith,
  c.requires,
  digits.digits-fit c.args.n c.decimal-k.result _ c.ranges.n.fits c.decimal-k.ensures.len c.decimal-k.ensures.digits,
)

pub returns : goal.returns
returns c = digits.number_put c.args.n c.decimal-k.result
    _ c.ranges.n.fits c.decimal-k.ensures.len c.decimal-k.ensures.digits c.bytes.ensures
