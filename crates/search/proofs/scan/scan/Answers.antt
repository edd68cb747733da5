use Rattle.std.proofs.Common.{◌≡◌, refl, ◌∙◌, arith}
use Rattle.search.proofs.Modulo.{below}
use Rattle.search.proofs.FingerprintLaws.{finger-roll, finger-below}
use Rattle.search.proofs.ScanLaws.{ahead-start, ahead-hit, ahead-miss, ahead-end}
use Rattle.search.proofs.scan.scan.Goals as goal

pub loop-p-init : goal.loop-p-init
loop-p-init c = (c.fingerprint_at-h.ensures, ahead-start c.args.text.now c.args.at.0 c.args.n)

pub occurs_at-requires : goal.occurs_at-requires
occurs_at-requires c = record { n_in_bounds = (omega arith, omega arith); fingerprint_value = c.loop-p.invariant.0; fingerprint_value_2 = c.fingerprint_at.ensures }

pub returns-then-occurs_at : goal.returns-then-occurs_at
returns-then-occurs_at c = ahead-hit _ _ _ _ c.loop-p.invariant.1 _ c.occurs_at.ensures c.if-occurs_at.true (omega arith)

pub roll-h-requires : goal.roll-h-requires
roll-h-requires c = (c.requires.1, rw c.loop-p.invariant.0 (finger-below _ _ _ (omega arith)), below _ _ _ (omega arith) c.power-top.ensures)

pub loop-p-preserved : goal.loop-p-preserved
loop-p-preserved c = (
  c.roll-h.ensures
      ∙ finger-roll
      c.args.by.base c.args.by.modulus c.args.text.now c.loop-p.p c.args.n _ _ _ _ (omega arith)
      (below _ _ _ (omega arith) c.power-top.ensures) (c.type_inv.text c.loop-p.p).fits
      c.loop-p.invariant.0 c.power-top.ensures refl refl,
  ahead-miss _ _ _ _ c.loop-p.invariant.1 _ c.occurs_at.ensures c.if-occurs_at.false (omega arith),
)

pub returns : goal.returns
returns c = ahead-end _ _ _ _ (let end : c.loop-p.p ≡ c.args.at.0 = omega arith in rw end at c.loop-p.invariant.1) (omega arith)
