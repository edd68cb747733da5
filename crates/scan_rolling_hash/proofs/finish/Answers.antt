use Prim.Native.Nat.{◌+◌}
use mathlib.Core.Path.{ap, ◌∙◌}
use native.Mathlib.Omega.{arith}
use lib.ListN.{length}
use lib.Seq.{take_all}
use Rattle.std.proofs.lemmas.List.Edits.{length-between, get_or-between}
use Rattle.scan_rolling_hash.specs.Fingerprints.{fingerprint}
use Rattle.scan_rolling_hash.proofs.WindowFingerprintLaws.{base-below, fingerprint-push}
use Rattle.scan_rolling_hash.proofs.finish.Goals as goal

pub push-g-requires : goal.push-g-requires
push-g-requires c = (c.loop-x.invariant.0, omega (arith, c.base_of-base.ensures, base-below c.args.seed))

pub loop-x-preserved : goal.loop-x-preserved
loop-x-preserved c = let s = c.args.s.now in let i = c.loop-x.x-index in let here = length-between s c.args.from (length s) (omega arith) in (
  c.push-g.ensures.1,
  (rw c.base_of-base.ensures at c.push-g.ensures.0)
      ∙ fingerprint-push c.args.seed s (c.args.from + i) (c.args.from + (i + 1)) c.loop-x.g _ (omega arith) (omega arith)
      (get_or-between s c.args.from (length s) i 0 (omega arith)) c.loop-x.invariant.1,
)

pub returns : goal.returns
returns c = let s = c.args.s.now in let here = length-between s c.args.from (length s) (omega arith) in
    c.reduce.ensures ∙ c.loop-x.invariant.1 ∙ ap (fingerprint c.args.seed) (take_all (c.args.from + c.loop-x.x-index) s (omega arith))
