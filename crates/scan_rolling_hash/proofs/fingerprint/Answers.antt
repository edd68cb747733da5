use Prim.Native.Nat.{ℕ, ◌+◌, ◌*◌, ◌-◌, ◌/◌, ◌<◌}
use mathlib.Core.List.{List, []}
use mathlib.Core.Path.{◌≡◌, ap, ◌∙◌}
use native.Mathlib.Omega.{arith}
use native.Mathlib.Nat.{add-zero}
use lib.ListN.{length, get_or}
use Rattle.scan_rolling_hash.proofs.WindowFingerprintLaws.{base-below, remainder-below, fingerprint-none, fingerprint-four, four-steps, in-chunk}
use Rattle.scan_rolling_hash.proofs.fingerprint.Goals as goal

pub loop-a-init : goal.loop-a-init
loop-a-init c = (omega arith, fingerprint-none c.args.seed c.args.s.now)

pub push_four-h-requires : goal.push_four-h-requires
push_four-h-requires c = (
  c.loop-a.invariant.0,
  omega (arith, c.first_powers-by.ensures.0, base-below c.args.seed),
  remainder-below _ _ c.first_powers-by.ensures.1,
  remainder-below _ _ c.first_powers-by.ensures.2,
  remainder-below _ _ c.first_powers-by.ensures.3,
)

pub loop-a-preserved : goal.loop-a-preserved
loop-a-preserved c = let s = c.args.s.now in let k = c.loop-a.a-index in let p = c.first_powers-by.ensures in
    let within : k < length s / 4 = omega (arith, c.as_chunks.ensures.front_len) in
    let e : 4 * (k + 1) ≡ 4 * k + 4 = omega arith in
    let at : (j : ℕ) → j < 4 → get_or (get_or c.as_chunks.result.0.now k []) j 0 ≡ get_or s (4 * k + j) 0 =
    λ j b. ap (λ (x : List (List ℕ)). get_or (get_or x k []) j 0) c.as_chunks.ensures.front ∙ in-chunk 4 (length s / 4) s k j [] within b in (
      c.push_four-h.ensures.1,
      rw e (fingerprint-four c.args.seed s (4 * k) c.loop-a.h _ _ _ _ _ (omega arith)
          (rw add-zero at (at 0 (omega arith))) (at 1 (omega arith)) (at 2 (omega arith)) (at 3 (omega arith))
          c.loop-a.invariant.1 (c.push_four-h.ensures.0 ∙ four-steps c.args.seed c.loop-a.h _ _ _ _ _ _ _ _ p.0 p.1 p.2 p.3)),
    )

pub finish-requires : goal.finish-requires
finish-requires c = let s = c.args.s.now in
    let e : 4 * c.loop-a.a-index ≡ length s - length c.as_chunks.result.1.now = omega (arith, c.as_chunks.ensures.front_len, c.as_chunks.ensures.back_len) in
    (omega arith, omega arith, rw e at c.loop-a.invariant.1)

pub returns : goal.returns
returns c = c.finish.ensures
