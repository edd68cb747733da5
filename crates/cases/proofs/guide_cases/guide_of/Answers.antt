use Prim.Native.Nat.{ℕ}
use mathlib.Core.Path.{◌≡◌, refl, ◌∙◌}
use Rattle.std.specs.Prelude.{Result, Ok, Err}
use native.Mathlib.Omega.{arith}
use Rattle.cases_tokens.specs.declared.hexadecimal.Fault.{Fault}
use Rattle.cases.proofs.guide_cases.guide_of.Goals as goal

same_bytes : (m n : ℕ) → ◌≡◌ {A = Result ℕ Fault} (Ok m) (Ok n) → m ≡ n
same_bytes m n e = cc

not-both : (f : Fault) (n : ℕ) → Err f ≡ Ok n → ⊥
not-both f n e = let z : ◌≡◌ {A = ℕ} 0 1 = cc in omega arith

pub returns-then-same : goal.returns-then-same
returns-then-same c n e = omega (arith, same_bytes 0 n e)

pub loop-at-init : goal.loop-at-init
loop-at-init c = (omega arith, omega arith, refl)

pub overflow_sub-out : goal.overflow_sub-out
overflow_sub-out c = c.loop-at.invariant.1

pub shape_of-out-then-out-n-lt4 : goal.shape_of-out-then-out-n-lt4
shape_of-out-then-out-n-lt4 c = c.loop-at.invariant.2

pub returns-then-out-n-lt4 : goal.returns-then-out-n-lt4
returns-then-out-n-lt4 c n e = absurd (not-both _ n e)

pub until-requires : goal.until-requires
until-requires c = c.loop-at.invariant.0

pub shape_of-out-in_default : goal.shape_of-out-in_default
shape_of-out-in_default c = c.loop-at.invariant.2

pub returns-in_default : goal.returns-in_default
returns-in_default c n e = absurd (not-both _ n e)

pub write-requires : goal.write-requires
write-requires c = omega (arith, c.if-out-n-lt4.false, c.loop-at.invariant.1)

pub overflow_add-n : goal.overflow_add-n
overflow_add-n c = omega (arith, c.if-out-n-lt4.false, c.loop-at.invariant.1)

pub past-at-requires : goal.past-at-requires
past-at-requires c = c.loop-at.invariant.0

pub loop-at-smaller : goal.loop-at-smaller
loop-at-smaller c = omega (arith, c.past-at.ensures.later c.loop-at-test.true, c.past-at.ensures.inside, c.loop-at-test.true)

pub loop-at-preserved : goal.loop-at-preserved
loop-at-preserved c = (c.past-at.ensures.inside, omega (arith, c.write.auto.t, c.if-out-n-lt4.false, c.loop-at.invariant.1), c.write.auto.t ∙ c.loop-at.invariant.2)

pub shape_of-out : goal.shape_of-out
shape_of-out c = c.loop-at.invariant.2

pub returns : goal.returns
returns c n e = omega (arith, same_bytes _ n e, c.loop-at.invariant.1, c.loop-at.invariant.2)
