use native.Mathlib.Omega.{arith}
use Rattle.layout.proofs.PowerLaws as laws
use Rattle.layout.proofs.settings.arity_power.Goals as goal

pub overflow_mul-square : goal.overflow_mul-square
overflow_mul-square c = record { fits = omega (arith, laws.square-bound _ _ c.requires.0 c.requires.1) }

pub overflow_mul-result : goal.overflow_mul-result
overflow_mul-result c = record { fits = omega (arith, laws.two-bound c.args.arity c.args.exponent c.requires.0 c.requires.1 _ _ c.factor.ensures c.factor-2.ensures) }

pub overflow_mul-square-2 : goal.overflow_mul-square-2
overflow_mul-square-2 c = record { fits = omega (arith, laws.fourth-bound _ _ c.requires.0 c.requires.1) }

pub overflow_mul-result-2 : goal.overflow_mul-result-2
overflow_mul-result-2 c = record {
  fits = omega (
    arith,
    laws.three-bound c.args.arity c.args.exponent c.requires.0 c.requires.1
        _ _ c.factor.ensures c.factor-2.ensures _ c.factor-3.ensures,
  );
}

pub returns : goal.returns
returns c = laws.three_digits c.args.arity c.args.exponent c.requires.0 c.requires.1
    _ _ c.factor.ensures c.factor-2.ensures _ c.factor-3.ensures
