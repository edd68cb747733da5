-- Laws of `pieces`: x bytes cut into blocks of b bytes, the last cut short.
use Rattle.std.specs.Prelude.{◌≡◌, refl, ℕ, zero, suc, ◌+◌, ◌-◌, ◌*◌, ◌/◌, ◌≤◌, ◌<◌}
use Rattle.std.proofs.Common.{arith, div-lt_iff_lt-mul, suc-mul, le-div_iff_mul-le, mul_comm, mul-le-mul_right}
use Rattle.std.proofs.Math.Nat.{lt-div-mul-add, lt_of_mul-lt-mul_left, div-eq_of_lt}
use Rattle.format.specs.Layout.{pieces}

-- The blocks hold all x bytes.
pub pieces-cover : (x b : ℕ) → 0 < b → x ≤ pieces x b * b
unfolding pieces
pieces-cover x b pos = omega (arith, lt-div-mul-add {a = x + (b - 1)} {b = b} pos)

-- Byte o lies in one of them.
pub pieces-hold : (x b o : ℕ) → 0 < b → o < x → o / b < pieces x b
pieces-hold x b o pos h = (div-lt_iff_lt-mul {k = b} {x = o} {y = pieces x b} pos).1 (omega (arith, pieces-cover x b pos))

-- Block j is one of them exactly where it starts before the end.
pub pieces-start : (x b j : ℕ) → j < pieces x b → 0 < b → j * b < x
unfolding pieces
pieces-start x b j h pos = omega (arith, suc-mul j b, (le-div_iff_mul-le {k = b} {x = suc j} {y = x + (b - 1)} pos).0 h)

pub lt-pieces : (x b j : ℕ) → 0 < b → j * b < x → j < pieces x b
unfolding pieces
lt-pieces x b j pos h = (le-div_iff_mul-le {k = b} {x = suc j} {y = x + (b - 1)} pos).1 (omega (arith, suc-mul j b))

-- A multiple of b below r blocks of b has a whole block left.
pub whole-left : (j r b : ℕ) → j * b < r * b → j * b + b ≤ r * b
whole-left j r b h =
    omega (arith, suc-mul j b, mul-le-mul_right {m = suc j} {n = r} b (lt_of_mul-lt-mul_left b (rw (mul_comm b j, mul_comm b r) h)))

-- No bytes are cut into no blocks.
pub pieces_none : (b : ℕ) → pieces 0 b ≡ 0
unfolding pieces
pieces_none zero = refl
pieces_none (suc b) = div-eq_of_lt {n = 0 + (suc b - 1)} {m = suc b} (omega arith)
