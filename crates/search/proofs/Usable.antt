-- A usable base and modulus.
use mathlib.Core.Path.{◌≡◌}
use Prim.Native.Nat.{ℕ, ◌%◌, ◌≤◌, ◌<◌}
use native.Mathlib.Omega.{arith}
use native.Mathlib.Nat.{mod-lt}
use Rattle.search.specs.declared.Fingerprint.{Fingerprint}
use Rattle.search.specs.Occurrences.{usable_modulus, usable}
use Rattle.search.specs.FingerValues.{ReducedBase}

pub modulus-low : (q : ℕ) → q < 1 → 1 ≡ usable_modulus q
unfolding usable_modulus
modulus-low q l = omega arith

pub modulus-high : (q : ℕ) → 2147483647 < q → 2147483647 ≡ usable_modulus q
unfolding usable_modulus
modulus-high q l = omega arith

pub modulus-within : (q : ℕ) → 1 ≤ q → q ≤ 2147483647 → q ≡ usable_modulus q
unfolding usable_modulus
modulus-within q l m = omega arith

pub modulus-positive : (q : ℕ) → 0 < usable_modulus q
unfolding usable_modulus
modulus-positive q = omega arith

pub modulus-most : (q : ℕ) → usable_modulus q ≤ 2147483647
unfolding usable_modulus
modulus-most q = omega arith

pub ready : (b q : ℕ) → ReducedBase (usable b q).base (usable b q).modulus
unfolding usable
ready b q = record { below = mod-lt b (modulus-positive q); most = modulus-most q }

pub made : (b q m : ℕ) → m ≡ usable_modulus q → ◌≡◌ {A = Fingerprint} (record { base = b % m; modulus = m }) (usable b q)
unfolding usable
made b q m e = rw e
