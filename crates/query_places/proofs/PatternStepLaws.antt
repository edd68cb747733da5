-- One byte more: the two ways out.
use mathlib.Core.List.{List}
use mathlib.Core.Bool.{cond}
use mathlib.Core.Path.{◌≡◌, refl}
use Prim.Native.Nat.{ℕ, ◌+◌, ◌-◌, ◌≤◌}
use native.Mathlib.Omega.{arith}
use borrow.Author.Tests.{eq-eqb, ne_eqb}
use lib.ListN.{length, set}
use lib.Dec.{ltb}
use Rattle.search_kmp.specs.Borders.{Next}
use Rattle.query_places.specs.declared.pattern_seek.Progress.{Progress}
use Rattle.query_places.specs.TableFilled.{Even, Stepped}

module _ (P : List ℕ) (byte room : ℕ)
    (m : Progress) (table : List ℕ) (e : Even P m) (k : ℕ) (short : k ≤ length P) (low : k ≤ m.state + 1) (next : Next P m.state byte k) where
  pub stepped-on : (k ≡ length P → ⊥) → Stepped P byte room m table (record { place = record { 0 = m.place.0 + 1 }; state = k; found = m.found }) table
  stepped-on other = record {
    next = next;
    even = record { short = short; state_low = omega (arith, e.state_low); found_low = omega (arith, e.found_low) };
    place_is = refl;
    found-is = rw (ne_eqb k (length P) other);
    table_is = rw (ne_eqb k (length P) other);
  }

  pub stepped-found : (p : ℕ) (after : List ℕ)
      → k ≡ length P → p ≡ m.place.0 + 1 - length P → after ≡ cond (ltb m.found room) (set table m.found p) table
      → Stepped P byte room m table (record { place = record { 0 = m.place.0 + 1 }; state = k; found = m.found + 1 }) after
  stepped-found p after all p-is after_is = record {
    next = next;
    even = record { short = short; state_low = omega (arith, e.state_low); found_low = omega (arith, e.found_low) };
    place_is = refl;
    found-is = rw (eq-eqb k (length P) all);
    table_is = rw (eq-eqb k (length P) all) (rw p-is at after_is);
  }
