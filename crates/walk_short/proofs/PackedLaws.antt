-- The result of the walk as one number: what was packed is unpacked.
use mathlib.Core.List.{List}
use mathlib.Core.Bool.{cond}
use mathlib.Core.Path.{◌≡◌}
use Prim.Native.Nat.{ℕ, ◌+◌, ◌-◌, ◌*◌, ◌/◌, ◌%◌, ◌≤◌, ◌<◌}
use native.Mathlib.Omega.{arith}
use borrow.Author.Tests.{eq-eqb, ne_eqb}
use lib.Dec.{eqb}
use Rattle.format.specs.Layout.{max_leaf, word_at, leaf_at}
use Rattle.format.specs.Layout as at
use Rattle.format.specs.LayoutLaws.{Readable, size-edged}
use Rattle.std.specs.Prelude.{Some, None}
use Rattle.walk_short.specs.Gathered.{packed, unpacked}

module _ (t : List ℕ) where
  pub unpacked-none : (x : ℕ) → x ≡ 0 → unpacked t x ≡ None
  unfolding unpacked
  unpacked-none x z = rw (eq-eqb x 0 z)

  -- Any number but 0.
  module _ (x : ℕ) (some : x ≡ 0 → ⊥) where
    pub unpacked-one : (x - 1) % 2 ≡ 0
        → Some (record { entered = (x - 1) / 2 % 32; from = (x - 1) / 2 / 32 / 512; size = (x - 1) / 2 / 32 % 512; next = 0 }) ≡ unpacked t x
    unfolding unpacked
    unpacked-one z = rw (ne_eqb x 0 some, eq-eqb ((x - 1) % 2) 0 z)

    pub unpacked-two : ((x - 1) % 2 ≡ 0 → ⊥) → (size m : ℕ) → size ≡ at.record_size t → m ≡ (at.settings t).leaf → m + m ≤ size
        → Some (record {
          entered = (x - 1) / 2 % 32;
          from = (x - 1) / 2 / 32 / 512;
          size = (x - 1) / 2 / 32 % 512;
          next = (x - 1) / 2 / 32 / 512 + (x - 1) / 2 / 32 % 512 + (size - (m + m));
        }) ≡ unpacked t x
    unfolding unpacked
    unpacked-two n size m size_is m-is low =
        let f = (x - 1) / 2 / 32 / 512 in
        let s = (x - 1) / 2 / 32 % 512 in
        let e : f + s + (size - (m + m)) ≡ f + s + size - (m + m) = omega arith in
        rw (ne_eqb x 0 some, ne_eqb ((x - 1) % 2) 0 n, e, size_is, m-is)

  -- The number of a result.
  module _ (c e s f x : ℕ) (c-low : c < 2) (e-low : e < 32) (s-low : s < 512) (x-is : x ≡ packed c e s f) where
    some : x ≡ 0 → ⊥
    some z = omega arith

    crossing_is : (x - 1) % 2 ≡ c
    crossing_is = omega arith

    rest_is : (x - 1) / 2 ≡ e + 32 * (s + 512 * f)
    rest_is = omega arith

    entered_is : (x - 1) / 2 % 32 ≡ e
    entered_is = rw rest_is (omega arith)

    upper_is : (x - 1) / 2 / 32 ≡ s + 512 * f
    upper_is = rw rest_is (omega arith)

    size_is : (x - 1) / 2 / 32 % 512 ≡ s
    size_is = rw upper_is (omega arith)

    from_is : (x - 1) / 2 / 32 / 512 ≡ f
    from_is = rw upper_is (omega arith)

    pub unpacked-is : unpacked t x
        ≡ Some (record { entered = e; from = f; size = s; next = cond (eqb c 0) 0 (f + s + at.record_size t - ((at.settings t).leaf + (at.settings t).leaf)) })
    unfolding unpacked
    unpacked-is = rw (ne_eqb x 0 some, crossing_is, entered_is, size_is, from_is)

-- Both edges fit in a record of a layout 2 tree.
module _ (t : List ℕ) (k : Readable t) (two : at.layout t ≡ 2) (size m : ℕ) (size_is : size ≡ at.record_size t) (m-is : m ≡ (at.settings t).leaf) where
  pub unpack-asks : (size ≡ at.record_size t) × (m ≡ (at.settings t).leaf) × (m ≤ max_leaf) × (m + m ≤ size)
  unpack-asks = (size_is, m-is, omega (arith, k.bounds.leaf_high), omega (arith, size-edged t k two))

pub leaf-word-is : (t : List ℕ) (m : ℕ) → m ≡ word_at t leaf_at → m ≡ (at.settings t).leaf
unfolding at.settings
leaf-word-is t m e = e
