-- A counted byte's number and its total; and the fields of its counts can be read.
use mathlib.Core.List.{List}
use mathlib.Core.Bool.{true, false}
use mathlib.Core.Path.{◌≡◌}
use mathlib.Core.Logic.{◌⊎◌, inl, inr}
use Prim.Native.Nat.{ℕ, ◌+◌, ◌-◌, ◌≤◌, ◌<◌}
use native.Mathlib.Omega.{arith}
use borrow.Author.Tests.{lt-ltb, le-ltb, ne_eqb}
use lib.ListN.{length}
use Rattle.text.specs.ListLaws.{lt-or-ge}
use Rattle.format.specs.Layout.{skip_field}
use Rattle.format.specs.Layout as at
use Rattle.format.specs.Answers.{index_of, is_counted, number_of_byte, total}
use Rattle.layout.specs.declared.header.Header.{Header}
use Rattle.layout.specs.HeaderFields.{HeaderOf}
use Rattle.layout.specs.Record.{FieldIn, field_in}

-- Every field of every record can be read.
pub counted-field-there : (t : List ℕ) (h : Header) (level i c f : ℕ) → HeaderOf t h → level < (at.settings t).levels → i < at.level_count t level
    → c < at.counted_count t
    → f ≤ skip_field c → FieldIn t h.record_size level i f
counted-field-there t h level i c f k hl hi hc hf = field_in t k.facts h.record_size level i f k.size_is hl hi (omega arith)

-- The number of a byte, and whether it is counted.
module _ (t : List ℕ) (h : Header) (k : HeaderOf t h) (byte number : ℕ) (is : number ≡ number_of_byte t byte) where
  pub not-counted : h.settings.counted ≤ number → is_counted t byte ≡ false
  unfolding is_counted number_of_byte
  not-counted past = le-ltb (index_of byte (at.settings t).counted) (length (at.settings t).counted) (omega (arith, k.facts.counted_size, k.counted_is))

  pub is-counted : number < h.settings.counted → is_counted t byte ≡ true
  unfolding is_counted number_of_byte
  is-counted low = lt-ltb (index_of byte (at.settings t).counted) (length (at.settings t).counted) (omega (arith, k.facts.counted_size, k.counted_is))

-- If a byte occurs, level 0 has a block.
pub some_block : (t : List ℕ) (c : ℕ) → 1 ≤ total t c → 0 < at.level_count t 0
unfolding total
some_block t c h = go (lt-or-ge 0 (at.level_count t 0))
  where
    go : (0 < at.level_count t 0) ⊎ (at.level_count t 0 ≤ 0) → 0 < at.level_count t 0
    go (inl l) = l
    go (inr l) = absurd (let e : at.level_count t 0 ≡ 0 = omega arith in let z : 1 ≤ 0 = rw e at h in let y : ⊥ = omega arith in y)

-- The total.
pub total-none : (t : List ℕ) (c n : ℕ) → n ≡ at.level_count t 0 → n ≡ 0 → 0 ≡ total t c
unfolding total
total-none t c n e z = rw (← e, z)

pub total_is : (t : List ℕ) (c n before inside : ℕ)
    → n ≡ at.level_count t 0 → (n ≡ 0 → ⊥) → before ≡ at.before t 0 (n - 1) c → inside ≡ at.inside t 0 (n - 1) c → before + inside ≡ total t c
unfolding total
total_is t c n before inside e full b i = rw (← e, ne_eqb n 0 full, b, i)
