-- The blocks of level 0 from one on, for the steps along them.
use mathlib.Core.List.{List}
use mathlib.Core.Path.{◌≡◌}
use Prim.Native.Nat.{ℕ, ◌<◌}
use native.Mathlib.Omega.{arith}
use Rattle.format.specs.Layout as at
use Rattle.layout.specs.declared.header.Header.{Header}
use Rattle.layout.specs.HeaderFields.{HeaderOf}
use Rattle.query_select.specs.Seeks.{Siblings}

pub siblings : (t : List ℕ) (h : Header) (c from n : ℕ) → HeaderOf t h → c < at.counted_count t → from < at.level_count t 0 → n ≡ at.level_count t 0
    → Siblings t (record { size = h.record_size; number = c }) 0 from n
siblings t h c from n r hc l e = record {
  facts = r.facts;
  size_is = r.size_is;
  level_in = omega (arith, r.facts.bounds.levels_low);
  number_in = hc;
  present = omega arith;
  end_in = omega arith;
}
