-- The bytes that a scan passes over.
use Rattle.std.specs.Prelude.{List, false, ◌≡◌, ℕ, ◌-◌, ◌<◌}
use Rattle.search_byte.specs.FirstByte.{Without}
use Rattle.prefix_match.specs.declared.prefix_state.PrefixState.{PrefixState}
use Rattle.prefix_match.specs.PrefixStates.{is_open}

-- The bytes from a place up to r are passed over: none unless no byte but 10 changes the state, and none of them is 10.
pub record Passed (part : List ℕ) (from : ℕ) (state : PrefixState) (r : ℕ) : Type 0 where
  pub idle : from < r → is_open state ≡ false
  pub others : Without part from (r - from) 10
