-- The automaton that recognizes rows starting with a prefix.
use Rattle.std.specs.Prelude.{List, Bool, true, false, not, cond, ◌&&◌, ℕ, ◌+◌, ◌-◌, length, get_or, leb, eqb}
use Rattle.row_filter.specs.RowAutomaton.{Automaton}
use Rattle.prefix_match.specs.declared.prefix_state.PrefixState.{PrefixState}
use Rattle.prefix_match.specs.declared.prefix_state.PrefixState.TheVariants.{Matched, Longer, Mismatch}

module _ (prefix : List ℕ) where
  -- The state after k equal bytes and the byte x.
  unfoldable pub after_matched : ℕ → ℕ → PrefixState
  after_matched k x = cond (leb (length prefix) k) Longer (cond (eqb (get_or prefix k 0) x) (Matched (k + 1)) Mismatch)

  unfoldable pub prefix_step : PrefixState → ℕ → PrefixState
  prefix_step (Matched k) x = after_matched k x
  prefix_step Longer x = Longer
  prefix_step Mismatch x = Mismatch

  -- Whether the row starts with the prefix if the text ends here.
  unfoldable pub prefix_at_end : PrefixState → Bool
  prefix_at_end (Matched k) = leb (length prefix) k
  prefix_at_end Longer = true
  prefix_at_end Mismatch = false

  -- Whether the whole prefix was read and its last byte is not 13.
  unfoldable pub ends_without_cr : ℕ → Bool
  ends_without_cr k = leb (length prefix) k && not (eqb (get_or prefix (length prefix - 1) 0) 13)

  -- Whether the row starts with the prefix if a byte 10 ends it here; a byte 13 before that byte is not part of the row.
  unfoldable pub prefix_at_newline : PrefixState → Bool
  prefix_at_newline (Matched k) = ends_without_cr k
  prefix_at_newline Longer = true
  prefix_at_newline Mismatch = false

-- Whether no byte of the row has been read.
unfoldable pub no_byte_read : PrefixState → Bool
no_byte_read (Matched k) = eqb k 0
no_byte_read Longer = false
no_byte_read Mismatch = false

-- Whether a byte other than 10 may change the state.
unfoldable pub is_open : PrefixState → Bool
is_open (Matched k) = true
is_open Longer = false
is_open Mismatch = false

-- The automaton of a prefix.
abbrev pub prefix_automaton : List ℕ → Automaton PrefixState
prefix_automaton prefix = record {
  start = Matched 0;
  step = prefix_step prefix;
  at_end = prefix_at_end prefix;
  at_newline = prefix_at_newline prefix;
  no_byte = no_byte_read;
}
