-- The form of a row, read byte by byte.
use Rattle.std.specs.Prelude.{List, Bool, true, false, cond, ◌&&◌, ℕ, ◌+◌, ltb, leb, eqb}
use Rattle.row_filter.specs.RowAutomaton.{Automaton}
use Rattle.keys.specs.declared.key_state.KeyState.{KeyState}
use Rattle.keys.specs.declared.key_state.KeyState.TheVariants.{Code, Cuts, Ended, Wrong}
use Rattle.keys.specs.Keys.{cut_count, low, high, max_code}

-- After k bytes of the code: one more, or the space.
unfoldable pub in_code : ℕ → ℕ → KeyState
in_code k x = cond (eqb 32 x) (cond (eqb k 0) Wrong (Cuts 0)) (cond (leb max_code k) Wrong (Code (k + 1)))

module _ (ranges : List ℕ) where
  -- Byte x is a digit in the range of cut i.
  unfoldable pub cut_fits : ℕ → ℕ → Bool
  cut_fits i x = leb (48 + low ranges i) x && leb x (48 + high ranges i)

  -- The state after i cuts and one more byte: another cut in its range, or, after all of them, a byte 13.
  unfoldable pub in_cuts : ℕ → ℕ → KeyState
  in_cuts i x = cond (ltb i (cut_count ranges)) (cond (cut_fits i x) (Cuts (i + 1)) Wrong) (cond (eqb 13 x) Ended Wrong)

  unfoldable pub step_of : KeyState → ℕ → KeyState
  step_of (Code k) x = in_code k x
  step_of (Cuts i) x = in_cuts i x
  step_of Ended x = Wrong
  step_of Wrong x = Wrong

  -- Whether a row matches if the text ends here.
  unfoldable pub is_whole : KeyState → Bool
  is_whole (Code k) = false
  is_whole (Cuts i) = eqb i (cut_count ranges)
  is_whole Ended = false
  is_whole Wrong = false

  -- Whether a row matches if a byte 10 ends it here; one byte 13 before it belongs to the end.
  unfoldable pub is_done : KeyState → Bool
  is_done (Code k) = false
  is_done (Cuts i) = eqb i (cut_count ranges)
  is_done Ended = true
  is_done Wrong = false

-- No byte of the row was read.
unfoldable pub is_none : KeyState → Bool
is_none (Code k) = eqb k 0
is_none (Cuts i) = false
is_none Ended = false
is_none Wrong = false

-- The automaton for ranges.
abbrev pub key_automaton : List ℕ → Automaton KeyState
key_automaton ranges = record { start = Code 0; step = step_of ranges; at_end = is_whole ranges; at_newline = is_done ranges; no_byte = is_none }
