-- The number that a token represents in decimal.
use Rattle.std.specs.Prelude.{Option, Some, None, List, [], ◌∷◌, Bool, cond, ℕ, ◌+◌, ◌-◌, ◌*◌, ltb}
use Rattle.std.specs.Option.{is_some}
use Rattle.text.specs.Text.{all_below}
use Rattle.cases_tokens.specs.Parts.{token_of}

-- The number with one digit more: none if the byte is no digit, 48 to 57, or the number would be above 2^32 - 1.
unfoldable pub more_of : ℕ → ℕ → Option ℕ
more_of value digit =
    cond (ltb digit 48) None
    (cond (ltb 57 digit) None
    (cond (ltb 4294967295 (value * 10 + (digit - 48))) None
    (Some (value * 10 + (digit - 48)))))

abbrev pub then : (ℕ → Option ℕ) → Option ℕ → Option ℕ
then go (Some v) = go v
then go None = None

-- The number of value's digits and those of the word.
unfoldable pub number_from : List ℕ → ℕ → Option ℕ
number_from [] value = Some value
number_from (digit ∷ word) value = then (number_from word) (more_of value digit)

-- The number that a token represents: one digit or more, nothing else.
unfoldable pub number_of : List ℕ → Option ℕ
number_of [] = None
number_of (digit ∷ word) = number_from (digit ∷ word) 0

-- A number, 0 for none.
abbrev pub value_of : Option ℕ → ℕ
value_of (Some v) = v
value_of None = 0

-- token k of a line is a number
unfoldable pub is_number : List ℕ → ℕ → Bool
is_number line k = is_some (number_of (token_of line k))

-- The tokens from `from` up to, not including, `to` are numbers.
unfoldable pub figures_right : List ℕ → ℕ → ℕ → Bool
figures_right line from to = all_below (to - from) (λ i. is_number line (from + i))
