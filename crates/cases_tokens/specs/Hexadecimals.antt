-- The bytes that a token represents in hexadecimal.
use Rattle.std.specs.Prelude.{List, [], ◌∷◌, Bool, cond, ℕ, ◌+◌, ◌-◌, ◌*◌, ◌/◌, ◌%◌, length, get_or, eqb, ltb, leb, Result, Ok, Err}
use Rattle.text.specs.Text.{all_below, tabulate, same_list}
use Rattle.cases_tokens.specs.declared.hexadecimal.Fault.{Fault}
use Rattle.cases_tokens.specs.declared.hexadecimal.Fault.TheVariants as fault

-- The value of a digit, 0 to 9 or a to f; 16 for any other byte.
unfoldable pub digit_of : ℕ → ℕ
digit_of b = cond (ltb b 48) 16 (cond (leb b 57) (b - 48) (cond (ltb b 97) 16 (cond (leb b 102) (b - 87) 16)))

-- The byte of two hexadecimal digits; 256 or more if one is no digit.
unfoldable pub byte_of : ℕ → ℕ → ℕ
byte_of high low = cond (ltb 15 (digit_of low)) 256 (16 * digit_of high + digit_of low)

-- The byte of digits 2 i and 2 i + 1 of a word.
unfoldable pub token_byte_at : List ℕ → ℕ → ℕ
token_byte_at word i = byte_of (get_or word (2 * i) 0) (get_or word (2 * i + 1) 0)

-- Whether each pair of characters is a byte.
unfoldable pub all_hex : List ℕ → Bool
all_hex word = all_below (length word / 2) (λ i. leb (token_byte_at word i) 255)

-- The bytes that the digits represent.
unfoldable pub hex_bytes : List ℕ → List ℕ
hex_bytes word = tabulate (length word / 2) (token_byte_at word)

-- The number of bytes that a word gives to a buffer of some size: none for `-`, else one for each two digits.
unfoldable pub hex_of : List ℕ → ℕ → Result ℕ Fault
hex_of word room =
    cond (same_list word (45 ∷ [])) (Ok 0)
    (cond (eqb (length word % 2) 0)
    (cond (eqb (length word) 0) (Err fault.Hex)
    (cond (all_hex word)
    (cond (ltb room (length word / 2)) (Err fault.Room) (Ok (length word / 2)))
    (Err fault.Hex)))
    (Err fault.Hex))

abbrev pub made_size : Result ℕ Fault → ℕ
made_size (Ok n) = n
made_size (Err f) = 0
