-- The bytes that lines give.
use Rattle.std.specs.Prelude.{List, [], ◌++◌, cond, ◌≡◌, ℕ, ◌-◌, ◌*◌, ◌%◌, length, get_or, take, replicate, ltb, Result, Ok, Err}
use Rattle.text.specs.Text.{tabulate}
use Rattle.cases_tokens.specs.Parts.{token_of}
use Rattle.cases_tokens.specs.Decimals.{number_of, value_of, figures_right}
use Rattle.cases_tokens.specs.Hexadecimals.{hex_bytes, hex_of, made_size}
use Rattle.cases_tokens.specs.declared.hexadecimal.Fault.{Fault}
use Rattle.cases_tokens.specs.declared.hexadecimal.Fault.TheVariants as fault
use Rattle.cases_script.specs.LineWords.{input_kind}
use Rattle.cases_script.specs.NameLine.{giving_line}
use Rattle.cases_script.specs.declared.line_words.InputKind.{InputKind}
use Rattle.cases_script.specs.declared.line_words.InputKind.TheVariants as kind

-- What a line gives: bytes, or a fault.
pub data Given : Type 0 where
  bytes : List ℕ → Given
  none : Fault → Given

abbrev pub made_of : Given → Result ℕ Fault
made_of (bytes b) = Ok (length b)
made_of (none f) = Err f

abbrev pub bytes_of : Given → List ℕ
bytes_of (bytes b) = b
bytes_of (none f) = []

-- r is the number of bytes given, or the fault; the buffer starts with these bytes.
pub record Gives (buffer : List ℕ) (r : Result ℕ Fault) (g : Given) : Type 0 where
  pub answer : r ≡ made_of g
  pub put : take (made_size r) buffer ≡ bytes_of g

abbrev pub script_first_of : Result ℕ Fault → List ℕ → Given
script_first_of (Ok n) b = bytes (take n b)
script_first_of (Err f) b = none f

-- Bytes in hexadecimal, for a buffer of `room` bytes.
unfoldable pub hex_given : List ℕ → ℕ → Given
hex_given word room = script_first_of (hex_of word room) (hex_bytes word)

-- The number that token k of a line represents.
unfoldable pub figure_of : List ℕ → ℕ → ℕ
figure_of line k = value_of (number_of (token_of line k))

-- The bytes repeated `times` times.
unfoldable pub repeated : List ℕ → ℕ → List ℕ
repeated b times = tabulate (length b * times) (λ i. get_or b (i % length b) 0)

abbrev pub times_over : Given → ℕ → ℕ → Given
times_over (bytes b) times room = cond (ltb room (length b * times)) (none fault.Room) (bytes (repeated b times))
times_over (none f) times room = none f

-- repeat NAME HEX TIMES
unfoldable pub repeat_given : List ℕ → ℕ → Given
repeat_given line room = cond (figures_right line 3 4) (times_over (hex_given (token_of line 2) room) (figure_of line 3) room) (none fault.Number)

abbrev pub plain_by : InputKind → List ℕ → ℕ → Given
plain_by kind.Text line room = hex_given (token_of line 2) room
plain_by kind.Repeat line room = repeat_given line room
plain_by kind.Tree line room = hex_given (token_of line 2) room
plain_by kind.Pad line room = none fault.Name
plain_by kind.Nothing line room = none fault.Name

-- Text NAME HEX, tree NAME HEX, or repeat.
unfoldable pub plain_given : List ℕ → ℕ → Given
plain_given line room = plain_by (input_kind line) line room

abbrev pub pad_to : Given → ℕ → ℕ → Given
pad_to (bytes b) to room = cond (ltb to (length b)) (none fault.Number) (cond (ltb room to) (none fault.Room) (bytes (b ++ replicate (to - length b) 0)))
pad_to (none f) to room = none f

-- pad NAME TREE LENGTH: the bytes named TREE, with zeros after them
unfoldable pub pad_given : List ℕ → List ℕ → ℕ → Given
pad_given script line room =
    cond (figures_right line 3 4) (pad_to (plain_given (giving_line script (token_of line 2)) room) (figure_of line 3) room) (none fault.Number)

abbrev pub make_by : InputKind → List ℕ → List ℕ → ℕ → Given
make_by kind.Text script line room = plain_given line room
make_by kind.Repeat script line room = plain_given line room
make_by kind.Tree script line room = plain_given line room
make_by kind.Pad script line room = pad_given script line room
make_by kind.Nothing script line room = plain_given line room

-- What a line gives, given the lines of a script.
unfoldable pub make_given : List ℕ → List ℕ → ℕ → Given
make_given script line room = make_by (input_kind line) script line room

-- What has this name in the lines of a script.
unfoldable pub named_given : List ℕ → List ℕ → ℕ → Given
named_given script name room = make_given script (giving_line script name) room
