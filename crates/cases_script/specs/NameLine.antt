-- The line that gives a name its bytes.
use Rattle.std.specs.Prelude.{List, [], Bool, cond, ◌&&◌, ℕ, zero, suc, length, ltb}
use Rattle.text.specs.Text.{same_list}
use Rattle.cases_tokens.specs.Parts.{front, rest, token_of}
use Rattle.cases_script.specs.LineWords.{input_number}

-- A line gives bytes a name.
unfoldable pub gives_bytes : List ℕ → Bool
gives_bytes line = ltb (input_number line) 4

-- A line gives bytes this name.
unfoldable pub gives_name : List ℕ → List ℕ → Bool
gives_name line name = same_list (token_of line 1) name && gives_bytes line

-- The first of some lines that defines the name; empty if none does.
unfoldable pub giving_from : ℕ → List ℕ → List ℕ → List ℕ
giving_from zero s name = []
giving_from (suc n) s name = cond (gives_name (front 10 s) name) (front 10 s) (giving_from n (rest 10 s) name)

-- The first line that gives the name.
unfoldable pub giving_line : List ℕ → List ℕ → List ℕ
giving_line s name = giving_from (length s) s name
