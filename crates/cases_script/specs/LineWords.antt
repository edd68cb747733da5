-- The words that lines begin with, in bytes.
use Rattle.std.specs.Prelude.{List, [], ◌∷◌, Bool, true, cond, ℕ, zero, suc, ◌+◌, get_or, eqb}
use Rattle.text.specs.Text.{same_list}
use Rattle.cases_tokens.specs.Parts.{token_of}
use Rattle.cases_script.specs.declared.line_words.InputKind.{InputKind}
use Rattle.cases_script.specs.declared.line_words.InputKind.TheVariants as kind
use Rattle.cases_script.specs.declared.line_words.Question.{Question}
use Rattle.cases_script.specs.declared.line_words.Question.TheVariants as question

-- The index of this word among the words of lines, searched from word k on; the number of words if it is none of them.
unfoldable pub word_from : List ℕ → List ℕ → ℕ → ℕ → ℕ
word_from words word k zero = k
word_from words word k (suc more) = cond (same_list word (token_of words k)) k (word_from words word (k + 1) more)

-- The index of a word among the first n words of a line; n if it is none of them.
unfoldable pub word_number : List ℕ → ℕ → List ℕ → ℕ
word_number words n word = word_from words word 0 n

-- The words of lines that give bytes a name: text, repeat, tree, pad.
unfoldable pub input_words : List ℕ
input_words =
    116 ∷ 101 ∷ 120 ∷ 116 ∷ 32 ∷
    114 ∷ 101 ∷ 112 ∷ 101 ∷ 97 ∷ 116 ∷ 32 ∷
    116 ∷ 114 ∷ 101 ∷ 101 ∷ 32 ∷
    112 ∷ 97 ∷ 100 ∷ []

-- The index of the word by which a line names bytes; 4 if it names none.
unfoldable pub input_number : List ℕ → ℕ
input_number line = word_number input_words 4 (token_of line 0)

-- How a line gives bytes a name.
unfoldable pub input_kind : List ℕ → InputKind
input_kind line = get_or (kind.Text ∷ kind.Repeat ∷ kind.Tree ∷ kind.Pad ∷ kind.Nothing ∷ []) (input_number line) kind.Nothing

-- The words of lines with a question: build, check, list, byte, count, find, span, run, row, places, scan, match.
unfoldable pub question_words : List ℕ
question_words =
    98 ∷ 117 ∷ 105 ∷ 108 ∷ 100 ∷ 32 ∷
    99 ∷ 104 ∷ 101 ∷ 99 ∷ 107 ∷ 32 ∷
    108 ∷ 105 ∷ 115 ∷ 116 ∷ 32 ∷
    98 ∷ 121 ∷ 116 ∷ 101 ∷ 32 ∷
    99 ∷ 111 ∷ 117 ∷ 110 ∷ 116 ∷ 32 ∷
    102 ∷ 105 ∷ 110 ∷ 100 ∷ 32 ∷
    115 ∷ 112 ∷ 97 ∷ 110 ∷ 32 ∷
    114 ∷ 117 ∷ 110 ∷ 32 ∷
    114 ∷ 111 ∷ 119 ∷ 32 ∷
    112 ∷ 108 ∷ 97 ∷ 99 ∷ 101 ∷ 115 ∷ 32 ∷
    115 ∷ 99 ∷ 97 ∷ 110 ∷ 32 ∷
    109 ∷ 97 ∷ 116 ∷ 99 ∷ 104 ∷ 32 ∷
    112 ∷ 114 ∷ 101 ∷ 102 ∷ 105 ∷ 120 ∷ []

-- The question of a line.
unfoldable pub question_of : List ℕ → Question
question_of line =
    get_or
    (question.Build ∷ question.Check ∷ question.List ∷ question.Byte ∷ question.Count ∷ question.Find ∷ question.Span ∷ question.Run ∷
    question.Row ∷ question.Places ∷ question.Scan ∷ question.Match ∷ question.Prefix ∷ question.Nothing ∷ [])
    (word_number question_words 13 (token_of line 0)) question.Nothing

-- An empty line, or one that begins with byte 35, `#`.
unfoldable pub is_comment : List ℕ → Bool
is_comment [] = true
is_comment (b ∷ line) = eqb b 35
