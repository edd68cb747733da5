-- What is promised about trees: statements without proofs, in the order of docs/FORMAT.md. The theorems of these types are `any-tree`, `built-tree` and
-- `scanned-tree` of proofs/Theorems.antt; each is named below beside its type. A call is a relation (`CallContracts`): `Byte κs t p r` means that the contract
-- of byte allows the answer r for the tree t and the place p. `x.now` are the bytes of x.
use Rattle.std.specs.Prelude.{List, [], ◌++◌, true, false, cond, ◌≡◌, ◌↔◌, ℕ, ◌+◌, ◌-◌, ◌≤◌, ◌<◌, ◌*◌, ◌/◌, length, get_or, take, drop, eqb}
use Rattle.std.specs.Prelude.{⊤, Result, Ok, Err}
use Rattle.std.proofs.Math.Option.{some}
use contract.Lifetimes.{Lfts}
use Rattle.text.specs.Text.{substring, count_in, place_of, row_of, rows_of}
use Rattle.format.specs.Layout.{Settings, length_ok, sizes_ok, counted_ok, given}
use Rattle.format.specs.Layout as at
use Rattle.format.specs.TreeReading.{Path, path_of, Short, short_of}
use Rattle.format.specs.FittingText.{fits}
use Rattle.format.specs.Blocks.{tree_of}
use Rattle.format.specs.ReadAnswerLaws.{ShortSpan}
use Rattle.theory_paths.specs.Visits.{pointers}
use Rattle.theory_accepted.specs.AcceptedTrees.{Represents}
use Rattle.theory_adequacy.specs.TotalCorrectness.{Function, TotallyCorrect}
use Rattle.theory_adequacy.specs.Preconditions.{NoPrecondition, Each}
use Rattle.row_filter.specs.SelectedRows.{outcome_at}
use Rattle.keys.specs.Keys.{ranges_ok}
use Rattle.keys.specs.Matches.{next_match, match_outcome}
use Rattle.prefix_match.specs.PrefixRowNumbers.{next_with_prefix}
use Rattle.columns.specs.Columns.{width_ok, uncolumns}
use Rattle.sha256.specs.Sha256.{sha256}
use Rattle.build_by_scan.specs.ScanAnswers.{windows_of}
use Rattle.query_places.specs.Places.{max_pattern, places_in, pattern_ok}
use Rattle.query_places.specs.PlacesLaws.{AllPlaces}
use Rattle.query_row_filter.specs.declared.NextRow.TheVariants as next
use Rattle.refusals.specs.declared.Refusal.TheVariants.{PastTheEnd, ByteNotCounted, NoSuchOccurrence, AnswerDoesNotFit}
use Rattle.refusals.specs.declared.Refusal.TheVariants.{PatternLengthWrong, PatternTableTooShort, CutsWrong, WidthDoesNotDivide}
use Rattle.abi.proofs.Theorems.{calls as exported}
use Rattle.list_lines.proofs.Theorems.{calls as listing}
use Rattle.licence.proofs.Theorems.{calls as licence}
use Rattle.theorems.specs.PublicFunctions.{functions, Every}
use Rattle.theorems.specs.CallContracts.{Borrowed, BorrowedMut, TextPlace, Refusal, ByteAnswer, SpanAnswer, CountAnswer}
use Rattle.theorems.specs.CallContracts.{FindAnswer, RowAnswer, PlacesAnswer, NextRowAnswer, BuildAnswer}
use Rattle.theorems.specs.CallContracts.{Check, Build, BuildScanned, Byte, Run, Span, Count, Find, Row, Places, Digest, NextMatch}
use Rattle.theorems.specs.CallContracts.{NextRowWithPrefix, ByColumns}

-- docs/FORMAT.md, "Settings": the byte is one of the counted bytes.
abbrev pub CountedIn : ℕ → List ℕ → Type 0
CountedIn byte counted = (i : ℕ) × (i < length counted) × (get_or counted i 0 ≡ byte)

-- docs/FORMAT.md, "The path of a place": e is the length of the path of place p, in a tree of H levels.
pub record LengthOfPath (t : List ℕ) (H p e : ℕ) : Type 0 where
  -- The path of p.
  pub path : Path
  -- There is one: it does not break.
  pub path_is : path_of t p ≡ some path
  -- The path has e blocks.
  pub length_is : e ≡ length path.visits
  -- There is one block for each level, and one more for each pointer followed.
  pub each_level : e ≡ H + pointers t path.visits
  -- There are at most 2H - 1 blocks.
  pub short : e ≤ 2 * H - 1

-- docs/FORMAT.md, "The walk of a short span": e is the number of blocks that the span of len bytes from p enters, in a tree of H levels.
pub record BlocksOfSpan (t : List ℕ) (H p len e : ℕ) : Type 0 where
  -- A short span enters the blocks of its walk, at least one.
  pub walked : ShortSpan t len → (q : Short) × (short_of t p len ≡ some q) × (e ≡ length q.visits) × (1 ≤ e)
  -- Any other span enters none.
  pub other : (ShortSpan t len → ⊥) → e ≡ 0
  -- At most 2H.
  pub most : e ≤ 2 * H

-- docs/FORMAT.md, "Queries": the answers to questions about a tree t with the settings S, given by a text T.
module _ (t : Borrowed) (S : Settings) (T : List ℕ) where
  -- docs/FORMAT.md, "Byte"
  pub record ByteAnswers : Type 0 where
    -- A place of the text: its byte, with the length of its path.
    pub byte-of : (κs : Lfts 1) (p : TextPlace) (r : ByteAnswer) → Byte κs t p r → p.0 < length T
        → (e : ℕ) × LengthOfPath t.now S.levels p.0 e × (r ≡ Ok (get_or T p.0 0, e))

  pub record ByteRefuses : Type 0 where
    -- A place past the end of the text: 10.
    pub byte_past : (κs : Lfts 1) (p : TextPlace) (r : ByteAnswer) → Byte κs t p r → length T ≤ p.0 → r ≡ Err PastTheEnd

  -- docs/FORMAT.md, "Run"
  pub record RunAnswers : Type 0 where
    -- A place of the text: a part of the tree's own bytes, at least one, which are the bytes of the text from the place on.
    pub run_of : (κs : Lfts 1) (p : TextPlace) (r : Borrowed) → Run κs t p r → p.0 < length T
        → (from : ℕ) × (size : ℕ) × (1 ≤ size) × (from + size ≤ length t.now) × (r.ref_ptr ≡ (t.ref_ptr.0, t.ref_ptr.1 + from))
        × (r.now ≡ take size (drop from t.now)) × (p.0 + size ≤ length T) × (r.now ≡ substring T p.0 size)

  pub record RunRefuses : Type 0 where
    -- A place past the end of the text: no bytes.
    pub run_past : (κs : Lfts 1) (p : TextPlace) (r : Borrowed) → Run κs t p r → length T ≤ p.0 → r.now ≡ []

  -- docs/FORMAT.md, "Span"
  pub record SpanAnswers : Type 0 where
    -- A span inside the text that fits the buffer: its bytes at the start of the buffer, the rest unchanged; with the number of blocks entered.
    pub span_of : (κs : Lfts 2) (p : TextPlace) (len : ℕ) (buffer after : BorrowedMut) (r : SpanAnswer) → Span κs t p len buffer after r
        → p.0 + len ≤ length T → len ≤ length buffer.now
        → (e : ℕ) × BlocksOfSpan t.now S.levels p.0 len e × (r ≡ Ok (len, e)) × (after.now ≡ substring T p.0 len ++ drop len buffer.now)

  pub record SpanRefuses : Type 0 where
    -- A span past the end of the text: 10, and the buffer is unchanged.
    pub span_past : (κs : Lfts 2) (p : TextPlace) (len : ℕ) (buffer after : BorrowedMut) (r : SpanAnswer) → Span κs t p len buffer after r
        → length T < p.0 + len → (r ≡ Err PastTheEnd) × (after.now ≡ buffer.now)
    -- A buffer that is too short: 13, and it is unchanged.
    pub span_short : (κs : Lfts 2) (p : TextPlace) (len : ℕ) (buffer after : BorrowedMut) (r : SpanAnswer) → Span κs t p len buffer after r
        → p.0 + len ≤ length T → length buffer.now < len → (r ≡ Err AnswerDoesNotFit) × (after.now ≡ buffer.now)

  -- docs/FORMAT.md, "Count"
  pub record CountAnswers : Type 0 where
    -- A counted byte: how often it occurs in the first i bytes, with the length of the path of place i - 1.
    pub count-of : (κs : Lfts 1) (byte i : ℕ) (r : CountAnswer) → Count κs t byte i r → CountedIn byte S.counted → 1 ≤ i → i ≤ length T
        → (e : ℕ) × LengthOfPath t.now S.levels (i - 1) e × (r ≡ Ok (count_in byte (take i T), e))
    -- In 0 bytes: 0, with no block entered.
    pub count_none : (κs : Lfts 1) (byte : ℕ) (r : CountAnswer) → Count κs t byte 0 r → CountedIn byte S.counted → r ≡ Ok (0, 0)

  pub record CountRefuses : Type 0 where
    -- More bytes than the text has: 10.
    pub count_past : (κs : Lfts 1) (byte i : ℕ) (r : CountAnswer) → Count κs t byte i r → length T < i → r ≡ Err PastTheEnd
    -- A byte that is not counted: 11.
    pub count_other : (κs : Lfts 1) (byte i : ℕ) (r : CountAnswer) → Count κs t byte i r → i ≤ length T → (CountedIn byte S.counted → ⊥)
        → r ≡ Err ByteNotCounted

  -- docs/FORMAT.md, "Find"
  pub record FindAnswers : Type 0 where
    -- A counted byte that occurs j times or more: the place of its j-th occurrence, with the length of that place's path.
    pub find_of : (κs : Lfts 1) (byte j : ℕ) (r : FindAnswer) → Find κs t byte j r → CountedIn byte S.counted → 1 ≤ j → j ≤ count_in byte T
        → (e : ℕ) × LengthOfPath t.now S.levels (place_of byte j T) e × (r ≡ Ok (record { 0 = place_of byte j T }, e))

  pub record FindRefuses : Type 0 where
    -- A byte that is not counted: 11.
    pub find_other : (κs : Lfts 1) (byte j : ℕ) (r : FindAnswer) → Find κs t byte j r → (CountedIn byte S.counted → ⊥) → r ≡ Err ByteNotCounted
    -- No j-th occurrence: 12.
    pub find_none : (κs : Lfts 1) (byte j : ℕ) (r : FindAnswer) → Find κs t byte j r → CountedIn byte S.counted → (1 ≤ j → j ≤ count_in byte T → ⊥)
        → r ≡ Err NoSuchOccurrence

  -- docs/FORMAT.md, "Row"
  pub record RowAnswers : Type 0 where
    -- A row of the text, which fits the buffer: its bytes at the buffer's start, the rest of the buffer unchanged.
    pub row-of : (κs : Lfts 2) (q : ℕ) (buffer after : BorrowedMut) (r : RowAnswer) → Row κs t q buffer after r
        → CountedIn 10 S.counted → 1 ≤ q → q ≤ length (rows_of T) → length (row_of T q) ≤ length buffer.now
        → (r ≡ Ok (length (row_of T q))) × (after.now ≡ row_of T q ++ drop (length (row_of T q)) buffer.now)

  pub record RowRefuses : Type 0 where
    -- Byte 10 is not counted: 11, and the buffer is unchanged.
    pub row_other : (κs : Lfts 2) (q : ℕ) (buffer after : BorrowedMut) (r : RowAnswer) → Row κs t q buffer after r
        → (CountedIn 10 S.counted → ⊥) → (r ≡ Err ByteNotCounted) × (after.now ≡ buffer.now)
    -- No row of this number: 12, and the buffer is unchanged.
    pub row_none : (κs : Lfts 2) (q : ℕ) (buffer after : BorrowedMut) (r : RowAnswer) → Row κs t q buffer after r
        → CountedIn 10 S.counted → (1 ≤ q → q ≤ length (rows_of T) → ⊥) → (r ≡ Err NoSuchOccurrence) × (after.now ≡ buffer.now)
    -- A buffer that is too short: 13, and it is unchanged.
    pub row_short : (κs : Lfts 2) (q : ℕ) (buffer after : BorrowedMut) (r : RowAnswer) → Row κs t q buffer after r → CountedIn 10 S.counted
        → 1 ≤ q → q ≤ length (rows_of T) → length buffer.now < length (row_of T q) → (r ≡ Err AnswerDoesNotFit) × (after.now ≡ buffer.now)

  -- docs/FORMAT.md, "Places"
  pub record PlacesAnswers : Type 0 where
    -- A pattern of 1 to 256 bytes, whose places fit the table: all its places, rising, each once, at the table's start, with their number.
    pub places-of : (κs : Lfts 3) (P : Borrowed) (table after : BorrowedMut) (r : PlacesAnswer) → Places κs t P table after r
        → 1 ≤ length P.now → length P.now ≤ max_pattern → (ps : List ℕ) → ps ≡ places_in P.now T → length ps ≤ length table.now
        → AllPlaces P.now T ps × (r ≡ Ok (length ps)) × (after.now ≡ ps ++ drop (length ps) table.now)

  pub record PlacesRefuses : Type 0 where
    -- A pattern of another length: 16, and the table is unchanged.
    pub places_length : (κs : Lfts 3) (P : Borrowed) (table after : BorrowedMut) (r : PlacesAnswer) → Places κs t P table after r
        → (1 ≤ length P.now → length P.now ≤ max_pattern → ⊥) → (r ≡ Err PatternLengthWrong) × (after.now ≡ table.now)
    -- A table that is too short: 17, and it is unchanged.
    pub places_short : (κs : Lfts 3) (P : Borrowed) (table after : BorrowedMut) (r : PlacesAnswer) → Places κs t P table after r → 1 ≤ length P.now
        → length P.now ≤ max_pattern → length table.now < length (places_in P.now T) → (r ≡ Err PatternTableTooShort) × (after.now ≡ table.now)

  -- docs/FORMAT.md, "Digest"
  pub record DigestAnswers : Type 0 where
    -- The text's SHA-256, in the first 32 bytes of the buffer.
    pub digest_of : (κs : Lfts 2) (out after : BorrowedMut) (r : Result ⊤ Refusal) → Digest κs t out after r → 32 ≤ length out.now
        → (r ≡ Ok tt) × (after.now ≡ sha256 T ++ drop 32 out.now)

  pub record DigestRefuses : Type 0 where
    -- A buffer that is too short: 13, and it is unchanged.
    pub digest_short : (κs : Lfts 2) (out after : BorrowedMut) (r : Result ⊤ Refusal) → Digest κs t out after r → length out.now < 32
        → (r ≡ Err AnswerDoesNotFit) × (after.now ≡ out.now)

  -- docs/FORMAT.md, "Keys"
  pub record MatchAnswers : Type 0 where
    -- The next row after the mark that matches the ranges; if there is none, the mark goes to the number of rows, or stays if it is above.
    pub match_of : (κs : Lfts 2) (ranges : Borrowed) (mark : ℕ) (r : NextRowAnswer) → NextMatch κs t ranges mark r
        → ranges_ok ranges.now ≡ true → CountedIn 10 S.counted
        → r ≡ Ok (cond (eqb (next_match ranges.now T mark) 0) (next.Nothing (match_outcome ranges.now T mark).mark) (next.Row (next_match ranges.now T mark)))

  pub record MatchRefuses : Type 0 where
    -- Ranges that are not ranges of 1 to 10 cuts: 19.
    pub match_ranges : (κs : Lfts 2) (ranges : Borrowed) (mark : ℕ) (r : NextRowAnswer) → NextMatch κs t ranges mark r → ranges_ok ranges.now ≡ false
        → r ≡ Err CutsWrong
    -- Byte 10 is not counted: 11.
    pub match_other : (κs : Lfts 2) (ranges : Borrowed) (mark : ℕ) (r : NextRowAnswer) → NextMatch κs t ranges mark r → ranges_ok ranges.now ≡ true
        → (CountedIn 10 S.counted → ⊥) → r ≡ Err ByteNotCounted

  -- docs/FORMAT.md, "Rows by prefix"
  pub record PrefixAnswers : Type 0 where
    -- The next row after the mark that starts with the prefix; if there is none, the mark goes to the number of rows, or stays if it is above.
    pub prefix_of : (κs : Lfts 2) (prefix : Borrowed) (mark : ℕ) (r : NextRowAnswer) → NextRowWithPrefix κs t prefix mark r
        → pattern_ok prefix.now ≡ true → CountedIn 10 S.counted
        → r ≡ Ok (cond (eqb (next_with_prefix prefix.now (rows_of T) mark) 0)
        (next.Nothing (outcome_at (next_with_prefix prefix.now (rows_of T) mark) (length (rows_of T)) mark).mark)
        (next.Row (next_with_prefix prefix.now (rows_of T) mark)))

  pub record PrefixRefuses : Type 0 where
    -- A prefix of no bytes or of more than 256: 16.
    pub prefix_length : (κs : Lfts 2) (prefix : Borrowed) (mark : ℕ) (r : NextRowAnswer) → NextRowWithPrefix κs t prefix mark r
        → pattern_ok prefix.now ≡ false → r ≡ Err PatternLengthWrong
    -- Byte 10 is not counted: 11.
    pub prefix_other : (κs : Lfts 2) (prefix : Borrowed) (mark : ℕ) (r : NextRowAnswer) → NextRowWithPrefix κs t prefix mark r → pattern_ok prefix.now ≡ true
        → (CountedIn 10 S.counted → ⊥) → r ≡ Err ByteNotCounted

  -- docs/FORMAT.md, "Columns before rows"
  pub record ColumnAnswers : Type 0 where
    -- T is a text by columns: row a of that text, all w bytes, at the buffer's start, the rest of the buffer unchanged.
    pub column_of : (κs : Lfts 2) (w a : ℕ) (buffer after : BorrowedMut) (r : SpanAnswer) → ByColumns κs t w a buffer after r
        → width_ok w (length T) ≡ true → a < length T / w → w ≤ length buffer.now
        → (r ≡ Ok (w, 0)) × (after.now ≡ substring (uncolumns w T) (a * w) w ++ drop w buffer.now)

  pub record ColumnRefuses : Type 0 where
    -- Width 0, or the length of the text is no multiple of the width: 20, and the buffer is unchanged.
    pub column_width : (κs : Lfts 2) (w a : ℕ) (buffer after : BorrowedMut) (r : SpanAnswer) → ByColumns κs t w a buffer after r
        → width_ok w (length T) ≡ false → (r ≡ Err WidthDoesNotDivide) × (after.now ≡ buffer.now)
    -- A row past the last: 10, and the buffer is unchanged.
    pub column_past : (κs : Lfts 2) (w a : ℕ) (buffer after : BorrowedMut) (r : SpanAnswer) → ByColumns κs t w a buffer after r
        → width_ok w (length T) ≡ true → length T / w ≤ a → (r ≡ Err PastTheEnd) × (after.now ≡ buffer.now)
    -- A buffer that is too short: 13, and it is unchanged.
    pub column_short : (κs : Lfts 2) (w a : ℕ) (buffer after : BorrowedMut) (r : SpanAnswer) → ByColumns κs t w a buffer after r
        → width_ok w (length T) ≡ true → a < length T / w → length buffer.now < w → (r ≡ Err AnswerDoesNotFit) × (after.now ≡ buffer.now)

  -- All questions together: T gives the answer to each.
  pub record Answers : Type 0 where
    -- A place has its byte.
    pub byte : ByteAnswers
    -- A place has a run of the tree's own bytes.
    pub run : RunAnswers
    -- A span inside the text is copied.
    pub span : SpanAnswers
    -- A counted byte occurs so often in a prefix.
    pub count : CountAnswers
    -- The j-th occurrence of a counted byte is at its place.
    pub find : FindAnswers
    -- A row of the text is copied.
    pub row : RowAnswers
    -- A pattern has all its places, in rising order.
    pub places : PlacesAnswers
    -- The digest is the SHA-256 of the text.
    pub digest : DigestAnswers
    -- The next row that matches the ranges is the text's.
    pub next-match : MatchAnswers
    -- The next row with the prefix is the text's.
    pub prefix_row : PrefixAnswers
    -- A row by columns is copied.
    pub column_row : ColumnAnswers

  -- docs/FORMAT.md, "Questions and refusals": where T has no answer, the call is refused with the number of the question.
  pub record Refuses : Type 0 where
    -- A place past the text has none.
    pub byte : ByteRefuses
    -- A place past the text has an empty run.
    pub run : RunRefuses
    -- A span past the text, or longer than the buffer, is not.
    pub span : SpanRefuses
    -- A prefix past the text and a byte that is not counted have no count.
    pub count : CountRefuses
    -- An occurrence past the last, and a byte that is not counted, have none.
    pub find : FindRefuses
    -- A row past the last, or longer than the buffer, is not; and none where newlines are not counted.
    pub row : RowRefuses
    -- A pattern of a wrong length, or a short table, has none.
    pub places : PlacesRefuses
    -- A short buffer has none.
    pub digest : DigestRefuses
    -- Ranges of a wrong form, and a text without counted newlines, have none.
    pub next-match : MatchRefuses
    -- A prefix of a wrong length, and a text without counted newlines, have none.
    pub prefix_row : PrefixRefuses
    -- A wrong width, a row past the last and a short buffer are refused.
    pub column_row : ColumnRefuses

  -- docs/FORMAT.md, "What is proved": the tree represents T and no other text, and T determines the answer to every question.
  pub record OnlyText : Type 0 where
    -- T fits the tree, and the counts and edges of the tree are right for T.
    pub represents : Represents t.now T
    -- No other text fits the tree.
    pub only : (U : List ℕ) → fits U t.now ≡ true → U ≡ T
    -- A question that T answers has that answer.
    pub answers : Answers
    -- Every other question is refused with its number.
    pub refuses : Refuses

-- P holds for every call: those of the library, those of the C interface, list, and those on the days of a licence. Each symbol of the C library calls the
-- one of the C interface that has its name; what is said of all of these is said of the symbols in `Theorems` of `abi_c`.
abbrev pub OfEveryCall : (Function → Type 2) → Type 2
OfEveryCall P = Every P functions × Each P exported × Each P listing × Each P licence

-- Demand 1, `every-call-ends`: every call terminates, and accesses only the memory that it was given.
abbrev pub EveryCallEnds : Type 2
EveryCallEnds = OfEveryCall TotallyCorrect

-- Demand 1, `no-preconditions`: no call has a precondition.
abbrev pub NoPreconditions : Type 2
NoPreconditions = OfEveryCall NoPrecondition

-- Demand 3, `check-accepts`: check accepts a tree exactly if it represents a text.
abbrev pub ExactCheck : Type 0
ExactCheck = (κs : Lfts 1) (t : Borrowed) (r : Result ⊤ Refusal) → Check κs t r → (r ≡ Ok tt) ↔ ((T : List ℕ) × Represents t.now T)

-- Demand 3, `any-tree`: a tree that check accepted, whoever made it, represents exactly one text, which determines the answer to every question.
abbrev pub AnyTree : Type 0
AnyTree = (κs : Lfts 1) (t : Borrowed) → Check κs t (Ok tt) → (T : List ℕ) × OnlyText t (at.settings t.now) T

-- Demand 3, `build-accepts-exact-buffer`: build refuses no text, settings and buffer that pass questions 1 to 4.
abbrev pub CompleteBuilder : Type 0
CompleteBuilder =
    (κs : Lfts 3) (text : Borrowed) (leaf arity levels : ℕ) (counted : Borrowed) (out after : BorrowedMut) (r : BuildAnswer)
    → Build κs text leaf arity levels counted out after r
    → length_ok (length text.now) ≡ true → sizes_ok (given leaf arity levels counted.now) ≡ true → counted_ok counted.now ≡ true
    → length (tree_of (given leaf arity levels counted.now) text.now) ≤ length out.now
    → r ≡ Ok (length (tree_of (given leaf arity levels counted.now) text.now))

-- Demands 2 and 3, `built-tree`: what build wrote is the block tree of its text; check accepts it; it represents that text alone, which determines the answer
-- to every question.
abbrev pub BuiltTree : Type 0
BuiltTree =
    (κs : Lfts 3) (text : Borrowed) (leaf arity levels : ℕ) (counted : Borrowed) (out after : BorrowedMut) (size : ℕ)
    → Build κs text leaf arity levels counted out after (Ok size) → (t : Borrowed) → t.now ≡ take size after.now
    → (t.now ≡ tree_of (given leaf arity levels counted.now) text.now) × ((κ : Lfts 1) (r : Result ⊤ Refusal) → Check κ t r → r ≡ Ok tt)
    × OnlyText t (given leaf arity levels counted.now) text.now

-- Demands 2 and 3, `scanned-tree`: the same for build_scanned, and the number of windows that it returns is that of the text.
abbrev pub ScannedTree : Type 0
ScannedTree =
    (κs : Lfts 4) (text : Borrowed) (leaf arity levels : ℕ) (counted : Borrowed) (words table out after : BorrowedMut) (size windows : ℕ)
    → BuildScanned κs text leaf arity levels counted words table out after (Ok (size, windows)) → (t : Borrowed) → t.now ≡ take size after.now
    → (windows ≡ windows_of (given leaf arity levels counted.now) text.now)
    × (t.now ≡ tree_of (given leaf arity levels counted.now) text.now) × ((κ : Lfts 1) (r : Result ⊤ Refusal) → Check κ t r → r ≡ Ok tt)
    × OnlyText t (given leaf arity levels counted.now) text.now
