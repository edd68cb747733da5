-- The contracts of the calls that build, check or read a tree, each as a relation with the call's name: `Byte κs tree place r` means that the contract of
-- byte allows the answer r to a call with these arguments. It is the `Post` that the prover generates from the contract. A buffer that the call writes is
-- given twice, before the call and `after` it; κs are the lifetimes of the borrowed arguments.
use Rattle.std.specs.Prelude.{List, ℕ, Result}
use contract.Lifetimes.{Lfts}
use Rattle.std.specs.Borrow.{Bor, MutBor}
use Rattle.query_rank.proofs.count.Reads as count-reads
use Rattle.query_select.proofs.find.Reads as find-reads
use Rattle.query_rows.proofs.row.Reads as row_reads
use Rattle.build_by_scan.proofs.build_scanned.Reads as scanned-reads
-- What the answers are made of.
pub use Rattle.text.specs.declared.TextPlace.{TextPlace}
pub use Rattle.query_row_filter.specs.declared.NextRow.{NextRow}
pub use Rattle.refusals.specs.declared.Refusal.{Refusal}
-- `Check κs tree r`, `Build κs text leaf arity levels counted out after r`
pub use Rattle.tree.proofs.Theorems.{Check as Check, Build as Build}
-- `Byte κs tree place r`, `Run κs tree place part`, `Span κs tree place length buffer after r`
pub use Rattle.query_access.proofs.Theorems.{Asked as Byte, Run, Span}
-- `Places κs tree pattern table after r`
pub use Rattle.query_places.proofs.Theorems.{Places}
-- `NextMatch κs tree ranges mark r`
pub use Rattle.query_key_match.proofs.Theorems.{NextMatch}
-- `NextRowWithPrefix κs tree prefix mark r`
pub use Rattle.query_prefix.proofs.Theorems.{NextRowWithPrefix}
-- `ByColumns κs tree width a buffer after r`
pub use Rattle.query_columns.proofs.Theorems.{ByColumns}
-- `Digest κs tree out after r`
pub use Rattle.query_digest.proofs.Theorems.{Digest}

-- What a call answers: what it was asked for, or a refusal.

-- A byte, with the blocks entered.
abbrev pub ByteAnswer : Type 0
ByteAnswer = Result (ℕ × ℕ) Refusal

-- How many bytes were copied, with the blocks entered.
abbrev pub SpanAnswer : Type 0
SpanAnswer = Result (ℕ × ℕ) Refusal

-- How often the byte occurs, with the blocks entered.
abbrev pub CountAnswer : Type 0
CountAnswer = Result (ℕ × ℕ) Refusal

-- A place, with the blocks entered.
abbrev pub FindAnswer : Type 0
FindAnswer = Result (TextPlace × ℕ) Refusal

-- The length of the row that was copied.
abbrev pub RowAnswer : Type 0
RowAnswer = Result ℕ Refusal

-- How many places were written.
abbrev pub PlacesAnswer : Type 0
PlacesAnswer = Result ℕ Refusal

-- The next row, or that there is none and where the mark goes.
abbrev pub NextRowAnswer : Type 0
NextRowAnswer = Result NextRow Refusal

-- The size of the tree that was written.
abbrev pub BuildAnswer : Type 0
BuildAnswer = Result ℕ Refusal

-- The size of the tree that was written, with the windows looked up.
abbrev pub BuildScannedAnswer : Type 0
BuildScannedAnswer = Result (ℕ × ℕ) Refusal

-- Bytes that a call borrows to read them, and those that it borrows to write them.
abbrev pub Borrowed : Type 0
Borrowed = Bor (List ℕ)

abbrev pub BorrowedMut : Type 0
BorrowedMut = MutBor (List ℕ)

abbrev pub Count : (κs : Lfts 1) → Borrowed → (byte i : ℕ) → CountAnswer → Type 0
Count κs t byte i r = count-reads.Post κs (t, (byte, (i, tt))) r (t, (byte, (i, tt)))

abbrev pub Find : (κs : Lfts 1) → Borrowed → (byte j : ℕ) → FindAnswer → Type 0
Find κs t byte j r = find-reads.Post κs (t, (byte, (j, tt))) r (t, (byte, (j, tt)))

abbrev pub Row : (κs : Lfts 2) → Borrowed → (q : ℕ) → (buffer after : BorrowedMut) → RowAnswer → Type 0
Row κs t q buffer after r = row_reads.Post κs (t, (q, (buffer, tt))) r (t, (q, (after, tt)))

-- `table` is the table `words` after the call, `after` is the buffer `out` after the call.
abbrev pub BuildScanned : (κs : Lfts 4) (text : Borrowed) (leaf arity levels : ℕ) (counted : Borrowed) (words table out after : BorrowedMut)
    → BuildScannedAnswer → Type 0
BuildScanned κs text leaf arity levels counted words table out after r =
    scanned-reads.Post κs (text, (leaf, (arity, (levels, (counted, (words, (out, tt))))))) r (text, (leaf, (arity, (levels, (counted, (table, (after, tt)))))))
