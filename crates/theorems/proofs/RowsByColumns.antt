-- Row by columns on the tree of a rearranged text gives the rows of the original text: for any accepted tree and for what the two builders write.
use mathlib.Core.List.{List, ◌++◌}
use mathlib.Core.Bool.{true}
use mathlib.Core.Path.{◌≡◌, refl}
use Prim.Native.Nat.{ℕ, ◌≤◌, ◌<◌, ◌*◌, ◌/◌}
use contract.Lifetimes.{Lfts}
use lib.ListN.{length, take, drop}
use Rattle.std.specs.Prelude.{Ok}
use Rattle.text.specs.Text.{substring}
use Rattle.format.specs.Layout.{Settings, given}
use Rattle.format.specs.Layout as at
use Rattle.format.specs.FittingText.{fits}
use Rattle.columns.specs.Columns.{width_ok, columns}
use Rattle.columns.specs.ColumnLaws.{columns-length, restored}
use Rattle.columns.proofs.Theorems as rearranging
use Rattle.theorems.specs.CallContracts.{SpanAnswer}
use Rattle.theorems.specs.Promises.{Answers}
use Rattle.theorems.proofs.BuildCall.{Build, build-answers}
use Rattle.theorems.proofs.BuildScannedCall.{BuildScanned, scanned-answers}
use Rattle.theorems.proofs.CheckCall.{Check, check-answers}
use Rattle.theorems.proofs.ColumnRowCall.{ByColumns}
use Rattle.theorems.proofs.ColumnsCall.{ToColumns}
use Rattle.theorems.proofs.PublicCall.{Borrowed, BorrowedMut}

-- What every call on the tree returns: the buffer begins with row a of the original text, end byte included, and its other bytes are unchanged.
abbrev pub RowsOf : Borrowed → ℕ → List ℕ → Type 0
RowsOf t w T =
    (κs : Lfts 2) (a : ℕ) (buffer after : BorrowedMut) (r : SpanAnswer) → ByColumns κs t w a buffer after r → a < length T / w → w ≤ length buffer.now
    → (r ≡ Ok (w, 0)) × (after.now ≡ substring T (a * w) w ++ drop w buffer.now)

-- Every question is answered from the rearranged text.
module _ (t : Borrowed) (S : Settings) (w : ℕ) (T : List ℕ) (ok : width_ok w (length T) ≡ true) where
  rows_of : Answers t S (columns w T) → RowsOf t w T
  rows_of answers κs a buffer after r c low room =
      let size = columns-length w T ok in
      rw (restored w T ok) at (answers.column_row.column_of κs w a buffer after r c (rw size ok) (rw size low) room)

-- For any tree that the check accepts and that the rearranged text fits.
pub accepted-rows : (κ : Lfts 1) (t : Borrowed) → Check κ t (Ok tt) → (w : ℕ) (T : List ℕ) → width_ok w (length T) ≡ true → fits (columns w T) t.now ≡ true
    → RowsOf t w T
accepted-rows κ t c w T ok fit = rows_of t (at.settings t.now) w T ok (check-answers κ t c (columns w T) fit)

-- A text rearranged by a call, whose output is the input of a builder.
module _ (κ : Lfts 2) (text : Borrowed) (w : ℕ) (out turned : BorrowedMut) (done : ToColumns κ text w out turned (Ok tt))
    (input : Borrowed) (is : input.now ≡ take (length text.now) turned.now) where
  ok : width_ok w (length text.now) ≡ true
  ok = ((rearranging.to-columns κ text w out turned (Ok tt) done).passed refl).0

  input-is : input.now ≡ columns w text.now
  input-is = rearranging.to-columns-input κ text w out turned done input.now is

  -- For the tree that build wrote.
  pub built-rows : (κs : Lfts 3) (leaf arity levels : ℕ) (counted : Borrowed) (room after : BorrowedMut) (size : ℕ)
      → Build κs input leaf arity levels counted room after (Ok size) → (t : Borrowed) → t.now ≡ take size after.now → RowsOf t w text.now
  built-rows κs leaf arity levels counted room after size a t e =
      rows_of t (given leaf arity levels counted.now) w text.now ok
      (rw input-is at (build-answers κs input leaf arity levels counted room after size a t e))

  -- For the tree that build_scanned wrote.
  pub scanned-rows : (κs : Lfts 4) (leaf arity levels : ℕ) (counted : Borrowed) (words table room after : BorrowedMut) (size windows : ℕ)
      → BuildScanned κs input leaf arity levels counted words table room after (Ok (size, windows))
      → (t : Borrowed) → t.now ≡ take size after.now → RowsOf t w text.now
  scanned-rows κs leaf arity levels counted words table room after size windows a t e =
      rows_of t (given leaf arity levels counted.now) w text.now ok
      (rw input-is at (scanned-answers κs input leaf arity levels counted words table room after size windows a t e))
