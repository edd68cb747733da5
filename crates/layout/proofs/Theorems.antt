-- Request 104 (docs/FORMAT.md, "Record"): four bytes are enough to read a field, and other bytes have no influence. Theorems over what the two calls that
-- read numbers promise.
use mathlib.Core.List.{List}
use mathlib.Core.Path.{◌≡◌, sym, ◌∙◌}
use Prim.Native.Nat.{ℕ, ◌+◌, ◌*◌, ◌≤◌, ◌<◌}
use contract.Lifetimes.{Lfts}
use denote.Ref.{Bor}
use lib.ListN.{length, get_or}
use Rattle.format.specs.Layout as at
use Rattle.format.specs.WordLaws.{word_at-agree}
use Rattle.format.specs.Layout.{header_length}
use Rattle.layout.specs.declared.place.BlockNumber.{BlockNumber}
use Rattle.layout.specs.Record.{field-held, field-agree}
use Rattle.layout.proofs.word.read.Reads as read-reads
use Rattle.layout.proofs.record.field.Reads as field-reads

abbrev HeaderLent : Type 0
HeaderLent = Bor (List ℕ)

-- r is a number that the contract of `word::read` allows to a call with these arguments
abbrev pub Read : Lfts 1 → HeaderLent → ℕ → ℕ → Type 0
Read κs t i r = read-reads.Post κs (t, (i, tt)) r (t, (i, tt))

-- The contract of `record::field`.
abbrev pub Field : Lfts 1 → HeaderLent → ℕ → ℕ → BlockNumber → ℕ → ℕ → Type 0
Field κs t size level block f r = field-reads.Post κs (t, (size, (level, (block, (f, tt))))) r (t, (size, (level, (block, (f, tt)))))

-- A slice that has the four bytes is enough: there is no other precondition.
pub read-asks : (κs : Lfts 1) (t : HeaderLent) (i : ℕ) → i + 4 ≤ length t.now → read-reads.Asked κs (t, (i, tt))
read-asks κs t i held = held

-- No other byte affects the number: two slices that agree on the four bytes give the same one, whatever else they contain and however long they are.
pub read-in-place : (κs κu : Lfts 1) (t u : HeaderLent) (i r s : ℕ) → Read κs t i r → Read κu u i s
    → ((k : ℕ) → i ≤ k → k < i + 4 → get_or t.now k 0 ≡ get_or u.now k 0) → r ≡ s
read-in-place κs κu t u i r s a b same = a ∙ word_at-agree t.now u.now i same ∙ sym b

-- A field of a record: besides its four bytes the header is read, for the level's table and the record's size.
module _ (κs κu : Lfts 1) (t u : HeaderLent) (header : (k : ℕ) → k < header_length → get_or t.now k 0 ≡ get_or u.now k 0)
    (size level : ℕ) (block : BlockNumber) (f : ℕ) (h : field-reads.Asked κs (t, (size, (level, (block, (f, tt)))))) where
  abbrev place : ℕ
  place = at.level_offset t.now level + block.0 * at.record_size t.now + 4 * f

  -- A field can be read from bytes that end with its four, in the middle of the record.
  pub field-cut-off : header_length ≤ length u.now → place + 4 ≤ length u.now → field-reads.Asked κu (u, (size, (level, (block, (f, tt)))))
  field-cut-off long held = field-held t.now u.now header size level block.0 f h long held

  -- The number is then the same.
  pub field-in-place : (r s : ℕ) → Field κs t size level block f r → Field κu u size level block f s
      → ((k : ℕ) → place ≤ k → k < place + 4 → get_or t.now k 0 ≡ get_or u.now k 0) → r ≡ s
  field-in-place r s a b same = a ∙ field-agree t.now u.now header size level block.0 f h same ∙ sym b
