-- Reading by runs: a part of the tree's own bytes that are bytes of its text.
use Rattle.std.specs.Prelude.{List, Option, Some, None, Result, Ok, Err, ◌≡◌, ℕ, zero, suc, ◌+◌, ◌≤◌, ◌<◌, length, get_or, set}
use Rattle.refusals.specs.declared.Refusal.{Refusal}
use Rattle.refusals.specs.declared.Refusal.TheVariants.{PathBroken}
use Rattle.refusals.specs.Refusals.{refusal_number}
use Rattle.format.specs.Layout as at
use Rattle.format.specs.TreeReading.{text_of}
use Rattle.format.specs.Answers.{refused, Is, byte_answer, run_answer, copy_answer}
use Rattle.query_access.specs.declared.read_by_header.TreeRange.{TreeRange}
use Rattle.query_access.specs.declared.read_by_header.LeafRun.{LeafRun}
use Rattle.query_access.specs.ReadAnswers.{span_reply}

-- The same of bytes that are copied by their paths.
abbrev pub IsCopyAnswer : (t : List ℕ) (p len room : ℕ) → Result (ℕ × ℕ) Refusal → Type 0
IsCopyAnswer t p len room = Is span_reply (copy_answer t p len room)

-- `size` bytes of the tree, from `from`, are those of its text from place p, and no path of these places breaks
pub record ReadsOn (t : List ℕ) (p from size : ℕ) : Type 0 where
  pub in_text : p + size ≤ at.text_length t
  pub in_tree : from + size ≤ length t
  pub holds : (x : ℕ) → x < size → (byte_answer t (p + x)).number ≡ 0
  pub bytes : (x : ℕ) → x < size → get_or t (from + x) 0 ≡ get_or (text_of t) (p + x) 0

-- r is the run of place p: its bytes are the answers of byte at the places from p on, each with the same number of blocks entered.
pub record LeafRunAt (t : List ℕ) (p : ℕ) (r : LeafRun) : Type 0 where
  pub from_is : r.from ≡ (run_answer t p).0
  pub length_is : r.length ≡ (run_answer t p).1
  pub some_byte : 1 ≤ r.length
  pub in_tree : r.from + r.length ≤ length t
  pub answers : (x : ℕ) → x < r.length → byte_answer t (p + x) ≡ record { number = 0; value = get_or t (r.from + x) 0; entered = r.entered }

-- The answer of `leaf_run`.
abbrev pub LeafRunOf : List ℕ → ℕ → Option LeafRun → Type 0
LeafRunOf t p (Some r) = LeafRunAt t p r
LeafRunOf t p None = byte_answer t p ≡ refused 14

-- The run of place p, or the refusal of byte for that place.
abbrev pub IsRunOfPlace : List ℕ → ℕ → Result LeafRun Refusal → Type 0
IsRunOfPlace t p (Ok r) = LeafRunAt t p r
IsRunOfPlace t p (Err q) = refused (refusal_number q) ≡ byte_answer t p

-- r is a range of at most `most` bytes of the tree that are the answers of byte at the places from p on, each with the same number of blocks entered.
pub record LeafRangeAt (t : List ℕ) (p most : ℕ) (r : LeafRun) : Type 0 where
  pub some_byte : 1 ≤ r.length
  pub at_most : r.length ≤ most
  pub in_text : p + r.length ≤ at.text_length t
  pub in_tree : r.from + r.length ≤ length t
  pub answers : (x : ℕ) → x < r.length → byte_answer t (p + x) ≡ record { number = 0; value = get_or t (r.from + x) 0; entered = r.entered }

-- The bytes of r, which may be none, are byte's answers at the places from p on, each with the same number of blocks entered.
pub record ReadsFrom (t : List ℕ) (p : ℕ) (r : LeafRun) : Type 0 where
  pub in_tree : r.from + r.length ≤ length t
  pub answers : (x : ℕ) → x < r.length → byte_answer t (p + x) ≡ record { number = 0; value = get_or t (r.from + x) 0; entered = r.entered }

-- The answer of `leaf_range`.
abbrev pub LeafRangeOf : List ℕ → ℕ → ℕ → Option LeafRun → Type 0
LeafRangeOf t p most (Some r) = LeafRangeAt t p most r
LeafRangeOf t p most None = byte_answer t p ≡ refused 14

-- The answer of `range_at`: some bytes of the tree, at most `most`, that are those of its text from place p on; or 14, the refusal of byte.
abbrev pub IsRangeAnswer : List ℕ → ℕ → ℕ → Result TreeRange Refusal → Type 0
IsRangeAnswer t p most (Ok part) = (ReadsOn t p part.from part.length) × (1 ≤ part.length) × (part.length ≤ most)
IsRangeAnswer t p most (Err q) = (q ≡ PathBroken) × ((byte_answer t p).number ≡ 14)

-- The buffer d with the bytes of n places from p written from `to` on.
abbrev pub places_written : List ℕ → ℕ → List ℕ → ℕ → ℕ → List ℕ
places_written d to t p zero = d
places_written d to t p (suc n) = set (places_written d to t p n) (to + n) (byte_answer t (p + n)).value

-- The answer of `copy_run`, which turns buffer d into e: some bytes, none of them refused; or 14 for the first one, and nothing is written.
abbrev pub RunCopied : List ℕ → ℕ → ℕ → ℕ → List ℕ → List ℕ → Result (ℕ × ℕ) Refusal → Type 0
RunCopied t p most to d e (Ok r) =
    (1 ≤ r.0) × (r.0 ≤ most) × ((x : ℕ) → x < r.0 → (byte_answer t (p + x)).number ≡ 0) × (e ≡ places_written d to t p r.0)
RunCopied t p most to d e (Err q) = (q ≡ PathBroken) × ((byte_answer t p).number ≡ 14) × (e ≡ d)
