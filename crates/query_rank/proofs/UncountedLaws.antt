-- The refusals for a number above 255.
use mathlib.Core.List.{List}
use mathlib.Core.Path.{◌≡◌}
use Prim.Native.Nat.{ℕ, suc}
use native.Mathlib.Omega.{arith}
use borrow.Author.Tests.{ne_eqb}
use lib.Dec.{leb}
use Rattle.format.specs.Layout as at
use Rattle.format.specs.TreeReading.{ask, header_result}
use Rattle.layout.specs.declared.header.Header.{Header}
use Rattle.std.specs.Prelude.{Result, Ok, Err}
use Rattle.refusals.specs.declared.Refusal.{Refusal}
use Rattle.refusals.specs.Refusals.{refusal_number}
use Rattle.layout.specs.Header.{header_answer}
use Rattle.layout.specs.HeaderFields.{header-good, header_refused}
use Rattle.query_rank.specs.Counts.{uncounted_refusal}

module _ (t : List ℕ) (i : ℕ) (x : Result Header Refusal) (x-is : x ≡ header_answer t) where
  passed : (n r : ℕ) → header_result t ≡ 0 → n ≡ at.text_length t → r ≡ ask 10 (leb i n) 11 → r ≡ uncounted_refusal t i
  unfolding uncounted_refusal
  passed n r z e f = rw (z, ← e, f)

  pub uncounted-good : (h : Header) → x ≡ Ok h → (r : ℕ) → r ≡ ask 10 (leb i h.text_length) 11 → r ≡ uncounted_refusal t i
  uncounted-good h e r f = let k = header-good t x x-is h e in passed h.text_length r k.passes k.length_is f

  pub uncounted-unread : (q : Refusal) → x ≡ Err q → refusal_number q ≡ uncounted_refusal t i
  unfolding uncounted_refusal
  uncounted-unread q e = let z = header_refused t x x-is q e in rw (z.1, ne_eqb (suc z.0) 0 (λ y. omega arith)) z.2
