-- The demands on the search, as theorems over what its calls promise.
-- docs/FORMAT.md: "Searching".
use mathlib.Core.List.{List}
use mathlib.Core.Bool.{Bool, true, false, cond}
use mathlib.Core.Path.{◌≡◌, refl, sym, ap, ◌∙◌}
use Prim.Native.Nat.{ℕ, ◌+◌, ◌≤◌, ◌<◌}
use native.Mathlib.Omega.{arith}
use contract.Lifetimes.{Lfts}
use denote.Ref.{Bor}
use lib.ListN.{length}
use lib.Dec.{leb}
use borrow.Author.Tests.{leb-true}
use Rattle.text.specs.Text.{substring, leftmost}
use Rattle.text.specs.TextLaws.{leftmost-le, leftmost-same, leftmost-least}
use Rattle.text.specs.declared.TextPlace.{TextPlace}
use Rattle.search.specs.declared.Fingerprint.{Fingerprint}
use Rattle.std.proofs.Common.{Option, Some, None}
use Rattle.search.specs.Occurrences.{leftmost_answer}
use Rattle.search.proofs.leftmost.Reads as leftmost-reads
use Rattle.search.proofs.occurs_earlier.Reads as earlier-reads

-- r is an answer that the contract of `leftmost` allows to a call with these arguments
abbrev pub LeftmostCall : (κs : Lfts 1) → Bor (List ℕ) → TextPlace → ℕ → Fingerprint → Option TextPlace → Type 0
LeftmostCall κs text at len by r = leftmost-reads.Post κs (text, (at, (len, (by, tt)))) r (text, (at, (len, (by, tt))))

-- The contract of `occurs_earlier`.
abbrev pub Earlier : (κs : Lfts 1) → Bor (List ℕ) → TextPlace → ℕ → Fingerprint → Bool → Type 0
Earlier κs text at len by r = earlier-reads.Post κs (text, (at, (len, (by, tt)))) r (text, (at, (len, (by, tt))))

-- Fingerprints only select candidates: what a call returns for a text, place and length does not depend on base and modulus.
pub same_answer :
    (κs : Lfts 1) (text : Bor (List ℕ)) (at : TextPlace) (len : ℕ) (one other : Fingerprint) (r s : Option TextPlace)
    → LeftmostCall κs text at len one r → LeftmostCall κs text at len other s → r ≡ s
same_answer κs text at len one other r s p q = p ∙ sym q

pub same-earlier :
    (κs : Lfts 1) (text : Bor (List ℕ)) (at : TextPlace) (len : ℕ) (one other : Fingerprint) (r s : Bool)
    → Earlier κs text at len one r → Earlier κs text at len other s → r ≡ s
same-earlier κs text at len one other r s p q = p ∙ sym q

-- The meaning of an answer: p is the leftmost place with the len bytes at `at`.
pub record Leftmost (T : List ℕ) (at len p : ℕ) : Type 0 where
  pub within : at + len ≤ length T
  pub low : p ≤ at
  pub same : substring T p len ≡ substring T at len
  pub least : (q : ℕ) → q < p → substring T q len ≡ substring T at len → ⊥

answer-cases :
    (T : List ℕ) (at len : ℕ) (p : TextPlace) (b : Bool) → leb (at + len) (length T) ≡ b
    → Some p ≡ cond b (Some (record { 0 = leftmost T at len })) None → (at + len ≤ length T) × (p.0 ≡ leftmost T at len)
answer-cases T at len p true e f = (
  leb-true (at + len) (length T) e,
  (let z : p ≡ record { 0 = leftmost T at len } = cc in
      ap (λ (x : TextPlace). x.0) z),
)
answer-cases T at len p false e f =
    let z : ◌≡◌ {A = ℕ} 0 1 = cc in
    absurd (let w : ⊥ = omega arith in w)

-- Whatever the fingerprint, the place found is the leftmost one.
pub answer-is-leftmost :
    (κs : Lfts 1) (text : Bor (List ℕ)) (at : TextPlace) (len : ℕ) (by : Fingerprint) (p : TextPlace) → LeftmostCall κs text at len by (Some p)
    → Leftmost text.now at.0 len p.0
unfolding leftmost_answer
answer-is-leftmost κs text at len by p a =
    let T = text.now in
    let h = answer-cases T at.0 len p (leb (at.0 + len) (length T)) refl a in
    record {
      within = h.0;
      low = rw h.1 (leftmost-le T at.0 len);
      same = rw h.1 (leftmost-same T at.0 len);
      least = λ q l e. leftmost-least T at.0 len q (omega (arith, h.1)) e;
    }
