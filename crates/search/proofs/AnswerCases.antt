-- The answers of the public calls, by cases.
use mathlib.Core.List.{List}
use mathlib.Core.Bool.{Bool, true, false, cond, ◌&&◌}
use mathlib.Core.Path.{◌≡◌, refl, ap, ◌∙◌}
use Prim.Native.Nat.{ℕ, ◌+◌, ◌≤◌, ◌<◌}
use lib.ListN.{length}
use lib.Dec.{leb, ltb}
use borrow.Author.Tests.{le-leb, lt-leb}
use Rattle.text.specs.Text.{leftmost}
use Rattle.text.specs.declared.TextPlace.{TextPlace}
use Rattle.std.proofs.Common.{Option, Some, None}
use Rattle.search.specs.Occurrences.{leftmost_answer, occurs_earlier_answer}

pub answers-outside : (T : List ℕ) (at len : ℕ) → length T < at + len → None ≡ leftmost_answer T at len
unfolding leftmost_answer
answers-outside T at len l = rw (lt-leb (at + len) (length T) l)

pub answers_at : (T : List ℕ) (at len : ℕ) (r : TextPlace) → at + len ≤ length T → r.0 ≡ leftmost T at len → Some r ≡ leftmost_answer T at len
unfolding leftmost_answer
answers_at T at len r l e = ap (λ (k : ℕ). Some (record { 0 = k })) e ∙ rw (le-leb (at + len) (length T) l)

-- The test of an answer.
abbrev is_earlier : Option TextPlace → ℕ → Bool
is_earlier (Some p) at = ltb p.0 at
is_earlier None at = false

earlier-cond : (b : Bool) (r at : ℕ) → is_earlier (cond b (Some (record { 0 = r })) None) at ≡ (b && ltb r at)
earlier-cond true r at = refl
earlier-cond false r at = refl

earlier_is : (T : List ℕ) (at len : ℕ) (x : Option TextPlace) → x ≡ leftmost_answer T at len → is_earlier x at ≡ occurs_earlier_answer T at len
unfolding leftmost_answer occurs_earlier_answer
earlier_is T at len x e =
    ap (λ (y : Option TextPlace). is_earlier y at) e ∙ earlier-cond (leb (at + len) (length T)) (leftmost T at len) at

-- An answer by what was found.
pub earlier_by : (T : List ℕ) (at len : ℕ) (x : Option TextPlace) (r : Bool) → x ≡ leftmost_answer T at len → (x ≡ None → r ≡ false)
    → ((p : TextPlace) → x ≡ Some p → r ≡ ltb p.0 at) → r ≡ occurs_earlier_answer T at len
earlier_by T at len None r e none some = none refl ∙ earlier_is T at len None e
earlier_by T at len (Some p) r e none some = some p refl ∙ earlier_is T at len (Some p) e
