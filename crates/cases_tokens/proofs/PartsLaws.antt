-- Laws of bytes cut at a byte, for the proofs of `parts`.
use mathlib.Core.List.{List}
use mathlib.Core.Bool.{Bool, true, false}
use Rattle.std.specs.Prelude.{Option, Some, None, cond, ltb, not, position}
use Rattle.std.specs.List.{position_or_len}
use Rattle.std.proofs.lemmas.List.Sums.{prefix_len-le-length}
use mathlib.Core.Path.{◌≡◌, refl, sym, ap, ◌∙◌}
use Prim.Native.Nat.{ℕ, ◌+◌, ◌-◌, ◌≤◌, ◌<◌}
use native.Mathlib.Numerals.{add-one}
use native.Mathlib.Omega.{arith}
use lib.ListN.{length, take, drop, length-drop, drop_of_length-le}
use lib.Seq.{drop-drop}
use Rattle.std.proofs.Common.{take_all}
use lib.Dec.{eqb}
use borrow.Author.Tests.{ltb-false, eqb-true, eqb-false, eq-eqb, ne_eqb}
use Rattle.cases_tokens.specs.Parts.{place_of_stop, front, rest, after, token_of, Past, Start}

-- the first place in a list where a test holds, or none
place-some : (n k l : ℕ) (t : Bool) → ltb n l ≡ t → Some k ≡ cond t (Some n) None → k ≡ n
place-some n k l true e h = cc
place-some n k l false e h = absurd (let z : ⊥ = cc in z)

place-none : (n l : ℕ) (t : Bool) → ltb n l ≡ t → None ≡ cond t (Some n) None → l ≤ n
place-none n l true e h = absurd (let z : ⊥ = cc in z)
place-none n l false e h = ltb-false n l e

-- where `stop` is found in the bytes from `at` on
module _ (s : List ℕ) (at stop : ℕ) where
  whole : take (length s - at) (drop at s) ≡ drop at s
  whole = take_all (length s - at) (drop at s) (simp length-drop (omega arith))

  first-is : (r : Option ℕ) → r ≡ position (λ b. eqb b stop) (take (length s - at) (drop at s)) → r ≡ position (λ b. eqb b stop) (drop at s)
  first-is r h = h ∙ ap (λ (l : List ℕ). position (λ b. eqb b stop) l) whole

  pub found-some : (r : Option ℕ) (k : ℕ) → r ≡ position (λ b. eqb b stop) (take (length s - at) (drop at s)) → r ≡ Some k
      → at + k ≡ at + place_of_stop stop (drop at s)
  unfolding place_of_stop
  found-some r k h e =
      ap (λ (n : ℕ). at + n)
      (place-some _ k _ (ltb (position_or_len (λ b. eqb b stop) (drop at s)) (length (drop at s))) refl (sym e ∙ first-is r h))

  pub found-none : (r : Option ℕ) → at ≤ length s → r ≡ position (λ b. eqb b stop) (take (length s - at) (drop at s)) → r ≡ None
      → length s ≡ at + place_of_stop stop (drop at s)
  unfolding place_of_stop
  found-none r g h e =
      let l : length (drop at s) ≤ position_or_len (λ b. eqb b stop) (drop at s) =
      place-none _ _ (ltb (position_or_len (λ b. eqb b stop) (drop at s)) (length (drop at s))) refl (sym e ∙ first-is r h)
      in
      omega (arith, l, length-drop at s, prefix_len-le-length (λ b. not (eqb b stop)) (drop at s))

-- e is where `stop` was found from `at` on
module _ (s : List ℕ) (at stop e : ℕ) (place : e ≡ at + place_of_stop stop (drop at s)) where
  pub until-is : take (e - at) (drop at s) ≡ front stop (drop at s)
  unfolding front
  until-is =
      let d : e - at ≡ place_of_stop stop (drop at s) = omega (arith, place) in
      rw d

  pub past-some : e < length s → Past s at stop (e + 1)
  unfolding rest
  past-some h =
      let d : e + 1 ≡ at + (place_of_stop stop (drop at s) + 1) = omega (arith, place) in
      record { inside = omega arith; later = λ _. omega (arith, place); begins = rw d (sym (drop-drop (place_of_stop stop (drop at s) + 1) at s)) }

  pub past-none : e ≤ length s → length s ≤ e → Past s at stop e
  unfolding rest
  past-none h g =
      record {
        inside = h;
        later = λ z. omega arith;
        begins = drop_of_length-le s g ∙ sym (drop_of_length-le (drop at s) {i = place_of_stop stop (drop at s) + 1} (simp length-drop (omega (arith, place))));
      }

pub start-next : (line : List ℕ) (k a b : ℕ) → Start line k a → Past line a 32 b → Start line (k + 1) b
unfolding after
start-next line k a b h p = record { inside = p.inside; begins = p.begins ∙ ap (λ (l : List ℕ). rest 32 l) h.begins ∙ rw add-one }

pub token-is : (line word : List ℕ) (k r : ℕ) → Start line k r → word ≡ front 32 (drop r line) → word ≡ token_of line k
unfolding token_of
token-is line word k r h e = rw h.begins at e

pub start_none : (line : List ℕ) → Start line 0 0
unfolding after
start_none line = record { inside = omega arith; begins = refl }

pub ends_is : (line : List ℕ) (k r : ℕ) → Start line k r → eqb r (length line) ≡ eqb (length (after line k)) 0
ends_is line k r h = go (eqb r (length line)) refl
  where
    left : length (after line k) ≡ length line - r
    left = ap (λ (l : List ℕ). length l) (sym h.begins) ∙ length-drop r line

    go : (x : Bool) → eqb r (length line) ≡ x → x ≡ eqb (length (after line k)) 0
    go true e = sym (eq-eqb (length (after line k)) 0 (omega (arith, left, eqb-true r (length line) e)))
    go false e = sym (ne_eqb (length (after line k)) 0 (λ z. eqb-false r (length line) e (omega (arith, left, z, h.inside))))
