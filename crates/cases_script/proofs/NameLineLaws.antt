-- Laws of the lines that give names, for the proofs of `naming`.
use mathlib.Core.List.{List, []}
use mathlib.Core.Bool.{Bool, true, false, cond}
use mathlib.Core.Path.{◌≡◌, refl, sym, ap, ◌∙◌}
use Prim.Native.Nat.{ℕ, zero, suc, ◌+◌, ◌-◌, ◌≤◌, ◌<◌}
use native.Mathlib.Omega.{arith}
use lib.ListN.{length, drop, drop_of_length-le}
use Rattle.cases_tokens.specs.Parts.{place_of_stop, front, rest, token_of, Past}
use Rattle.cases_script.specs.NameLine.{gives_bytes, gives_name, giving_from, giving_line}
use Rattle.cases_script.proofs.LineWordsLaws.{word-matches}

module _ (line l name w : List ℕ) (b : Bool) (e : l ≡ line) (t : w ≡ token_of l 1) (h : (b ≡ true → w ≡ name) × (w ≡ name → b ≡ true)) where
  is-token : w ≡ token_of line 1
  is-token = t ∙ ap (λ (x : List ℕ). token_of x 1) e

  pub gives_other : b ≡ false → false ≡ gives_name line name
  unfolding gives_name
  gives_other z = simp (word-matches is-token h z)

  pub gives_same : (r : Bool) → b ≡ true → r ≡ gives_bytes l → r ≡ gives_name line name
  unfolding gives_name
  gives_same r z q = simp (word-matches is-token h z) (rw e at q)

-- The lines from `at` on, read in this many steps, have the same answer as all lines.
pub record Left (s name : List ℕ) (at : ℕ) : Type 0 where
  pub inside : at ≤ length s
  pub steps : ℕ
  pub steps_suffice : length s ≤ at + steps
  pub same : giving_from steps (drop at s) name ≡ giving_line s name

pub left-all : (s name : List ℕ) → Left s name 0
unfolding giving_line
left-all s name = record { inside = omega arith; steps = length s; steps_suffice = omega arith; same = refl }

module _ (s name : List ℕ) (at : ℕ) (l : Left s name at) (more : at < length s) (g : Bool) (q : g ≡ gives_name (front 10 (drop at s)) name) where
  open-giving : (n : ℕ) → l.steps ≡ suc n → cond g (front 10 (drop at s)) (giving_from n (rest 10 (drop at s)) name) ≡ giving_line s name
  unfolding giving_from
  open-giving n e = rw q (rw e at l.same)

  pred : l.steps ≡ suc (l.steps - 1)
  pred = omega (arith, l.steps_suffice)

  pub left-found : (line : List ℕ) → g ≡ true → line ≡ front 10 (drop at s) → line ≡ giving_line s name
  left-found line z e = e ∙ rw z at (open-giving (l.steps - 1) pred)

  pub left-next : (r : ℕ) → g ≡ false → Past s at 10 r → Left s name r
  left-next r z p =
      record {
        inside = p.inside;
        steps = l.steps - 1;
        steps_suffice = omega (arith, l.steps_suffice, p.later more, pred);
        same = ap (λ (x : List ℕ). giving_from (l.steps - 1) x name) p.begins ∙ rw z at (open-giving (l.steps - 1) pred);
      }

either : (b : Bool) (x : List ℕ) → x ≡ [] → cond b [] x ≡ []
either true x e = refl
either false x e = e

giving-nothing : (n : ℕ) (name : List ℕ) → giving_from n [] name ≡ []
unfolding giving_from front rest place_of_stop
giving-nothing zero name = refl
giving-nothing (suc n) name = either (gives_name [] name) (giving_from n [] name) (giving-nothing n name)

pub left-none : (s name : List ℕ) (at : ℕ) → Left s name at → length s ≤ at → [] ≡ giving_line s name
left-none s name at l h = sym (giving-nothing l.steps name) ∙ ap (λ (x : List ℕ). giving_from l.steps x name) (sym (drop_of_length-le s h)) ∙ l.same
