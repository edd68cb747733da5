-- Request 111, for answers: how far the correction of one byte changes what count and find return, for any two accepted trees that the two texts fit, whoever
-- built them.
use Rattle.std.specs.Prelude.{Ok, Err}
use Rattle.refusals.specs.declared.Refusal.TheVariants.{NoSuchOccurrence}
use mathlib.Core.List.{List}
use mathlib.Core.Bool.{true}
use mathlib.Core.Path.{◌≡◌, sym, ap, ◌∙◌}
use mathlib.Core.Logic.{◌⊎◌, inl, inr, ◌↔◌}
use Prim.Native.Nat.{ℕ, zero, suc, ◌+◌, ◌≤◌, ◌<◌}
use native.Mathlib.Omega.{arith}
use contract.Lifetimes.{Lfts}
use lib.ListN.{length, take}
use Rattle.text.specs.Text.{count_in, place_of}
use Rattle.text.specs.ListLaws.{lt-or-ge}
use Rattle.text.specs.declared.TextPlace.{TextPlace}
use Rattle.format.specs.Layout as at
use Rattle.format.specs.FittingText.{fits}
use Rattle.theorems.specs.CallContracts.{CountAnswer, FindAnswer, Refusal}
use Rattle.theorems.specs.Promises.{CountedIn}
use Rattle.theorems.proofs.CheckCall.{Check, check-answers, check-refuses}
use Rattle.theorems.proofs.CountCall.{Count}
use Rattle.theorems.proofs.FindCall.{Find}
use Rattle.theorems.proofs.OneByte.{OneByte, one_byte_back, count-before, count-near, place_same}
use Rattle.theorems.proofs.PublicCall.{Borrowed}

-- An accepted tree, of any origin, settings and layout, that represents the text and counts the byte.
pub record CountingTree (T : List ℕ) (byte : ℕ) (t : Borrowed) : Type 0 where
  pub lifetime : Lfts 1
  pub accepted : Check lifetime t (Ok tt)
  pub fitting : fits T t.now ≡ true
  pub counting : CountedIn byte (at.settings t.now).counted

-- Two results of count, where the texts differ at place d: neither is refused.
pub record CountsNear (d i : ℕ) (r s : CountAnswer) : Type 0 where
  pub one : ℕ
  pub other : ℕ
  pub one_entered : ℕ
  pub other_entered : ℕ
  pub one_is : r ≡ Ok (one, one_entered)
  pub other_is : s ≡ Ok (other, other_entered)
  -- The counts are at most 1 apart.
  pub above : one ≤ other + 1
  pub below : other ≤ one + 1
  -- The counts are equal if place d is not among the first i.
  pub same : i ≤ d → one ≡ other

-- An answer of find: this place, with any figure.
abbrev pub FoundAt : FindAnswer → TextPlace → Type 0
FoundAt r p = (e : ℕ) × (r ≡ Ok (p, e))

module _ (T : List ℕ) (byte : ℕ) (t : Borrowed) (k : CountingTree T byte t) where
  -- What count answers for any number of bytes of the text.
  count-of : (κs : Lfts 1) (i : ℕ) (r : CountAnswer) → Count κs t byte i r → i ≤ length T → (e : ℕ) × (r ≡ Ok (count_in byte (take i T), e))
  unfolding count_in
  count-of κs zero r c h = (0, (check-answers k.lifetime t k.accepted T k.fitting).count.count_none κs byte r c k.counting)
  count-of κs (suc i) r c h =
      let w = (check-answers k.lifetime t k.accepted T k.fitting).count.count-of κs byte (suc i) r c k.counting (omega arith) h in
      (w.0, w.2)

  -- The answer of find if there is a j-th occurrence.
  find_of : (κs : Lfts 1) (j : ℕ) (r : FindAnswer) → Find κs t byte j r → 1 ≤ j → j ≤ count_in byte T → FoundAt r (record { 0 = place_of byte j T })
  find_of κs j r c low high =
      let w = (check-answers k.lifetime t k.accepted T k.fitting).find.find_of κs byte j r c k.counting low high in
      (w.0, w.2)

  -- Find returns a place only if there is a j-th occurrence.
  find-low : (κs : Lfts 1) (j : ℕ) (r : FindAnswer) → Find κs t byte j r → (p : TextPlace) → FoundAt r p → (1 ≤ j) × (j ≤ count_in byte T)
  find-low κs j r c p is = go (lt-or-ge 0 j) (lt-or-ge (count_in byte T) j)
    where
      clash : (e : ℕ) (q : Refusal) → r ≡ Ok (p, e) → r ≡ Err q → (1 ≤ j) × (j ≤ count_in byte T)
      clash e q y z = absurd (let x : ◌≡◌ {A = ℕ} 0 1 = cc in omega arith)

      none : (1 ≤ j → j ≤ count_in byte T → ⊥) → (1 ≤ j) × (j ≤ count_in byte T)
      none h = clash is.0 NoSuchOccurrence is.1 ((check-refuses k.lifetime t k.accepted T k.fitting).find.find_none κs byte j r c k.counting h)

      go : (0 < j) ⊎ (j ≤ 0) → (count_in byte T < j) ⊎ (j ≤ count_in byte T) → (1 ≤ j) × (j ≤ count_in byte T)
      go (inl low) (inr high) = (low, high)
      go (inl low) (inl past) = none (λ x y. omega arith)
      go (inr least) h = none (λ x y. omega arith)

-- The place that the first tree answers, before the difference, is the second tree's too.
place_kept :
    (T U : List ℕ) (d : ℕ) → OneByte T U d → (byte : ℕ) (t u : Borrowed) → CountingTree T byte t → CountingTree U byte u
    → (κs κ : Lfts 1) (j : ℕ) (r s : FindAnswer) → Find κs t byte j r → Find κ u byte j s → (p : TextPlace) → p.0 < d → FoundAt r p → FoundAt s p
place_kept T U d k byte t u kt ku κs κ j r s a b p before is =
    let z = find-low T byte t kt κs j r a p is in
    let x = find_of T byte t kt κs j r a z.0 z.1 in
    let p-is : p ≡ record { 0 = place_of byte j T } = placed p (record { 0 = place_of byte j T }) is.0 x.0 (sym is.1 ∙ x.1) in
    let w = place_same T U d k byte j z.0 z.1 (rw (ap (λ (q : TextPlace). q.0) p-is) at before) in
    let y = find_of U byte u ku κ j s b z.0 w.0 in
    (y.0, same p (place_of byte j T) (place_of byte j U) y.0 s p-is w.1 y.1)
  where
    placed : (p q : TextPlace) (e f : ℕ) → ◌≡◌ {A = FindAnswer} (Ok (p, e)) (Ok (q, f)) → p ≡ q
    placed p q e f z = ap at_place z
      where
        at_place : FindAnswer → TextPlace
        at_place (Ok x) = x.0
        at_place (Err d) = p

    same : (p : TextPlace) (x y f : ℕ) (s : FindAnswer) → p ≡ record { 0 = x } → y ≡ x → s ≡ Ok (record { 0 = y }, f) → s ≡ Ok (p, f)
    same p x y f s p-is y-is s-is = rw (p-is, ← y-is) s-is

-- Request 111: T and U differ at place d only; t and u are accepted trees of these texts, and both count the byte.
module _ (T U : List ℕ) (d : ℕ) (k : OneByte T U d) (byte : ℕ) (t u : Borrowed) (kt : CountingTree T byte t) (ku : CountingTree U byte u) where
  -- The counts in the first i bytes are at most 1 apart, and equal for i up to d.
  pub counts-near : (κs κ : Lfts 1) (i : ℕ) (r s : CountAnswer) → Count κs t byte i r → Count κ u byte i s → i ≤ length T → CountsNear d i r s
  counts-near κs κ i r s a b h =
      let x = count-of T byte t kt κs i r a h in
      let y = count-of U byte u ku κ i s b (omega (arith, k.same_length)) in
      let near = count-near T U d k byte i h in record {
        one = count_in byte (take i T);
        other = count_in byte (take i U);
        one_entered = x.0;
        other_entered = y.0;
        one_is = x.1;
        other_is = y.1;
        above = near.0;
        below = near.1;
        same = count-before T U d k byte i;
      }

  -- If find returns a place before d for one of the trees, it returns the same for the other.
  pub place-before : (κs κ : Lfts 1) (j : ℕ) (r s : FindAnswer) → Find κs t byte j r → Find κ u byte j s
      → (p : TextPlace) → p.0 < d → FoundAt r p ↔ FoundAt s p
  place-before κs κ j r s a b p before = (
    place_kept T U d k byte t u kt ku κs κ j r s a b p before,
    place_kept U T d (one_byte_back T U d k) byte u t ku kt κ κs j s r b a p before,
  )
