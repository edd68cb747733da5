-- Bytes that are passed over, and bytes that go on with a state: no place ends in them.
use mathlib.Core.List.{List}
use mathlib.Core.Bool.{false, ◌&&◌}
use mathlib.Core.Path.{◌≡◌, refl, sym, ap, ◌∙◌}
use mathlib.Core.Logic.{◌⊎◌, inl, inr}
use Prim.Native.Nat.{ℕ, zero, suc, ◌+◌, ◌-◌, ◌≤◌, ◌<◌}
use native.Mathlib.Omega.{arith}
use borrow.Author.Tests.{lt-ltb, eq-eqb, ne_eqb}
use lib.ListN.{length, get_or}
use lib.Dec.{ltb, eqb}
use Rattle.text.specs.ListLaws.{and_both, and-false, lt-or-ge}
use Rattle.query_access.specs.ReadByRuns.{ReadsOn}
use Rattle.query_access.proofs.RunLaws.{reads-rest}
use Rattle.search_byte.specs.FirstByte.{Without}
use Rattle.search_kmp.specs.Borders.{Next, GoesOn}
use Rattle.search_kmp.proofs.BorderLaws.{back_start, next_more, first-none}
use Rattle.query_places.specs.declared.pattern_seek.Progress.{Progress}
use Rattle.query_places.specs.TableFilled.{Even, Skips, Seeking, ReadsMatching}
use Rattle.query_places.proofs.PatternStepLaws.{stepped-on}
use Rattle.query_places.proofs.PatternSeekLaws.{seeking-even, seeking-byte}

abbrev progress : ℕ → ℕ → ℕ → Progress
progress p s f = record { place = record { 0 = p }; state = s; found = f }

-- A byte that does not begin the pattern, in state 0.
next-other : (P : List ℕ) (c : ℕ) → (c ≡ get_or P 0 0 → ⊥) → Next P 0 c 0
next-other P c differs =
    let miss : (ltb 0 (length P) && eqb (get_or P 0 0) c) ≡ false =
    ap (λ b. ltb 0 (length P) && b) (ne_eqb (get_or P 0 0) c (λ e. differs (sym e))) ∙ and-false (ltb 0 (length P)) in
    first-none P 0 c 0 (back_start P 0 c) (omega arith) miss

-- A byte that goes on with a state.
next-same : (P : List ℕ) (s c : ℕ) → s < length P → c ≡ get_or P s 0 → Next P s c (s + 1)
next-same P s c low e = (next_more P s c s (back_start P s c) (and_both (lt-ltb s (length P) low) (eq-eqb (get_or P s 0) c (sym e)))).1

module _ (t P : List ℕ) (room : ℕ) (before table : List ℕ) (some_byte : 1 ≤ length P) (p from size : ℕ) (reads : ReadsOn t p from size) where
  -- One byte more.
  reads-one : (j s f r : ℕ) → j < size → Seeking t P room before (progress (p + j) s f) table → r ≤ s + 1 → r < length P
      → Next P s (get_or t (from + j) 0) r → Seeking t P room before (progress (p + (j + 1)) r f) table
  reads-one j s f r low k high short next =
      let m = progress (p + j) s f in
      let e : p + (j + 1) ≡ p + j + 1 = omega arith in
      let other : r ≡ length P → ⊥ = λ z. omega arith in
      let stepped = stepped-on P (get_or t (from + j) 0) room m table (seeking-even t P room before m table k some_byte) r (omega arith) high next other in
      rw e (seeking-byte t P room before m table k (progress p s f) from size j (get_or t (from + j) 0) (progress (p + j + 1) r f) table
      reads low refl refl stepped)

  skip-on : (k f : ℕ) → k ≤ size → Without t from k (get_or P 0 0) → Seeking t P room before (progress p 0 f) table
      → Seeking t P room before (progress (p + k) 0 f) table
  skip-on zero f high w k = let e : p + 0 ≡ p = omega arith in rw e k
  skip-on (suc j) f high w k =
      let e : suc j ≡ j + 1 = omega arith in
      rw e (reads-one j 0 f 0 (omega arith) (skip-on j f (omega arith) (record { other = λ x h. w.other x (omega arith) }) k) (omega arith)
      (omega arith) (next-other P (get_or t (from + j) 0) (w.other j (omega arith))))

  match-on : (k s f : ℕ) → k ≤ size → GoesOn P t from s k → Seeking t P room before (progress p s f) table
      → Seeking t P room before (progress (p + k) (s + k) f) table
  match-on zero s f high g k =
      let e : p + 0 ≡ p = omega arith in
      let z : s + 0 ≡ s = omega arith in
      rw (e, z) k
  match-on (suc j) s f high g k =
      let e : suc j ≡ j + 1 = omega arith in
      let z : s + suc j ≡ s + j + 1 = omega arith in
      rw (z, e) (reads-one j (s + j) f (s + j + 1) (omega arith)
      (match-on j s f (omega arith) (record { same = λ x h. g.same x (omega arith); short = λ x h. g.short x (omega arith) }) k)
      (omega arith) (g.short j (omega arith)) (next-same P (s + j) (get_or t (from + j) 0) (omega (arith, g.short j (omega arith))) (g.same j (omega arith))))

module _ (t P : List ℕ) (some_byte : 1 ≤ length P) (m : Progress) (from n k d : ℕ) (reads : ReadsOn t m.place.0 from n)
    (fits : k ≤ n) (rest : d ≤ n - k) (skips : Skips P t from m.state k) (goes : GoesOn P t (from + k) m.state d) where
  skipped : (room : ℕ) (before table : List ℕ) → Seeking t P room before m table
      → Seeking t P room before (progress (m.place.0 + k) m.state m.found) table
  skipped room before table s = go (lt-or-ge 0 m.state)
    where
      go : (0 < m.state) ⊎ (m.state ≤ 0) → Seeking t P room before (progress (m.place.0 + k) m.state m.found) table
      go (inl h) = let e : m.place.0 + k ≡ m.place.0 = omega (arith, skips.idle h) in rw e s
      go (inr h) =
          let z : m.state ≡ 0 = omega arith in
          let s₀ : Seeking t P room before (progress m.place.0 0 m.found) table = rw z at s in
          rw z (skip-on t P room before table some_byte m.place.0 from n reads k m.found fits skips.others s₀)

  no_place : (d ≡ 0) ⊎ (0 < d) → m.state ≤ length P → m.state + d ≤ length P
  no_place (inl e) h = omega arith
  no_place (inr e) h = omega (arith, goes.short (d - 1) (omega arith))

  pub reads-matching : Even P m → ReadsMatching t P n m (progress (m.place.0 + (k + d)) (m.state + d) m.found)
  reads-matching e = record {
    least = omega arith;
    most = omega arith;
    even = record { short = no_place (zero_or d) e.short; state_low = omega (arith, e.state_low); found_low = omega (arith, e.found_low) };
    on = λ room before table s.
        let z : m.place.0 + (k + d) ≡ m.place.0 + k + d = omega arith in
        rw z (match-on t P room before table some_byte (m.place.0 + k) (from + k) (n - k) (reads-rest t m.place.0 from n k reads fits)
        d m.state m.found rest goes (skipped room before table s));
  }
    where
      zero_or : (x : ℕ) → (x ≡ 0) ⊎ (0 < x)
      zero_or zero = inl refl
      zero_or (suc x) = inr (omega arith)
