-- The scan of the code, case by case.
use mathlib.Core.List.{List}
use mathlib.Core.Bool.{true, false}
use mathlib.Core.Logic.{◌⊎◌, inl, inr}
use mathlib.Core.Path.{◌≡◌, refl, ◌∙◌}
use Prim.Native.Nat.{ℕ, zero, suc, ◌+◌, ◌-◌, ◌≤◌, ◌<◌}
use native.Mathlib.Omega.{arith}
use lib.ListN.{length, get_or, drop}
use Rattle.text.specs.ListLaws.{bool_clash, lt-or-ge}
use Rattle.search_byte.specs.FirstByte.{Without}
use Rattle.row_filter.specs.RowAutomaton.{scan_bytes}
use Rattle.row_filter.specs.RowAutomatonLaws.{byte_step, scan-on}
use Rattle.prefix_match.specs.declared.prefix_state.PrefixState.{PrefixState}
use Rattle.prefix_match.specs.declared.prefix_state.PrefixState.TheVariants.{Matched, Longer, Mismatch}
use Rattle.prefix_match.specs.PrefixStates.{is_open, prefix_step, prefix_automaton}
use Rattle.prefix_match.specs.PrefixScanned.{Passed}

-- A state that no byte but 10 changes.
stays : (prefix : List ℕ) (s : PrefixState) → is_open s ≡ false → (x : ℕ) → s ≡ prefix_step prefix s x
unfolding is_open prefix_step
stays prefix (Matched k) e x = bool_clash true refl e
stays prefix Longer e x = refl
stays prefix Mismatch e x = refl

module _ (prefix part : List ℕ) (i : ℕ) (s : PrefixState) (q : ℕ) where
  -- k bytes that are not 10
  passed_on : (k : ℕ) → i + k ≤ length part → is_open s ≡ false → Without part i k 10
      → scan_bytes (prefix_automaton prefix) (drop (i + k) part) s q ≡ scan_bytes (prefix_automaton prefix) (drop i part) s q
  passed_on zero fits e w = let z : i + 0 ≡ i = omega arith in rw z
  passed_on (suc k) fits e w =
      let z : i + suc k ≡ i + k + 1 = omega arith in
      let m = prefix_automaton prefix in
      let step = byte_step m s q (get_or part (i + k) 0) (w.other k (omega arith)) s (stays prefix s e (get_or part (i + k) 0)) in
      rw z (scan-on m part (i + k) (omega arith) s q s q step ∙ passed_on k (omega arith) e (record { other = λ x h. w.other x (omega arith) }))

  pub scan-passed : (r : ℕ) → i ≤ r → r ≤ length part → Passed part i s r
      → scan_bytes (prefix_automaton prefix) (drop r part) s q ≡ scan_bytes (prefix_automaton prefix) (drop i part) s q
  scan-passed r low high p = go (lt-or-ge i r)
    where
      go : (i < r) ⊎ (r ≤ i) → scan_bytes (prefix_automaton prefix) (drop r part) s q ≡ scan_bytes (prefix_automaton prefix) (drop i part) s q
      go (inl h) =
          let z : r ≡ i + (r - i) = omega arith in
          rw z (passed_on (r - i) (omega arith) (p.idle h) p.others)
      go (inr h) = let z : r ≡ i = omega arith in rw z

-- No byte is passed over, and those before the next byte 10.
pub passed_none : (part : List ℕ) (from : ℕ) (s : PrefixState) → Passed part from s from
passed_none part from s = record {
  idle = λ h. absurd (let y : ⊥ = omega arith in y);
  others = record { other = λ x h. absurd (let y : ⊥ = omega arith in y) };
}

pub passed-before : (part : List ℕ) (from : ℕ) (s : PrefixState) (k : ℕ) → is_open s ≡ false → Without part from k 10 → Passed part from s (from + k)
passed-before part from s k e w = record { idle = λ h. e; others = record { other = λ x h. w.other x (omega arith) } }
