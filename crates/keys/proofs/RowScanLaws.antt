-- A part of the text scanned byte by byte, or row by row.
use mathlib.Core.List.{List, ◌∷◌}
use mathlib.Core.Bool.{Bool, true, false}
use mathlib.Core.Path.{◌≡◌, refl, ap, ◌∙◌}
use Prim.Native.Nat.{ℕ, zero, suc, ◌+◌, ◌-◌, ◌/◌, ◌≤◌, ◌<◌}
use native.Mathlib.Omega.{arith}
use native.Mathlib.Numerals.{add-one}
use lib.ListN.{length, get_or, drop}
use lib.Seq.{drop-cons}
use Rattle.text.specs.ListLaws.{bool_clash}
use Rattle.text.specs.Text.{substring}
use Rattle.text.specs.TextLaws.{length-substring, get_or-substring}
use Rattle.text.proofs.RowTheorems.{trimmed-none, trimmed-mark, trimmed-plain}
use Rattle.search_byte.specs.FirstByte.{Without}
use Rattle.row_filter.specs.RowAutomaton.{Automaton, run_from, scan_bytes}
use Rattle.row_filter.specs.declared.ScanStep.TheVariants as step
use Rattle.row_filter.specs.RowScans.{IsStep}
use Rattle.row_filter.specs.RowAutomatonLaws.{byte_step, byte_next, scan-on}
use Rattle.keys.specs.declared.key_state.KeyState.{KeyState}
use Rattle.keys.specs.declared.key_state.KeyState.TheVariants.{Code}
use Rattle.keys.specs.Keys.{cut_count}
use Rattle.keys.specs.KeyStates.{cut_fits, is_whole, is_none, key_automaton}
use Rattle.keys.specs.RowScanned.{BytesEnd, Misfit, CutsFit, MayMatch, RowPassed}
use Rattle.keys.proofs.FormLaws.{none_read}
use Rattle.keys.proofs.RowKeyStates.{done-whole, too_short, not-fitting}

-- The end of a row's bytes.
module _ (part : List ℕ) (from end : ℕ) (within : end ≤ length part) where
  pub end_empty : end ≡ from → BytesEnd part from end end
  end_empty e =
      let z : end - from ≡ 0 = omega arith in
      record { low = omega arith; high = omega arith; bytes = rw z (trimmed-none part from) }

  module _ (some : from < end) where
    last_is : from + (end - from - 1) ≡ end - 1
    last_is = omega arith

    pub end-cr : get_or part (end - 1) 0 ≡ 13 → BytesEnd part from end (end - 1)
    end-cr e =
        let z : end - 1 - from ≡ end - from - 1 = omega arith in
        record { low = omega arith; high = omega arith; bytes = rw z (trimmed-mark part from (end - from) (omega arith) (omega arith) (rw last_is e)) }

    pub end-plain : (get_or part (end - 1) 0 ≡ 13 → ⊥) → BytesEnd part from end end
    end-plain n = record {
      low = omega arith;
      high = omega arith;
      bytes = trimmed-plain part from (end - from) (omega arith) (omega arith) (λ e. n (rw last_is at e));
    }

-- Rows that cannot match.
module _ (ranges part : List ℕ) (from end last : ℕ) (within : end ≤ length part) (z : BytesEnd part from end last) where
  size : length (substring part from (last - from)) ≡ last - from
  size = length-substring part from (last - from) (omega (arith, z.low, z.high))

  fails_by : is_whole ranges (run_from (key_automaton ranges) (Code 0) (substring part from (last - from))) ≡ false → (r : Bool) → MayMatch ranges part from end r
  fails_by f r = record {
    fails = λ e. done-whole ranges (substring part from (end - from))
        ∙ ap (λ (xs : List ℕ). is_whole ranges (run_from (key_automaton ranges) (Code 0) xs)) z.bytes ∙ f;
  }

  pub may-not-short : last - from < length ranges / 2 + 2 → MayMatch ranges part from end false
  unfolding cut_count
  may-not-short h = fails_by (too_short ranges (substring part from (last - from)) (omega (arith, size))) false

  pub may-by-cuts : length ranges / 2 + 2 ≤ last - from → (r : Bool) → CutsFit ranges part (last - length ranges / 2) r → MayMatch ranges part from end r
  unfolding cut_count
  may-by-cuts long true f = record { fails = λ e. bool_clash true refl e }
  may-by-cuts long false f = out (f.misfit refl)
    where
      out : Misfit ranges part (last - length ranges / 2) → MayMatch ranges part from end false
      out m =
          let j = m.cut in
          let below : j < length ranges / 2 = m.below in
          let place : from + (last - from - length ranges / 2 + j) ≡ last - length ranges / 2 + j = omega (arith, z.low) in
          let byte : get_or (substring part from (last - from)) (last - from - length ranges / 2 + j) 0 ≡ get_or part (last - length ranges / 2 + j) 0 =
          get_or-substring part from (last - from) (last - from - length ranges / 2 + j) (omega arith) ∙ ap (λ (x : ℕ). get_or part x 0) place in
          fails_by (not-fitting ranges (substring part from (last - from)) j below (rw (size, byte) m.out)) false

module _ (ranges part : List ℕ) (at : ℕ) where
  pub cut_out : (k : ℕ) → k < length ranges / 2 → cut_fits ranges k (get_or part (at + k) 0) ≡ false → CutsFit ranges part at false
  unfolding cut_count
  cut_out k below out = record { misfit = λ e. record { cut = k; below = below; out = out } }

  pub cuts-in : CutsFit ranges part at true
  cuts-in = record { misfit = λ e. bool_clash true refl e }

-- A row passed over.
module _ {S : Type 0} (m : Automaton S) (part : List ℕ) where
  read-on : (k i : ℕ) (s : S) (q : ℕ) → i + k ≤ length part → Without part i k 10
      → scan_bytes m (drop (i + k) part) (run_from m s (substring part i k)) q ≡ scan_bytes m (drop i part) s q
  unfolding run_from substring
  read-on zero i s q fits w = let z : i + 0 ≡ i = omega arith in rw z
  read-on (suc k) i s q fits w =
      let z : i + suc k ≡ i + 1 + k = omega arith in
      let first : i + 0 ≡ i = omega arith in
      let step = byte_step m s q (get_or part i 0) (rw first at (w.other 0 (omega arith))) (m.step s (get_or part i 0)) refl in
      let later : (x : ℕ) → i + suc x ≡ i + 1 + x = λ x. omega arith in
      let rest : Without part (i + 1) k 10 = record { other = λ x h. rw (later x) at (w.other (suc x) (omega arith)) } in
      let row : substring part i (suc k) ≡ get_or part i 0 ∷ substring part (i + 1) k = rw (drop-cons part i 0 (omega arith), add-one i) in
      rw (z, row) (read-on k (i + 1) (m.step s (get_or part i 0)) q (omega arith) rest
      ∙ scan-on m part i (omega arith) s q (m.step s (get_or part i 0)) q step)

  row-passed : (k i q : ℕ) → i + k < length part → Without part i k 10 → get_or part (i + k) 0 ≡ 10
      → m.at_newline (run_from m m.start (substring part i k)) ≡ false
      → scan_bytes m (drop (i + k + 1) part) m.start (q + 1) ≡ scan_bytes m (drop i part) m.start q
  row-passed k i q fits w newline fails =
      let s = run_from m m.start (substring part i k) in
      scan-on m part (i + k) fits s q m.start (q + 1) (byte_next m s q (get_or part (i + k) 0) newline fails)
      ∙ read-on k i m.start q (omega arith) w

module _ (ranges part : List ℕ) (from : ℕ) where
  pub none_passed : from ≤ length part → RowPassed ranges part from from
  none_passed h = record { low = omega arith; high = h; scans = λ l. absurd (let y : ⊥ = omega arith in y) }

  pub one-passed : (k : ℕ) → from + k < length part → Without part from k 10 → get_or part (from + k) 0 ≡ 10
      → (b : Bool) → MayMatch ranges part from (from + k) b → b ≡ false → RowPassed ranges part from (from + k + 1)
  one-passed k fits w newline b may failed = record {
    low = omega arith;
    high = omega arith;
    scans = λ l q. (let z : from + k - from ≡ k = omega arith in
        row-passed (key_automaton ranges) part k from q fits w newline (rw z at (may.fails failed)));
  }

-- From a place on.
pub step-past : (ranges part : List ℕ) (form : KeyState) (row i past : ℕ) → is_none form ≡ true → RowPassed ranges part i past → i < past
    → IsStep (key_automaton ranges) part form row i (step.On (Code 0) (row + 1) past)
step-past ranges part form row i past none p l = (l, p.high, omega arith, omega arith, rw (none_read form none) (p.scans l row))
