-- The state after the bytes of a row decides whether the row matches.
use mathlib.Core.List.{List, [], ◌∷◌}
use mathlib.Core.Bool.{Bool, true, false, cond, ◌&&◌}
use mathlib.Core.Path.{◌≡◌, refl, sym, ◌∙◌}
use mathlib.Core.Logic.{◌⊎◌, inl, inr}
use Prim.Native.Nat.{ℕ, zero, suc, ◌+◌, ◌-◌, ◌%◌, ◌≤◌, ◌<◌}
use native.Mathlib.Omega.{arith}
use lib.ListN.{length, get_or, length-drop}
use lib.Seq.{get_or-drop}
use lib.Dec.{ltb, leb, eqb, leb-suc-suc}
use borrow.Author.Tests.{ltb-true, leb-true, le-leb, lt-leb, lt-ltb, le-ltb, eqb-true, eqb-false, eq-eqb, ne_eqb, leb-false}
use Rattle.text.specs.Text.{all_below, is_digit}
use Rattle.text.specs.RowLaws.{trimmed}
use Rattle.text.specs.ListLaws.{and_left, and_right, and_both, and-false, bool_clash, lt-or-ge, all_below-at, all_below-make}
use Rattle.text.specs.Conjunctions.{parts}
use Rattle.keys.specs.declared.key_state.KeyState.{KeyState}
use Rattle.keys.specs.declared.key_state.KeyState.TheVariants.{Code, Cuts, Ended, Wrong}
use Rattle.keys.specs.Keys.{cut_count, low, high, ranges_ok, code_of, cuts_of, is_key, depth, matches, max_code, max_cuts, max_depth}
use Rattle.keys.specs.KeyStates.{in_code, cut_fits, in_cuts, step_of, is_whole, is_done, is_none, key_automaton}
use Rattle.row_filter.specs.RowAutomaton.{run_from, Recognizes}
use Rattle.row_filter.specs.RowAutomatonLaws.{newline-trimmed}

bool_same : (a b : Bool) → (a ≡ true → b ≡ true) → (b ≡ true → a ≡ true) → a ≡ b
bool_same true b f g = sym (f refl)
bool_same false true f g = g refl
bool_same false false f g = refl

-- The cuts from number i on are in their ranges.
unfoldable all_fit : List ℕ → ℕ → List ℕ → Bool
all_fit ranges i [] = true
all_fit ranges i (x ∷ xs) = cut_fits ranges i x && all_fit ranges (i + 1) xs

fit-make : (ranges : List ℕ) (i : ℕ) (xs : List ℕ) → ((j : ℕ) → j < length xs → cut_fits ranges (i + j) (get_or xs j 0) ≡ true) → all_fit ranges i xs ≡ true
unfolding all_fit
fit-make ranges i [] h = refl
fit-make ranges i (x ∷ xs) h =
    let z : i + 0 ≡ i = omega arith in
    and_both (rw z at (h 0 (omega arith)))
    (fit-make ranges (i + 1) xs (λ j l. let e : i + suc j ≡ i + 1 + j = omega arith in rw e at (h (suc j) (omega arith))))

fit_at : (ranges : List ℕ) (i : ℕ) (xs : List ℕ) → all_fit ranges i xs ≡ true → (j : ℕ) → j < length xs → cut_fits ranges (i + j) (get_or xs j 0) ≡ true
unfolding all_fit
fit_at ranges i [] h j l = absurd (let z : ⊥ = omega arith in z)
fit_at ranges i (x ∷ xs) h zero l = let z : i + 0 ≡ i = omega arith in rw z (and_left (cut_fits ranges i x) (all_fit ranges (i + 1) xs) h)
fit_at ranges i (x ∷ xs) h (suc j) l =
    let e : i + 1 + j ≡ i + suc j = omega arith in
    rw e at (fit_at ranges (i + 1) xs (and_right (cut_fits ranges i x) (all_fit ranges (i + 1) xs) h) j (omega arith))

module _ (ranges : List ℕ) where
  abbrev n : ℕ
  n = cut_count ranges

  wrong-run : (xs : List ℕ) → is_whole ranges (run_from (key_automaton ranges) Wrong xs) ≡ false
  unfolding run_from step_of is_whole
  wrong-run [] = refl
  wrong-run (x ∷ xs) = wrong-run xs

  ended-run : (xs : List ℕ) → is_whole ranges (run_from (key_automaton ranges) Ended xs) ≡ false
  unfolding run_from step_of is_whole
  ended-run [] = refl
  ended-run (x ∷ xs) = wrong-run xs

  in-fits : (i x : ℕ) (b : Bool) → i < n → cut_fits ranges i x ≡ b → in_cuts ranges i x ≡ cond b (Cuts (i + 1)) Wrong
  unfolding in_cuts
  in-fits i x b l e = rw (lt-ltb i n l, e)

  in-past : (i x : ℕ) (b : Bool) → n ≤ i → eqb 13 x ≡ b → in_cuts ranges i x ≡ cond b Ended Wrong
  unfolding in_cuts
  in-past i x b g e = rw (le-ltb i n g, e)

  in-space : (k x : ℕ) (b : Bool) → eqb 32 x ≡ true → eqb k 0 ≡ b → in_code k x ≡ cond b Wrong (Cuts 0)
  unfolding in_code
  in-space k x b e f = rw (e, f)

  in_other : (k x : ℕ) (b : Bool) → eqb 32 x ≡ false → leb max_code k ≡ b → in_code k x ≡ cond b Wrong (Code (k + 1))
  unfolding in_code
  in_other k x b e f = rw (e, f)

  -- After i cuts.
  cuts-run : (i : ℕ) (xs : List ℕ) → is_whole ranges (run_from (key_automaton ranges) (Cuts i) xs) ≡ (eqb (i + length xs) n && all_fit ranges i xs)
  unfolding run_from step_of is_whole all_fit
  cuts-run i [] = let z : i + 0 ≡ i = omega arith in rw z (and-true (eqb i n))
    where
      and-true : (a : Bool) → a ≡ (a && true)
      and-true true = refl
      and-true false = refl
  cuts-run i (x ∷ xs) = go (lt-or-ge i n) (cuts-run (i + 1) xs)
    where
      more : i + suc (length xs) ≡ i + 1 + length xs
      more = omega arith

      fits : i < n → is_whole ranges (run_from (key_automaton ranges) (Cuts (i + 1)) xs) ≡ (eqb (i + 1 + length xs) n && all_fit ranges (i + 1) xs)
          → (b : Bool) → cut_fits ranges i x ≡ b
          → is_whole ranges (run_from (key_automaton ranges) (in_cuts ranges i x) xs)
          ≡ (eqb (i + suc (length xs)) n && (cut_fits ranges i x && all_fit ranges (i + 1) xs))
      fits l rest true e = rw (in-fits i x true l e, e, more) rest
      fits l rest false e = rw (in-fits i x false l e, e, wrong-run xs) (sym (and-false (eqb (i + suc (length xs)) n)))

      past : n ≤ i → (b : Bool) → eqb 13 x ≡ b
          → is_whole ranges (run_from (key_automaton ranges) (in_cuts ranges i x) xs)
          ≡ (eqb (i + suc (length xs)) n && (cut_fits ranges i x && all_fit ranges (i + 1) xs))
      past g true e = rw (in-past i x true g e, ended-run xs, ne_eqb (i + suc (length xs)) n (λ z. omega arith))
      past g false e = rw (in-past i x false g e, wrong-run xs, ne_eqb (i + suc (length xs)) n (λ z. omega arith))

      go : (i < n) ⊎ (n ≤ i) → is_whole ranges (run_from (key_automaton ranges) (Cuts (i + 1)) xs) ≡ (eqb (i + 1 + length xs) n && all_fit ranges (i + 1) xs)
          → is_whole ranges (run_from (key_automaton ranges) (in_cuts ranges i x) xs)
          ≡ (eqb (i + suc (length xs)) n && (cut_fits ranges i x && all_fit ranges (i + 1) xs))
      go (inl l) rest = fits l rest (cut_fits ranges i x) refl
      go (inr g) rest = past g (eqb 13 x) refl

  -- All cuts of a row, each in its range.
  abbrev cuts_good : List ℕ → Bool
  cuts_good ys = eqb (length ys) n && all_fit ranges 0 ys

  -- A key, by k bytes of its code that were read, m more, and the bytes of the row from there on.
  abbrev key_good : ℕ → ℕ → ℕ → List ℕ → Bool
  key_good k m len cuts = leb 1 (k + m) && leb (k + m) max_code && ltb m len && cuts_good cuts

  code-space : (x : ℕ) (xs : List ℕ) → eqb 32 x ≡ true → code_of (x ∷ xs) ≡ []
  unfolding code_of
  code-space x xs e = rw e

  code_other : (x : ℕ) (xs : List ℕ) → eqb 32 x ≡ false → code_of (x ∷ xs) ≡ x ∷ code_of xs
  unfolding code_of
  code_other x xs e = rw e

  cuts-space : (x : ℕ) (xs : List ℕ) → eqb 32 x ≡ true → cuts_of (x ∷ xs) ≡ xs
  unfolding cuts_of
  cuts-space x xs e = rw (code-space x xs e)

  cuts-other : (x : ℕ) (xs : List ℕ) → eqb 32 x ≡ false → cuts_of (x ∷ xs) ≡ cuts_of xs
  unfolding cuts_of
  cuts-other x xs e = let z : suc (length (code_of xs)) + 1 ≡ suc (length (code_of xs) + 1) = omega arith in rw (code_other x xs e, z)

  -- After k bytes of the code.
  code-run : (k : ℕ) (xs : List ℕ) → k ≤ max_code
      → is_whole ranges (run_from (key_automaton ranges) (Code k) xs) ≡ key_good k (length (code_of xs)) (length xs) (cuts_of xs)
  unfolding run_from step_of is_whole
  code-run k [] h = by (leb 1 (k + length (code_of [])) && leb (k + length (code_of [])) max_code) (le-ltb (length (code_of [])) 0 (omega arith))
    where
      by : (a : Bool) → ltb (length (code_of [])) 0 ≡ false → false ≡ (a && ltb (length (code_of [])) 0 && cuts_good (cuts_of []))
      by true e = rw e
      by false e = refl
  code-run k (x ∷ xs) h = go (eqb 32 x) refl (code-run (k + 1) xs)
    where
      space : (b : Bool) → eqb k 0 ≡ b → eqb 32 x ≡ true → is_whole ranges (run_from (key_automaton ranges) (in_code k x) xs) ≡ key_good k 0 (suc (length xs)) xs
      space true f e = rw (in-space k x true e f, wrong-run xs, lt-leb 1 (k + 0) (omega (arith, eqb-true k 0 f)))
      space false f e =
          let low : 1 ≤ k + 0 = omega (arith, eqb-false k 0 f) in
          rw (in-space k x false e f, le-leb 1 (k + 0) low, le-leb (k + 0) max_code (omega arith), lt-ltb 0 (suc (length xs)) (omega arith))
          (let w : 0 + length xs ≡ length xs = omega arith in rw w at (cuts-run 0 xs))

      no_more : (a c d : Bool) → false ≡ (a && false && c && d)
      no_more true c d = refl
      no_more false c d = refl

      other : (b : Bool) → leb max_code k ≡ b → eqb 32 x ≡ false
          → (k + 1 ≤ max_code → is_whole ranges (run_from (key_automaton ranges) (Code (k + 1)) xs) ≡ key_good (k + 1) (length (code_of xs)) (length xs) (cuts_of xs))
          → is_whole ranges (run_from (key_automaton ranges) (in_code k x) xs) ≡ key_good k (suc (length (code_of xs))) (suc (length xs)) (cuts_of xs)
      other true f e rest =
          rw (in_other k x true e f, wrong-run xs, lt-leb (k + suc (length (code_of xs))) max_code (omega (arith, leb-true max_code k f)))
          (no_more (leb 1 (k + suc (length (code_of xs)))) (ltb (suc (length (code_of xs))) (suc (length xs))) (cuts_good (cuts_of xs)))
      other false f e rest =
          let z : k + suc (length (code_of xs)) ≡ k + 1 + length (code_of xs) = omega arith in
          rw (in_other k x false e f, z, leb-suc-suc (suc (length (code_of xs))) (length xs)) (rest (omega (arith, leb-false max_code k f)))

      go : (b : Bool) → eqb 32 x ≡ b
          → (k + 1 ≤ max_code → is_whole ranges (run_from (key_automaton ranges) (Code (k + 1)) xs) ≡ key_good (k + 1) (length (code_of xs)) (length xs) (cuts_of xs))
          → is_whole ranges (run_from (key_automaton ranges) (in_code k x) xs) ≡ key_good k (length (code_of (x ∷ xs))) (suc (length xs)) (cuts_of (x ∷ xs))
      go true e rest = rw (code-space x xs e, cuts-space x xs e) (space (eqb k 0) refl e)
      go false e rest = rw (code_other x xs e, cuts-other x xs e) (other (leb max_code k) refl e rest)

-- A question that passes 19.
abbrev pub range_right : List ℕ → ℕ → Bool
range_right ranges i = leb (low ranges i) max_depth && leb (high ranges i) max_depth && leb (low ranges i) (high ranges i)

module _ (ranges : List ℕ) (ok : ranges_ok ranges ≡ true) where
  asked : (leb 1 (cut_count ranges) ≡ true) × (leb (cut_count ranges) max_cuts ≡ true) × (all_below (cut_count ranges) (range_right ranges) ≡ true)
  unfolding ranges_ok
  asked =
      let p = parts (eqb (length ranges % 2) 0)
      (leb 1 (cut_count ranges) ∷ leb (cut_count ranges) max_cuts ∷ all_below (cut_count ranges) (range_right ranges) ∷ []) ok in
      (p.1.0, p.1.1.0, p.1.1.1.0)

  some_cuts : (1 ≤ cut_count ranges) × (cut_count ranges ≤ max_cuts)
  some_cuts = (leb-true 1 (cut_count ranges) asked.0, leb-true (cut_count ranges) max_cuts asked.1)

  high-low : (i : ℕ) → i < cut_count ranges → high ranges i ≤ max_depth
  high-low i l =
      let p = parts (leb (low ranges i) max_depth)
      (leb (high ranges i) max_depth ∷ leb (low ranges i) (high ranges i) ∷ []) (all_below-at (cut_count ranges) (range_right ranges) asked.2 i l) in
      leb-true (high ranges i) max_depth p.1.0

  module _ (row : List ℕ) where
    abbrev m : ℕ
    m = length (code_of row)

    abbrev cuts : List ℕ
    cuts = cuts_of row

    abbrev good : Bool
    good = key_good ranges 0 m (length row) cuts

    -- The tests of a key, and of the ranges.
    abbrev range_at : ℕ → Bool
    range_at i = leb (low ranges i) (depth row i) && leb (depth row i) (high ranges i)

    abbrev digit_at : ℕ → Bool
    digit_at i = is_digit (get_or cuts i 0)

    -- A cut in its range is a digit with a depth in the range, and the other way round.
    fits-digit : (i : ℕ) → i < cut_count ranges → cut_fits ranges i (get_or cuts i 0) ≡ true → (digit_at i ≡ true) × (range_at i ≡ true)
    unfolding cut_fits is_digit depth
    fits-digit i l f =
        let x = get_or cuts i 0 in
        let a = leb-true (48 + low ranges i) x (and_left _ _ f) in
        let b = leb-true x (48 + high ranges i) (and_right (leb (48 + low ranges i) x) _ f) in (
          and_both (le-leb 48 x (omega arith)) (le-leb x 57 (omega (arith, high-low i l))),
          and_both (le-leb (low ranges i) (x - 48) (omega arith)) (le-leb (x - 48) (high ranges i) (omega arith)),
        )

    digit-fits : (i : ℕ) → digit_at i ≡ true → range_at i ≡ true → cut_fits ranges i (get_or cuts i 0) ≡ true
    unfolding cut_fits is_digit depth
    digit-fits i d r =
        let x = get_or cuts i 0 in
        let a = leb-true 48 x (and_left _ _ d) in
        let b = leb-true (low ranges i) (x - 48) (and_left _ _ r) in
        let c = leb-true (x - 48) (high ranges i) (and_right (leb (low ranges i) (x - 48)) _ r) in
        and_both (le-leb (48 + low ranges i) x (omega arith)) (le-leb x (48 + high ranges i) (omega arith))

    abbrev head_tests : List Bool
    head_tests = leb m max_code ∷ ltb m (length row) ∷ leb 1 (length cuts) ∷ leb
        (length cuts) max_cuts ∷ all_below (length cuts) digit_at ∷ eqb (length cuts) (cut_count ranges) ∷ all_below (cut_count ranges) range_at ∷ []

    good-from : matches ranges row ≡ true → good ≡ true
    unfolding matches is_key
    good-from h =
        let p = parts (leb 1 m) head_tests h in
        let z : 0 + m ≡ m = omega arith in
        let size = eqb-true (length cuts) (cut_count ranges) p.1.1.1.1.1.1.0 in
        let digits = all_below-at (length cuts) digit_at p.1.1.1.1.1.0 in
        let range = all_below-at (cut_count ranges) range_at p.1.1.1.1.1.1.1.0 in
        let fit = fit-make ranges 0 cuts (λ j l. let y : 0 + j ≡ j = omega arith in rw y (digit-fits j (digits j l) (range j (omega arith)))) in
        rw z (and_both (and_both (and_both p.0 p.1.0) p.1.1.0) (and_both p.1.1.1.1.1.1.0 fit))

    good-to : good ≡ true → matches ranges row ≡ true
    unfolding matches is_key
    good-to h =
        let z : 0 + m ≡ m = omega arith in
        let p = parts (leb 1 m) (leb m max_code ∷ ltb m (length row) ∷ cuts_good ranges cuts ∷ []) (rw z at h) in
        let size = and_left (eqb (length cuts) (cut_count ranges)) (all_fit ranges 0 cuts) p.1.1.1.0 in
        let e = eqb-true (length cuts) (cut_count ranges) size in
        let fit = fit_at ranges 0 cuts (and_right (eqb (length cuts) (cut_count ranges)) (all_fit ranges 0 cuts) p.1.1.1.0) in
        let each : (j : ℕ) → j < cut_count ranges → (digit_at j ≡ true) × (range_at j ≡ true) = λ j l. let y : 0 + j ≡ j = omega arith in
        fits-digit j l (rw y at (fit j (omega arith))) in
        and_both (and_both (and_both (and_both (and_both (and_both (and_both p.0 p.1.0) p.1.1.0)
        (le-leb 1 (length cuts) (omega (arith, some_cuts.0)))) (le-leb (length cuts) max_cuts (omega (arith, some_cuts.1))))
        (all_below-make (length cuts) digit_at (λ j l. (each j (omega arith)).0))) size) (all_below-make (cut_count ranges) range_at (λ j l. (each j l).1))

    -- A row that no byte 10 ends matches exactly where its bytes are read to a whole key.
    at_end_is : is_whole ranges (run_from (key_automaton ranges) (Code 0) row) ≡ matches ranges row
    at_end_is = code-run ranges 0 row (omega arith) ∙ bool_same good (matches ranges row) good-to good-from

-- What holds of every state that a step can lead to holds after any bytes, if it holds before them.
module _ (ranges : List ℕ) (P : KeyState → Type 0)
    (wrong : P Wrong) (ended : P Ended) (code : (k : ℕ) → P (Code (k + 1))) (cuts : (i : ℕ) → i ≤ cut_count ranges → P (Cuts i)) where
  after-code : (k x : ℕ) → P (in_code k x)
  unfolding in_code
  after-code k x = by (eqb 32 x) (eqb k 0) (leb max_code k)
    where
      by : (a b c : Bool) → P (cond a (cond b Wrong (Cuts 0)) (cond c Wrong (Code (k + 1))))
      by true true c = wrong
      by true false c = cuts 0 (omega arith)
      by false b true = wrong
      by false b false = code k

  after-cuts : (i x : ℕ) → P (in_cuts ranges i x)
  unfolding in_cuts
  after-cuts i x = by (ltb i (cut_count ranges)) (cut_fits ranges i x) (eqb 13 x) refl
    where
      by : (a b c : Bool) → ltb i (cut_count ranges) ≡ a → P (cond a (cond b (Cuts (i + 1)) Wrong) (cond c Ended Wrong))
      by true true c e = cuts (i + 1) (omega (arith, ltb-true i (cut_count ranges) e))
      by true false c e = wrong
      by false b true e = ended
      by false b false e = wrong

  after-step : (f : KeyState) (x : ℕ) → P (step_of ranges f x)
  unfolding step_of
  after-step (Code k) x = after-code k x
  after-step (Cuts i) x = after-cuts i x
  after-step Ended x = wrong
  after-step Wrong x = wrong

  after_run : (f : KeyState) (xs : List ℕ) → P f → P (run_from (key_automaton ranges) f xs)
  unfolding run_from
  after_run f [] h = h
  after_run f (x ∷ xs) h = after_run (step_of ranges f x) xs (after-step f x)

-- One byte 13 before the byte 10 that ends a row.
module _ (ranges : List ℕ) where
  -- No more cuts than there are ranges.
  abbrev Few : KeyState → Type 0
  Few (Code k) = Unit {0}
  Few (Cuts i) = i ≤ cut_count ranges
  Few Ended = Unit {0}
  Few Wrong = Unit {0}

  few-run : (f : KeyState) (xs : List ℕ) → Few f → Few (run_from (key_automaton ranges) f xs)
  few-run f xs h = after_run ranges Few tt tt (λ k. tt) (λ i few. few) f xs h

  -- A row that a byte 10 ends is read to the same, but for one byte 13 after all cuts.
  same_code : (k x : ℕ) → is_done ranges (in_code k x) ≡ is_whole ranges (in_code k x)
  unfolding in_code is_done is_whole
  same_code k x = by (eqb 32 x) (eqb k 0) (leb max_code k)
    where
      by : (a b c : Bool) → is_done ranges
          (cond a (cond b Wrong (Cuts 0)) (cond c Wrong (Code (k + 1)))) ≡ is_whole ranges (cond a (cond b Wrong (Cuts 0)) (cond c Wrong (Code (k + 1))))
      by true true c = refl
      by true false c = refl
      by false b true = refl
      by false b false = refl

  not-space : (k x : ℕ) → eqb 13 x ≡ true → is_whole ranges (in_code k x) ≡ false
  unfolding in_code is_whole
  not-space k x e = rw (ne_eqb 32 x (λ z. omega (arith, eqb-true 13 x e))) (by (leb max_code k))
    where
      by : (c : Bool) → is_whole ranges (cond c Wrong (Code (k + 1))) ≡ false
      by true = refl
      by false = refl

  code_13 : (k x : ℕ) (b : Bool) → eqb 13 x ≡ b → is_done ranges (in_code k x) ≡ cond b (is_whole ranges (Code k)) (is_whole ranges (in_code k x))
  unfolding is_whole
  code_13 k x true e = same_code k x ∙ not-space k x e
  code_13 k x false e = same_code k x

  cuts-13 : (i x : ℕ) (b : Bool)
      → i ≤ cut_count ranges → eqb 13 x ≡ b → is_done ranges (in_cuts ranges i x) ≡ cond b (is_whole ranges (Cuts i)) (is_whole ranges (in_cuts ranges i x))
  unfolding is_done is_whole cut_fits
  cuts-13 i x true few e = by (lt-or-ge i (cut_count ranges))
    where
      by : (i < cut_count ranges) ⊎ (cut_count ranges ≤ i) → is_done ranges (in_cuts ranges i x) ≡ eqb i (cut_count ranges)
      by (inl l) =
          let z : leb (48 + low ranges i) x ≡ false = lt-leb (48 + low ranges i) x (omega (arith, eqb-true 13 x e)) in
          rw (in-fits ranges i x false l (rw z), ne_eqb i (cut_count ranges) (λ y. omega arith))
      by (inr g) = rw (in-past ranges i x true g e, eq-eqb i (cut_count ranges) (omega arith))
  cuts-13 i x false few e = by (lt-or-ge i (cut_count ranges)) (cut_fits ranges i x) refl
    where
      by : (i < cut_count ranges)
          ⊎ (cut_count ranges ≤ i) → (b : Bool) → cut_fits ranges i x ≡ b → is_done ranges (in_cuts ranges i x) ≡ is_whole ranges (in_cuts ranges i x)
      by (inl l) true f = rw (in-fits ranges i x true l f)
      by (inl l) false f = rw (in-fits ranges i x false l f)
      by (inr g) b f = rw (in-past ranges i x false g e)

  step-13 : (f : KeyState) (x : ℕ) (b : Bool)
      → Few f → eqb 13 x ≡ b → is_done ranges (step_of ranges f x) ≡ cond b (is_whole ranges f) (is_whole ranges (step_of ranges f x))
  unfolding step_of is_done is_whole
  step-13 (Code k) x b few e = code_13 k x b e
  step-13 (Cuts i) x b few e = cuts-13 i x b few e
  step-13 Ended x b few e = by b
    where
      by : (b : Bool) → is_done ranges Wrong ≡ cond b (is_whole ranges Ended) (is_whole ranges Wrong)
      by true = refl
      by false = refl
  step-13 Wrong x b few e = by b
    where
      by : (b : Bool) → is_done ranges Wrong ≡ cond b (is_whole ranges Wrong) (is_whole ranges Wrong)
      by true = refl
      by false = refl

-- The automaton accepts exactly the rows that match.
module _ (ranges : List ℕ) where
  -- A row with a byte is not read to none.
  abbrev Started : KeyState → Type 0
  Started (Code k) = 1 ≤ k
  Started (Cuts i) = Unit {0}
  Started Ended = Unit {0}
  Started Wrong = Unit {0}

  started-run : (x : ℕ) (xs : List ℕ) → Started (run_from (key_automaton ranges) (Code 0) (x ∷ xs))
  unfolding run_from
  started-run x xs =
      let one : (k : ℕ) → 1 ≤ k + 1 = λ k. omega arith in
      after_run ranges Started tt tt one (λ i few. tt) (step_of ranges (Code 0) x) xs (after-step ranges Started tt tt one (λ i few. tt) (Code 0) x)

  started_none : (f : KeyState) → Started f → is_none f ≡ false
  unfolding is_none
  started_none (Code k) h = ne_eqb k 0 (λ z. omega arith)
  started_none (Cuts i) h = refl
  started_none Ended h = refl
  started_none Wrong h = refl

  pub reads : ranges_ok ranges ≡ true → Recognizes (key_automaton ranges) (matches ranges)
  unfolding run_from is_none is_whole is_done
  reads ok = record {
    at_end_is = at_end_is ranges ok;
    at_newline_is = newline-trimmed (key_automaton ranges) (matches ranges)
        (at_end_is ranges ok) refl (λ ys z b e. step-13 ranges (run_from (key_automaton ranges) (Code 0) ys) z b (few-run ranges (Code 0) ys tt) e);
    no_byte_first = refl;
    no_byte_then = λ x xs. started_none (run_from (key_automaton ranges) (Code 0) (x ∷ xs)) (started-run x xs);
    empty_rejected = sym (at_end_is ranges ok []);
  }

-- What a row that a byte 10 ends must have to match.
module _ (ranges : List ℕ) where
  pub done-whole : (row : List ℕ)
      → is_done ranges (run_from (key_automaton ranges) (Code 0) row) ≡ is_whole ranges (run_from (key_automaton ranges) (Code 0) (trimmed row))
  unfolding is_whole is_done
  done-whole = newline-trimmed (key_automaton ranges) (λ row. is_whole ranges (run_from (key_automaton ranges) (Code 0) row))
      (λ row. refl) refl (λ ys z b e. step-13 ranges (run_from (key_automaton ranges) (Code 0) ys) z b (few-run ranges (Code 0) ys tt) e)

  module _ (xs : List ℕ) where
    abbrev whole : Bool
    whole = is_whole ranges (run_from (key_automaton ranges) (Code 0) xs)

    -- Its last bytes are the cuts, after a code and a space.
    whole-tests : whole ≡ true → (cut_count ranges + 2 ≤ length xs)
        × ((j : ℕ) → j < cut_count ranges → cut_fits ranges j (get_or xs (length xs - cut_count ranges + j) 0) ≡ true)
    unfolding cuts_of
    whole-tests e =
        let m = length (code_of xs) in
        let z : 0 + m ≡ m = omega arith in
        let good = rw z at (sym (code-run ranges 0 xs (omega arith)) ∙ e) in
        let p = parts (leb 1 m) (leb m max_code ∷ ltb m (length xs) ∷ cuts_good ranges (cuts_of xs) ∷ []) good in
        let low = leb-true 1 m p.0 in
        let short = ltb-true m (length xs) p.1.1.0 in
        let all = eqb (length (cuts_of xs)) (cut_count ranges) in
        let size = eqb-true (length (cuts_of xs)) (cut_count ranges) (and_left all (all_fit ranges 0 (cuts_of xs)) p.1.1.1.0) in
        let fit = fit_at ranges 0 (cuts_of xs) (and_right all (all_fit ranges 0 (cuts_of xs)) p.1.1.1.0) in
        let long : length (cuts_of xs) ≡ length xs - (m + 1) = length-drop (m + 1) xs in
        let start : length xs - cut_count ranges ≡ m + 1 = omega arith in (
          omega arith,
          λ j l. (let y : 0 + j ≡ j = omega arith in rw (start, ← get_or-drop (m + 1) xs j 0) (rw y at (fit j (omega arith)))),
        )

    pub too_short : length xs < cut_count ranges + 2 → whole ≡ false
    too_short h = by whole refl
      where
        by : (b : Bool) → whole ≡ b → whole ≡ false
        by true e = absurd (let z : ⊥ = omega (arith, (whole-tests e).0) in z)
        by false e = e

    pub not-fitting : (j : ℕ) → j < cut_count ranges → cut_fits ranges j (get_or xs (length xs - cut_count ranges + j) 0) ≡ false → whole ≡ false
    not-fitting j l f = by whole refl
      where
        by : (b : Bool) → whole ≡ b → whole ≡ false
        by true e = bool_clash (cut_fits ranges j (get_or xs (length xs - cut_count ranges + j) 0)) ((whole-tests e).1 j l) f
        by false e = e
