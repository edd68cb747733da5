-- Scanning a text with an automaton finds the first row that its predicate selects.
use mathlib.Core.List.{List, [], ◌∷◌, ◌++◌, append-nil, append_assoc}
use Rattle.std.specs.Prelude.{Bool, ◌≡◌, ℕ, suc, ◌+◌, ◌-◌, ◌≤◌, ◌<◌, drop}
use Rattle.std.proofs.Math.Bool.{true, false, cond}
use Rattle.std.proofs.Math.Path.{refl, sym, ap}
use Rattle.std.proofs.Common.{◌∙◌, length-append, drop-cons, take-suc, take_all, eqb-true, eq-eqb, ne_eqb}
use native.Mathlib.Omega.{arith}
use Rattle.std.proofs.Math.Numerals.{add-one}
use Rattle.std.proofs.Math.ListN.{length, get_or, take}
use Rattle.std.proofs.Math.Seq.{drop-length, take-append_seam, get_or-append_seam}
use Rattle.std.proofs.Math.Dec.{eqb}
use Rattle.text.specs.Text.{count_in, rows_of}
use Rattle.text.specs.CountLaws.{one}
use Rattle.text.proofs.CountTheorems.{count-cons, count-nil, count-append}
use Rattle.text.specs.RowLaws.{trimmed}
use Rattle.text.proofs.RowTheorems.{rows_split, rows-one, rows-open}
use Rattle.row_filter.specs.SelectedRows.{first_selected}
use Rattle.row_filter.specs.SelectedRowLaws.{first-cons}
use Rattle.row_filter.specs.RowAutomaton.{Automaton, Scan, found, on, SearchResult, at_row, nothing, resume_scan, RowBetween, run_from, scan_byte}
use Rattle.row_filter.specs.RowAutomaton.{scan_bytes}
use Rattle.row_filter.specs.RowAutomaton.{at_end_of_text, finish_scan, Recognizes}

module _ {S : Type 0} (m : Automaton S) where
  -- One byte.
  module _ (s : S) (q x : ℕ) where
    pub byte-found : x ≡ 10 → m.at_newline s ≡ true → found q ≡ scan_byte m s q x
    unfolding scan_byte
    byte-found e d = rw (eq-eqb 10 x (sym e), d)

    pub byte_next : x ≡ 10 → m.at_newline s ≡ false → on m.start (q + 1) ≡ scan_byte m s q x
    unfolding scan_byte
    byte_next e d = rw (eq-eqb 10 x (sym e), d)

    pub byte_step : (x ≡ 10 → ⊥) → (f : S) → f ≡ m.step s x → on f q ≡ scan_byte m s q x
    unfolding scan_byte
    byte_step e f h = rw (ne_eqb 10 x (λ z. e (sym z)), h)

    -- A byte ends at most one row.
    byte-bounds : RowBetween q 1 (scan_byte m s q x)
    unfolding scan_byte
    byte-bounds = go (eqb 10 x) (m.at_newline s)
      where
        go : (a b : Bool) → RowBetween q 1 (cond a (cond b (found q) (on m.start (q + 1))) (on (m.step s x) q))
        go true true = (omega arith, omega arith)
        go true false = (omega arith, omega arith)
        go false b = (omega arith, omega arith)

    pub on-next : (f : S) (n : ℕ) → on f n ≡ scan_byte m s q x → (q ≤ n) × (n ≤ q + 1)
    on-next f n e = rw (← e) at byte-bounds

    pub found-next : (n : ℕ) → found n ≡ scan_byte m s q x → (q ≤ n) × (n ≤ q + 1)
    found-next n e = rw (← e) at byte-bounds

  -- Byte i of the scanned bytes, and the rest.
  module _ (part : List ℕ) (i : ℕ) (h : i < length part) (s : S) (q : ℕ) where
    open-scan : scan_bytes m (drop i part) s q ≡ resume_scan (scan_bytes m (drop (i + 1) part)) (scan_byte m s q (get_or part i 0))
    unfolding scan_bytes
    open-scan = rw (drop-cons part i 0 h, add-one i)

    pub scan-on : (f : S) (n : ℕ) → on f n ≡ scan_byte m s q (get_or part i 0) → scan_bytes m (drop (i + 1) part) f n ≡ scan_bytes m (drop i part) s q
    scan-on f n e = sym (open-scan ∙ rw (← e))

    pub scan-found : (n : ℕ) → found n ≡ scan_byte m s q (get_or part i 0) → found n ≡ scan_bytes m (drop i part) s q
    scan-found n e = sym (open-scan ∙ rw (← e))

  pub scan-end : (part : List ℕ) (i : ℕ) → i ≡ length part → (s : S) (q : ℕ) → on s q ≡ scan_bytes m (drop i part) s q
  unfolding scan_bytes
  scan-end part i e s q = rw (e, drop-length part)

  -- Bytes scanned one by one from the state `first` in row `row`: the bytes before i were read, and led to the state s in row q.
  pub record Scanning (part : List ℕ) (first : S) (row i : ℕ) (s : S) (q : ℕ) : Type 0 where
    pub within : i ≤ length part
    pub low : row ≤ q
    pub high : q ≤ row + i
    pub same : scan_bytes m (drop i part) s q ≡ scan_bytes m part first row

  module _ (part : List ℕ) (first : S) (row : ℕ) where
    pub scanning-none : Scanning part first row 0 first row
    scanning-none = record { within = omega arith; low = omega arith; high = omega arith; same = refl }

    module _ (i : ℕ) (s : S) (q : ℕ) (k : Scanning part first row i s q) where
      module _ (h : i < length part) (r : Scan S) (n : ℕ) (r-is : r ≡ scan_byte m s q (get_or part i 0)) where
        -- Byte i ends an accepted row.
        pub scanning-found : r ≡ found n → (r ≡ scan_bytes m part first row) × RowBetween row (length part) r
        scanning-found e =
            let f : found n ≡ scan_byte m s q (get_or part i 0) = sym e ∙ r-is in
            let b = found-next s q (get_or part i 0) n f in
            rw e (scan-found part i h s q n f ∙ k.same, (omega (arith, b.0, k.low), omega (arith, b.1, k.high)))

        -- Byte i leads to a state.
        pub scanning-on : (g : S) → r ≡ on g n → Scanning part first row (i + 1) g n
        scanning-on g e =
            let f : on g n ≡ scan_byte m s q (get_or part i 0) = sym e ∙ r-is in
            let b = on-next s q (get_or part i 0) g n f in
            record {
              within = omega arith;
              low = omega (arith, b.0, k.low);
              high = omega (arith, b.1, k.high);
              same = scan-on part i h s q g n f ∙ k.same;
            }

      -- Bytes that change nothing are passed over.
      pub scanning-passed : (j : ℕ) → i ≤ j → j ≤ length part → scan_bytes m (drop j part) s q ≡ scan_bytes m (drop i part) s q → Scanning part first row j s q
      scanning-passed j a b e = record { within = b; low = k.low; high = omega (arith, k.high); same = e ∙ k.same }

      pub scanning-end : length part ≤ i → (on s q ≡ scan_bytes m part first row) × ((row ≤ q) × (q ≤ row + length part))
      scanning-end past =
          (scan-end part i (omega (arith, k.within)) s q ∙ k.same, (k.low, omega (arith, k.high, k.within)))

  -- scanning two parts one after the other
  pub scan-append : (xs ys : List ℕ) (s : S) (q : ℕ) → scan_bytes m (xs ++ ys) s q ≡ resume_scan (scan_bytes m ys) (scan_bytes m xs s q)
  unfolding scan_bytes
  scan-append [] ys s q = refl
  scan-append (x ∷ xs) ys s q = by (scan_byte m s q x) (scan-append xs ys)
    where
      by : (r : Scan S) → ((g : S) (n : ℕ) → scan_bytes m (xs ++ ys) g n ≡ resume_scan (scan_bytes m ys) (scan_bytes m xs g n))
          → resume_scan (scan_bytes m (xs ++ ys)) r ≡ resume_scan (scan_bytes m ys) (resume_scan (scan_bytes m xs) r)
      by (found n) rest = refl
      by (on g n) rest = rest g n

  run-snoc : (s : S) (p : List ℕ) (x : ℕ) → run_from m s (p ++ x ∷ []) ≡ m.step (run_from m s p) x
  unfolding run_from
  run-snoc s [] x = refl
  run-snoc s (y ∷ p) x = run-snoc (m.step s y) p x

-- Rows ended by a byte 10: one byte 13 before it is not part of the row.

-- A list as its front and its last element.
snoc-last : (j : ℕ) (row : List ℕ) → length row ≡ suc j → row ≡ take j row ++ get_or row j 0 ∷ []
snoc-last j row e = sym (take_all (suc j) row (omega arith)) ∙ take-suc row j 0 (omega arith)

trim-snoc : (ys : List ℕ) (z : ℕ) → trimmed (ys ++ z ∷ []) ≡ cond (eqb 13 z) ys (ys ++ z ∷ [])
unfolding trimmed
trim-snoc ys z =
    let n : length (ys ++ z ∷ []) - 1 ≡ length ys = rw (length-append ys (z ∷ [])) (omega arith) in
    rw (n, get_or-append_seam ys z [] 0, take-append_seam ys (z ∷ []))

-- `at_newline` is right if it agrees with `at_end` of the state before a last byte 13, and with `at_end` of the state itself after any other byte
module _ {S : Type 0} (m : Automaton S) (selected : List ℕ → Bool) (at_end_is : (row : List ℕ) → m.at_end (run_from m m.start row) ≡ selected row)
    (none_yet : m.at_newline m.start ≡ m.at_end m.start)
    (after-13 : (ys : List ℕ) (z : ℕ) (b : Bool) → eqb 13 z ≡ b
    → m.at_newline (m.step (run_from m m.start ys) z)
    ≡ cond b (m.at_end (run_from m m.start ys)) (m.at_end (m.step (run_from m m.start ys) z))) where
  done-snoc : (ys : List ℕ) (z : ℕ) (b : Bool) → eqb 13 z ≡ b → m.at_newline (run_from m m.start (ys ++ z ∷ [])) ≡ selected (cond b ys (ys ++ z ∷ []))
  done-snoc ys z true e = rw (run-snoc m m.start ys z) (after-13 ys z true e ∙ at_end_is ys)
  done-snoc ys z false e =
      let s = run-snoc m m.start ys z in
      ap m.at_newline s ∙ after-13 ys z false e ∙ sym (ap m.at_end s) ∙ at_end_is (ys ++ z ∷ [])

  pub newline-trimmed : (row : List ℕ) → m.at_newline (run_from m m.start row) ≡ selected (trimmed row)
  unfolding run_from trimmed
  newline-trimmed [] = none_yet ∙ at_end_is []
  newline-trimmed (x ∷ xs) =
      let j = length xs in
      let e = snoc-last j (x ∷ xs) refl in
      let ys = take j (x ∷ xs) in
      let z = get_or (x ∷ xs) j 0 in
      ap (λ (r : List ℕ). m.at_newline (run_from m m.start r)) e
      ∙ done-snoc ys z (eqb 13 z) refl ∙ sym (ap (λ (r : List ℕ). selected (trimmed r)) e ∙ ap selected (trim-snoc ys z))

-- The first selected row of a list that begins with row q, or the number of rows.
abbrev pub result : (List ℕ → Bool) → ℕ → List (List ℕ) → SearchResult
result selected q rows = cond (eqb (first_selected selected q rows) 0) (nothing (q - 1 + length rows)) (at_row (first_selected selected q rows))

module _ (selected : List ℕ → Bool) where
  result-cons : (q : ℕ) (row : List ℕ) (rows : List (List ℕ)) (b : Bool)
      → 1 ≤ q → selected row ≡ b → result selected q (row ∷ rows) ≡ cond b (at_row q) (result selected (q + 1) rows)
  result-cons q row rows true low e = rw (first-cons selected q row rows true e, ne_eqb q 0 (λ z. omega arith))
  result-cons q row rows false low e =
      let z : q - 1 + suc (length rows) ≡ q + 1 - 1 + length rows = omega arith in
      rw (first-cons selected q row rows false e, z)

  result-none : (q : ℕ) → result selected q [] ≡ nothing (q - 1)
  unfolding first_selected
  result-none q = let z : q - 1 + 0 ≡ q - 1 = omega arith in rw z

-- A byte 10 ends a row; no other byte does.
rows_next : (p : List ℕ) (x : ℕ) (xs : List ℕ) → count_in 10 p ≡ 0 → eqb 10 x ≡ true → rows_of (p ++ x ∷ xs) ≡ trimmed p ∷ rows_of xs
rows_next p x xs h e =
    ap (λ (y : ℕ). rows_of (p ++ y ∷ xs)) (sym (eqb-true 10 x e)) ∙ rows_split p xs ∙ ap (λ (r : List (List ℕ)). r ++ rows_of xs) (rows-one p h)

none_more : (p : List ℕ) (x : ℕ) → count_in 10 p ≡ 0 → eqb 10 x ≡ false → count_in 10 (p ++ x ∷ []) ≡ 0
none_more p x h e =
    let z : one 10 x ≡ 0 = rw e in
    omega (arith, count-append 10 p (x ∷ []), count-cons 10 x [], count-nil 10)

module _ {S : Type 0} (m : Automaton S) (selected : List ℕ → Bool) (r : Recognizes m selected) where
  abbrev read : List ℕ → S
  read = run_from m m.start

  -- The text ends in a row of which the bytes p have been read.
  end-rows : (p : List ℕ) (q : ℕ) → 1 ≤ q → count_in 10 p ≡ 0 → at_end_of_text m (read p) q ≡ result selected q (rows_of (p ++ []))
  unfolding at_end_of_text rows_of run_from
  end-rows [] q low h = rw (r.at_end_is [] ∙ r.empty_rejected, r.no_byte_first) (sym (result-none selected q))
  end-rows (x ∷ p) q low h =
      let rows : rows_of ((x ∷ p) ++ []) ≡ (x ∷ p) ∷ [] = ap rows_of (append-nil (x ∷ p)) ∙ rows-open x p h in
      rw (r.at_end_is (x ∷ p), r.no_byte_then x p) (sym (ap (result selected q) rows ∙ by (selected (x ∷ p)) refl))
    where
      by : (b : Bool) → selected (x ∷ p) ≡ b → result selected q ((x ∷ p) ∷ []) ≡ cond (selected (x ∷ p)) (at_row q) (nothing q)
      by true e = result-cons selected q (x ∷ p) [] true low e ∙ rw e
      by false e = let z : q + 1 - 1 ≡ q = omega arith in result-cons selected q (x ∷ p) [] false low e ∙ result-none selected (q + 1) ∙ rw (e, z)

  byte-newline : (s : S) (q x : ℕ) (b : Bool) → eqb 10 x ≡ true → m.at_newline s ≡ b → scan_byte m s q x ≡ cond b (found q) (on m.start (q + 1))
  unfolding scan_byte
  byte-newline s q x b e d = rw (e, d)

  byte-other : (s : S) (q x : ℕ) → eqb 10 x ≡ false → scan_byte m s q x ≡ on (m.step s x) q
  unfolding scan_byte
  byte-other s q x e = rw e

  scan-from : (xs p : List ℕ) (q : ℕ) → 1 ≤ q → count_in 10 p ≡ 0 → finish_scan m (scan_bytes m xs (read p) q) ≡ result selected q (rows_of (p ++ xs))
  unfolding scan_bytes finish_scan run_from
  scan-from [] p q low h = end-rows p q low h
  scan-from (x ∷ xs) p q low h = by (eqb 10 x) refl (scan-from xs)
    where
      next : eqb 10 x ≡ true → (b : Bool) → m.at_newline (read p) ≡ b
          → ((t : List ℕ) (k : ℕ) → 1 ≤ k → count_in 10 t ≡ 0 → finish_scan m (scan_bytes m xs (read t) k) ≡ result selected k (rows_of (t ++ xs)))
          → finish_scan m (resume_scan (scan_bytes m xs) (scan_byte m (read p) q x)) ≡ result selected q (rows_of (p ++ x ∷ xs))
      next e true d rest =
          rw (byte-newline (read p) q x true e d)
          (sym (ap (result selected q) (rows_next p x xs h e) ∙ result-cons selected q (trimmed p) (rows_of xs) true low (sym (r.at_newline_is p) ∙ d)))
      next e false d rest =
          rw (byte-newline (read p) q x false e d)
          (rest [] (q + 1) (omega arith) (count-nil 10)
          ∙ sym (ap (result selected q) (rows_next p x xs h e) ∙ result-cons selected q (trimmed p) (rows_of xs) false low (sym (r.at_newline_is p) ∙ d)))

      by : (b : Bool) → eqb 10 x ≡ b
          → ((t : List ℕ) (k : ℕ) → 1 ≤ k → count_in 10 t ≡ 0 → finish_scan m (scan_bytes m xs (read t) k) ≡ result selected k (rows_of (t ++ xs)))
          → finish_scan m (resume_scan (scan_bytes m xs) (scan_byte m (read p) q x)) ≡ result selected q (rows_of (p ++ x ∷ xs))
      by true e rest = next e (m.at_newline (read p)) refl rest
      by false e rest =
          let s : scan_byte m (read p) q x ≡ on (read (p ++ x ∷ [])) q =
          byte-other (read p) q x e ∙ ap (λ (f : S). on f q) (sym (run-snoc m m.start p x)) in
          rw s (rest (p ++ x ∷ []) q low (none_more p x h e) ∙ ap (λ (t : List ℕ). result selected q (rows_of t)) (append_assoc p (x ∷ []) xs))

  -- From a row's first byte on.
  pub scan-rows : (xs : List ℕ) (q : ℕ) → 1 ≤ q → finish_scan m (scan_bytes m xs m.start q) ≡ result selected q (rows_of xs)
  unfolding run_from
  scan-rows xs q low = scan-from xs [] q low (count-nil 10)
