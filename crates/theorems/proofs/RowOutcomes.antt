-- The outcomes of row, with or without a guide, for any bytes given as a tree and as a guide, and the buffer afterwards.
use Rattle.refusals.specs.declared.Refusal.{Refusal}
use Rattle.refusals.specs.declared.Refusal.TheVariants.{PathBroken}
use Rattle.refusals.specs.Refusals.{refusal_number}
use Rattle.refusals.specs.RefusalsLaws.{number-above, one-number}
use mathlib.Core.List.{List, [], ◌∷◌, ◌++◌}
use mathlib.Core.Option.{Option, some, none}
use mathlib.Core.Bool.{Bool, true, false, not}
use mathlib.Core.Path.{◌≡◌, sym, ap, ◌∙◌, refl}
use mathlib.Core.Logic.{◌⊎◌, inl, inr}
use Prim.Native.Nat.{ℕ, ◌+◌, ◌-◌, ◌≤◌, ◌<◌}
use native.Mathlib.Omega.{arith}
use lib.ListN.{length, drop, replicate}
use lib.Dec.{eqb}
use lib.Seq.{drop_at}
use borrow.Author.Tests.{lt-ltb}
use Rattle.text.specs.Text.{tabulate, substring, row_of}
use Rattle.text.specs.TextLaws.{length-substring}
use Rattle.text.specs.ListLaws.{bool_cases, lt-or-ge}
use Rattle.format.specs.Layout as at
use Rattle.format.specs.TreeReading.{Path, path_of, text_of, ask, header_result}
use Rattle.format.specs.Answers.{Answer, unless, byte_answer, byte_of, paths_hold, copy_refusal, copy_answer, copy_buffer}
use Rattle.format.specs.Answers.{row_most, row_refusal, last_row_refusal, is_unterminated_row, RowSubstring, RowBy}
use Rattle.format.specs.RowRefusalLaws.{asks-last, row-number-last, row-number-plain, row-header}
use Rattle.theory_paths.specs.OneText.{text-length}
use Rattle.theory_paths.specs.PlaceBytes.{held_bytes}
use Rattle.query_access.proofs.SpanLaws.{values, no_room, number-in-room}
use Rattle.query_rows.proofs.RowAnswerLaws.{leaves_is}
use Rattle.theorems.proofs.FindOutcomes.{select-first}
use Rattle.theorems.proofs.RefusalNumbers.{OneOf, not-zero, of-more, of_right}

-- The numbers that its questions can give before it walks: find's, or where it reads the last byte 12 and 14.
module _ (t : List ℕ) where
  last_one : (q : ℕ) → is_unterminated_row t q ≡ true → OneOf (12 ∷ 14 ∷ 0 ∷ []) (last_row_refusal (byte_answer t (at.text_length t - 1)))
  unfolding byte_answer
  last_one q h =
      let a = asks-last t q h in
      rw (a.pass, lt-ltb (at.text_length t - 1) (at.text_length t) (omega (arith, a.some_byte))) (go (path_of t (at.text_length t - 1)))
    where
      go : (o : Option Path) → OneOf (12 ∷ 14 ∷ 0 ∷ []) (last_row_refusal (byte_of t o))
      go none = inr (inl refl)
      go (some w) = both (not (eqb 10 (at.leaf_byte t w.leaf)))
        where
          both : (y : Bool) → OneOf (12 ∷ 14 ∷ 0 ∷ []) (ask 12 y 0)
          both true = inr (inr (inl refl))
          both false = inl refl

  pub row_before : (q n : ℕ) → 1 ≤ n → n ≡ row_refusal t q → OneOf (5 ∷ 6 ∷ 7 ∷ 11 ∷ 12 ∷ 14 ∷ []) n
  row_before q n low e = go (bool_cases (is_unterminated_row t q))
    where
      go : (is_unterminated_row t q ≡ true) ⊎ (is_unterminated_row t q ≡ false) → OneOf (5 ∷ 6 ∷ 7 ∷ 11 ∷ 12 ∷ 14 ∷ []) n
      go (inl h) = of_right (5 ∷ 6 ∷ 7 ∷ 11 ∷ []) (12 ∷ 14 ∷ []) n (not-zero (12 ∷ 14 ∷ []) n low (rw (e ∙ row-number-last t q h) (last_one q h)))
      go (inr h) = select-first t 10 q n (14 ∷ []) low (e ∙ row-number-plain t q h)

  row_first : (q n : ℕ) → 1 ≤ n → n ≡ row_refusal t q → OneOf (5 ∷ 6 ∷ 7 ∷ 11 ∷ 12 ∷ 13 ∷ 14 ∷ []) n
  row_first q n low e = of-more (5 ∷ 6 ∷ 7 ∷ 11 ∷ 12 ∷ []) (14 ∷ []) 13 n (row_before q n low e)

-- How a substring of the text is copied along its paths: not for want of room, as the bytes that its paths give, or as zeros if a path breaks.
module _ (t : List ℕ) (p len : ℕ) (buffer : List ℕ) where
  data CopyOutcome (n size : ℕ) (after : List ℕ) : Type 0 where
    no_space : n ≡ 13 → length buffer < len → after ≡ buffer → CopyOutcome n size after
    bytes : n ≡ 0 → size ≡ len → len ≤ length buffer → after ≡ substring (text_of t) p len ++ drop len buffer → CopyOutcome n size after
    zeros : n ≡ 14 → len ≤ length buffer → after ≡ replicate len 0 ++ drop len buffer → CopyOutcome n size after

  copy-answer : (k : ℕ) → copy_refusal t p len (length buffer) ≡ k
      → copy_answer t p len (length buffer) ≡ unless k (record { number = 0; value = len; entered = 0 })
  unfolding copy_answer
  copy-answer k e = rw e

  module _ (passes : header_result t ≡ 0) (within : p + len ≤ at.text_length t) (n size : ℕ) (after : List ℕ)
      (n-is : n ≡ (copy_answer t p len (length buffer)).number)
      (size_is : size ≡ (copy_answer t p len (length buffer)).value) (after_is : after ≡ copy_buffer t p len buffer) where
    copy-outcome : CopyOutcome n size after
    unfolding copy_refusal
    copy-outcome = go (lt-or-ge (length buffer) len) (bool_cases (paths_hold t p len))
      where
        number : (k : ℕ) (s : Answer) → copy_answer t p len (length buffer) ≡ s → s.number ≡ k → n ≡ k
        number k s e f = n-is ∙ ap (λ (y : Answer). y.number) e ∙ f

        go : (length buffer < len) ⊎ (len ≤ length buffer) → (paths_hold t p len ≡ true) ⊎ (paths_hold t p len ≡ false) → CopyOutcome n size after
        go (inl small) w =
            let e = no_room t p len buffer (paths_hold t p len) (tabulate len (values t p)) 0 passes within small in
            no_space (number 13 _ (copy-answer 13 e) refl) small (after_is ∙ leaves_is t p len buffer 13 e)
        go (inr room) (inl hold) =
            let e : copy_refusal t p len (length buffer) ≡ 0 =
            number-in-room t p len buffer (paths_hold t p len) (tabulate len (values t p)) 0 passes within room ∙ rw hold in
            bytes (number 0 _ (copy-answer 0 e) refl) (size_is ∙ ap (λ (y : Answer). y.value) (copy-answer 0 e)) room
            (after_is ∙ leaves_is t p len buffer 0 e ∙ ap (λ (l : List ℕ). l ++ drop len buffer) (held_bytes t passes p len within hold))
        go (inr room) (inr breaks) =
            let e : copy_refusal t p len (length buffer) ≡ 14 =
            number-in-room t p len buffer (paths_hold t p len) (tabulate len (values t p)) 0 passes within room ∙ rw breaks in
            zeros (number 14 _ (copy-answer 14 e) refl) room (after_is ∙ leaves_is t p len buffer 14 e)

-- 13 is none of the numbers before the walk
not-13 : OneOf (5 ∷ 6 ∷ 7 ∷ 11 ∷ 12 ∷ 14 ∷ []) 13 → ⊥
not-13 (inl e) = omega arith
not-13 (inr (inl e)) = omega arith
not-13 (inr (inr (inl e))) = omega arith
not-13 (inr (inr (inr (inl e)))) = omega arith
not-13 (inr (inr (inr (inr (inl e))))) = omega arith
not-13 (inr (inr (inr (inr (inr (inl e)))))) = omega arith
not-13 (inr (inr (inr (inr (inr (inr e)))))) = elim e [ ]

-- At most this many zeros at the start of the buffer; the rest is unchanged.
abbrev pub Zeros : (most : ℕ) (buffer after : List ℕ) → Type 0
Zeros most buffer after = (k : ℕ) × (k ≤ length buffer) × (k ≤ most) × (after ≡ replicate k 0 ++ drop k buffer)

module _ (t : List ℕ) (q : ℕ) (buffer : List ℕ) where
  -- Refused before the walk, for want of room, or in the walk or the copy, or copied.
  pub data RowOutcome (n size : ℕ) (after : List ℕ) : Type 0 where
    asked : 1 ≤ n → n ≡ row_refusal t q → after ≡ buffer → RowOutcome n size after
    short : n ≡ 13 → after ≡ buffer → RowOutcome n size after
    broken : n ≡ 14 → (after ≡ buffer) ⊎ Zeros (row_most t q) buffer after → RowOutcome n size after
    copied : n ≡ 0 → size ≤ length buffer → drop size after ≡ drop size buffer → RowOutcome n size after

  module _ (ok n size : ℕ) (after : List ℕ) (a : RowBy t ok q buffer n size after) where
    substring-copied : row_refusal t q ≡ 0 → (s : RowSubstring t q buffer n size after) → CopyOutcome t s.start s.len buffer n size after
    substring-copied z s = copy-outcome t s.start s.len buffer (row-header t q z) s.within n size after s.number_is s.size_is s.after_is

    -- If `ok` is not 0, every outcome other than 14 and a refusal before the walk is the copy of some part of the text.
    free-substring : (ok ≡ 0 → ⊥) → (n ≡ row_refusal t q → 0 < row_refusal t q → ⊥) → (n ≡ 14 → ⊥)
        → (s : RowSubstring t q buffer n size after) × CopyOutcome t s.start s.len buffer n size after
    free-substring refuses not-asked not-14 = go (lt-or-ge 0 (row_refusal t q))
      where
        either : row_refusal t q ≡ 0 → ((n ≡ 14) × (size ≡ 0) × (after ≡ buffer)) ⊎ RowSubstring t q buffer n size after
            → (s : RowSubstring t q buffer n size after) × CopyOutcome t s.start s.len buffer n size after
        either e (inl h) = absurd (not-14 h.0)
        either e (inr s) = (s, substring-copied e s)

        go : (0 < row_refusal t q) ⊎ (row_refusal t q ≤ 0) → (s : RowSubstring t q buffer n size after) × CopyOutcome t s.start s.len buffer n size after
        go (inl low) = absurd (not-asked (a.asked low).0 low)
        go (inr passed) = either (omega arith) (a.free (omega arith) refuses)

    -- The bytes copied are those that the paths give from some place on.
    pub free-copied : (ok ≡ 0 → ⊥) → n ≡ 0 → (p : ℕ) × (p + size ≤ at.text_length t) × (after ≡ substring (text_of t) p size ++ drop size buffer)
    free-copied refuses z = let f = free-substring refuses (λ e low. omega arith) (λ e. omega arith) in from f.0 f.1
      where
        from : (s : RowSubstring t q buffer n size after) → CopyOutcome t s.start s.len buffer n size after
            → (p : ℕ) × (p + size ≤ at.text_length t) × (after ≡ substring (text_of t) p size ++ drop size buffer)
        from s (bytes e size_is room same) = (s.start, omega (arith, s.within), rw size_is same)
        from s (no_space e small same) = absurd (let y : ⊥ = omega arith in y)
        from s (zeros e room same) = absurd (let y : ⊥ = omega arith in y)

    -- 13 means that the buffer is shorter than some such bytes
    pub free-short : (ok ≡ 0 → ⊥) → n ≡ 13 → (p : ℕ) × (len : ℕ) × (p + len ≤ at.text_length t) × (length buffer < len)
    free-short refuses z =
        let f = free-substring refuses (λ e low. not-13 (rw z at (row_before t q n (omega arith) e))) (λ e. omega arith) in
        from f.0 f.1
      where
        from : (s : RowSubstring t q buffer n size after) → CopyOutcome t s.start s.len buffer n size after
            → (p : ℕ) × (len : ℕ) × (p + len ≤ at.text_length t) × (length buffer < len)
        from s (no_space e small same) = (s.start, s.len, s.within, small)
        from s (bytes e size_is room same) = absurd (let y : ⊥ = omega arith in y)
        from s (zeros e room same) = absurd (let y : ⊥ = omega arith in y)

    row_copied : row_refusal t q ≡ 0 → ok ≡ 0 → length (row_of (text_of t) q) ≤ length buffer → RowOutcome n size after
    row_copied z v room =
        let h = a.accepted z v room in
        copied h.0 (omega (arith, h.1)) (rw h.2 (drop_at (row_of (text_of t) q) (drop size buffer) size (sym h.1)))

    pub row-outcome : RowOutcome n size after
    row-outcome = go (lt-or-ge 0 (row_refusal t q)) (lt-or-ge 0 ok) (lt-or-ge (length buffer) (length (row_of (text_of t) q)))
      where
        from-copy : (s : RowSubstring t q buffer n size after) → CopyOutcome t s.start s.len buffer n size after → RowOutcome n size after
        from-copy s (no_space z small same) = short z same
        from-copy s (bytes z size_is room same) =
            copied z (omega arith)
            (rw (size_is, same) (drop_at (substring (text_of t) s.start s.len) (drop s.len buffer) s.len
            (length-substring (text_of t) s.start s.len (omega (arith, s.within, text-length t)))))
        from-copy s (zeros z room same) = broken z (inr (s.len, room, s.short, same))

        free-outcome : row_refusal t q ≡ 0 → ((n ≡ 14) × (size ≡ 0) × (after ≡ buffer)) ⊎ RowSubstring t q buffer n size after → RowOutcome n size after
        free-outcome z (inl h) = broken h.0 (inl h.2)
        free-outcome z (inr s) = from-copy s (substring-copied z s)

        go : (0 < row_refusal t q) ⊎ (row_refusal t q ≤ 0) → (0 < ok) ⊎ (ok ≤ 0)
            → (length buffer < length (row_of (text_of t) q)) ⊎ (length (row_of (text_of t) q) ≤ length buffer) → RowOutcome n size after
        go (inl low) w r = let h = a.asked low in asked (omega (arith, h.0)) h.0 h.2
        go (inr z) (inl w) r = free-outcome (omega arith) (a.free (omega arith) (λ v. omega arith))
        go (inr z) (inr w) (inl r) = let h = a.short (omega arith) (omega arith) r in short h.0 h.2
        go (inr z) (inr w) (inr r) = row_copied (omega arith) (omega arith) r

  -- A row fits, and the bytes after it are unchanged.
  pub outcome-copied : (m : ℕ) (after : List ℕ) → RowOutcome 0 m after → (m ≤ length buffer) × (drop m after ≡ drop m buffer)
  outcome-copied m after (copied z fits rest) = (fits, rest)
  outcome-copied m after (short z same) = absurd (let y : ⊥ = omega arith in y)
  outcome-copied m after (broken z same) = absurd (let y : ⊥ = omega arith in y)
  outcome-copied m after (asked low z same) = absurd (let y : ⊥ = omega arith in y)

  module _ (d : Refusal) (after : List ℕ) where
    -- A refusal is 5, 6, 7, 11, 12, 13 or 14.
    pub row-outcome-numbers : RowOutcome (refusal_number d) 0 after → OneOf (5 ∷ 6 ∷ 7 ∷ 11 ∷ 12 ∷ 13 ∷ 14 ∷ []) (refusal_number d)
    row-outcome-numbers (asked low z same) = row_first t q (refusal_number d) low z
    row-outcome-numbers (short z same) = of_right (5 ∷ 6 ∷ 7 ∷ 11 ∷ 12 ∷ []) (13 ∷ 14 ∷ []) (refusal_number d) (inl z)
    row-outcome-numbers (broken z left) = of_right (5 ∷ 6 ∷ 7 ∷ 11 ∷ 12 ∷ []) (13 ∷ 14 ∷ []) (refusal_number d) (inr (inl z))
    row-outcome-numbers (copied z fits rest) = absurd (let y : ⊥ = omega (arith, number-above d) in y)

    -- A refusal leaves the buffer unchanged; or, for a 14 in copying, zeros at its start and the rest unchanged.
    pub row-outcome-leaves : RowOutcome (refusal_number d) 0 after → (after ≡ buffer) ⊎ ((d ≡ PathBroken) × Zeros (row_most t q) buffer after)
    row-outcome-leaves (asked low z same) = inl same
    row-outcome-leaves (short z same) = inl same
    row-outcome-leaves (broken z (inl same)) = inl same
    row-outcome-leaves (broken z (inr part)) = inr (one-number d PathBroken z, part)
    row-outcome-leaves (copied z fits rest) = absurd (let y : ⊥ = omega (arith, number-above d) in y)
