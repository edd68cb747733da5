-- The loop of span and row that copies runs to a buffer, and clears the copied part if a byte is refused.
use Rattle.std.specs.Prelude.{Result, Ok, Err}
use Rattle.refusals.specs.declared.Refusal.{Refusal}
use Rattle.refusals.specs.Refusals.{refusal_number}
use mathlib.Core.List.{List, ◌++◌}
use mathlib.Core.Bool.{true, false, ◌&&◌}
use mathlib.Core.Path.{◌≡◌, refl, sym, ap, ◌∙◌}
use Prim.Native.Nat.{ℕ, zero, suc, ◌+◌, ◌-◌, ◌≤◌, ◌<◌, min}
use native.Mathlib.Omega.{arith}
use native.Mathlib.Nat.{add_assoc}
use lib.Dec.{eqb}
use lib.ListN.{length, set, drop, replicate, length-set}
use lib.Seq.{drop-set-lt}
use Rattle.text.specs.Text.{tabulate}
use Rattle.text.specs.ListLaws.{tab-none, tab-more}
use Rattle.format.specs.Answers.{Answer, NeverZero, replied, byte_answer, paths_hold}
use Rattle.layout.specs.declared.header.Header.{Header}
use Rattle.layout.specs.HeaderFields.{HeaderOf}
use Rattle.query_access.specs.ReadAnswers.{byte_reply, span_reply}
use Rattle.query_access.specs.ReadByRuns.{ReadsFrom, places_written, RunCopied}
use Rattle.theory_paths.specs.PlaceBytes.{only-14}
use Rattle.byte_slices.specs.ByteSlices.{bytes_written}
use Rattle.query_access.specs.declared.read_by_header.LeafRun.{LeafRun}
use Rattle.query_access.proofs.LeafRunLaws.{run-written, run-answered}
use Rattle.query_access.proofs.SpanLaws.{ByPaths, values, span-copied, span-broken}

-- The paths of what is left of a span, and of the whole.
module _ (t : List ℕ) (p len : ℕ) where
  rest-start : paths_hold t (p + 0) (len - 0) ≡ paths_hold t p len
  rest-start =
      let e : p + 0 ≡ p = omega arith in
      let f : len - 0 ≡ len = omega arith in
      rw (e, f)

  rest_end : (i : ℕ) → i ≡ len → true ≡ paths_hold t (p + i) (len - i)
  unfolding paths_hold
  rest_end i e =
      let z : len - i ≡ 0 = omega arith in
      rw z

  module _ (i : ℕ) (more : i < len) where
    open-rest : paths_hold t (p + i) (len - i) ≡ (eqb (byte_answer t (p + i)).number 0 && paths_hold t (p + (i + 1)) (len - (i + 1)))
    unfolding paths_hold
    open-rest =
        let s : len - i ≡ suc (len - (i + 1)) = omega arith in
        rw (s, ← add_assoc p i 1)

    rest-good : (byte_answer t (p + i)).number ≡ 0 → paths_hold t (p + (i + 1)) (len - (i + 1)) ≡ paths_hold t (p + i) (len - i)
    rest-good z = rw (open-rest, z)

    rest-broken : (byte_answer t (p + i)).number ≡ 14 → false ≡ paths_hold t (p + i) (len - i)
    rest-broken z = rw (open-rest, z)

-- A byte's answer: the byte of its place, or a refusal by 14.
module _ (t : List ℕ) (h : Header) (k : HeaderOf t h) (p : ℕ) (low : p < h.text_length) (a : Result (ℕ × ℕ) Refusal)
    (a_is : replied (byte_reply a) ≡ byte_answer t p)
  where
    pub byte-good : (v n : ℕ) → a ≡ Ok (v, n) → ((byte_answer t p).number ≡ 0) × (v ≡ (byte_answer t p).value)
    byte-good v n e =
        let z : record { number = 0; value = v; entered = n } ≡ byte_answer t p = ap (λ (x : Result (ℕ × ℕ) Refusal). replied (byte_reply x)) (sym e) ∙ a_is in
        (sym (ap (λ (s : Answer). s.number) z), ap (λ (s : Answer). s.value) z)

    pub byte-refused : (q : Refusal) → a ≡ Err q → (byte_answer t p).number ≡ 14
    byte-refused q e = only-14 t k.passes p (omega (arith, k.length_is)) (refusal_number q)
        (ap (λ (x : Result (ℕ × ℕ) Refusal). replied (byte_reply x)) (sym e) ∙ a_is)

-- Buffer e, where i of the len bytes from p were copied to buffer d.
pub record Copying (t : List ℕ) (p len : ℕ) (d e : List ℕ) (i : ℕ) : Type 0 where
  pub same_length : length e ≡ length d
  pub bytes : e ≡ tabulate i (values t p) ++ drop i d
  pub past : drop len e ≡ drop len d
  pub hold : paths_hold t (p + i) (len - i) ≡ paths_hold t p len

pub copy_start : (t : List ℕ) (p len : ℕ) (d : List ℕ) → Copying t p len d d 0
copy_start t p len d = record { same_length = refl; bytes = tab-none (values t p) d; past = refl; hold = rest-start t p len }

module _ (t : List ℕ) (p len : ℕ) (d : List ℕ) (room : len ≤ length d) where
  -- The byte at i is answered, and stored.
  copy_more : (i : ℕ) (e : List ℕ) → Copying t p len d e i → i < len → (v : ℕ) → (byte_answer t (p + i)).number ≡ 0 → v ≡ (byte_answer t (p + i)).value
      → Copying t p len d (set e i v) (i + 1)
  copy_more i e c more v good v-is = record {
    same_length = simp length-set c.same_length;
    bytes = tab-more i v (values t p) d e (omega arith) v-is c.bytes;
    past = drop-set-lt len e i v more ∙ c.past;
    hold = rest-good t p len i more good ∙ c.hold;
  }

  -- n bytes more
  pub copy_run : (i : ℕ) (e : List ℕ) → Copying t p len d e i → (n : ℕ) → i + n ≤ len → ((x : ℕ) → x < n → (byte_answer t (p + i + x)).number ≡ 0)
      → Copying t p len d (places_written e i t (p + i) n) (i + n)
  copy_run i e c zero fits good = let z : i + 0 ≡ i = omega arith in rw z c
  copy_run i e c (suc n) fits good =
      let w = copy_run i e c n (omega arith) (λ x l. good x (omega arith)) in
      let z : i + suc n ≡ i + n + 1 = omega arith in
      let s : p + (i + n) ≡ p + i + n = omega arith in
      rw z (copy_more (i + n) (places_written e i t (p + i) n) w (omega arith) (byte_answer t (p + i + n)).value (rw s (good n (omega arith))) (rw s))

  -- The first n bytes are known.
  pub copy-known : (n : ℕ) → n ≤ len → ((x : ℕ) → x < n → (byte_answer t (p + x)).number ≡ 0) → (e : List ℕ) → e ≡ places_written d 0 t p n
      → Copying t p len d e n
  copy-known n fits good e is =
      let z : p + 0 ≡ p = omega arith in
      let s : 0 + n ≡ n = omega arith in
      rw is (rw (z, s) at (copy_run 0 d (copy_start t p len d) n (omega arith) (λ x l. rw z (good x l))))

-- What `copy_range` returns.
pub not-refused : (x : Result (ℕ × ℕ) Refusal) (n m : ℕ) (q : Refusal) → x ≡ Ok (n, m) → x ≡ Err q → ⊥
not-refused x n m q e f = cc

-- The bytes of a range that is known, written first.
pub copy-first : (t : List ℕ) (p len : ℕ) (d : List ℕ) → len ≤ length d → (r : LeafRun) → ReadsFrom t p r
    → (known : ℕ) → known ≡ min len r.length → (x : Result (ℕ × ℕ) Refusal) → x ≡ Ok (known, 0) → (n m : ℕ) → x ≡ Ok (n, m)
    → (e : List ℕ) → e ≡ bytes_written d 0 t r.from known → (n ≤ len) × Copying t p len d e n
copy-first t p len d room r k known Known-is x x-is n m taken e e-is =
    let pair : ◌≡◌ {A = ℕ × ℕ} (n, m) (known, 0) = cc in
    let same : n ≡ known = ap (λ (y : ℕ × ℕ). y.0) pair in
    let short : known ≤ len = omega arith in
    let within : known ≤ r.length = omega arith in
    rw same (short, copy-known t p len d room known short (λ y l. run-answered t p r k y (omega arith)) e (e-is ∙ run-written t p r k d 0 known within))

-- What `copy_run` returns.
module _ (t : List ℕ) (h : Header) (p len : ℕ)
    (k : HeaderOf t h) (low : p + len ≤ h.text_length) (d : List ℕ) (room : len ≤ length d) (i : ℕ) (e : List ℕ) (c : Copying t p len d e i) where
  module _ (f : List ℕ) (r : Result (ℕ × ℕ) Refusal) (r-is : RunCopied t (p + i) (len - i) i e f r) where
    -- Bytes.
    pub copy-on : (n m : ℕ) → r ≡ Ok (n, m) → (1 ≤ n) × (i + n ≤ len) × Copying t p len d f (i + n)
    copy-on n m is =
        let z : RunCopied t (p + i) (len - i) i e f (Ok (n, m)) = rw is at r-is in
        (z.0, omega (arith, z.0, z.1), rw z.3 (copy_run t p len d room i e c n (omega (arith, z.0, z.1)) z.2))

    -- A refusal: the first len bytes are cleared.
    pub copy-broken : i < len → (q : Refusal) → r ≡ Err q → (z : List ℕ) → z ≡ replicate len 0 ++ drop len f
        → NeverZero (span_reply r) × ByPaths t p len d (replied (span_reply r)) z
    copy-broken more q is z z-is =
        let y : RunCopied t (p + i) (len - i) i e f (Err q) = rw is at r-is in
        let past : drop len f ≡ drop len d = ap (drop len) y.2 ∙ c.past in
        let number : refusal_number q ≡ 14 = ap refusal_number y.0 in
        rw is (
          omega arith,
          span-broken t p len d (paths_hold t p len) (tabulate len (values t p))
              0 k.passes (omega (arith, k.length_is)) room z (refusal_number q) number (rest-broken t p len i more y.1 ∙ c.hold) (rw past at z-is),
        )

  -- All are copied.
  pub copy-end : i ≡ len → ByPaths t p len d (record { number = 0; value = len; entered = 0 }) e
  copy-end all = span-copied t p len d (paths_hold t p len)
      (tabulate len (values t p)) 0 k.passes (omega (arith, k.length_is)) room e (rest_end t p len i all ∙ c.hold) (rw all at c.bytes)
