-- The demands on byte and run, as theorems over what the calls promise, on every tree that passes questions 5 to 8, and on span, on every tree that
-- the check accepts.
-- docs/FORMAT.md: "What is proved", "Byte", "Run", "Span".
use Rattle.std.specs.Prelude.{Result, Ok, Err}
use Rattle.refusals.specs.declared.Refusal.{Refusal}
use Rattle.refusals.specs.Refusals.{refusal_number}
use Rattle.refusals.specs.RefusalsLaws.{number-above, one-number}
use mathlib.Core.List.{List, ◌++◌}
use mathlib.Core.Option.{some}
use mathlib.Core.Bool.{true}
use mathlib.Core.Path.{◌≡◌, ap, ◌∙◌}
use Prim.Native.Nat.{ℕ, ◌+◌, ◌-◌, ◌*◌, ◌≤◌, ◌<◌}
use native.Mathlib.Omega.{arith}
use contract.Lifetimes.{Lfts}
use denote.Ref.{Bor, MutBor}
use lib.ListN.{length, get_or, take, drop}
use Rattle.text.specs.Text.{substring}
use Rattle.text.specs.declared.TextPlace.{TextPlace}
use Rattle.format.specs.Layout as at
use Rattle.format.specs.TreeReading.{Path, path_of, links_ok, text_of, header_result, check_result}
use Rattle.format.specs.FittingText.{fits}
use Rattle.format.specs.CheckResultLaws.{accepted-header}
use Rattle.theory_edges.specs.Theorems as edges
use Rattle.format.specs.Answers.{Answer, refused, replied, run_answer, span_blocks, span_answer}
use Rattle.theory_paths.specs.Theorems as paths
use Rattle.query_access.specs.ReadAnswers.{byte_reply, span_reply}
use Rattle.theory_paths.specs.Visits.{path-long}
use Rattle.query_access.proofs.byte.Reads as byte-Reads
use Rattle.query_access.proofs.run.Reads as run-reads
use Rattle.query_access.proofs.span.Reads as span-reads

-- r is an answer that the contract of `byte` allows to a call with these arguments
abbrev pub Asked : (κs : Lfts 1) → Bor (List ℕ) → TextPlace → Result (ℕ × ℕ) Refusal → Type 0
Asked κs t p r = byte-Reads.Post κs (t, (p, tt)) r (t, (p, tt))

-- The contract of `run`.
abbrev pub Run : (κs : Lfts 1) → Bor (List ℕ) → TextPlace → Bor (List ℕ) → Type 0
Run κs t p r = run-reads.Post κs (t, (p, tt)) r (t, (p, tt))

-- The contract of `span`; `after` is the buffer after the call.
abbrev pub Span : (κs : Lfts 2) → Bor (List ℕ) → TextPlace → ℕ → MutBor (List ℕ) → MutBor (List ℕ) → Result (ℕ × ℕ) Refusal → Type 0
Span κs t p len buffer after r = span-reads.Post κs (t, (p, (len, (buffer, tt)))) r (t, (p, (len, (after, tt))))

-- The answer in each case.
access-byte-is : (r : Result (ℕ × ℕ) Refusal) (v n : ℕ) → 1 ≤ n → replied (byte_reply r) ≡ record { number = 0; value = v; entered = n } → r ≡ Ok (v, n)
access-byte-is (Ok x) v n low e =
    let z : x.0 ≡ v = ap (λ (s : Answer). s.value) e in
    let y : x.1 ≡ n = ap (λ (s : Answer). s.entered) e in
    ap Ok (λ i. (z i, y i))
access-byte-is (Err q) v n low e = absurd (let z : 0 ≡ n = ap (λ (s : Answer). s.entered) e in omega arith)

pub copied_is : (r : Result (ℕ × ℕ) Refusal) (len n : ℕ) → replied (span_reply r) ≡ record { number = 0; value = len; entered = n } → r ≡ Ok (len, n)
copied_is (Ok x) len n e =
    let z : x.0 ≡ len = ap (λ (s : Answer). s.value) e in
    let y : x.1 ≡ n = ap (λ (s : Answer). s.entered) e in
    ap Ok (λ i. (z i, y i))
copied_is (Err q) len n e = absurd (let low = number-above q in let z : refusal_number q ≡ 0 = ap (λ (s : Answer). s.number) e in omega arith)

pub copied-no : (r : Result (ℕ × ℕ) Refusal) (q : Refusal) → replied (span_reply r) ≡ refused (refusal_number q) → r ≡ Err q
copied-no (Ok x) q s = absurd (let low = number-above q in let z : 0 ≡ refusal_number q = ap (λ (x : Answer). x.number) s in omega arith)
copied-no (Err m) q s = ap Err (one-number m q (ap (λ (x : Answer). x.number) s))

-- For any bytes.

-- On any tree, a byte that is not refused is the leaf byte at the end of the place's path, and the number of blocks entered is the length of that path.
pub figure-is-length :
    (κs : Lfts 1) (t : Bor (List ℕ)) (p : TextPlace) (r : Result (ℕ × ℕ) Refusal) → Asked κs t p r → header_result t.now ≡ 0 → p.0 < at.text_length t.now
    → (q : Path) → path_of t.now p.0 ≡ some q → r ≡ Ok (at.leaf_byte t.now q.leaf, length q.visits)
figure-is-length κs t p r a pass low q e =
    access-byte-is r _ _ (path-long t.now p.0 q e) (a ∙ paths.byte-by-path t.now pass p.0 q e low)

-- Any tree that passes questions 5 to 8.
module _ (t : Bor (List ℕ)) (pass : header_result t.now ≡ 0) (links : links_ok t.now ≡ true) where
  -- What byte answers at a place: the byte of the text, with the length of the place's path, at most 2H - 1.
  pub record Answered (p : ℕ) (r : Result (ℕ × ℕ) Refusal) : Type 0 where
    pub path : Path
    pub path_is : path_of t.now p ≡ some path
    pub answer_is : r ≡ Ok (get_or (text_of t.now) p 0, length path.visits)
    pub short : length path.visits ≤ 2 * (at.settings t.now).levels - 1

  -- No place below n is refused: byte gives the text's byte there, and the length of its path.
  pub byte-answers : (κs : Lfts 1) (p : TextPlace) (r : Result (ℕ × ℕ) Refusal) → p.0 < at.text_length t.now → Asked κs t p r → Answered p.0 r
  byte-answers κs p r low a =
      let w = paths.byte-of-text t.now pass links p.0 low in record {
        path = w.0;
        path_is = w.1;
        answer_is = access-byte-is r _ _ (path-long t.now p.0 w.0 w.1) (a ∙ w.2);
        short = paths.path-short t.now pass p.0 w.0 w.1;
      }

  -- The text that the paths give is the one text that fits the tree.
  pub one-text : (T : List ℕ) → fits T t.now ≡ true → T ≡ text_of t.now
  one-text = paths.only-text t.now pass links

  pub text-fits : fits (text_of t.now) t.now ≡ true
  text-fits = paths.text-fits t.now pass links

  -- A run is a slice of the tree, of one byte or more, and equals the text from the place on.
  pub record RunIsSlice (p : ℕ) (r : Bor (List ℕ)) : Type 0 where
    pub from : ℕ
    pub size : ℕ
    pub some_byte : 1 ≤ size
    pub in_text : p + size ≤ at.text_length t.now
    pub in_tree : from + size ≤ length t.now
    pub place : r.ref_ptr ≡ (t.ref_ptr.0, t.ref_ptr.1 + from)
    pub of_tree : r.now ≡ take size (drop from t.now)
    pub of_text : r.now ≡ substring (text_of t.now) p size

  pub run-slices : (κs : Lfts 1) (p : TextPlace) (r : Bor (List ℕ)) → p.0 < at.text_length t.now → Run κs t p r → RunIsSlice p.0 r
  run-slices κs p r low a =
      let k = paths.run-of-text t.now pass links p.0 low in record {
        from = (run_answer t.now p.0).0;
        size = (run_answer t.now p.0).1;
        some_byte = k.some_byte;
        in_text = k.in_text;
        in_tree = k.in_tree;
        place = a.1;
        of_tree = a.0;
        of_text = a.0 ∙ k.bytes;
      }

-- For any tree that the check accepts: a span inside the text and the buffer is not refused. The buffer then has these bytes, and its old bytes after them. The
-- number of blocks entered is at most twice the number of levels; 0 if the span is not short.
pub span-copies :
    (t : Bor (List ℕ)) → check_result t.now ≡ 0 → (κs : Lfts 2) (p : TextPlace) (len : ℕ) (buffer after : MutBor (List ℕ)) (r : Result (ℕ × ℕ) Refusal)
    → p.0 + len ≤ at.text_length t.now → len ≤ length buffer.now → Span κs t p len buffer after r
    → (r ≡ Ok (len, span_blocks t.now p.0 len)) × (span_blocks t.now p.0 len ≤ 2 * (at.settings t.now).levels)
    × (after.now ≡ substring (text_of t.now) p.0 len ++ drop len buffer.now)
unfolding span_answer
span-copies t v κs p len buffer after r low room a =
    let z = edges.span-good t.now v p.0 len (length buffer.now) low room in
    let s : replied (span_reply r) ≡ record { number = 0; value = len; entered = span_blocks t.now p.0 len } = a.0.answers ∙ rw z in (
      copied_is r len (span_blocks t.now p.0 len) s,
      edges.span-entered t.now (accepted-header t.now v) p.0 len,
      a.1 ∙ edges.span-of-text t.now v p.0 len buffer.now low room,
    )
