-- Reading by runs: a part of the tree's own bytes that are bytes of its text, with all their paths holding, on any tree that passes
-- questions 5 to 7.
use Rattle.std.specs.Prelude.{Result, Ok, Err}
use Rattle.refusals.specs.declared.Refusal.{Refusal}
use Rattle.refusals.specs.declared.Refusal.TheVariants.{PathBroken}
use Rattle.refusals.specs.RefusalsLaws.{one-number}
use mathlib.Core.List.{List}
use mathlib.Core.Option.{some}
use mathlib.Core.Path.{◌≡◌, sym, ap, ◌∙◌}
use Prim.Native.Nat.{ℕ, ◌+◌, ◌-◌, ◌≤◌, ◌<◌, min}
use native.Mathlib.Omega.{arith}
use native.Mathlib.Nat.{add_assoc}
use lib.ListN.{length, get_or}
use Rattle.text.specs.Text.{substring}
use Rattle.text.specs.TextLaws.{substring-ext, substring-at}
use Rattle.format.specs.Layout as at
use Rattle.format.specs.TreeReading.{Path, path_of, text_of, header_result}
use Rattle.format.specs.LayoutLaws.{Readable, header-facts}
use Rattle.format.specs.Answers.{Answer, byte_answer, left_over, run_answer}
use Rattle.theory_paths.specs.OneText.{text-length}
use Rattle.theory_paths.specs.Shift.{length-further, left-most, left-in-blocks, path-further}
use Rattle.theory_paths.specs.Reads as reads
use Rattle.theory_paths.specs.PlaceBytes.{path-there, byte-broken}
use Rattle.layout.specs.declared.header.Header.{Header}
use Rattle.layout.specs.HeaderFields.{HeaderOf}
use Rattle.query_access.specs.declared.read_by_header.TreeRange.{TreeRange}
use Rattle.query_access.specs.ReadAnswers.{IsRunAnswer}
use Rattle.query_access.specs.ReadByRuns.{ReadsOn}

-- Nothing read.
pub reads_none : (t : List ℕ) (p from : ℕ) → p ≤ at.text_length t → from ≤ length t → ReadsOn t p from 0
reads_none t p from h k = record {
  in_text = omega arith;
  in_tree = omega arith;
  holds = λ x l. absurd (let z : ⊥ = omega arith in z);
  bytes = λ x l. absurd (let z : ⊥ = omega arith in z);
}

-- The bytes in one substring.
pub reads-substring : (t : List ℕ) (p from size : ℕ) → ReadsOn t p from size → substring t from size ≡ substring (text_of t) p size
reads-substring t p from size a =
    substring-ext t (text_of t) from p size a.in_tree (omega (arith, a.in_text, text-length t)) a.bytes

-- What is left of it after some bytes.
pub reads-rest : (t : List ℕ) (p from size k : ℕ) → ReadsOn t p from size → k ≤ size → ReadsOn t (p + k) (from + k) (size - k)
reads-rest t p from size k a h = record {
  in_text = omega (arith, a.in_text);
  in_tree = omega (arith, a.in_tree);
  holds = λ x l. rw (add_assoc p k x) (a.holds (k + x) (omega arith));
  bytes = λ x l. rw (add_assoc p k x, add_assoc from k x) (a.bytes (k + x) (omega arith));
}

module _ (t : List ℕ) (r : header_result t ≡ 0) (p : ℕ) (low : p < at.text_length t) where
  -- The paths of a run's places hold.
  module _ (q : Path) (e : path_of t p ≡ some q) where
    k : Readable t
    k = header-facts t r

    pub run-from : (run_answer t p).0 ≡ at.leaf_offset t + q.leaf
    unfolding run_answer
    run-from = rw (reads.byte-of-path t k r p low q e, e)

    pub run-size : (run_answer t p).1 ≡ left_over t q.visits (min (at.text_length t - p) (at.leaf_count t - q.leaf))
    unfolding run_answer
    run-size = rw (reads.byte-of-path t k r p low q e, e)

    -- byte's answers on a run: the leaf bytes from the path's end on, each with as many blocks entered
    run-answer : (d : ℕ) → d < (run_answer t p).1
        → byte_answer t (p + d) ≡ record { number = 0; value = at.leaf_byte t (q.leaf + d); entered = length q.visits }
    run-answer d h =
        let most = min (at.text_length t - p) (at.leaf_count t - q.leaf) in
        let short : d < left_over t q.visits most = rw run-size at h in
        let less : d < most = omega (arith, left-most t q.visits most) in
        let on = path-further t p d q e (left-in-blocks t q.visits most d short) (omega arith) in
        reads.byte-of-path t k r (p + d) (omega arith) _ on
        ∙ ap (λ (n : ℕ). record { number = 0; value = at.leaf_byte t (q.leaf + d); entered = n }) (length-further d q.visits)

    run_holds : (d : ℕ) → d < (run_answer t p).1 → (byte_answer t (p + d)).number ≡ 0
    run_holds d h = ap (λ (s : Answer). s.number) (run-answer d h)

    -- The same, where other figures give the bytes of the run and the blocks entered.
    pub run-answers : (from entered : ℕ) → from ≡ at.leaf_offset t + q.leaf → entered ≡ length q.visits → (d : ℕ) → d < (run_answer t p).1
        → byte_answer t (p + d) ≡ record { number = 0; value = get_or t (from + d) 0; entered = entered }
    unfolding at.leaf_byte
    run-answers from entered from_is entered_is d h = run-answer d h ∙ rw (from_is, entered_is, add_assoc (at.leaf_offset t) q.leaf d)

  -- A run reads on.
  pub run-reads : (byte_answer t p).number ≡ 0 → ReadsOn t p (run_answer t p).0 (run_answer t p).1
  unfolding substring
  run-reads z =
      let w = path-there t r p low z in
      let part = reads.run-part t (header-facts t r) r p low w.0 w.1 in record {
        in_text = part.in_text;
        in_tree = part.in_tree;
        holds = run_holds w.0 w.1;
        bytes = substring-at t (text_of t) (run_answer t p).0 p (run_answer t p).1 part.bytes;
      }

  pub run-some : (byte_answer t p).number ≡ 0 → 1 ≤ (run_answer t p).1
  run-some z =
      let w = path-there t r p low z in
      (reads.run-part t (header-facts t r) r p low w.0 w.1).some_byte

-- The answer of `run_range_at`.
module _ (t : List ℕ) (h : Header) (k : HeaderOf t h) (p : ℕ) (low : p < h.text_length) (r : Result TreeRange Refusal) (a : IsRunAnswer t p r) where
  low-text : p < at.text_length t
  low-text = omega (arith, k.length_is)

  pub part-reads : (part : TreeRange) → r ≡ Ok part → ReadsOn t p part.from part.length × (1 ≤ part.length)
  part-reads part e =
      let z : IsRunAnswer t p (Ok part) = rw e at a in
      let number = sym z.number_is in
      (rw (z.from_is, z.length_is) (run-reads t k.passes p low-text number), rw z.length_is (run-some t k.passes p low-text number))

  pub part-broken : (q : Refusal) → r ≡ Err q → (q ≡ PathBroken) × ((byte_answer t p).number ≡ 14)
  part-broken q e =
      let z : IsRunAnswer t p (Err q) = rw e at a in
      let y = byte-broken t k.passes p low-text (λ x. omega (arith, z.number_is, z.numbered)) in
      (one-number q PathBroken (z.number_is ∙ y), y)
