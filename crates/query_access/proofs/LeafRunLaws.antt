-- The run of a place, from the end of its walk, and its bytes copied.
use Rattle.std.specs.Prelude.{Result, Ok, Err}
use Rattle.refusals.specs.declared.Refusal.{Refusal}
use Rattle.refusals.specs.declared.Refusal.TheVariants.{PathBroken}
use Rattle.refusals.specs.Refusals.{refusal_number}
use mathlib.Core.List.{List}
use mathlib.Core.Path.{◌≡◌, refl, sym, ap, ◌∙◌}
use Prim.Native.Nat.{ℕ, zero, suc, ◌+◌, ◌-◌, ◌≤◌, ◌<◌, min}
use native.Mathlib.Omega.{arith}
use native.Mathlib.Nat.{le_trans}
use lib.ListN.{length, get_or, set}
use Rattle.format.specs.Layout.{max_text}
use Rattle.format.specs.Layout as at
use Rattle.format.specs.Answers.{Answer, refused, replied, byte_answer, run_answer}
use Rattle.format.specs.TreeReading.{header_result}
use Rattle.theory_paths.specs.Shift.{left-most}
use Rattle.theory_paths.specs.Reads.{byte-of-path}
use Rattle.theory_paths.specs.PlaceBytes.{byte-text}
use Rattle.layout.specs.declared.header.Header.{Header}
use Rattle.layout.specs.HeaderFields.{HeaderOf}
use Rattle.walk_steps.specs.Steps.{OnLevel}
use Rattle.walk_steps.proofs.NextLaws.{on-top}
use Rattle.walk_path.specs.declared.TopLevel.{TopLevel}
use Rattle.byte_slices.specs.ByteSlices.{bytes_written}
use Rattle.byte_slices.proofs.ByteSliceLaws.{bytes-more}
use Rattle.query_access.specs.declared.read_by_header.LeafRun.{LeafRun}
use Rattle.query_access.specs.declared.read_by_header.TreeRange.{TreeRange}
use Rattle.walk_ranges.specs.declared.leaf_end.LeafEnd.{LeafEnd}
use Rattle.std.specs.Prelude.{Option, Some, None}
use Rattle.std.specs.Option.{ok_or}
use Rattle.query_access.specs.ReadAnswers.{byte_reply, IsRunAnswer}
use Rattle.walk_ranges.specs.LeafEnds.{LeafEndAt, Joined}
use Rattle.query_access.specs.ReadByRuns.{IsRunOfPlace, ReadsOn, LeafRunAt, LeafRunOf, LeafRangeAt, ReadsFrom}
use Rattle.query_access.specs.ReadByRuns.{LeafRangeOf, IsRangeAnswer, places_written, RunCopied}
use Rattle.query_access.proofs.RunLaws.{run-answers, run-from, run-size, run-some}
use Rattle.walk_ranges.proofs.LeafEndLaws.{end_is, end-left, end-entered, left-min, joined-answers}

-- The walk of a place of the text can start.
pub walk-ready : (t : List ℕ) (h : Header) → HeaderOf t h → (p : ℕ) → p < h.text_length → (top : TopLevel)
    → top ≡ record { size = h.record_size; b = h.top_length }
    → (OnLevel t top.size 0 top.b) × (p < at.text_length t) × (h.text_length - p ≤ max_text)
walk-ready t h k p low top is =
    (rw is (on-top t h k), omega (arith, k.length_is), omega (arith, k.length_is, k.facts.bounds.text_high))

-- A range has a byte.
range-some : (left most within n size leaves length : ℕ) → 1 ≤ left → 1 ≤ most → within ≡ min left most → 1 ≤ n → size ≡ min within n → 1 ≤ leaves
    → length ≡ min size leaves → 1 ≤ length
range-some left most within n size leaves length a b within-is c size_is d length_is =
    let w : 1 ≤ within = omega arith in
    let s : 1 ≤ size = omega arith in
    omega arith

-- No more than each of its bounds.
record AccessBounds (left most n leaves long : ℕ) : Type 0 where
  in_left : long ≤ left
  at_most : long ≤ most
  in_joined : long ≤ n
  in_leaves : long ≤ leaves

bounds : (left most within n size leaves long : ℕ) → within ≡ min left most → size ≡ min within n → long ≡ min size leaves
    → AccessBounds left most n leaves long
bounds left most within n size leaves long within-is size_is long-is =
    let a : (within ≤ left) × (within ≤ most) = (omega arith, omega arith) in
    let b : (size ≤ within) × (size ≤ n) = (omega arith, omega arith) in
    let c : (long ≤ size) × (long ≤ leaves) = (omega arith, omega arith) in
    let d : long ≤ within = le_trans c.0 b.0 in
    record { in_left = le_trans d a.0; at_most = le_trans d a.1; in_joined = le_trans c.0 b.1; in_leaves = c.1 }

sub-pos : (a b : ℕ) → b < a → 1 ≤ a - b
sub-pos a b h = omega arith

in-room : (left long n p : ℕ) → long ≤ left → left ≤ n - p → p < n → p + long ≤ n
in-room left long n p a b c = omega arith

in_count : (x long n leaf : ℕ) → x < long → long ≤ n - leaf → leaf + x < n
in_count x long n leaf a b = omega arith

-- From the end of a path.
module _ (t : List ℕ) (p : ℕ) (h : Header) (k : HeaderOf t h) (low : p < h.text_length) (r : LeafEnd) (e : LeafEndAt t p r) where
  low-text : p < at.text_length t
  low-text = omega (arith, k.length_is)

  answered : (byte_answer t p).number ≡ 0
  answered = ap (λ (s : Answer). s.number) (byte-of-path t k.facts k.passes p low-text _ (end_is t p h k r e))

  size_is : (run_answer t p).1 ≡ min (min r.left ((at.settings t).leaf - r.place.0)) (at.leaf_count t - r.leaf)
  size_is =
      let most = min (at.text_length t - p) (at.leaf_count t - r.leaf) in
      run-size t k.passes p low-text _ (end_is t p h k r e) ∙ end-left t p h k r e most
      ∙ omega (arith, left-min t e.above.visits (at.text_length t - p) (at.leaf_count t - r.leaf), e.left_is)

  module _ (from : ℕ) (from_is : from ≡ h.leaf_offset + r.leaf) where
    start : from ≡ at.leaf_offset t + r.leaf
    start = omega (arith, k.offset_is)

    in_leaves : (size here : ℕ) → size ≡ min here (at.leaf_count t - r.leaf) → from + size ≤ length t
    in_leaves size here is =
        let high : size ≤ at.leaf_count t - r.leaf = omega arith in
        let low : r.leaf < at.leaf_count t = e.ends_in.leaf-in in
        let whole : length t ≡ at.leaf_offset t + at.leaf_count t = k.facts.size in
        omega (arith, start)

    left-some : 1 ≤ r.left
    left-some =
        let some = run-some t k.passes p low-text answered in
        let high : min (min r.left ((at.settings t).leaf - r.place.0)) (at.leaf_count t - r.leaf) ≤ r.left = omega arith in
        omega (arith, size_is)

    -- The run of a place whose walk has reached the last level.
    pub leaf-run-reached : (here size : ℕ) → here ≡ min r.left (h.settings.leaf - r.place.0) → size ≡ min here (h.leaf_count - r.leaf)
        → LeafRunAt t p (record { from = from; length = size; entered = r.entered })
    leaf-run-reached here size here-is is =
        let all : size ≡ (run_answer t p).1 = is ∙ rw (here-is, k.leaf_is, k.count_is) (sym size_is) in record {
          from_is = start ∙ sym (run-from t k.passes p low-text _ (end_is t p h k r e));
          length_is = all;
          some_byte = omega (arith, run-some t k.passes p low-text answered);
          in_tree = in_leaves size here (is ∙ rw k.count_is);
          answers = λ x l. run-answers t k.passes p low-text _ (end_is t p h k r e) from r.entered start (sym (end-entered t p h k r e)) x (omega arith);
        }

    -- With the blocks that continue it.
    pub leaf-range-reached : (most within n size long : ℕ) → 1 ≤ most → within ≡ min r.left most → Joined t r n → size ≡ min within n
        → long ≡ min size (h.leaf_count - r.leaf) → LeafRangeAt t p most (record { from = from; length = long; entered = r.entered })
    leaf-range-reached most within n size long some within-is j size-is' length_is =
        let short : r.left ≤ at.text_length t - p = rw e.left_is (left-most t e.above.visits (at.text_length t - p)) in
        let leaves : long ≡ min size (at.leaf_count t - r.leaf) = length_is ∙ rw k.count_is in
        let f = bounds r.left most within n size (at.leaf_count t - r.leaf) long within-is size-is' leaves in record {
          some_byte = range-some r.left most within n size (at.leaf_count t - r.leaf) long left-some some within-is j.some_byte size-is'
              (sub-pos (at.leaf_count t) r.leaf e.ends_in.leaf-in) leaves;
          at_most = f.at_most;
          in_text = in-room r.left long (at.text_length t) p f.in_left short low-text;
          in_tree = in_leaves long size leaves;
          answers = λ x l. joined-answers t p h k r e n j x (le_trans l f.in_joined) (le_trans l f.in_left)
              (in_count x long (at.leaf_count t) r.leaf l f.in_leaves) low-text from start;
        }

-- The answer of `run_of_place`.
pub run-or-broken : (t : List ℕ) (p : ℕ) (x : Option LeafRun) → LeafRunOf t p x → IsRunOfPlace t p (ok_or x PathBroken)
run-or-broken t p (Some r) k = k
run-or-broken t p None k = sym k

module _ (t : List ℕ) (p : ℕ) (x : Result LeafRun Refusal) (x-is : IsRunOfPlace t p x) where
  pub place-found : (r : LeafRun) → x ≡ Ok r → LeafRunAt t p r
  place-found r e = rw e at x-is

  pub place-refused : (q : Refusal) → x ≡ Err q → refused (refusal_number q) ≡ byte_answer t p
  place-refused q e = rw e at x-is

  pub place-part : (r : LeafRun) → x ≡ Ok r → IsRunAnswer t p (Ok (record { from = r.from; length = r.length }))
  place-part r e =
      let k = place-found r e in
      let z : p + 0 ≡ p = omega arith in record {
        number_is = sym (ap (λ (s : Answer). s.number) (rw z at (k.answers 0 k.some_byte)));
        numbered = tt;
        from_is = k.from_is;
        length_is = k.length_is;
        inside = k.in_tree;
      }

-- The answer of `leaf_range`.
module _ (t : List ℕ) (p most : ℕ) (x : Option LeafRun) (x-is : LeafRangeOf t p most x) where
  pub range-found : (r : LeafRun) → x ≡ Some r → LeafRangeAt t p most r
  range-found r e = rw e at x-is

  pub range-refused : x ≡ None → (byte_answer t p).number ≡ 14
  range-refused e =
      let z : byte_answer t p ≡ refused 14 = rw e at x-is in
      ap (λ (s : Answer). s.number) z

  pub found-range : header_result t ≡ 0 → (r : LeafRun) → x ≡ Some r → IsRangeAnswer t p most (Ok (record { from = r.from; length = r.length }))
  found-range passes r e =
      let k = range-found r e in
      let number : (y : ℕ) → y < r.length → (byte_answer t (p + y)).number ≡ 0 = λ y l. ap (λ (s : Answer). s.number) (k.answers y l) in (
        record {
          in_text = k.in_text;
          in_tree = k.in_tree;
          holds = number;
          bytes = λ y l. sym (ap (λ (s : Answer). s.value) (k.answers y l)) ∙ byte-text t passes (p + y) (omega (arith, k.in_text)) (number y l);
        },
        k.some_byte,
        k.at_most,
      )

-- The answer of `range_at`.
module _ (t : List ℕ) (p most : ℕ) (x : Result TreeRange Refusal) (x-is : IsRangeAnswer t p most x) where
  pub range-reads : (part : TreeRange) → x ≡ Ok part → (ReadsOn t p part.from part.length) × (1 ≤ part.length) × (part.length ≤ most)
  range-reads part e = rw e at x-is

  pub range-broken : (q : Refusal) → x ≡ Err q → (q ≡ PathBroken) × ((byte_answer t p).number ≡ 14)
  range-broken q e = rw e at x-is

-- The first byte of a run is that of its place.
pub run-first-byte : (t : List ℕ) (p : ℕ) (r : LeafRun) → LeafRunAt t p r
    → (a : Result (ℕ × ℕ) Refusal) → a ≡ Ok (get_or t (r.from + 0) 0, r.entered) → replied (byte_reply a) ≡ byte_answer t p
run-first-byte t p r k a e =
    let z : p + 0 ≡ p = omega arith in
    ap (λ (x : Result (ℕ × ℕ) Refusal). replied (byte_reply x)) e ∙ sym (rw z at (k.answers 0 k.some_byte))

-- The byte that is taken out of an answer is written.
abbrev value_in : Result (ℕ × ℕ) Refusal → ℕ
value_in (Ok x) = x.0
value_in (Err q) = 0

value-is : (a : Result (ℕ × ℕ) Refusal) (v n u m : ℕ) → a ≡ Ok (v, n) → a ≡ Ok (u, m) → u ≡ v
value-is a v n u m e f = ap value_in (sym f ∙ e)

pub byte-written : (d e t : List ℕ) (to from j : ℕ) → e ≡ bytes_written d to t from j
    → (a : Result (ℕ × ℕ) Refusal) (n u m : ℕ) → a ≡ Ok (get_or t (from + j) 0, n) → a ≡ Ok (u, m)
    → set e (to + j) u ≡ bytes_written d to t from (j + 1)
byte-written d e t to from j is a n u m given taken =
    bytes-more d e _ t to from j is (ap (set e (to + j)) (value-is a (get_or t (from + j) 0) n u m given taken))

-- No bytes, and those of a range.
pub access-none-read : (t : List ℕ) (p : ℕ) (r : LeafRun) → r.length ≡ 0 → r.from ≡ 0 → ReadsFrom t p r
access-none-read t p r e f = record { in_tree = omega arith; answers = λ x l. absurd (let y : ⊥ = omega arith in y) }

pub range-read : (t : List ℕ) (p most : ℕ) (r : LeafRun) → LeafRangeAt t p most r → ReadsFrom t p r
range-read t p most r k = record { in_tree = k.in_tree; answers = k.answers }

-- These bytes are those of their places.
module _ (t : List ℕ) (p : ℕ) (r : LeafRun) (k : ReadsFrom t p r) where
  pub run-written : (d : List ℕ) (to n : ℕ) → n ≤ r.length → bytes_written d to t r.from n ≡ places_written d to t p n
  run-written d to zero fits = refl
  run-written d to (suc n) fits =
      let v : get_or t (r.from + n) 0 ≡ (byte_answer t (p + n)).value = sym (ap (λ (s : Answer). s.value) (k.answers n (omega arith))) in
      rw (run-written d to n (omega arith), v)

  pub run-answered : (x : ℕ) → x < r.length → (byte_answer t (p + x)).number ≡ 0
  run-answered x l = ap (λ (s : Answer). s.number) (k.answers x l)

-- A range, all copied.
pub run-copied : (t : List ℕ) (p most : ℕ) (r : LeafRun) → LeafRangeAt t p most r
    → (to : ℕ) (d e : List ℕ) (c : Result (ℕ × ℕ) Refusal) → c ≡ Ok (r.length, 0) → e ≡ bytes_written d to t r.from r.length → RunCopied t p most to d e c
run-copied t p most r k to d e c c_is is =
    let f = range-read t p most r k in
    rw c_is (k.some_byte, k.at_most, run-answered t p r f, is ∙ run-written t p r f d to r.length (omega arith))
