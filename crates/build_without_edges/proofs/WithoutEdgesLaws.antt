-- Laws for the proofs of src/lib.rt: header, records, leaf bytes, and the answer.
use mathlib.Core.List.{List, ◌++◌, append_assoc, append-nil}
use mathlib.Core.Path.{◌≡◌, refl, sym, ap, ◌∙◌}
use Prim.Native.Nat.{ℕ, zero, suc, ◌+◌, ◌-◌, ◌*◌, ◌/◌, ◌%◌, ◌≤◌, ◌<◌}
use native.Mathlib.Omega.{arith}
use native.Mathlib.Numerals.{add-one}
use native.Mathlib.Nat.{add-mul, mul-le-mul_right, mul-div_cancel}
use lib.ListN.{length, set, take, drop, length-append, length-drop, length-set, take-append-drop}
use lib.Seq.{paste-zero, paste-suc, get_or-drop, take_at, drop-append-add, drop-drop, length-take-le, set-append_left}
use Rattle.text.specs.Text.{tabulate, concat, sum_below, substring}
use Rattle.text.specs.ListLaws.{sum_below-suc}
use Rattle.format.specs.Answers.{replied}
use Rattle.format.specs.Layout.{set_word, max_levels, layout_at, offset_at, leaf_offset_at, header_length, record_length}
use Rattle.format.specs.WordLaws.{length-set_word}
use Rattle.format.specs.LayoutLaws.{Readable, size_low}
use Rattle.format.specs.Layout as at
use Rattle.byte_slices.specs.ByteSlices.{bytes_written}
use Rattle.theory_built.specs.Gather.{concat-suc, length-concat}
use Rattle.theory_without_edges.specs.WithoutEdges.{edgeless_layout, layout1_record_size, layout1_offset, offsets_in, layout1_header, record_count}
use Rattle.theory_without_edges.specs.WithoutEdges.{layout1_record, layout1_records, layout1_leaf_bytes, without_edges}
use Rattle.theory_without_edges.proofs.Layout1Sizes as sizes
use Rattle.format.specs.SizeLaws.{record-plain}
use Rattle.format.specs.TreeReading.{header_result}
use Rattle.layout.specs.declared.header.Header.{Header}
use Rattle.std.specs.Prelude.{Result, Ok, Err}
use Rattle.refusals.specs.declared.Refusal.{Refusal}
use Rattle.refusals.specs.declared.Refusal.TheVariants.{AnswerDoesNotFit}
use Rattle.refusals.specs.Refusals.{refusal_number}
use Rattle.refusals.specs.RefusalsLaws.{number-above}
use Rattle.layout.specs.Header.{header_answer}
use Rattle.layout.specs.HeaderFields.{HeaderOf, header_refused}
use borrow.Author.Tests.{le-leb, lt-leb, ne_eqb}
use Rattle.build_without_edges.specs.WithoutEdgesAnswers.{without_edges_refusal, without_edges_size, without_edges_buffer, without_edges_reply}
use Rattle.build_without_edges.specs.WithoutEdgesState.{ReadableSizes, HeaderRoom, RecordRoom, WholeRoom}

-- Copied bytes lie between the bytes before and after them, which are unchanged.
layout1-copied : (d T : List ℕ) (to from n : ℕ) → to + n ≤ length d → from + n ≤ length T
    → bytes_written d to T from n ≡ take to d ++ substring T from n ++ drop (to + n) d
unfolding substring
layout1-copied d T to from zero a b = paste-zero d to (drop from T)
layout1-copied d T to from (suc n) a b =
    rw (layout1-copied d T to from n (omega arith) (omega arith), ← get_or-drop from T n 0)
    (paste-suc d to (drop from T) n 0 (omega arith) (simp length-drop (omega arith)))

-- The bytes after a written part.
past : (P d : List ℕ) (to n : ℕ) → length P ≡ to → drop (to + n) (P ++ drop to d) ≡ drop (to + n) d
past P d to n is = rw (← is) (drop-append-add P (drop (length P) d) n ∙ drop-drop n (length P) d)

-- Bytes copied directly after a part that is already written.
pub copied-after : (P d T e : List ℕ) (to from n : ℕ) → length P ≡ to → to + n ≤ length d → from + n ≤ length T → e ≡ P ++ drop to d
    → bytes_written e to T from n ≡ P ++ substring T from n ++ drop (to + n) d
copied-after P d T e to from n is room held e-is =
    let size : length e ≡ length d = rw (e-is, length-append P, length-drop to d, is) (omega arith) in
    layout1-copied e T to from n (rw size room) held
    ∙ ap (λ (x : List ℕ). x ++ substring T from n ++ drop (to + n) e) front ∙ ap (λ (x : List ℕ). P ++ substring T from n ++ x) rest
  where
    front : take to e ≡ P
    front = rw e-is (take_at P (drop to d) to is)

    rest : drop (to + n) e ≡ drop (to + n) d
    rest = rw e-is (past P d to n is)

-- A word written into the first of two parts leaves the second unchanged.
word-in-front : (h r : List ℕ) (i w : ℕ) → i + 4 ≤ length h → set_word (h ++ r) i w ≡ set_word h i w ++ r
unfolding set_word
word-in-front h r i w fits =
    rw (
      set-append_left h r i (w % 256) (omega arith),
      set-append_left (set h i (w % 256)) r (i + 1) (w / 256 % 256) (simp length-set (omega arith)),
      set-append_left (set (set h i (w % 256)) (i + 1) (w / 256 % 256)) r (i + 2) (w / 65536 % 256) (simp length-set (omega arith)),
      set-append_left (set (set (set h i (w % 256)) (i + 1) (w / 256 % 256)) (i + 2) (w / 65536 % 256)) r (i + 3) (w / 16777216 % 256)
          (simp length-set (omega arith)),
    )

module _ (t : List ℕ) where
  offsets-in-front : (n : ℕ) (h r : List ℕ) → n ≤ max_levels → length h ≡ header_length → offsets_in t n (h ++ r) ≡ offsets_in t n h ++ r
  unfolding offsets_in
  offsets-in-front zero h r few long = refl
  offsets-in-front (suc n) h r few long =
      rw (offsets-in-front n h r (omega arith) long)
      (word-in-front (offsets_in t n h) r (offset_at n) (layout1_offset t n) (omega (arith, sizes.length-offsets t n h)))

  -- The loop over the offsets: its start and its step.
  pub offsets-none : (d : List ℕ) → d ≡ offsets_in t 0 d
  unfolding offsets_in
  offsets-none d = refl

  pub offsets-more : (l at : ℕ) (d e : List ℕ) → e ≡ offsets_in t l d → at ≡ layout1_offset t l → set_word e (offset_at l) at ≡ offsets_in t (l + 1) d
  unfolding offsets_in
  offsets-more l at d e is at-is = rw (is, at-is, add-one l)

  pub offset-none : header_length ≡ layout1_offset t 0
  unfolding layout1_offset sum_below
  offset-none = omega arith

  pub offset-more : (l x count stride : ℕ) → x ≡ layout1_offset t l → count ≡ at.level_count t l → stride ≡ layout1_record_size t
      → x + count * stride ≡ layout1_offset t (l + 1)
  unfolding layout1_offset
  offset-more l x count stride is c w = rw (sum_below-suc l (at.level_count t), is, c, w) (omega arith)

  -- The header.
  pub header_is : (levels leaves : ℕ) (d e f g h : List ℕ) → header_length ≤ length t → header_length ≤ length d
      → levels ≡ (at.settings t).levels → levels ≤ max_levels → leaves ≡ layout1_offset t levels
      → e ≡ bytes_written d 0 t 0 header_length → f ≡ set_word e layout_at edgeless_layout → g ≡ offsets_in t levels f → h ≡ set_word g leaf_offset_at leaves
      → h ≡ layout1_header t ++ drop header_length d
  unfolding layout1_header substring
  header_is levels leaves d e f g h long room lev few leaf e-is f-is g-is h-is =
      let a : List ℕ = take header_length t in
      let r : List ℕ = drop header_length d in
      let size : length a ≡ header_length = length-take-le header_length t long in
      let b : List ℕ = set_word a layout_at edgeless_layout in
      let size-b : length b ≡ header_length = length-set_word a layout_at edgeless_layout ∙ size in
      let e-now : e ≡ a ++ r = e-is ∙ layout1-copied d t 0 0 header_length room long in
      let f-now : f ≡ b ++ r = f-is ∙ rw e-now (word-in-front a r layout_at edgeless_layout (omega (arith, size))) in
      let g-now : g ≡ offsets_in t levels b ++ r = g-is ∙ rw f-now (offsets-in-front levels b r few size-b) in
      h-is ∙ rw (g-now, leaf, ← lev)
      (word-in-front (offsets_in t levels b) r leaf_offset_at (layout1_offset t levels) (omega (arith, sizes.length-offsets t levels b, size-b)))

  -- The records.
  abbrev pub up_to : ℕ → List ℕ → List ℕ
  up_to j d = take header_length d ++ concat (tabulate j (layout1_record t)) ++ drop (header_length + j * layout1_record_size t) d

  pub records-none : (d : List ℕ) → d ≡ up_to 0 d
  unfolding tabulate concat
  records-none d = sym (rw (let e : header_length + 0 * layout1_record_size t ≡ header_length = omega arith in e)
      (ap (λ (x : List ℕ). x ++ drop header_length d) (append-nil (take header_length d)) ∙ take-append-drop header_length d))

  module _ (k : Readable t) where
    length-up-to : (j : ℕ) (d : List ℕ) → j ≤ record_count t → header_length ≤ length d
        → length (take header_length d ++ concat (tabulate j (layout1_record t))) ≡ header_length + j * layout1_record_size t
    length-up-to j d few room =
        rw (length-append (take header_length d), length-take-le header_length d room, length-concat j (layout1_record t), sizes.records-before t k j few)

    -- The step of the loop over the records.
    pub records-more : (j to from n : ℕ) (d e : List ℕ) → j < record_count t → header_length + record_count t * layout1_record_size t ≤ length d
        → to ≡ header_length + j * layout1_record_size t → from ≡ header_length + j * at.record_size t → n ≡ layout1_record_size t
        → e ≡ up_to j d → bytes_written e to t from n ≡ up_to (j + 1) d
    unfolding layout1_record
    records-more j to from n d e few room to_is from_is n-is is =
        let P = take header_length d ++ concat (tabulate j (layout1_record t)) in
        let W = layout1_record_size t in
        let next : (j + 1) * W ≤ record_count t * W = mul-le-mul_right W (omega arith) in
        let place : header_length + j * W + W ≡ header_length + (j + 1) * W = omega (arith, add-mul j 1 W) in
        rw (to_is, from_is, n-is)
        (copied-after P d t e (header_length + j * W) (header_length + j * at.record_size t) W (length-up-to j d (omega arith) (omega arith))
        (omega (arith, next, place)) (omega (arith, sizes.record-inside t k j few, k.size)) is
        ∙ rw (place, add-one j, concat-suc j (layout1_record t)) (ap (λ (x : List ℕ). x ++ drop (header_length + suc j * W) d)
        (append_assoc (take header_length d) (concat (tabulate j (layout1_record t))) (layout1_record t j))))

-- No sum overflows.
module _ (t : List ℕ) (levels stride : ℕ) (s : ReadableSizes t levels stride) where
  pub levels-few : levels ≤ max_levels
  levels-few = omega (arith, s.levels_is, s.facts.bounds.levels_high)

  pub offset-fits : (l x count : ℕ) → l < levels → x ≡ layout1_offset t l → count ≡ at.level_count t l → x + count * stride < 4294967296
  offset-fits l x count below x-is count_is =
      omega (
        arith,
        offset-more t l x count stride x-is count_is s.stride_is,
        sizes.offset-falls t s.facts (l + 1) (omega (arith, s.levels_is)),
        s.small,
      )

module _ (t : List ℕ) (count size stride : ℕ) (out : List ℕ) (r : RecordRoom t count size stride out) (j : ℕ) (below : j < count) where
  pub word_room : header_length + j * stride + stride ≤ length out
  word_room =
      let next : (j + 1) * stride ≤ count * stride = mul-le-mul_right stride (omega arith) in
      omega (arith, add-mul j 1 stride, r.room)

  pub word_held : header_length + j * size + stride ≤ length t
  word_held = rw (r.size_is, r.stride_is)
      (omega (arith, sizes.record-inside t r.facts j (omega (arith, r.count_is)), r.facts.size))

  pub record-more : (d e f : List ℕ) → d ≡ out → e ≡ up_to t j d → f ≡ bytes_written e (header_length + j * stride) t (header_length + j * size) stride
      → f ≡ up_to t (j + 1) d
  record-more d e f d_is is f-is =
      f-is ∙ records-more t r.facts j (header_length + j * stride) (header_length + j * size) stride d e (omega (arith, r.count_is))
      (rw (d_is, ← r.count_is, ← r.stride_is) r.room) (rw r.stride_is) (rw r.size_is) r.stride_is is

-- All parts.
module _ (t : List ℕ) (h : Header) (stride count : ℕ) (out : List ℕ) (w : WholeRoom t h stride count out) where
  k : Readable t
  k = w.header.facts

  leaves_are : header_length + count * stride ≡ layout1_offset t h.settings.levels
  leaves_are = rw (w.header.levels_is, w.count_is, w.stride_is) (sym (sizes.offset-end t))

  pub leaves-fit : header_length + count * stride < 4294967296
  leaves-fit = omega (arith, leaves_are, sizes.offset-falls t k h.settings.levels (omega (arith, w.header.levels_is)), w.small)

  pub header-room : HeaderRoom t h.settings.levels stride (header_length + count * stride) out
  header-room = record {
    sizes = record { facts = k; levels_is = w.header.levels_is; stride_is = w.stride_is; small = w.small };
    leaves_is = leaves_are;
    room = omega (arith, w.room, length_whole);
  }
    where
      length_whole : header_length ≤ length (without_edges t)
      length_whole = omega (arith, sizes.layout1-length t k, sizes.offset-end t)

  whole_is : length (without_edges t) ≡ header_length + count * stride + at.leaf_count t
  whole_is = rw (leaves_are, w.header.levels_is) (sizes.layout1-length t k)

  pub record-room : (d : List ℕ) → length d ≡ length out → RecordRoom t count h.record_size stride d
  record-room d same = record {
    facts = k;
    count_is = w.count_is;
    size_is = w.header.size_is;
    stride_is = w.stride_is;
    room = omega (arith, whole_is, w.room);
  }

  pub leaf_room : (d : List ℕ) → length d ≡ length out → header_length + count * stride + h.leaf_count ≤ length d
  leaf_room d same = omega (arith, whole_is, w.room, w.header.count_is)

  pub leaf-held : h.leaf_offset + h.leaf_count ≤ length t
  leaf-held = omega (arith, w.header.offset_is, w.header.count_is, k.size)

  -- The header, then the records, then the leaf bytes.
  module _ (a b c : List ℕ) (a_is : a ≡ layout1_header t ++ drop header_length out) (b_is : b ≡ up_to t count a)
      (c_is : c ≡ bytes_written b (header_length + count * stride) t h.leaf_offset h.leaf_count) where
    head : length (layout1_header t) ≡ header_length
    head = sizes.length-layout1-header t k.long

    front : take header_length a ≡ layout1_header t
    front = rw a_is (take_at (layout1_header t) (drop header_length out) header_length head)

    rest : (n : ℕ) → drop (header_length + n) a ≡ drop (header_length + n) out
    rest n = rw a_is (past (layout1_header t) out header_length n head)

    records-are : concat (tabulate count (layout1_record t)) ≡ layout1_records t
    unfolding layout1_records
    records-are = rw w.count_is

    b-now : b ≡ layout1_header t ++ layout1_records t ++ drop (header_length + count * stride) out
    b-now = b_is ∙ rw (front, rest (count * layout1_record_size t), records-are, w.stride_is)

    size-now : length (layout1_header t ++ layout1_records t) ≡ header_length + count * stride
    size-now = sizes.length-before-leaves t k ∙ rw (leaves_are, w.header.levels_is)

    pub all-written : c ≡ without_edges t ++ drop (length (without_edges t)) out
    unfolding without_edges layout1_leaf_bytes
    all-written =
        c_is ∙ copied-after (layout1_header t ++ layout1_records t) out t b (header_length + count * stride) h.leaf_offset h.leaf_count
        size-now (leaf_room out refl) leaf-held b-now
        ∙ rw (w.header.offset_is, w.header.count_is, whole_is)

-- Facts from the header.
module _ (t : List ℕ) (h : Header) (k : HeaderOf t h) where
  pub offset-low : header_length ≤ h.leaf_offset
  offset-low = omega (arith, k.offset_is, sizes.leaf-at t k.facts)

  pub size-pos : 0 < h.record_size
  size-pos = omega (arith, k.size_is, size_low t k.facts)

  pub count-right : (h.leaf_offset - header_length) / h.record_size ≡ record_count t
  count-right =
      let e : at.leaf_offset t - header_length ≡ record_count t * at.record_size t = omega (arith, sizes.leaf-at t k.facts) in
      rw (k.offset_is, k.size_is, e) (mul-div_cancel (record_count t) (omega (arith, size_low t k.facts)))

  pub stride-right : (stride : ℕ) → stride ≡ record_length edgeless_layout h.settings.leaf h.settings.counted → stride ≡ layout1_record_size t
  unfolding layout1_record_size
  stride-right stride e = e ∙ rw k.counted_is (record-plain edgeless_layout h.settings.leaf (at.counted_count t) (λ z. omega arith))

  pub size-right : (stride count bytes : ℕ) → stride ≡ layout1_record_size t → count ≡ record_count t → bytes ≡ count * stride
      → header_length + bytes + h.leaf_count ≡ length (without_edges t)
  size-right stride count bytes stride_is count_is bytes-is =
      rw (bytes-is, count_is, stride_is, k.count_is) (sym (rw (sizes.layout1-length t k.facts, sizes.offset-end t)))

-- The answer.
module _ (t out : List ℕ) where
  abbrev pub AnswerIs : Result ℕ Refusal → List ℕ → Type 0
  AnswerIs r e = ((replied (without_edges_reply r)).number ≡ without_edges_refusal t out)
      × (((replied (without_edges_reply r)).value ≡ without_edges_size t out) × (e ≡ without_edges_buffer t out))

  refused_as : (q : Refusal) → without_edges_refusal t out ≡ refusal_number q → AnswerIs (Err q) out
  unfolding without_edges_size without_edges_buffer
  refused_as q e =
      let some = ne_eqb (refusal_number q) 0 (λ z. omega (arith, number-above q)) in
      (sym e, (rw (e, some), rw (e, some)))

  pub unread : (x : Result Header Refusal) → x ≡ header_answer t → (q : Refusal) → x ≡ Err q → AnswerIs (Err q) out
  unfolding without_edges_refusal
  unread x is q e =
      let z = header_refused t x is q e in
      refused_as q (rw (ne_eqb (header_result t) 0 (λ y. omega (arith, z.1))) (z.1 ∙ sym z.2))

  module _ (passes : header_result t ≡ 0) (size : ℕ) (is : size ≡ length (without_edges t)) where
    pub no_room : length out < size → AnswerIs (Err AnswerDoesNotFit) out
    unfolding without_edges_refusal
    no_room short = refused_as AnswerDoesNotFit (rw (passes, lt-leb (length (without_edges t)) (length out) (rw is at short)))

    pub written : (e : List ℕ) → size ≤ length out → e ≡ without_edges t ++ drop (length (without_edges t)) out → AnswerIs (Ok size) e
    unfolding without_edges_refusal without_edges_size without_edges_buffer
    written e fits e-is =
        let n = le-leb (length (without_edges t)) (length out) (rw is at fits) in
        (rw (passes, n), (rw (passes, n) is, e-is ∙ rw (passes, n)))
