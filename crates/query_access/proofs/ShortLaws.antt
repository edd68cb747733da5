-- A short span: which span is one, and its bytes in the buffer.
use mathlib.Core.List.{List, ◌++◌}
use mathlib.Core.Option.{Option, none, some}
use mathlib.Core.Bool.{Bool, true, false, ◌&&◌}
use mathlib.Core.Path.{◌≡◌, refl, sym, ap, ◌∙◌}
use Prim.Native.Nat.{ℕ, zero, suc, ◌+◌, ◌-◌, ◌≤◌}
use native.Mathlib.Omega.{arith}
use lib.Dec.{eqb, leb}
use lib.ListN.{length, take, drop, replicate, length-drop}
use lib.Seq.{drop-drop, paste, paste-zero, paste-suc, length-paste, drop-paste, take_at, length-take-le, get_or-drop}
use Rattle.text.specs.Text.{substring}
use Rattle.format.specs.Layout as at
use Rattle.format.specs.Answers.{Answer, refused, is_short, blocks_of, span_reached, span_bytes, span_blocks}
use Rattle.format.specs.TreeReading.{Short, short_of, short_bytes}
use Rattle.format.specs.ReadAnswerLaws.{short-span}
use Rattle.byte_slices.specs.ByteSlices.{bytes_written}
use Rattle.layout.specs.declared.header.Header.{Header}
use Rattle.layout.specs.HeaderFields.{HeaderOf}
use Rattle.walk_short.specs.declared.gather.Parts.{Parts}
use Rattle.std.specs.Prelude.{Some, None}
use Rattle.std.specs.Prelude as prelude
use Rattle.walk_short.specs.Gathered.{gathered, InRange}
use Rattle.query_access.proofs.SpanLaws.{Whole, span-copied, span-broken}

-- By the header.
pub short-is : (t : List ℕ) (h : Header)
    → HeaderOf t h → (len : ℕ) (r : Bool) → r ≡ (eqb h.layout 2 && leb 1 len && leb len h.settings.leaf) → r ≡ is_short t len
unfolding is_short at.has_edges
short-is t h k len r e = e ∙ rw (k.layout_is, k.leaf_is)

pub short-asks : (t : List ℕ) (h : Header) → HeaderOf t h → (len : ℕ) → is_short t len ≡ true → (at.layout t ≡ 2) × (1 ≤ len) × (len ≤ h.settings.leaf)
short-asks t h k len is = let s = short-span t len is in (s.two, s.low, rw k.leaf_is s.high)

-- Bytes copied one after the other are pasted.
access-written : (d T : List ℕ) (to from n : ℕ) → to + n ≤ length d → from + n ≤ length T → bytes_written d to T from n ≡ paste d to (drop from T) n
access-written d T to from zero h g = paste-zero d to (drop from T)
access-written d T to from (suc n) h g =
    rw (access-written d T to from n (omega arith) (omega arith), ← get_or-drop from T n 0)
    (paste-suc d to (drop from T) n 0 (omega arith) (rw (length-drop from T) (omega arith)))

-- Two parts, one after the other.
two-parts : (d t : List ℕ) (from size next rest : ℕ) → size + rest ≤ length d → from + size ≤ length t → next + rest ≤ length t
    → bytes_written (bytes_written d 0 t from size) size t next rest ≡ (substring t from size ++ substring t next rest) ++ drop (size + rest) d
unfolding substring
two-parts d t from size next rest h g f =
    let one : List ℕ = paste d 0 (drop from t) size in
    let front : size ≤ length (drop from t) = rw (length-drop from t) (omega arith) in
    let back : rest ≤ length (drop next t) = rw (length-drop next t) (omega arith) in
    let long : length one ≡ length d = length-paste d 0 (drop from t) size (omega arith) front in
    let head : take size one ≡ take size (drop from t) = take_at (take size (drop from t)) (drop (0 + size) d) size (length-take-le size (drop from t) front) in
    let tail : drop (size + rest) one ≡ drop (size + rest) d = past d (drop from t) size rest front in
    rw (access-written d t 0 from size (omega arith) g)
    (access-written one t size next rest (rw long h) f ∙ rw (head, tail))
  where
    past : (d s : List ℕ) (n m : ℕ) → n ≤ length s → drop (n + m) (paste d 0 s n) ≡ drop (n + m) d
    past d s n m k =
        let e : n + m ≡ 0 + n + m = omega arith in
        rw e (sym (drop-drop m (0 + n) (paste d 0 s n)) ∙ ap (λ (x : List ℕ). drop m x) (drop-paste d 0 s n (omega arith) k) ∙ drop-drop m (0 + n) d)

same_bytes : (t : List ℕ) (len from size next : ℕ) (u : Short) → from ≡ u.from → size ≡ u.size → next ≡ u.next
    → substring t from size ++ substring t next (len - size) ≡ short_bytes t len (some u)
same_bytes t len from size next u a b c = rw (a, b, c)

blocks-found : (t : List ℕ) (r : Option Short) (u : Short) → r ≡ some u → blocks_of t r ≡ length u.visits
blocks-found t r u e = rw e

bytes-found : (t : List ℕ) (len : ℕ) (r : Option Short) (u : Short) → r ≡ some u → short_bytes t len (some u) ≡ short_bytes t len r
bytes-found t len r u e = rw e

-- What a short span answers.
module _ (t : List ℕ) (h : Header)
    (p len : ℕ) (d : List ℕ) (k : HeaderOf t h) (low : p + len ≤ h.text_length) (room : len ≤ length d) (is : is_short t len ≡ true)
    (x : prelude.Option Parts) (x-is : x ≡ gathered 0 (short_of t p len)) where
  broken-none : (r : Option Short) → None ≡ gathered 0 r → r ≡ none
  unfolding gathered
  broken-none none e = refl
  broken-none (some q) e = absurd (let z : ◌≡◌ {A = ℕ} 0 1 = cc in omega arith)

  found_some : (r : Option Short) (q : Parts) → Some q ≡ gathered 0 r
      → (u : Short) × (r ≡ some u) × (q.from ≡ u.from) × (q.size ≡ u.size) × (q.next ≡ u.next) × (q.entered ≡ length u.visits)
  unfolding gathered
  found_some none q e = absurd (let z : ◌≡◌ {A = ℕ} 0 1 = cc in omega arith)
  found_some (some u) q e =
      let same : q ≡ record { entered = 0 + length u.visits; from = u.from; size = u.size; next = u.next } = cc in (
        u,
        refl,
        ap (λ (y : Parts). y.from) same,
        ap (λ (y : Parts). y.size) same,
        ap (λ (y : Parts). y.next) same,
        ap (λ (y : Parts). y.entered) same ∙ omega arith,
      )

  inside : p + len ≤ at.text_length t
  inside = omega (arith, k.length_is)

  pub short-broken : x ≡ None → (e : List ℕ) → e ≡ replicate len 0 ++ drop len d → Whole t p len d (refused 14) e
  unfolding span_reached
  short-broken b e e-is =
      let none_found : short_of t p len ≡ none = broken-none (short_of t p len) (sym b ∙ x-is) in
      let not-reached : false ≡ span_reached t p len = rw (is, none_found) in
      span-broken t p len d (span_reached t p len) (span_bytes t p len) (span_blocks t p len) k.passes inside room e 14 refl not-reached e-is

  pub short-copied : (q : Parts) → x ≡ Some q → InRange t len x → (one e : List ℕ) → one ≡ bytes_written d 0 t q.from q.size
      → e ≡ bytes_written one q.size t q.next (len - q.size) → Whole t p len d (record { number = 0; value = len; entered = q.entered }) e
  unfolding span_reached span_bytes span_blocks
  short-copied q a w one e one_is e-is =
      let z = found_some (short_of t p len) q (sym a ∙ x-is) in
      let in_tree : (q.size ≤ len) × (q.from + q.size ≤ length t) × (q.next + (len - q.size) ≤ length t) = rw a at w in
      let whole : q.size + (len - q.size) ≡ len = omega (arith, in_tree.0) in
      let parts_are = two-parts d t q.from q.size q.next (len - q.size) (omega arith) in_tree.1 in_tree.2 in
      let written_is : e ≡ (substring t q.from q.size ++ substring t q.next (len - q.size)) ++ drop len d =
      e-is ∙ ap (λ (y : List ℕ). bytes_written y q.size t q.next (len - q.size)) one_is
      ∙ parts_are ∙ ap (λ (y : ℕ). (substring t q.from q.size ++ substring t q.next (len - q.size)) ++ drop y d) whole in
      let reached : true ≡ span_reached t p len = rw (is, z.1) in
      let by-edges : short_bytes t len (short_of t p len) ≡ span_bytes t p len = rw is in
      let short-are : short_bytes t len (some z.0) ≡ span_bytes t p len = bytes-found t len (short_of t p len) z.0 z.1 ∙ by-edges in
      let bytes-are : e ≡ span_bytes t p len ++ drop len d =
      written_is ∙ ap (λ (y : List ℕ). y ++ drop len d) (same_bytes t len q.from q.size q.next z.0 z.2 z.3 z.4 ∙ short-are) in
      let by-walk : span_blocks t p len ≡ blocks_of t (short_of t p len) = rw is in
      let blocks-are : span_blocks t p len ≡ q.entered = by-walk ∙ blocks-found t (short_of t p len) z.0 z.1 ∙ sym z.5 in
      let all = span-copied t p len d (span_reached t p len) (span_bytes t p len) (span_blocks t p len) k.passes inside room e reached bytes-are in
      let same : ◌≡◌ {A = Answer} (record { number = 0; value = len; entered = q.entered })
      (record { number = 0; value = len; entered = span_blocks t p len }) =
      ap (λ (y : ℕ). record { number = 0; value = len; entered = y }) (sym blocks-are) in
      record { answers = same ∙ all.answers; leaves = all.leaves }
