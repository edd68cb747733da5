-- Laws of `list_written`: writing after what was written before.
use mathlib.Core.List.{List, [], ◌∷◌, ◌++◌, append_assoc}
use mathlib.Core.Path.{◌≡◌, refl, sym, ap, ◌∙◌}
use Prim.Native.Nat.{ℕ, suc, ◌+◌, ◌≤◌, ◌<◌}
use native.Mathlib.Omega.{arith}
use native.Mathlib.Numerals.{add-one}
use lib.ListN.{length, get_or, set, take, drop, length-append, length-drop}
use lib.Seq.{paste, paste-suc, paste-zero, take-length, take_at, drop-drop, drop-append-add, length-take-le, set_split, append_snoc}
use Rattle.list_lines.specs.ListedLines.{list_written, ListPut}

module _ (d : List ℕ) (at : ℕ) where
  -- One byte more.
  pub put-more : (e s : List ℕ) (i : ℕ) → e ≡ paste d at s i → at + i < length d → i < length s → set e (at + i) (get_or s i 0) ≡ paste d at s (i + 1)
  put-more e s i q h k = rw (q, add-one) (paste-suc d at s i 0 h k)

  pub put_all : (e s : List ℕ) (i : ℕ) → e ≡ paste d at s i → i ≡ length s → e ≡ list_written d at s
  unfolding list_written
  put_all e s i q l = rw (q, l, take-length s)

  written_none : d ≡ list_written d at []
  unfolding list_written
  written_none = paste-zero d at []

  head : (s : List ℕ) → at ≤ length d → length (take at d ++ s) ≡ at + length s
  head s h = length-append (take at d) s ∙ ap (λ (n : ℕ). n + length s) (length-take-le at d h)

  length-written : (s : List ℕ) → at + length s ≤ length d → length (list_written d at s) ≡ length d
  unfolding list_written
  length-written s h =
      length-append (take at d ++ s) (drop (at + length s) d) ∙ rw (head s (omega arith), length-drop (at + length s) d) (omega arith)

  -- What is put right after is put together.
  written-more : (e f s u : List ℕ) (end : ℕ)
      → at + length s ≤ length d → e ≡ list_written d at s → end ≡ at + length s → f ≡ list_written e end u → f ≡ list_written d at (s ++ u)
  unfolding list_written
  written-more e f s u end h q r z =
      let p = take at d ++ s in
      let rest = drop (at + length s) d in
      let front : take end (p ++ rest) ≡ p = take_at p rest end (head s (omega arith) ∙ sym r) in
      let whole : at + length s + length u ≡ at + length (s ++ u) = rw (length-append s u) (omega arith) in
      let back : drop (end + length u) (p ++ rest) ≡ drop (at + length (s ++ u)) d =
      rw (r ∙ sym (head s (omega arith))) (drop-append-add p rest (length u) ∙ drop-drop (length u) (at + length s) d ∙ ap (λ (n : ℕ). drop n d) whole) in
      z ∙ rw (q, front, back) (ap (λ (x : List ℕ). x ++ drop (at + length (s ++ u)) d) (append_assoc (take at d) s u))

written_byte : (d : List ℕ) (at b : ℕ) → at < length d → set d at b ≡ list_written d at (b ∷ [])
unfolding list_written
written_byte d at b h = set_split d at b h ∙ rw (add-one at) (sym (append_snoc (take at d) b (drop (suc at) d)))

pub then-put : {d e f : List ℕ} {at mid end : ℕ} {s u : List ℕ} {p q : ℕ}
    → at + p ≤ length d → ListPut d e at mid s p → ListPut e f mid end u q → ListPut d f at end (s ++ u) (p + q)
then-put {d} {e} {f} {at} {mid} {end} {s} {u} h a b = record {
  bytes = written-more d at e f s u mid (omega (arith, a.after, a.short)) a.bytes a.after b.bytes;
  after = rw (length-append s u) (omega (arith, a.after, b.after));
  short = omega (arith, a.short, b.short);
}

-- A buffer keeps its length.
pub length-put : {d e : List ℕ} {at end : ℕ} {s : List ℕ} {p : ℕ} → at + p ≤ length d → ListPut d e at end s p → length e ≡ length d
length-put {d} {e} {at} {end} {s} h a = ap length a.bytes ∙ length-written d at s (omega (arith, a.after, a.short))

pub put_byte : (d : List ℕ) (at b : ℕ) → at < length d → ListPut d (set d at b) at (at + 1) (b ∷ []) 1
put_byte d at b h = record { bytes = written_byte d at b h; after = refl; short = omega arith }

pub put-nothing : (d : List ℕ) → ListPut d d 0 0 [] 0
put-nothing d = record { bytes = written_none d 0; after = refl; short = omega arith }

-- No more is put than fits in more.
pub put-within : {d e : List ℕ} {at end : ℕ} {s : List ℕ} {p : ℕ} (q : ℕ) → p ≤ q → ListPut d e at end s p → ListPut d e at end s q
put-within q h a = record { bytes = a.bytes; after = a.after; short = omega (arith, a.short) }
