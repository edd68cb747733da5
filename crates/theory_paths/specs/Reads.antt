-- Byte and run return bytes of the tree's text, and copying by paths writes them.
use Rattle.std.specs.Prelude.{List, ◌++◌, true, ◌≡◌, get_or, take, drop}
use Rattle.std.proofs.Math.Option.{some}
use Rattle.std.proofs.Math.Path.{refl}
use Rattle.std.proofs.Common.{sym, ap, ◌∙◌, arith, mod-lt, add_assoc}
use Prim.Native.Nat.{ℕ, zero, suc, ◌+◌, ◌-◌, ◌/◌, ◌%◌, ◌≤◌, ◌<◌, min}
use borrow.Author.Tests.{lt-ltb, le-leb, eq-eqb}
use Rattle.std.proofs.Math.ListN.{length}
use Rattle.text.specs.Text.{tabulate, substring}
use Rattle.text.specs.ListLaws.{and_both}
use Rattle.text.specs.TextLaws.{substring-ext}
use Rattle.format.specs.Layout as at
use Rattle.format.specs.TreeReading.{Path, path_of, leaf_of, text_of, header_result}
use Rattle.format.specs.LayoutLaws.{Readable, full-pos}
use Rattle.format.specs.Answers.{Answer, byte_answer, left_over, run_answer, paths_hold, span_questions, buffer_after, copy_refusal, copy_buffer}
use Rattle.theory_paths.specs.Links.{H, b}
use Rattle.theory_paths.specs.Visits.{Goes, goes, goes-leaf}
use Rattle.theory_paths.specs.Shift.{left-most, left-in-blocks, in-blocks-left, goes-in-blocks, path-further}
use Rattle.theory_paths.specs.FitsFacts.{substring-tabulate}
use Rattle.theory_paths.specs.OneText.{text-length, text_at}

-- The x bytes from a of the tree are x bytes of the tree's text, from place p.
pub record Part (t : List ℕ) (p a x : ℕ) : Type 0 where
  pub some_byte : 1 ≤ x
  pub in_text : p + x ≤ at.text_length t
  pub in_tree : a + x ≤ length t
  pub bytes : take x (drop a t) ≡ substring (text_of t) p x

module _ (t : List ℕ) (k : Readable t) (r : header_result t ≡ 0) (p : ℕ) (hp : p < at.text_length t) (q : Path) (e : path_of t p ≡ some q) where
  -- Byte, where the path holds: the leaf byte at its end, which is the text's byte, and the number of blocks entered.
  pub byte-of-path : byte_answer t p ≡ record { number = 0; value = at.leaf_byte t q.leaf; entered = length q.visits }
  unfolding byte_answer
  byte-of-path = rw (r, lt-ltb p (at.text_length t) hp, e)

  pub text-of-path : get_or (text_of t) p 0 ≡ at.leaf_byte t q.leaf
  text-of-path = text_at t p hp ∙ ap (leaf_of t) e

  -- Run, where the path holds
  abbrev size : ℕ
  size = left_over t q.visits (min (at.text_length t - p) (at.leaf_count t - q.leaf))

  run-of-path : run_answer t p ≡ (at.leaf_offset t + q.leaf, size)
  unfolding run_answer
  run-of-path = rw (byte-of-path, e)

  goes-of-path : Goes t (H t - 1) 0 (p / b t 0) (p % b t 0) q.visits q.leaf
  unfolding path_of
  goes-of-path = goes t (H t - 1) 0 (p / b t 0) (p % b t 0) q e

  size_low : 1 ≤ size
  size_low =
      in-blocks-left t q.visits (min (at.text_length t - p) (at.leaf_count t - q.leaf)) 0
      (goes-in-blocks t (full-pos t k) goes-of-path (mod-lt p (full-pos t k 0))) (omega (arith, goes-leaf t goes-of-path))

  -- A byte of the run is the text's.
  run-byte : (d : ℕ) → d < size → at.leaf_byte t (q.leaf + d) ≡ get_or (text_of t) (p + d) 0
  run-byte d h =
      let most = min (at.text_length t - p) (at.leaf_count t - q.leaf) in
      let less : d < most = omega (arith, left-most t q.visits most) in
      let w = left-in-blocks t q.visits most d h in
      sym (text_at t (p + d) (omega arith) ∙ ap (leaf_of t) (path-further t p d q e w (omega arith)))

  part-of-path : Part t p (at.leaf_offset t + q.leaf) size
  unfolding substring at.leaf_byte
  part-of-path =
      let most = min (at.text_length t - p) (at.leaf_count t - q.leaf) in
      let short = left-most t q.visits most in
      let in_tree : at.leaf_offset t + q.leaf + size ≤ length t = omega (arith, k.size, goes-leaf t goes-of-path) in record {
        some_byte = size_low;
        in_text = omega arith;
        in_tree = in_tree;
        bytes = substring-ext t (text_of t) (at.leaf_offset t + q.leaf) p size in_tree (omega (arith, text-length t))
            (λ d h. rw (add_assoc (at.leaf_offset t) q.leaf d) (run-byte d h));
      }

  pub run-part : Part t p (run_answer t p).0 (run_answer t p).1
  run-part = rw run-of-path part-of-path

-- Bytes copied by their paths, where every path holds.

module _ (t : List ℕ) (k : Readable t) (r : header_result t ≡ 0) (holds : (p : ℕ) → p < at.text_length t → (q : Path) × (path_of t p ≡ some q)) where
  byte-good : (p : ℕ) → p < at.text_length t → (byte_answer t p).number ≡ 0
  byte-good p hp = let w = holds p hp in ap (λ (x : Answer). x.number) (byte-of-path t k r p hp w.0 w.1)

  byte-value : (p : ℕ) → p < at.text_length t → (byte_answer t p).value ≡ get_or (text_of t) p 0
  byte-value p hp =
      let w = holds p hp in
      ap (λ (x : Answer). x.value) (byte-of-path t k r p hp w.0 w.1) ∙ sym (text-of-path t k r p hp w.0 w.1)

  pub paths-hold : (len p : ℕ) → p + len ≤ at.text_length t → paths_hold t p len ≡ true
  unfolding paths_hold
  paths-hold zero p h = refl
  paths-hold (suc len) p h = and_both (eq-eqb (byte_answer t p).number 0 (byte-good p (omega arith))) (paths-hold len (p + 1) (omega arith))

  pub copy-number : (p len room : ℕ) → p + len ≤ at.text_length t → len ≤ room → copy_refusal t p len room ≡ 0
  unfolding copy_refusal span_questions
  copy-number p len room h fits = rw (r, le-leb _ _ h, le-leb _ _ fits, paths-hold len p h)

  pub bytes-of-text : (p len : ℕ) → p + len ≤ at.text_length t → tabulate len (λ x. (byte_answer t (p + x)).value) ≡ substring (text_of t) p len
  bytes-of-text p len h =
      sym (substring-tabulate (text_of t) p len (λ x. (byte_answer t (p + x)).value) (omega (arith, text-length t))
      (λ o ho. sym (byte-value (p + o) (omega arith))))

  pub copy-leaves : (p len : ℕ) (buffer : List ℕ) → p + len ≤ at.text_length t → len ≤ length buffer
      → copy_buffer t p len buffer ≡ substring (text_of t) p len ++ drop len buffer
  unfolding copy_buffer buffer_after
  copy-leaves p len buffer h fits = rw (copy-number p len (length buffer) h fits, bytes-of-text p len h)
