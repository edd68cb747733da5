-- Laws of edges: how long they are, and the byte at each of their places.
use mathlib.Core.List.{List, ◌++◌}
use Rattle.std.specs.Prelude.{◌≡◌, ℕ, ◌+◌, ◌-◌, ◌≤◌, ◌<◌, drop}
use Rattle.std.proofs.Common.{◌∙◌, length-take, get_or-append-add}
use native.Mathlib.Omega.{arith}
use Rattle.std.proofs.Math.ListN.{length, get_or, replicate, length-append, get_or-append, get_or-replicate}
use Rattle.std.proofs.lemmas.List.{length-replicate}
use Rattle.std.proofs.Math.Seq.{get_or-take}
use Rattle.format.specs.Layout.{filled_out, edges_of}

module _ (m : ℕ) (bytes : List ℕ) where
  pub length-filled : length (filled_out m bytes) ≡ m
  unfolding filled_out
  length-filled = rw (length-take, length-append, length-replicate) (omega arith)

  -- An edge has the block's own bytes, then zeros.
  pub filled-own : (x : ℕ) → x < m → x < length bytes → get_or (filled_out m bytes) x 0 ≡ get_or bytes x 0
  unfolding filled_out
  filled-own x hm hx = get_or-take m (bytes ++ replicate m 0) x 0 hm ∙ get_or-append bytes (replicate m 0) 0 x hx

  pub filled_zero : (x : ℕ) → x < m → length bytes ≤ x → get_or (filled_out m bytes) x 0 ≡ 0
  unfolding filled_out
  filled_zero x hm hx =
      let e : x ≡ length bytes + (x - length bytes) = omega arith in
      get_or-take m (bytes ++ replicate m 0) x 0 hm
      ∙ rw e (get_or-append-add bytes (replicate m 0) (x - length bytes) 0 ∙ get_or-replicate m (x - length bytes) 0 0 (omega arith))

module _ (m : ℕ) (bytes : List ℕ) where
  pub length-edges : length (edges_of m bytes) ≡ m + m
  unfolding edges_of
  length-edges = rw (length-append, length-filled m bytes, length-filled m (drop (length bytes - m) bytes))

  -- The first edge, and the last.
  pub edges-first : (x : ℕ) → x < m → get_or (edges_of m bytes) x 0 ≡ get_or (filled_out m bytes) x 0
  unfolding edges_of
  edges-first x h = get_or-append (filled_out m bytes) (filled_out m (drop (length bytes - m) bytes)) 0 x (rw (length-filled m bytes) h)

  pub edges-last : (x : ℕ) → get_or (edges_of m bytes) (m + x) 0 ≡ get_or (filled_out m (drop (length bytes - m) bytes)) x 0
  unfolding edges_of
  edges-last x = after (filled_out m bytes) (filled_out m (drop (length bytes - m) bytes)) (length-filled m bytes)
    where
      after : (a b : List ℕ) → length a ≡ m → get_or (a ++ b) (m + x) 0 ≡ get_or b x 0
      after a b e = rw (← e) (get_or-append-add a b x 0)
