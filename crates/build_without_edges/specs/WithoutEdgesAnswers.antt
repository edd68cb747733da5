-- What the call returns and what the caller's buffer then holds: refused with 5, 6 or 7, then with 13 if the buffer is too small.
-- docs/FORMAT.md: "A tree without its edges".
use Rattle.std.specs.Prelude.{List, [], ◌∷◌, ◌++◌, cond, ℕ, length, drop, leb, eqb, Result, Ok, Err}
use Rattle.format.specs.TreeReading.{asks, or_next, header_result}
use Rattle.format.specs.Answers.{Reply, figures, refusal}
use Rattle.theory_without_edges.specs.WithoutEdges.{without_edges}
use Rattle.refusals.specs.declared.Refusal.{Refusal}
use Rattle.refusals.specs.Refusals.{refusal_number}

module _ (t out : List ℕ) where
  -- The refusal: questions 5 to 7, then 13.
  unfoldable pub without_edges_refusal : ℕ
  without_edges_refusal = or_next (header_result t) (asks ((13, leb (length (without_edges t)) (length out)) ∷ []))

  -- The size of the written tree; 0 if refused.
  unfoldable pub without_edges_size : ℕ
  without_edges_size = cond (eqb without_edges_refusal 0) (length (without_edges t)) 0

  -- The buffer afterwards: the tree in layout 1 at its start; unchanged if refused.
  unfoldable pub without_edges_buffer : List ℕ
  without_edges_buffer = cond (eqb without_edges_refusal 0) (without_edges t ++ drop (length (without_edges t)) out) out

-- The size of what is written.
abbrev pub without_edges_reply : Result ℕ Refusal → Reply
without_edges_reply (Ok n) = figures n 0
without_edges_reply (Err e) = refusal (refusal_number e)
