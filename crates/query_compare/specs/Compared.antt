-- Two trees read side by side.
use Rattle.std.specs.Prelude.{List, cond, ◌≡◌, ℕ, ◌+◌, ◌-◌, ◌≤◌, ◌<◌, min, get_or, ltb, Result, Ok, Err}
use Rattle.std.specs.declared.cmp.Ordering.TheVariants.{Less, Greater}
use Rattle.refusals.specs.declared.Refusal.{Refusal}
use Rattle.format.specs.Answers.{Answer, byte_answer}
use Rattle.format.specs.Layout as at
use Rattle.format.specs.TreeReading.{header_result}
use Rattle.query_access.specs.declared.read_by_header.TreeRange.{TreeRange}
use Rattle.query_access.specs.ReadByRuns.{ReadsOn}
use Rattle.query_compare.specs.declared.side_by_side.Progress.{Progress}
use Rattle.query_compare.specs.declared.side_by_side.Round.{Round}
use Rattle.query_compare.specs.declared.side_by_side.Round.TheVariants as round
use Rattle.query_compare.specs.OrderAnswers.{order_answer, compared_from, compare_answer, IsCompareAnswer}

-- Bytes of the text from place p, at least one, or none because the path of p breaks.
abbrev pub CompareReadsFrom : List ℕ → ℕ → Result TreeRange Refusal → Type 0
CompareReadsFrom t p (Ok part) = ReadsOn t p part.from part.length × (1 ≤ part.length)
CompareReadsFrom t p (Err q) = (byte_answer t p).number ≡ 14

-- The n bytes of s from a and of t from b agree in their first r, and not in the next.
pub record Agrees (s : List ℕ) (a : ℕ) (t : List ℕ) (b n r : ℕ) : Type 0 where
  pub most : r ≤ n
  pub same : (x : ℕ) → x < r → get_or s (a + x) 0 ≡ get_or t (b + x) 0
  pub differ : r < n → get_or s (a + r) 0 ≡ get_or t (b + r) 0 → ⊥

-- The order by the first byte that differs, at place p.
unfoldable pub by_byte : ℕ → ℕ → ℕ → Answer
by_byte x y p = cond (ltb x y) (order_answer Less p) (order_answer Greater p)

-- The length of the shorter text.
abbrev pub shortest : List ℕ → List ℕ → ℕ
shortest t u = min (at.text_length t) (at.text_length u)

-- Both trees are read up to a place, and their runs from there on are known; the comparison of the rest gives the answer.
pub record Comparing (t u : List ℕ) (m : Progress) : Type 0 where
  pub passes : header_result t ≡ 0
  pub other_passes : header_result u ≡ 0
  pub low : m.place.0 ≤ shortest t u
  pub reads : ReadsOn t m.place.0 m.one.from m.one.length
  pub other_reads : ReadsOn u m.place.0 m.other.from m.other.length
  pub left : compared_from t u (shortest t u - m.place.0) m.place.0 ≡ compare_answer t u

-- The result of a round: one or more places after p, or the answer.
abbrev pub RoundAnswer : List ℕ → List ℕ → ℕ → Round → Type 0
RoundAnswer t u p (round.On m) = Comparing t u m × (p < m.place.0)
RoundAnswer t u p (round.Settled r) = IsCompareAnswer t u r
