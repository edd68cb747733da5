-- Laws of the questions before find and row walk.
use Rattle.std.specs.Prelude.{List, [], ◌∷◌, true, ◌&&◌, ◌≡◌, refl, ℕ, ◌≤◌, leb}
use Rattle.std.proofs.Common.{leb-true, le-leb}
use Rattle.text.specs.ListLaws.{and_left, and_right}
use Rattle.format.specs.TreeReading.{header_result, check_result}
use Rattle.format.specs.AnswerLaws.{next-passes, asks-pass}
use Rattle.format.specs.Answers.{is_counted, number_of_byte, total, find_refusal, FindBy, Answer}

module _ (t : List ℕ) where
  -- What find may return: determined on trees that the check accepts.
  abbrev pub FindAnswers : (byte j : ℕ) → Answer → Type 0
  FindAnswers = FindBy t (check_result t)

-- Find and row walk exactly if the byte is counted and its total is at least j.
pub record Selected (t : List ℕ) (byte j : ℕ) : Type 0 where
  pub pass : header_result t ≡ 0
  pub counted : is_counted t byte ≡ true
  pub low : 1 ≤ j
  pub high : j ≤ total t (number_of_byte t byte)

pub select-passes : (t : List ℕ) (byte j : ℕ) → find_refusal t byte j ≡ 0 → Selected t byte j
unfolding find_refusal
select-passes t byte j h =
    let all = total t (number_of_byte t byte) in
    let a = next-passes (header_result t) _ h in
    let b = asks-pass ((11, is_counted t byte) ∷ (12, leb 1 j && leb j all) ∷ []) refl a.1 in record {
      pass = a.0;
      counted = b.0;
      low = leb-true 1 j (and_left (leb 1 j) (leb j all) b.1.0);
      high = leb-true j all (and_right (leb 1 j) (leb j all) b.1.0);
    }

pub select-lets : (t : List ℕ) (byte j : ℕ) → Selected t byte j → find_refusal t byte j ≡ 0
unfolding find_refusal
select-lets t byte j h = rw (h.pass, h.counted, le-leb 1 j h.low, le-leb j (total t (number_of_byte t byte)) h.high)
