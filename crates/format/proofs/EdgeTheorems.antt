-- The byte at each place of the edges of a block of a text.
use Rattle.std.specs.Prelude.{List, ◌≡◌, ℕ, ◌+◌, ◌-◌, ◌≤◌, ◌<◌, length, get_or, drop}
use Rattle.std.proofs.Common.{◌∙◌, arith, add_assoc, length-drop, get_or-drop}
use Rattle.text.specs.Text.{substring}
use Rattle.text.specs.TextLaws.{length-substring, get_or-substring}
use Rattle.format.specs.Layout.{edges_of}
use Rattle.format.specs.EdgeLaws.{edges-first, edges-last, filled-own, filled_zero}

-- The edges of a block whose x bytes are in a text from p on: its own bytes, then zeros.
module _ (T : List ℕ) (m p x : ℕ) (fits : p + x ≤ length T) where
  abbrev bytes : List ℕ
  bytes = substring T p x

  abbrev last : List ℕ
  last = drop (length bytes - m) bytes

  long : length bytes ≡ x
  long = length-substring T p x fits

  pub first-own : (y : ℕ) → y < m → y < x → get_or (edges_of m bytes) y 0 ≡ get_or T (p + y) 0
  first-own y hm hx = edges-first m bytes y hm ∙ filled-own m bytes y hm (omega (arith, long)) ∙ get_or-substring T p x y hx

  pub first-none : (y : ℕ) → y < m → x ≤ y → get_or (edges_of m bytes) y 0 ≡ 0
  first-none y hm hx = edges-first m bytes y hm ∙ filled_zero m bytes y hm (omega (arith, long))

  pub last-own : (y : ℕ) → y < m → y < x → get_or (edges_of m bytes) (m + y) 0 ≡ get_or T (p + (x - m) + y) 0
  last-own y hm hx =
      edges-last m bytes y ∙ filled-own m last y hm (omega (arith, long, length-drop (length bytes - m) bytes))
      ∙ get_or-drop (length bytes - m) bytes y 0 ∙ rw (long, add_assoc p (x - m) y) (get_or-substring T p x (x - m + y) (omega arith))

  pub last_none : (y : ℕ) → y < m → x ≤ y → get_or (edges_of m bytes) (m + y) 0 ≡ 0
  last_none y hm hx = edges-last m bytes y ∙ filled_zero m last y hm (omega (arith, long, length-drop (length bytes - m) bytes))
