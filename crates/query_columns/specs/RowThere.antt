-- The precondition of reading a row's bytes.
use Rattle.std.specs.Prelude.{List, true, ◌≡◌, ℕ, ◌/◌, ◌≤◌, ◌<◌}
use Rattle.columns.specs.Columns.{width_ok}
use Rattle.layout.specs.declared.header.Header.{Header}
use Rattle.layout.specs.HeaderFields.{HeaderOf}

-- The header's figures are known, and questions 20, 10 and 13 passed.
pub record RowThere (t : List ℕ) (h : Header) (w rows a room : ℕ) : Type 0 where
  pub header : HeaderOf t h
  pub width : width_ok w h.text_length ≡ true
  pub rows_are : rows ≡ h.text_length / w
  pub below : a < rows
  pub fits : w ≤ room
