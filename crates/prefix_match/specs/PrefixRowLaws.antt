-- Laws of rows that start with a prefix: extending the prefix adds no row; a prefix with a byte 10 starts no row.
use mathlib.Core.List.{List, [], ◌∷◌, ◌++◌}
use Rattle.std.specs.Prelude.{Bool, true, cond, ◌&&◌, ◌≡◌, ◌⊎◌, ℕ, ◌+◌, ◌≤◌, length, get_or, take, drop, eqb}
use Rattle.std.proofs.Math.Bool.{false}
use Rattle.std.proofs.Math.Path.{refl, ap}
use Rattle.std.proofs.Common.{inl, inr, arith, take-append-drop}
use Rattle.text.specs.Text.{same_list, count_in, in_first, rows_of}
use Rattle.text.specs.ListLaws.{bool_clash, bool_cases, and_left, and_right, and_both, same_list-true}
use Rattle.text.specs.CountLaws.{one}
use Rattle.text.proofs.CountTheorems.{count-cons, count-nil, count-append}
use Rattle.row_filter.specs.SelectedRowNumbers.{selected_from, selected_rows}
use Rattle.row_filter.specs.SelectedRowLaws.{In, more-selected, Sublist, selected-sublist}
use Rattle.row_filter.specs.SelectedRows.{starts_with}
use Rattle.prefix_match.specs.PrefixRowNumbers.{rows_with_prefix}

starts-less : (p q row : List ℕ) → starts_with (p ++ q) row ≡ true → starts_with p row ≡ true
unfolding starts_with same_list
starts-less [] q row h = refl
starts-less (x ∷ p) q [] h = bool_clash false h refl
starts-less (x ∷ p) q (y ∷ row) h =
    and_both (and_left (eqb y x) (same_list (take (length (p ++ q)) row) (p ++ q)) h)
    (starts-less p q row (and_right (eqb y x) (same_list (take (length (p ++ q)) row) (p ++ q)) h))

-- The rows of an extended prefix are a subsequence of those of the prefix.
pub longer-sublist : (p q : List ℕ) (rows : List (List ℕ)) → Sublist (rows_with_prefix (p ++ q) rows) (rows_with_prefix p rows)
unfolding rows_with_prefix
longer-sublist p q rows = selected-sublist (starts_with (p ++ q)) (starts_with p) (starts-less p q) rows

pub longer-in : (p q : List ℕ) (rows : List (List ℕ)) (n : ℕ) → In n (rows_with_prefix (p ++ q) rows) → In n (rows_with_prefix p rows)
unfolding rows_with_prefix
longer-in p q rows n i = more-selected (starts_with (p ++ q)) (starts_with p) (starts-less p q) rows n i

-- No row has a byte 10.
abbrev Plain : List (List ℕ) → Type 0
Plain [] = Unit {0}
Plain (row ∷ rows) = (count_in 10 row ≡ 0) × Plain rows

first_plain : (x : ℕ) (rows : List (List ℕ)) → one 10 x ≡ 0 → Plain rows → Plain (in_first x rows)
first_plain x [] e h = (omega (arith, count-cons 10 x [], count-nil 10), tt)
first_plain x (row ∷ rows) e h = (omega (arith, count-cons 10 x row, h.0), h.1)

rows-plain : (T : List ℕ) → Plain (rows_of T)
unfolding rows_of
rows-plain [] = tt
rows-plain (x ∷ xs) = go (eqb 10 x) (eqb 13 x && eqb 10 (get_or xs 0 0)) refl (rows-plain xs)
  where
    go : (a b : Bool) → eqb 10 x ≡ a → Plain (rows_of xs) → Plain (cond a ([] ∷ rows_of xs) (cond b (rows_of xs) (in_first x (rows_of xs))))
    go true b e r = (count-nil 10, r)
    go false true e r = r
    go false false e r = first_plain x (rows_of xs) (rw e) r

-- A prefix with a byte 10 starts no row.
module _ (prefix : List ℕ) (ten : 1 ≤ count_in 10 prefix) where
  not_plain : (row : List ℕ) → count_in 10 row ≡ 0 → starts_with prefix row ≡ false
  unfolding starts_with
  not_plain row h = go (bool_cases (same_list (take (length prefix) row) prefix))
    where
      go : (same_list (take (length prefix) row) prefix ≡ true) ⊎ (same_list (take (length prefix) row) prefix ≡ false)
          → same_list (take (length prefix) row) prefix ≡ false
      go (inl e) =
          let same = ap (count_in 10) (same_list-true (take (length prefix) row) prefix e) in
          let parts = ap (count_in 10) (take-append-drop (length prefix) row) in
          absurd (let z : ⊥ = omega (arith, same, parts, count-append 10 (take (length prefix) row) (drop (length prefix) row)) in z)
      go (inr e) = e

  none-plain : (q : ℕ) (rows : List (List ℕ)) → Plain rows → selected_from (starts_with prefix) q rows ≡ []
  unfolding selected_from
  none-plain q [] h = refl
  none-plain q (row ∷ rows) h = rw (not_plain row h.0) (none-plain (q + 1) rows h.1)

  pub newline-starts-none : (T : List ℕ) → rows_with_prefix prefix (rows_of T) ≡ []
  unfolding rows_with_prefix selected_rows
  newline-starts-none T = none-plain 1 (rows_of T) (rows-plain T)
