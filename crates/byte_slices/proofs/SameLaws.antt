-- `same_list` of two lists, a byte at a time.
use mathlib.Core.List.{List}
use mathlib.Core.Bool.{true, false}
use mathlib.Core.Path.{◌≡◌}
use Prim.Native.Nat.{ℕ, ◌+◌, ◌≤◌, ◌<◌}
use native.Mathlib.Numerals.{add-one}
use lib.ListN.{length, drop, get_or, drop_of_length-le}
use lib.Seq.{drop-cons}
use borrow.Author.Tests.{eq-eqb, ne_eqb}
use Rattle.text.specs.Text.{same_list}

module _ (a b : List ℕ) (i : ℕ) (h : i < length a) (k : i < length b) where
  pub bytes-differ : (get_or a i 0 ≡ get_or b i 0 → ⊥) → false ≡ same_list (drop i a) (drop i b)
  unfolding same_list
  bytes-differ n = rw (drop-cons a i 0 h, drop-cons b i 0 k, ne_eqb (get_or a i 0) (get_or b i 0) n)

  pub bytes-agree : get_or a i 0 ≡ get_or b i 0 → same_list (drop (i + 1) a) (drop (i + 1) b) ≡ same_list (drop i a) (drop i b)
  unfolding same_list
  bytes-agree e = rw (add-one, drop-cons a i 0 h, drop-cons b i 0 k, eq-eqb (get_or a i 0) (get_or b i 0) e)

pub bytes-over : (a b : List ℕ) (i : ℕ) → length a ≤ i → length b ≤ i → true ≡ same_list (drop i a) (drop i b)
unfolding same_list
bytes-over a b i h k = rw (drop_of_length-le a h, drop_of_length-le b k)
