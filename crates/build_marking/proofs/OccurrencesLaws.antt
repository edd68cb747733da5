-- The answers of the search for the bytes of a block.
use mathlib.Core.List.{List}
use mathlib.Core.Path.{◌≡◌, sym, ap, ◌∙◌}
use Prim.Native.Nat.{ℕ, ◌+◌}
use lib.ListN.{length}
use borrow.Author.Tests.{le-leb}
use Rattle.text.specs.Text.{leftmost}
use Rattle.text.specs.declared.TextPlace.{TextPlace}
use Rattle.format.specs.Layout.{Settings}
use Rattle.std.proofs.Common.{Option, Some}
use Rattle.std.specs.Option.{unwrap_or}
use Rattle.search.specs.Occurrences.{leftmost_answer}
use Rattle.theory_built.specs.BuiltTargets.{place_of, place_of-is}
use Rattle.build_records.specs.declared.level_written.Substring.{Substring}
use Rattle.build_records.specs.State.{SubstringIs}

module _ (S : Settings) (T : List ℕ) (l i : ℕ) (own : Substring) (own_is : SubstringIs S T l i own) (o : Option TextPlace)
    (is : o ≡ leftmost_answer T own.start.0 own.length) where
  place-right : leftmost T own.start.0 own.length ≡ place_of S T l i
  place-right = rw (own_is.start_is, own_is.length_is) (sym (place_of-is S T l i))

  found : o ≡ Some (record { 0 = place_of S T l i })
  unfolding leftmost_answer
  found = is ∙ rw (le-leb (own.start.0 + own.length) (length T) own_is.fits, place-right)

  pub found_at : (p : TextPlace) → p ≡ unwrap_or o own.start → p.0 ≡ place_of S T l i
  found_at p e = let z : p ≡ record { 0 = place_of S T l i } = rw found at e in ap (λ (x : TextPlace). x.0) z
