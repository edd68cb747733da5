-- What the calls use of any tree that the check accepts: the length of its one text, the paths of its places, the bytes that it counts.
use mathlib.Core.List.{List, [], ◌∷◌}
use mathlib.Core.Bool.{Bool, true, false, cond}
use mathlib.Core.Path.{◌≡◌, sym}
use mathlib.Core.Logic.{◌⊎◌, inl, inr}
use Prim.Native.Nat.{ℕ, zero, suc, ◌+◌, ◌<◌}
use native.Mathlib.Omega.{arith}
use lib.ListN.{length, get_or}
use lib.Dec.{eqb}
use borrow.Author.Tests.{lt-ltb, eq-eqb}
use Rattle.text.specs.ListLaws.{bool_cases}
use Rattle.format.specs.Layout as at
use Rattle.format.specs.TreeReading.{path_of, text_of, check_result}
use Rattle.format.specs.CheckResultLaws.{accepted-header, accepted-links}
use Rattle.format.specs.Answers.{index_of, is_counted, number_of_byte, path_length}
use Rattle.format.specs.LayoutLaws.{header-facts}
use Rattle.theory_paths.specs.Theorems as paths
use Rattle.theory_counts.specs.CountsLocal.{byte_of}
use Rattle.theory_counts.specs.Ranks as ranks
use Rattle.theorems.specs.Promises.{CountedIn, LengthOfPath}
use Rattle.theorems.proofs.BlocksEntered.{length-of-path}

-- A byte that is one of a list has an index in it.
among-index : (c : ℕ) (xs : List ℕ) (i : ℕ) → i < length xs → get_or xs i 0 ≡ c → index_of c xs < length xs
unfolding index_of
among-index c [] i h e = absurd (let z : ⊥ = omega arith in z)
among-index c (x ∷ xs) zero h e = rw (eq-eqb c x (sym e)) (omega arith)
among-index c (x ∷ xs) (suc i) h e = go (eqb c x) (among-index c xs i (omega arith) e)
  where
    go : (b : Bool) → index_of c xs < length xs → cond b 0 (index_of c xs + 1) < suc (length xs)
    go true l = omega arith
    go false l = omega arith

pub among-counted : (t : List ℕ) (byte : ℕ) → CountedIn byte (at.settings t).counted → is_counted t byte ≡ true
unfolding is_counted
among-counted t byte a = lt-ltb _ _ (among-index byte (at.settings t).counted a.0 a.1 a.2)

module _ (t : List ℕ) (v : check_result t ≡ 0) where
  pub text-size : length (text_of t) ≡ at.text_length t
  text-size = paths.text-size t (accepted-header t v) (accepted-links t v)

  -- Below n, in the header's terms.
  pub below : {p : ℕ} → p < length (text_of t) → p < at.text_length t
  below h = omega (arith, text-size)

  -- Every place of the text has a path of that length.
  pub path-length : (p : ℕ) → p < length (text_of t) → LengthOfPath t (at.settings t).levels p (path_length t (path_of t p))
  path-length p h =
      let pass = accepted-header t v in
      let w = paths.no-path-breaks t pass (accepted-links t v) p (below h) in
      rw w.1 (length-of-path t pass p w.0 w.1)

  -- A byte that is not among the counted ones.
  pub not-counted : (byte : ℕ) → (CountedIn byte (at.settings t).counted → ⊥) → is_counted t byte ≡ false
  unfolding byte_of
  not-counted byte other = go (bool_cases (is_counted t byte))
    where
      go : (is_counted t byte ≡ true) ⊎ (is_counted t byte ≡ false) → is_counted t byte ≡ false
      go (inl h) =
          let k = header-facts t (accepted-header t v) in
          let c = ranks.counted t k byte h in
          absurd (other (number_of_byte t byte, omega (arith, c.number_below, k.counted_size), c.byte_is))
      go (inr e) = e
