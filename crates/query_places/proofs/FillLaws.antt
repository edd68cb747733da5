-- The table: it starts with the first `room` of the places found.
use mathlib.Core.List.{List, [], ◌∷◌, ◌++◌, append_assoc}
use mathlib.Core.Path.{◌≡◌}
use Prim.Native.Nat.{ℕ, suc, ◌≤◌, ◌<◌}
use native.Mathlib.Omega.{arith}
use lib.ListN.{length, get_or, take, drop, set, length-append, length-drop, length-take}
use lib.Seq.{take_all, take-nil, take-append-le, take-append_seam, drop-cons, set-append_seam}
use Rattle.query_places.specs.TableFilled.{filled}

pub filled_none : (room : ℕ) (before : List ℕ) → before ≡ filled [] room before
unfolding filled
filled_none room before = rw (take-nil {A = ℕ} room)

-- Room for all of them.
pub filled-all : (ps : List ℕ) (room : ℕ) (before : List ℕ) → length ps ≤ room → filled ps room before ≡ ps ++ drop (length ps) before
unfolding filled
filled-all ps room before h = rw (take_all room ps h)

-- The converse.
pub filled-take : (ps : List ℕ) (room : ℕ) (before : List ℕ) → length ps ≤ room → take (length ps) (filled ps room before) ≡ ps
filled-take ps room before h = rw (filled-all ps room before h) (take-append_seam ps (drop (length ps) before))

module _ (ps : List ℕ) (room : ℕ) (before : List ℕ) (fits : room ≤ length before) where
  pub filled-length : length (filled ps room before) ≡ length before
  unfolding filled
  filled-length =
      let a = take room ps in
      omega (arith, length-append a (drop (length a) before), length-drop (length a) before, length-take room ps)

  -- One more, with room for it.
  pub filled_more : (p : ℕ) → length ps < room → set (filled ps room before) (length ps) p ≡ filled (ps ++ p ∷ []) room before
  unfolding filled
  filled_more p low =
      let n = length ps in
      let one : length (ps ++ p ∷ []) ≡ suc n = omega (arith, length-append ps (p ∷ [])) in
      let a : take room ps ≡ ps = take_all room ps (omega arith) in
      let b : take room (ps ++ p ∷ []) ≡ ps ++ p ∷ [] = take_all room (ps ++ p ∷ []) (omega arith) in
      let c : set (ps ++ drop n before) n p ≡ ps ++ p ∷ drop (suc n) before =
      rw (drop-cons before n 0 (omega arith)) (set-append_seam ps (get_or before n 0) (drop (suc n) before) p) in
      rw (a, b, one, append_assoc ps (p ∷ []) (drop (suc n) before)) c

  -- One more, with none.
  pub filled-full : (p : ℕ) → room ≤ length ps → filled (ps ++ p ∷ []) room before ≡ filled ps room before
  unfolding filled
  filled-full p high = rw (take-append-le room ps (p ∷ []) high)
