-- How many blocks a short span enters, on any tree at all: at least one, and at most two on each level, taken together.
use Rattle.std.specs.Prelude.{List, [], ◌∷◌, ◌++◌, Bool, cond, ◌&&◌, ◌≡◌, refl, ltb}
use Rattle.std.proofs.Math.Option.{Option, none, some}
use Rattle.std.proofs.Math.Bool.{true, false}
use Prim.Native.Nat.{ℕ, zero, suc, ◌+◌, ◌-◌, ◌*◌, ◌/◌, ◌%◌, ◌≤◌}
use native.Mathlib.Omega.{arith}
use Rattle.std.proofs.Math.ListN.{length}
use Rattle.std.proofs.Common.{length-append}
use Rattle.std.proofs.Math.Dec.{leb}
use Rattle.format.specs.Layout as at
use Rattle.format.specs.TreeReading.{Visit, visit, is_kept_block, pointing_block, resolves, resolved_block, resolved_place, resolved_visits, provided}
use Rattle.format.specs.TreeReading.{Short, led, by_edges, in_one_leaf, short_from, short_of}

-- What is found was found with at least one block entered, and at most n.
Few : ℕ → Option Short → Type 0
Few n r = (q : Short) → r ≡ some q → (1 ≤ length q.visits) × (length q.visits ≤ n)

few-some : (n : ℕ) (q : Short) → 1 ≤ length q.visits → length q.visits ≤ n → Few n (some q)
unfolding Few
few-some n q low h p e = let z : p.visits ≡ q.visits = cc in rw z (low, h)

few-allowed : (n : ℕ) (c : Bool) (r : Option Short) → Few n r → Few n (provided c r)
unfolding Few
few-allowed n true r h = h
few-allowed n false r h = λ q e. absurd (let z : ◌≡◌ {A = ℕ} 0 1 = cc in omega arith)

few-led : (n k : ℕ) (vs : List Visit) (r : Option Short) → length vs ≤ k → Few n r → Few (k + n) (led vs r)
unfolding Few
few-led n k vs none hv h = λ q e. absurd (let z : ◌≡◌ {A = ℕ} 0 1 = cc in omega arith)
few-led n k vs (some p) hv h = λ q e.
    let z : q.visits ≡ vs ++ p.visits = cc in
    rw (z, length-append vs p.visits) (omega (arith, (h p refl).0), omega (arith, (h p refl).1))

few-cond : (n : ℕ) (c : Bool) (r u : Option Short) → Few n r → Few n u → Few n (cond c r u)
few-cond n true r u h g = h
few-cond n false r u h g = g

few-more : (n k : ℕ) (r : Option Short) → n ≤ k → Few n r → Few k r
unfolding Few
few-more n k r l h q e = ((h q e).0, omega (arith, (h q e).1))

module _ (t : List ℕ) where
  edges-two : (l i o : ℕ) → Few 2 (by_edges t l i o)
  unfolding by_edges
  edges-two l i o = few-allowed 2 (ltb (i + 1) (at.level_count t l)) _ (few-some 2 _ (omega arith) (omega arith))

  leaf-one : (l i o len : ℕ) → Few 2 (in_one_leaf t l i o len)
  unfolding in_one_leaf
  leaf-one l i o len =
      let q : Short = record { visits = visit l i o ∷ []; from = at.leaf_offset t + (at.link t l i + o); size = len; next = 0 } in
      few-allowed 2 (is_kept_block t l i && leb (at.link t l i + o + len) (at.leaf_count t)) (some q) (few-some 2 q (omega arith) (omega arith))

  resolved-visits-two : (l i o : ℕ) → length (resolved_visits t l i o) ≤ 2
  unfolding resolved_visits
  resolved-visits-two l i o = go (is_kept_block t l i) _ _
    where
      go : (y : Bool) (u v : Visit) → length (cond y (u ∷ []) (u ∷ v ∷ [])) ≤ 2
      go true u v = omega arith
      go false u v = omega arith

  short-few : (below l i o len : ℕ) → Few (2 * below + 2) (short_from t below l i o len)
  unfolding short_from
  short-few zero l i o len = few-cond 2 (leb (o + len) (at.full_length t l)) _ _ (leaf-one l i o len) (edges-two l i o)
  short-few (suc below) l i o len =
      let j = resolved_block t l i o in
      let p = resolved_place t l i o in
      let child = at.full_length t (l + 1) in
      let down = short_from t below (l + 1) (at.link t l j + p / child) (p % child) len in
      let inside : Few (2 * suc below + 2) (provided (resolves t l i o) (led (resolved_visits t l i o) down)) =
      few-allowed (2 * suc below + 2) (resolves t l i o) _ (few-more (2 + (2 * below + 2)) (2 * suc below + 2) _ (omega arith)
      (few-led (2 * below + 2) 2 (resolved_visits t l i o) down (resolved-visits-two l i o)
      (short-few below (l + 1) (at.link t l j + p / child) (p % child) len))) in
      let between : Few (2 * suc below + 2) (provided (pointing_block t l i) (led (visit l i o ∷ []) (by_edges t l j p))) =
      few-allowed (2 * suc below + 2) (pointing_block t l i) _ (few-more (1 + 2) (2 * suc below + 2) _ (omega arith)
      (few-led 2 1 (visit l i o ∷ []) (by_edges t l j p) (omega arith) (edges-two l j p))) in
      few-cond (2 * suc below + 2) (leb (o + len) (at.full_length t l)) _ _ (few-cond (2 * suc below + 2) (leb (p + len) (at.full_length t l)) _ _ inside between)
      (few-more 2 (2 * suc below + 2) _ (omega arith) (edges-two l i o))

  -- One or more, and at most twice the number of levels.
  pub short-entered : (p len : ℕ) (q : Short) → 1 ≤ (at.settings t).levels → short_of t p len ≡ some q
      → (1 ≤ length q.visits) × (length q.visits ≤ 2 * (at.settings t).levels)
  unfolding short_of Few
  short-entered p len q low e =
      let f = short-few ((at.settings t).levels - 1) 0 (p / at.full_length t 0) (p % at.full_length t 0) len q e in
      (f.0, omega (arith, f.1))
