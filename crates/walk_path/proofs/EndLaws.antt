-- The end of a walk taken apart.
use mathlib.Core.List.{List}
use mathlib.Core.Option.{Option, none, some}
use mathlib.Core.Path.{◌≡◌, refl, ap}
use Prim.Native.Nat.{ℕ, ◌+◌}
use native.Mathlib.Omega.{arith}
use lib.ListN.{length}
use Rattle.format.specs.Answers.{left_over}
use Rattle.walk_path.specs.declared.WalkState.{WalkState}
use Rattle.walk_path.specs.declared.PathEnd.{PathEnd}
use Rattle.std.specs.Prelude.{Some, None}
use Rattle.walk_path.specs.Above.{Above}
use Rattle.walk_path.specs.Walk.{walked}

-- The path that was walked to the last level, and what was carried down it.
pub record PathEnds (t : List ℕ) (state : WalkState) (o : Option Above) (r : PathEnd) : Type 0 where
  pub above : Above
  pub is : o ≡ some above
  pub block_is : r.block.0 ≡ above.block
  pub place_is : r.place.0 ≡ above.place
  pub entered_is : r.state.entered ≡ state.entered + length above.visits
  pub left_is : r.state.left ≡ left_over t above.visits state.left

pub ends : (t : List ℕ) (state : WalkState) (o : Option Above) (r : PathEnd) → Some r ≡ walked t state o → PathEnds t state o r
unfolding walked
ends t state none r e = absurd (let z : ◌≡◌ {A = ℕ} 0 1 = cc in omega arith)
ends t state (some a) r e =
    let at_end : PathEnd = record {
      block = record { 0 = a.block };
      place = record { 0 = a.place };
      state = record { entered = state.entered + length a.visits; left = left_over t a.visits state.left };
    } in
    let z : r ≡ at_end = cc in record {
      above = a;
      is = refl;
      block_is = ap (λ (x : PathEnd). x.block.0) z;
      place_is = ap (λ (x : PathEnd). x.place.0) z;
      entered_is = ap (λ (x : PathEnd). x.state.entered) z;
      left_is = ap (λ (x : PathEnd). x.state.left) z;
    }

pub path-broken : (t : List ℕ) (state : WalkState) (o : Option Above) → None ≡ walked t state o → o ≡ none
unfolding walked
path-broken t state none e = refl
path-broken t state (some a) e = absurd (let z : ◌≡◌ {A = ℕ} 0 1 = cc in omega arith)
