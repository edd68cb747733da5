use mathlib.Core.List.{List}
use mathlib.Core.Path.{◌≡◌}
use Prim.Native.Nat.{ℕ, ◌-◌}
use native.Mathlib.Omega.{arith}
use lib.ListN.{length, take, drop}
use lib.Seq.{take-length}
use Rattle.query_rows.proofs.RowBoundsLaws as laws
use Rattle.query_rows.proofs.row_bounds.find_newline.Goals as goal

-- The part from the start on is the whole.
whole_part : (g : List ℕ) → take (length g - 0) (drop 0 g) ≡ g
whole_part g = let z : length g - 0 ≡ length g = omega arith in rw z (take-length g)

pub guided-requires : goal.guided-requires
guided-requires c =
    laws.ten-ready _ c.args.guide.now _ c.requires.0 _ _ c.requires.1 c.requires.2 c.requires.3 c.requires.4

pub returns-then-used : goal.returns-then-used
returns-then-used c =
    laws.ten-by-guide _ _ _ c.requires.0 _ _ c.requires.1 c.requires.2 c.requires.3 c.requires.4 _ c.guided.result _
    c.if-used.true (rw (whole_part c.args.guide.now) at c.guided.ensures.0) c.guided.ensures.1 c.without_steps.ensures

pub seek-requires : goal.seek-requires
seek-requires c =
    laws.ten-ready _ c.args.guide.now _ c.requires.0 _ _ c.requires.1 c.requires.2 c.requires.3 c.requires.4

pub returns : goal.returns
returns c =
    laws.ten-by-steps _ _ _ c.requires.0 _ _ c.requires.1 c.requires.2 c.requires.3 c.requires.4 _ c.seek.result c.if-used.false c.seek.ensures.0 c.seek.ensures.1
