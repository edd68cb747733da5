use native.Mathlib.Omega.{arith}
use borrow.Author.Tests.{lt-ltb, le-ltb}
use Rattle.scan_hash_table.specs.Entries.{item_place_in}
use Rattle.scan_pass.specs.Passes.{place_put}
use Rattle.scan_pass.proofs.place_of.Goals as goal

pub bounds-words-x : goal.bounds-words-x
unfolding place_put item_place_in
bounds-words-x c = omega (arith, c.requires.0)

pub returns-then-w-n : goal.returns-then-w-n
unfolding place_put item_place_in
returns-then-w-n c = rw (lt-ltb _ _ c.if-w-n.true)

pub overflow_cast-result : goal.overflow_cast-result
unfolding place_put item_place_in
overflow_cast-result c = omega (arith, c.requires.1 c.if-w-n.false)

pub overflow_mul-result : goal.overflow_mul-result
unfolding place_put item_place_in
overflow_mul-result c = omega (arith, c.requires.1 c.if-w-n.false)

pub overflow_add-result : goal.overflow_add-result
unfolding place_put item_place_in
overflow_add-result c = omega (arith, c.requires.1 c.if-w-n.false)

pub offset_bounds-words-w : goal.offset_bounds-words-w
unfolding place_put item_place_in
offset_bounds-words-w c = omega (arith, c.requires.1 c.if-w-n.false)

pub bounds-words-w : goal.bounds-words-w
unfolding place_put item_place_in
bounds-words-w c = omega (arith, c.requires.0, c.requires.1 c.if-w-n.false)

pub returns : goal.returns
unfolding place_put item_place_in
returns c = rw (le-ltb _ _ c.if-w-n.false)
