use native.Mathlib.Omega.{arith}
use mathlib.Core.Path.{sym}
use Prim.Native.Nat.{◌+◌}
use borrow.Author.Tests.{le-ltb}
use Rattle.query_row_filter.proofs.rows_after.past.Goals as goal

pub returns-then-q-newlines : goal.returns-then-q-newlines
returns-then-q-newlines c = sym (le-ltb (c.args.newlines + 1) c.args.q (omega arith))
