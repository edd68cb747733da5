use native.Mathlib.Nat.{add-sub_cancel_left}
use borrow.Author.Rules.{rules}
use Rattle.text.specs.Text.{substring}
use Rattle.byte_slices.proofs.equal_at.Goals as goal

pub equal-requires : goal.equal-requires
unfolding substring
equal-requires c = search rules

pub returns : goal.returns
unfolding substring
returns c = let p = add-sub_cancel_left c.args.p c.args.n in
    let q = add-sub_cancel_left c.args.q c.args.n in
    rw (p, q) at c.equal.ensures
