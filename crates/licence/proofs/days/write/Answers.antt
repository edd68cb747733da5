use native.Mathlib.Omega.{arith}
use lib.ListN.{length-set}
use Rattle.licence.proofs.DaysLaws.{eight-written}
use Rattle.licence.proofs.days.write.Goals as goal

pub bounds-out-1 : goal.bounds-out-1
bounds-out-1 c = simp length-set (omega arith)

pub bounds-out-2 : goal.bounds-out-2
bounds-out-2 c = simp length-set (omega arith)

pub bounds-out-3 : goal.bounds-out-3
bounds-out-3 c = simp length-set (omega arith)

pub bounds-out-4 : goal.bounds-out-4
bounds-out-4 c = simp length-set (omega arith)

pub bounds-out-5 : goal.bounds-out-5
bounds-out-5 c = simp length-set (omega arith)

pub bounds-out-6 : goal.bounds-out-6
bounds-out-6 c = simp length-set (omega arith)

pub bounds-out-7 : goal.bounds-out-7
bounds-out-7 c = simp length-set (omega arith)

pub returns : goal.returns
returns c = eight-written c.args.out.now c.requires c.args.d _ _ _ _ _ _ _ _
    c.last_digit.ensures c.last_digit-2.ensures c.last_digit-3.ensures c.last_digit-4.ensures
    c.last_digit-5.ensures c.last_digit-6.ensures c.last_digit-7.ensures c.last_digit-8.ensures
