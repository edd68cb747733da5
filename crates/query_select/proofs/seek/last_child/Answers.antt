use Prim.Native.Nat.{◌*◌, ◌≤◌}
use native.Mathlib.Omega.{arith}
use Rattle.query_select.proofs.SeekLaws as laws
use Rattle.query_select.proofs.seek.last_child.Goals as goal

pub loop-k-init : goal.loop-k-init
loop-k-init c = laws.so-far-first _ _ _ _ _ _ c.requires.present

pub before-next-requires : goal.before-next-requires
before-next-requires c = laws.select-field-there _ _ _ _ _ _ c.requires.facts c.requires.size_is c.requires.level_in (omega (arith, c.requires.end_in)) c.requires.number_in (omega arith)

pub overflow_mul-going : goal.overflow_mul-going
overflow_mul-going c =
    let small : c.loop-k.going * c.is_below-going.result ≤ 1 = laws.flags _ _ c.loop-k.invariant.flag c.is_below-going.ensures.1 in
    omega (arith, small)

pub overflow_add-i : goal.overflow_add-i
overflow_add-i c =
    let small : c.loop-k.going * c.is_below-going.result ≤ 1 = laws.flags _ _ c.loop-k.invariant.flag c.is_below-going.ensures.1 in
    omega (arith, small, c.loop-k.invariant.reached)

pub loop-k-preserved : goal.loop-k-preserved
loop-k-preserved c = laws.so-far-next _ _ _ _ _ _ _ _ _ _ _ c.loop-k.invariant (omega arith) c.before-next.ensures c.is_below-going.ensures.0

pub returns : goal.returns
returns c = laws.so_far_last _ _ _ _ _ _ _ _ _ c.loop-k.invariant (omega arith)
