use native.Mathlib.Omega.{arith}
use Prim.Native.Nat.{◌/◌}
use mathlib.Core.Path.{◌≡◌}
use Rattle.scan_pass.proofs.EnterLaws as laws
use Rattle.scan_pass.proofs.enter.enter_level.Goals as goal

pub loop-i-init : goal.loop-i-init
loop-i-init c =
    laws.going-first _ _ _ c.requires.1 c.requires.0.placed _ _ _ c.requires.0 c.clear.ensures c.block_fingerprint-h.ensures

pub loop-i-preserved : goal.loop-i-preserved
loop-i-preserved c =
    laws.going_next _ _ _ c.requires.1 c.requires.0.placed _ _ _ _ _ c.loop-i.invariant (omega arith) _ _ _ _ _ c.enter_both-n.auto.words
    c.enter_both-n.ensures.entered_items_2 c.enter_both-n.ensures.pair_answer c.block_fingerprint-next.ensures c.with_length.ensures c.with_length-l.ensures

pub returns : goal.returns
returns c =
    let e : c.loop-i.i ≡ c.args.it.items / 2 = omega arith in
    let g = rw e at c.loop-i.invariant in (
      laws.all-entered _ _ _ c.requires.1 c.requires.0.placed _ _ _ _ _ g (omega arith) _ c.enter.ensures,
      laws.all-lengths _ _ _ c.requires.1 c.requires.0.placed _ _ _ _ _ g (omega arith) _ _ c.bytes_of.ensures.length_is c.with_length-2.ensures,
    )
