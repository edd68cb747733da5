use mathlib.Core.Path.{ap, ◌∙◌}
use Prim.Native.Nat.{◌-◌, ◌*◌, ◌/◌}
use native.Mathlib.Omega.{arith}
use lib.ListN.{length, drop, length-drop}
use lib.Seq.{take_all}
use Rattle.sha256.specs.declared.HashState.{HashState}
use Rattle.sha256.specs.Sha256.{state_after}
use Rattle.sha256.specs.Sha256Laws.{hash-by-parts}
use Rattle.sha256.proofs.hash.Goals as goal

pub returns : goal.returns
returns c = let from = 64 * (length c.args.text.now / 64) in
    c.finalize.ensures
    ∙ hash-by-parts c.args.text.now _ (c.hash_blocks.ensures ∙ ap (λ (h : HashState). state_after h c.args.text.now (length c.args.text.now / 64)) c.initial_state.ensures) _
    (take_all (length c.args.text.now - from) (drop from c.args.text.now) (omega (arith, length-drop from c.args.text.now)))
