use native.Mathlib.Omega.{arith}
use mathlib.Core.Path.{refl}
use Rattle.check_edges.proofs.TruthLaws as laws
use Rattle.check_edges.proofs.edges_match.is_full.Goals as goal

pub kind-kind-requires : goal.kind-kind-requires
kind-kind-requires c = laws.plain-there _ _ _ _ _ c.requires.0 1 (omega arith)

pub returns-then-kind-ne0 : goal.returns-then-kind-ne0
returns-then-kind-ne0 c = laws.not_full _ _ _ _ _ c.requires.0 _ c.kind-kind.ensures c.if-kind-ne0.true

pub block_length-length-requires : goal.block_length-length-requires
block_length-length-requires c = record { on = c.requires.0.on; block_in = c.requires.0.block_in }

pub returns : goal.returns
returns c = laws.full-if _ _ _ _ _ c.requires.0 _ c.kind-kind.ensures c.requires.1
    c.if-kind-ne0.false _ c.block_length-length.ensures.0 _ refl
