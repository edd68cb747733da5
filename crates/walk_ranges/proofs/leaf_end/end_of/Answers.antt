use mathlib.Core.Path.{refl, ◌∙◌}
use native.Mathlib.Omega.{arith}
use Rattle.walk_ranges.proofs.LeafEndLaws as laws
use Rattle.walk_ranges.proofs.leaf_end.end_of.Goals as goal

pub returns-in_err-reached : goal.returns-in_err-reached
returns-in_err-reached c =
    rw c.from_residual.ensures (laws.end-broken _ _ _ c.requires.0 c.requires.1 _ (c.unpacked.ensures ∙ c.requires.2) c.in_err-reached.was)

pub kind-kind-requires : goal.kind-kind-requires
kind-kind-requires c =
    laws.last-field _ _ c.requires.0 _ 1 (laws.end-there _ _ _ c.requires.0 c.requires.1 _ (c.unpacked.ensures ∙ c.requires.2) _ c.in_ok-reached.was) (omega arith)

pub returns-then-kind-ne0 : goal.returns-then-kind-ne0
returns-then-kind-ne0 c =
    laws.end-other _ _ _ c.requires.0 c.requires.1 _ (c.unpacked.ensures ∙ c.requires.2) _ c.in_ok-reached.was _ c.kind-kind.ensures c.if-kind-ne0.true

pub link-link-requires : goal.link-link-requires
link-link-requires c =
    laws.last-field _ _ c.requires.0 _ 2 (laws.end-there _ _ _ c.requires.0 c.requires.1 _ (c.unpacked.ensures ∙ c.requires.2) _ c.in_ok-reached.was) (omega arith)

pub returns-then-h-leaf : goal.returns-then-h-leaf
returns-then-h-leaf c =
    laws.end-no-leaf _ _ _ c.requires.0 c.requires.1 _ (c.unpacked.ensures ∙ c.requires.2) _ c.in_ok-reached.was _ c.kind-kind.ensures c.if-kind-ne0.false
    _ _ c.link-link.ensures refl c.if-h-leaf.true

pub overflow_add-result : goal.overflow_add-result
overflow_add-result c =
    record {
      fits = laws.end-entered-fits _ _ _ c.requires.0 c.requires.1 _ (c.unpacked.ensures ∙ c.requires.2) _ c.in_ok-reached.was
          _ c.kind-kind.ensures c.if-kind-ne0.false _ _ c.link-link.ensures refl c.if-h-leaf.false;
    }

pub returns : goal.returns
returns c =
    laws.end-found _ _ _ c.requires.0 c.requires.1 _ (c.unpacked.ensures ∙ c.requires.2) _ c.in_ok-reached.was _ c.kind-kind.ensures c.if-kind-ne0.false
    _ _ c.link-link.ensures refl c.if-h-leaf.false
