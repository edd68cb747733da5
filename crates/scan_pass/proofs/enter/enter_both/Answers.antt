use native.Mathlib.Omega.{arith}
use mathlib.Core.Path.{◌∙◌}
use mathlib.Core.Logic.{inl}
use Rattle.scan_pass.proofs.EnterLaws as laws
use Rattle.scan_pass.proofs.enter.enter_both.Goals as goal

pub overflow_mul-i : goal.overflow_mul-i
overflow_mul-i c = omega (arith, c.requires.entered_items.0.laid.placed.items_few, c.requires.entered_items.2)

pub enter-requires : goal.enter-requires
enter-requires c = (laws.turn _ _ _ _ _ c.requires.entered_items.0 (omega (arith, c.requires.entered_items.2)), c.requires.own_value.0)

pub enter_pair-requires : goal.enter_pair-requires
enter_pair-requires c = record {
  turn = (
    laws.turn _ _ _ _ _ (laws.items-entered-more _ _ _ _ _ c.requires.entered_items.0 _ (laws.processed-entered _ _ _ _ _ _
        (inl (omega arith)) c.enter.ensures)) (omega (arith, c.requires.entered_items.2)),
    c.requires.entered_items.1,
    c.requires.entered_items.2,
  );
  own_value = c.requires.own_value;
}

pub shape_of-words : goal.shape_of-words
shape_of-words c = c.enter_pair.ensures.item_processed.same_length ∙ c.enter.ensures.same_length

pub returns : goal.returns
returns c = record {
  entered_items_2 = laws.items-entered-two _ _ _ _ _ (laws.items-entered-more _ _ _ _ _ (laws.items-entered-more _ _ _ _ _ c.requires.entered_items.0
      _ (laws.processed-entered _ _ _ _ _ _ (inl (omega arith)) c.enter.ensures)) _ c.enter_pair.ensures.item_processed);
  pair_answer = c.enter_pair.ensures.pair_answer;
}
