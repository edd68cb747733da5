use mathlib.Core.Path.{◌∙◌}
use Rattle.abi.proofs.guide_exports.bt_make_guide.Goals as goal

pub returns : goal.returns
returns c = record { words_after = c.put_words.ensures ∙ c.make_guide-size.ensures.result_value.0; table_after = c.make_guide-size.ensures.table_after }
