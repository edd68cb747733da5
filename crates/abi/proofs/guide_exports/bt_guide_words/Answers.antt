use mathlib.Core.Path.{◌∙◌}
use Rattle.abi.proofs.guide_exports.bt_guide_words.Goals as goal

pub returns : goal.returns
returns c = c.put_words.ensures ∙ c.guide_words-size.ensures.0
