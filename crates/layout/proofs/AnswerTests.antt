-- Tests and cases, as in the answers of the code.
use mathlib.Core.Bool.{Bool, true, false, not}
use mathlib.Core.Path.{◌≡◌, sym, ◌∙◌}
use borrow.Author.Tests.{not-true, not-false}

-- A test of the code that failed, and one that passed, as facts about its contract.
pub failed : {r s : Bool} → r ≡ s → not r ≡ true → s ≡ false
failed {r} e n = sym e ∙ not-true r n

pub held : {r s : Bool} → r ≡ s → not r ≡ false → s ≡ true
held {r} e n = sym e ∙ not-false r n
