-- The answer of build by its refusal and size (docs/FORMAT.md, "Two builders").
use Rattle.std.specs.Prelude.{ℕ, Result, Ok, Err}
use Rattle.format.specs.Answers.{Reply, figures, refusal}
use Rattle.refusals.specs.declared.Refusal.{Refusal}
use Rattle.refusals.specs.Refusals.{refusal_number}

-- The tree's size.
abbrev pub build_reply : Result ℕ Refusal → Reply
build_reply (Ok n) = figures n 0
build_reply (Err e) = refusal (refusal_number e)
