use mathlib.Core.Path.{ap, ◌∙◌}
use Prim.Native.Nat.{ℕ}
use native.Mathlib.Nat.{add-sub_cancel_left}
use lib.ListN.{take, drop}
use borrow.Author.Rules.{rules}
use Rattle.text.specs.Text.{substring}
use Rattle.scan_rolling_hash.specs.Fingerprints.{fingerprint}
use Rattle.scan_rolling_hash.proofs.fingerprint_at.Goals as goal

pub fingerprint-requires : goal.fingerprint-requires
unfolding substring
fingerprint-requires c = search rules

pub returns : goal.returns
unfolding substring
returns c = c.fingerprint.ensures ∙ ap (λ (k : ℕ). fingerprint c.args.seed (take k (drop c.args.p.0 c.args.text.now))) (add-sub_cancel_left c.args.p.0 c.args.n)
