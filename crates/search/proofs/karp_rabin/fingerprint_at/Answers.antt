use mathlib.Core.Path.{ap, ◌∙◌}
use Prim.Native.Nat.{ℕ}
use native.Mathlib.Nat.{add-sub_cancel_left}
use lib.ListN.{take, drop}
use borrow.Author.Rules.{rules}
use Rattle.text.specs.Text.{substring}
use Rattle.search.specs.FingerValues.{finger}
use Rattle.search.proofs.karp_rabin.fingerprint_at.Goals as goal

pub fingerprint-requires : goal.fingerprint-requires
unfolding substring
fingerprint-requires c = search rules

pub returns : goal.returns
unfolding substring
returns c = c.fingerprint.ensures ∙ ap
    (λ (k : ℕ). finger c.args.by.base c.args.by.modulus (take k (drop c.args.p.0 c.args.text.now))) (add-sub_cancel_left c.args.p.0 c.args.n)
