use Rattle.std.specs.Prelude.{Ok}
use Rattle.std.specs.declared.cmp.Ordering.TheVariants.{Less, Equal, Greater}
use mathlib.Core.Path.{refl, ap, ◌∙◌}
use Rattle.query_compare.proofs.FirstLaws as laws
use Rattle.query_compare.proofs.first.Goals as goal

pub returns-in-Less : goal.returns-in-Less
returns-in-Less c =
    let both = laws.first-whole _ _ _ c.compare-compared.ensures _ _ Less _ (c.in-Ok.is ∙ ap (λ s. Ok (s, c.in-Ok.length)) c.in-Less.is) in
    record { shared_after = both.0; first_answer = both.1 }

pub returns-in-Equal : goal.returns-in-Equal
returns-in-Equal c =
    let both = laws.first-whole _ _ _ c.compare-compared.ensures _ _ Equal _ (c.in-Ok.is ∙ ap (λ s. Ok (s, c.in-Ok.length)) c.in-Equal.is) in
    record { shared_after = both.0; first_answer = both.1 }

pub returns-in-Greater : goal.returns-in-Greater
returns-in-Greater c =
    let both = laws.first-whole _ _ _ c.compare-compared.ensures _ _ Greater _ (c.in-Ok.is ∙ ap (λ s. Ok (s, c.in-Ok.length)) c.in-Greater.is) in
    record { shared_after = both.0; first_answer = both.1 }

pub returns-in-Err : goal.returns-in-Err
returns-in-Err c =
    let both = laws.first-empty _ _ _ c.compare-compared.ensures _ _ _ _ c.in-Err.is refl in
    rw c.number.ensures (record { shared_after = both.0; first_answer = both.1 })
