use native.Mathlib.Omega.{arith}
use mathlib.Core.Path.{sym, ◌∙◌}
use Rattle.scan_hash_table.proofs.ItemLaws as laws
use Rattle.scan_hash_table.proofs.item.occurs_at.Goals as goal

pub bytes_of-own-requires : goal.bytes_of-own-requires
bytes_of-own-requires c = (c.requires.0, c.requires.1)

pub returns-then-own-n : goal.returns-then-own-n
returns-then-own-n c = laws.other_length _ _ _ _ _ _ (λ e. c.if-own-n.true (c.bytes_of-own.ensures.length_is ∙ e))

pub equal_at-requires : goal.equal_at-requires
equal_at-requires c = (omega (arith, c.bytes_of-own.ensures.fits, c.if-own-n.false), c.requires.2)

pub returns : goal.returns
returns c = laws.same_length _ _ _ _ _ _ _ _
    c.bytes_of-own.ensures.start_is (sym c.bytes_of-own.ensures.length_is ∙ c.if-own-n.false) c.equal_at.ensures
