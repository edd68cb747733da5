use mathlib.Core.Path.{refl, sym, ◌∙◌}
use Prim.Native.Nat.{◌-◌}
use native.Mathlib.Omega.{arith}
use borrow.Author.Tests.{not-true, not-false}
use Rattle.query_digest.proofs.TextHashedLaws.{last-hashed, from-broken, from_all}
use Rattle.query_digest.proofs.last_part.Goals as goal

pub returns-then-not-read_part : goal.returns-then-not-read_part
returns-then-not-read_part c = from-broken c.args.t.now c.args.at (c.args.h.text_length - c.args.at) (omega (arith, c.requires.0.length_is, c.requires.1.in_text))
    (sym c.read_part.ensures.holds ∙ not-true _ c.if-not-read_part.true-raw)

pub returns : goal.returns
returns c = let good = not-false _ c.if-not-read_part.false-raw in
    from_all c.args.t.now c.args.at c.args.h.text_length c.requires.0.length_is (sym c.read_part.ensures.holds ∙ good) _
    (last-hashed c.args.t.now c.args.at c.args.s c.requires.1 c.args.h.text_length c.requires.0.length_is c.read_part.new.part _ _ _
    (omega (arith, c.requires.2, c.read_part.auto.part)) (c.read_part.ensures.bytes good) c.hash_blocks-v.ensures refl c.finalize.ensures)
