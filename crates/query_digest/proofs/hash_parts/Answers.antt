use mathlib.Core.Path.{◌≡◌, refl, sym, ◌∙◌}
use Prim.Native.Nat.{◌+◌, ◌*◌, ◌/◌}
use native.Mathlib.Omega.{arith}
use borrow.Author.Tests.{not-true, not-false}
use Rattle.query_digest.proofs.TextHashedLaws.{hashed-start, hashed-more, from_on, from-broken}
use Rattle.query_digest.proofs.hash_parts.Goals as goal

pub loop-k-init : goal.loop-k-init
loop-k-init c = (hashed-start c.args.t.now _ c.initial_state-s.ensures, refl, c.requires.1)

pub returns-then-not-read_part : goal.returns-then-not-read_part
returns-then-not-read_part c = from-broken c.args.t.now (1024 * c.loop-k.k) 1024 (omega (arith, c.requires.0.length_is))
    (sym c.read_part.ensures.holds ∙ not-true _ c.if-not-read_part.true-raw) ∙ c.loop-k.invariant.1

pub loop-k-preserved : goal.loop-k-preserved
loop-k-preserved c = let good = not-false _ c.if-not-read_part.false-raw in let p = 1024 * c.loop-k.k in
    let e : 1024 * (c.loop-k.k + 1) ≡ p + 1024 = omega arith in (
      rw e (hashed-more c.args.t.now p c.loop-k.s c.loop-k.invariant.0 16 _ c.read_part.new.part _ refl
          (omega arith) (c.read_part.ensures.bytes good) c.hash_blocks-s.ensures),
      rw e (from_on c.args.t.now p 1024 (omega arith) (sym c.read_part.ensures.holds ∙ good) _ refl ∙ c.loop-k.invariant.1),
      c.read_part.auto.part ∙ c.loop-k.invariant.2,
    )

pub last_part-requires : goal.last_part-requires
last_part-requires c =
    let e : c.loop-k.k ≡ c.args.h.text_length / 1024 = omega arith in (c.requires.0, rw e at c.loop-k.invariant.0, omega (arith, c.loop-k.invariant.2))

pub returns : goal.returns
returns c = let e : c.loop-k.k ≡ c.args.h.text_length / 1024 = omega arith in c.last_part.ensures ∙ rw e at c.loop-k.invariant.1
