use Rattle.query_digest.proofs.DigestAnswerLaws as laws
use Rattle.query_digest.proofs.digest_at.Goals as goal

pub returns-then-out-lt32 : goal.returns-then-out-lt32
returns-then-out-lt32 c = let both = laws.short c.args.t.now c.args.out.now c.requires.passes c.if-out-lt32.true in record { value = both.0; out_after = both.1 }

pub returns-in_default : goal.returns-in_default
returns-in_default c = let both = laws.broken c.args.t.now c.args.out.now c.requires.passes c.if-out-lt32.false _ c.hash-hashed.ensures
    c.in_default.is _ c.clear.ensures in record { value = both.0; out_after = both.1 }

pub returns : goal.returns
returns c = let both = laws.answered c.args.t.now c.args.out.now c.requires.passes c.if-out-lt32.false _ c.hash-hashed.ensures _
    c.in-Some.is _ c.write_state.ensures in record { value = both.0; out_after = both.1 }
