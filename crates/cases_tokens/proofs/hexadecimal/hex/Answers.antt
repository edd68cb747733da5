use lib.ListN.{length}
use Rattle.cases_tokens.proofs.HexadecimalLaws.{hex-dash, hex-odd, hex-empty, hex-other, hex-long, hex-fits}
use Rattle.cases_tokens.proofs.hexadecimal.hex.Goals as goal

pub returns-then-same-clause-value : goal.returns-then-same-clause-value
returns-then-same-clause-value c = hex-dash c.args.word.now (length c.args.out.now) (c.same.ensures.0 c.if-same.true)

pub returns-then-word-ne0-clause-value : goal.returns-then-word-ne0-clause-value
returns-then-word-ne0-clause-value c =
    hex-odd c.args.word.now (length c.args.out.now) _ c.if-same.false c.same.ensures.1 c.if-word-ne0.true

pub returns-then-word-eq0-clause-value : goal.returns-then-word-eq0-clause-value
returns-then-word-eq0-clause-value c =
    hex-empty c.args.word.now (length c.args.out.now) _ c.if-same.false c.same.ensures.1 c.if-word-ne0.false c.if-word-eq0.true

pub returns-then-not-all_bytes-clause-value : goal.returns-then-not-all_bytes-clause-value
returns-then-not-all_bytes-clause-value c =
    hex-other
    c.args.word.now (length c.args.out.now) _ c.if-same.false c.same.ensures.1 c.if-word-ne0.false c.if-word-eq0.false _ c.all_bytes.ensures
    c.if-not-all_bytes.true

pub returns-then-out-word-clause-value : goal.returns-then-out-word-clause-value
returns-then-out-word-clause-value c =
    hex-long
    c.args.word.now (length c.args.out.now) _ c.if-same.false c.same.ensures.1 c.if-word-ne0.false c.if-word-eq0.false _ c.all_bytes.ensures
    c.if-not-all_bytes.false c.if-out-word.true

pub returns-clause-value : goal.returns-clause-value
returns-clause-value c =
    hex-fits
    c.args.word.now (length c.args.out.now) _ c.if-same.false c.same.ensures.1 c.if-word-ne0.false c.if-word-eq0.false _ c.all_bytes.ensures
    c.if-not-all_bytes.false c.if-out-word.false
