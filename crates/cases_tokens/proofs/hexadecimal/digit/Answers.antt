use native.Mathlib.Omega.{arith}
use borrow.Author.Tests.{lt-ltb, le-ltb, le-leb, lt-leb}
use Rattle.cases_tokens.specs.Hexadecimals.{digit_of}
use Rattle.cases_tokens.proofs.hexadecimal.digit.Goals as goal

pub returns-then-b-lt48 : goal.returns-then-b-lt48
unfolding digit_of
returns-then-b-lt48 c = (simp (lt-ltb _ 48 c.if-b-lt48.true), omega arith)

pub returns-then-b-le57 : goal.returns-then-b-le57
unfolding digit_of
returns-then-b-le57 c = (simp (le-ltb _ 48 c.if-b-lt48.false, le-leb _ 57 c.if-b-le57.true), omega arith)

pub returns-then-b-lt97 : goal.returns-then-b-lt97
unfolding digit_of
returns-then-b-lt97 c = (simp (le-ltb _ 48 c.if-b-lt48.false, lt-leb _ 57 c.if-b-le57.false, lt-ltb _ 97 c.if-b-lt97.true), omega arith)

pub returns-then-b-le102 : goal.returns-then-b-le102
unfolding digit_of
returns-then-b-le102 c = (simp (le-ltb _ 48 c.if-b-lt48.false, lt-leb _ 57 c.if-b-le57.false, le-ltb _ 97 c.if-b-lt97.false, le-leb _ 102 c.if-b-le102.true), omega arith)

pub returns : goal.returns
unfolding digit_of
returns c = (simp (le-ltb _ 48 c.if-b-lt48.false, lt-leb _ 57 c.if-b-le57.false, le-ltb _ 97 c.if-b-lt97.false, lt-leb _ 102 c.if-b-le102.false), omega arith)
