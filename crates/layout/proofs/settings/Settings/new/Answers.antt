use borrow.Author.Rules.{rules}
use borrow.Author.Tests.{lt-leb, le-leb}
use Rattle.format.specs.Layout.{counted_ok, max_counted}
use Rattle.layout.proofs.AnswerTests.{failed, held}
use Rattle.layout.specs.CheckedSettings.{checked}
use Rattle.layout.proofs.settings.Settings.new.Goals as goal

pub sizes_fit-requires : goal.sizes_fit-requires
unfolding checked counted_ok
sizes_fit-requires c = search rules

pub returns-then-not-sizes_fit : goal.returns-then-not-sizes_fit
unfolding checked counted_ok
returns-then-not-sizes_fit c = simp (failed c.sizes_fit.ensures c.if-not-sizes_fit.true-raw)

pub returns-then-counted-gt-MAX_COUNTED : goal.returns-then-counted-gt-MAX_COUNTED
unfolding checked counted_ok
returns-then-counted-gt-MAX_COUNTED c = simp (held c.sizes_fit.ensures c.if-not-sizes_fit.false-raw, lt-leb _ max_counted c.if-counted-gt-MAX_COUNTED.true)

pub rises-requires : goal.rises-requires
unfolding checked counted_ok
rises-requires c = search rules

pub returns-then-not-rises : goal.returns-then-not-rises
unfolding checked counted_ok
returns-then-not-rises c = simp
    (held c.sizes_fit.ensures c.if-not-sizes_fit.false-raw, le-leb _ max_counted c.if-counted-gt-MAX_COUNTED.false, failed c.rises.ensures c.if-not-rises.true-raw)

pub returns : goal.returns
unfolding checked counted_ok
returns c = simp
    (held c.sizes_fit.ensures c.if-not-sizes_fit.false-raw, le-leb _ max_counted c.if-counted-gt-MAX_COUNTED.false, held c.rises.ensures c.if-not-rises.false-raw)
