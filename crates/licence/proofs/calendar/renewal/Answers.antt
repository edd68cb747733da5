use Rattle.licence.specs.RenewalLaws.{renewed-leap, renewed-day, renewed-month}
use Rattle.licence.proofs.calendar.renewal.Goals as goal

pub returns-then-d-eq29 : goal.returns-then-d-eq29
returns-then-d-eq29 c = renewed-leap _ c.if-d-eq2.true c.if-d-eq29.true

pub returns-else-d-eq29 : goal.returns-else-d-eq29
returns-else-d-eq29 c = renewed-day _ c.if-d-eq29.false

pub returns-else-d-eq2 : goal.returns-else-d-eq2
returns-else-d-eq2 c = renewed-month _ c.if-d-eq2.false
