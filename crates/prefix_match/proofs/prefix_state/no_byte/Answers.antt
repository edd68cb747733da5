use mathlib.Core.Path.{sym, ap}
use borrow.Author.Rules.{rules}
use Rattle.prefix_match.specs.PrefixStates.{no_byte_read}
use Rattle.prefix_match.proofs.prefix_state.no_byte.Goals as goal

pub returns-in-Matched : goal.returns-in-Matched
unfolding no_byte_read
returns-in-Matched c = sym (ap no_byte_read c.in-Matched.is)

pub returns-in-Longer : goal.returns-in-Longer
unfolding no_byte_read
returns-in-Longer c = search rules

pub returns-in-Mismatch : goal.returns-in-Mismatch
unfolding no_byte_read
returns-in-Mismatch c = search rules
