use Rattle.std.specs.Prelude.{Ok, Err}
use Rattle.refusals.specs.declared.Refusal.TheVariants.{PathBroken}
use native.Mathlib.Omega.{arith}
use Rattle.query_access.proofs.ShortLaws as laws
use Rattle.query_access.proofs.SpanLaws.{access-answered}
use Rattle.walk_short.proofs.WholeLaws.{parts_in}
use Rattle.query_access.proofs.read_by_header.short_span.Goals as goal

pub from_text-found-requires : goal.from_text-found-requires
from_text-found-requires c = let s = laws.short-asks _ _ c.requires.0 _ c.requires.3 in (c.requires.0, s.0, s.1, s.2, c.requires.1)

pub returns-in_default : goal.returns-in_default
returns-in_default c = let both = access-answered _ _ _ _ _ (Err PathBroken) (omega arith) (laws.short-broken _ _ _ _ _
    c.requires.0 c.requires.1 c.requires.2 c.requires.3 _ c.from_text-found.ensures.0 c.in_default.is _ c.clear.ensures) in record { span_answer = both.0; buffer_after = both.1 }

pub copy_short-requires : goal.copy_short-requires
copy_short-requires c = let q = parts_in _ _ _ _ c.in-Some.is c.from_text-found.ensures.1 in (omega (arith, c.requires.2, q.0), q.1)

pub overflow_sub-len : goal.overflow_sub-len
overflow_sub-len c = let q = parts_in _ _ _ _ c.in-Some.is c.from_text-found.ensures.1 in omega (arith, q.0)

pub copy_short-requires-2 : goal.copy_short-requires-2
copy_short-requires-2 c = let q = parts_in _ _ _ _ c.in-Some.is c.from_text-found.ensures.1 in
    (omega (arith, c.requires.2, q.0, c.copy_short.auto.out), q.2)

pub returns : goal.returns
returns c = let both = access-answered _ _ _ _ _ (Ok (_, _)) tt (laws.short-copied _ _ _ _ _ c.requires.0 c.requires.1 c.requires.2 c.requires.3 _ c.from_text-found.ensures.0 _ c.in-Some.is
    c.from_text-found.ensures.1 _ _ c.copy_short.ensures c.copy_short-2.ensures) in record { span_answer = both.0; buffer_after = both.1 }
