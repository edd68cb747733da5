use Rattle.cases_tokens.proofs.HexadecimalLaws.{Bytes}
use Rattle.cases_tokens.proofs.hexadecimal.all_bytes.Given as goal

abbrev pub invariant-loop-i : goal.invariant-loop-i
invariant-loop-i l = Bytes l.word l.i
