use mathlib.Core.Path.{◌≡◌}
use Rattle.theory_without_edges.specs.WithoutEdges.{layout1_offset, offsets_in}
use Rattle.build_without_edges.proofs.put_offsets.Given as goal

abbrev pub invariant-loop-l : goal.invariant-loop-l
invariant-loop-l v = record { written : v.out ≡ offsets_in v.tree v.l v.initial.out; at_is : v.at ≡ layout1_offset v.tree v.l }
