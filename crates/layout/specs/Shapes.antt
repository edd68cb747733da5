-- The figures of a header that a step of a walk reads.
use Rattle.std.specs.Prelude.{List, ℕ}
use Rattle.format.specs.Layout as at
use Rattle.layout.specs.declared.fields.Shape.{Shape}

unfoldable pub shape_of : List ℕ → Shape
unfolding at.text_length at.settings at.leaf_offset at.leaf_count
shape_of t = record {
  length = at.text_length t;
  arity = (at.settings t).arity;
  levels = (at.settings t).levels;
  leaf_offset = at.leaf_offset t;
  leaf_count = at.leaf_count t;
}
