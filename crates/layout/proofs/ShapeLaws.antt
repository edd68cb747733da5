-- The figures of a header, word by word.
use mathlib.Core.List.{List}
use mathlib.Core.Path.{◌≡◌, ap}
use Prim.Native.Nat.{ℕ}
use Rattle.format.specs.Layout.{word_at, text_length_at, arity_at, levels_at, leaf_offset_at, leaf_count_at}
use Rattle.format.specs.Layout as at
use Rattle.layout.specs.declared.fields.Shape.{Shape}
use Rattle.layout.specs.Shapes.{shape_of}

pub shape_is : (t : List ℕ) (n r h off count : ℕ)
    → n ≡ word_at t text_length_at → r ≡ word_at t arity_at → h ≡ word_at t levels_at → off ≡ word_at t leaf_offset_at → count ≡ word_at t leaf_count_at
    → record { length = n; arity = r; levels = h; leaf_offset = off; leaf_count = count } ≡ shape_of t
unfolding shape_of at.text_length at.settings at.leaf_offset at.leaf_count
shape_is t n r h off count a b c d e = rw (a, b, c, d, e)

pub record Shapes (t : List ℕ) (x : Shape) : Type 0 where
  pub length_is : x.length ≡ at.text_length t
  pub arity_is : x.arity ≡ (at.settings t).arity
  pub levels_is : x.levels ≡ (at.settings t).levels
  pub offset_is : x.leaf_offset ≡ at.leaf_offset t
  pub count_is : x.leaf_count ≡ at.leaf_count t

pub shapes : (t : List ℕ) (x : Shape) → x ≡ shape_of t → Shapes t x
unfolding shape_of
shapes t x e = record {
  length_is = ap (λ (y : Shape). y.length) e;
  arity_is = ap (λ (y : Shape). y.arity) e;
  levels_is = ap (λ (y : Shape). y.levels) e;
  offset_is = ap (λ (y : Shape). y.leaf_offset) e;
  count_is = ap (λ (y : Shape). y.leaf_count) e;
}
