-- What a function of a cycle of calls assumes of its measure: at its entry the measure is t, and at a call below t.
use mathlib.Core.List.{List}
use Prim.Native.Nat.{ℕ, ◌<◌}
use borrow.Fn.Kind.{ParamKind}
use borrow.Fn.Kinds.{In}
use borrow.Fn.PlainCycle.{Measures, is, falls, and}

module _ {n : ℕ} (ps : List (ParamKind n)) (μ : Measures n ps ℕ) (pre : In n ps) (t : ℕ) where
  abbrev pub at_measure : In n ps
  at_measure = and n ps (is n ps μ t) pre

  abbrev pub below_measure : In n ps
  below_measure = and n ps (falls n ps ◌<◌ μ t) pre
