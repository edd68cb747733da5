-- The machine value of a mark on row m.
use Prim.Native.Nat.{ℕ}
use mir.Syntax.{w32}
use mir.Val.{Val, vint, vstruct, vnil, vcons}

abbrev pub mark_value : ℕ → Val
mark_value m = vstruct (vcons (vint w32 m) vnil)
