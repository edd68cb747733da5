use native.Mathlib.Omega.{arith}
use mathlib.Core.Path.{refl}
use Rattle.scan_rolling_hash.proofs.WindowFingerprintLaws.{base-below}
use Rattle.scan_rolling_hash.proofs.WindowLaws as laws
use Rattle.scan_rolling_hash.proofs.next_window.Goals as goal

pub bounds-text-here : goal.bounds-text-here
bounds-text-here c = omega (arith, laws.before-end _ _ _ _ _ c.requires.0 c.requires.1)

pub roll-requires : goal.roll-requires
roll-requires c = (
  omega (arith, c.base_of.ensures, base-below c.args.seed),
  laws.fingerprint-low _ _ _ _ _ c.requires.0 c.requires.1,
  laws.leaving-low _ _ _ _ _ c.requires.0 c.requires.1,
)

pub overflow_add-result : goal.overflow_add-result
overflow_add-result c = omega (arith, c.requires.0.looked_is, c.requires.0.few, laws.places-few _ _ _ _ _ c.requires.0 c.requires.1)

pub returns : goal.returns
returns c = laws.window-next _ _ _ _ _ c.requires.0 c.requires.1 _ (laws.rolls _ _ _ _ _ c.requires.0 c.requires.1 _ _ _ _ c.requires.2 refl
    c.base_of.ensures c.roll.ensures)
