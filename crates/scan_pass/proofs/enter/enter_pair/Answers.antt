use native.Mathlib.Omega.{arith}
use mathlib.Core.Path.{refl}
use mathlib.Core.Logic.{inr}
use Rattle.scan_pass.proofs.EnterLaws as laws
use Rattle.scan_pass.proofs.enter.enter_pair.Goals as goal

pub overflow_mul-x : goal.overflow_mul-x
overflow_mul-x c = omega (arith, c.requires.turn.0.laid.placed.items_few, c.requires.turn.2)

pub overflow_add-x : goal.overflow_add-x
overflow_add-x c = omega (arith, c.requires.turn.0.laid.placed.items_few, c.requires.turn.2)

pub bytes_of-own-requires : goal.bytes_of-own-requires
bytes_of-own-requires c = (c.requires.turn.0.laid.placed, c.requires.turn.0.item_in)

pub overflow_add-x-2 : goal.overflow_add-x-2
overflow_add-x-2 c = omega (arith, c.requires.turn.0.laid.placed.items_few, c.requires.turn.2)

pub bytes_of-second-requires : goal.bytes_of-second-requires
bytes_of-second-requires c = (c.requires.turn.0.laid.placed, omega (arith, c.requires.turn.2))

pub overflow_add-own : goal.overflow_add-own
overflow_add-own c = omega (arith, c.bytes_of-own.ensures.fits, c.requires.turn.0.laid.placed.few, c.requires.turn.0.laid.placed.size_few)

pub skip-requires : goal.skip-requires
skip-requires c = c.requires.turn.0

pub shape_of-words-then-second-own : goal.shape_of-words-then-second-own
shape_of-words-then-second-own c = c.skip.ensures.same_length

pub returns-then-second-own : goal.returns-then-second-own
returns-then-second-own c = let un = laws.no-pair _ _ _ c.requires.turn.1 c.requires.turn.0.laid.placed
    _ c.requires.turn.2 _ _ c.bytes_of-own.ensures.start_is c.bytes_of-second.ensures.start_is c.if-second-own.true in record { item_processed = laws.processed-skipped _ _ _ _ _ _ un c.skip.ensures; pair_answer = record { present = λ p. absurd (un p); absent = λ _. refl } }

pub pair_power-power-requires : goal.pair_power-power-requires
pair_power-power-requires c = let p = laws.is-pair _ _ _ c.requires.turn.1
    c.requires.turn.0.laid.placed _ c.requires.turn.2 _ _ c.bytes_of-own.ensures.start_is c.bytes_of-second.ensures.start_is c.if-second-own.false in (
      omega (
        arith,
        c.bytes_of-own.ensures.length_is,
        laws.pair-low _ _ _ c.requires.turn.1 c.requires.turn.0.laid.placed _ c.requires.turn.2 p,
      ),
      c.requires.turn.0.laid.placed.size_few,
      c.requires.own_value.2,
    )

pub enter-requires : goal.enter-requires
enter-requires c = let p = laws.is-pair _ _ _ c.requires.turn.1 c.requires.turn.0.laid.placed
    _ c.requires.turn.2 _ _ c.bytes_of-own.ensures.start_is c.bytes_of-second.ensures.start_is c.if-second-own.false in (
      c.requires.turn.0,
      laws.pair-fingerprint _ _ _ c.requires.turn.1 c.requires.turn.0.laid.placed _ c.requires.turn.2
          p _ _ _ _ _ c.requires.own_value.0 c.requires.own_value.1 c.bytes_of-own.ensures.length_is
          c.pair_power-power.ensures c.join.ensures,
    )

pub shape_of-words : goal.shape_of-words
shape_of-words c = c.enter.ensures.same_length

pub returns : goal.returns
returns c = let p = laws.is-pair _ _ _ c.requires.turn.1 c.requires.turn.0.laid.placed _ c.requires.turn.2
    _ _ c.bytes_of-own.ensures.start_is c.bytes_of-second.ensures.start_is c.if-second-own.false in record {
      item_processed = laws.processed-entered _ _ _ _ _ _ (inr p) c.enter.ensures;
      pair_answer = record {
        present = λ _. c.bytes_of-own.ensures.length_is;
        absent = λ un. absurd (un (inr p));
      };
    }
