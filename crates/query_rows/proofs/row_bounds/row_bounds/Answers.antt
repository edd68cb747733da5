use mathlib.Core.Path.{◌≡◌, sym, ◌∙◌}
use Prim.Native.Nat.{◌-◌}
use lib.Dec.{eqb}
use native.Mathlib.Omega.{arith}
use borrow.Author.Tests.{eq-eqb, ne_eqb}
use Rattle.format.specs.Answers.{is_unterminated_row}
use Rattle.query_rows.proofs.RowBoundsLaws as laws
use Rattle.query_rows.proofs.row_bounds.row_bounds.Goals as goal

-- Question 11.
pub returns-then-h-number : goal.returns-then-h-number
returns-then-h-number c = laws.edges-refused _ _ (laws.settled-sound _ _ _) _ _ (laws.asks-uncounted _ _ c.requires _ _ c.number_of-number.ensures.0 c.if-h-number.true)
    (laws.start-uncounted _ _ _ _ c.requires _ c.number_of-number.ensures.0 c.if-h-number.true)

-- Question 12: row 0.
pub returns-then-q-eq0 : goal.returns-then-q-eq0
returns-then-q-eq0 c = laws.edges-refused _ _ (laws.settled-sound _ _ _) _ _ (laws.asks_none _ _ c.requires _ _ c.number_of-number.ensures.0 c.if-h-number.false c.if-q-eq0.true)
    (laws.start-zero _ _ _ _ c.requires _ c.number_of-number.ensures.0 c.if-h-number.false c.if-q-eq0.true)

-- A newline ends it.
pub terminated_row-requires : goal.terminated_row-requires
terminated_row-requires c = (c.requires, c.number_of-number.ensures.0, c.if-h-number.false, omega (arith, c.if-q-eq0.false), omega (arith, c.if-q-all.true, c.total-all.ensures))

pub returns-then-q-all : goal.returns-then-q-all
returns-then-q-all c = laws.edges-ended _ _ (laws.settled-sound _ _ _) _ _ (laws.asks-ended _ _ c.requires _ _ c.number_of-number.ensures.0
    c.if-h-number.false (omega (arith, c.if-q-all.true, c.total-all.ensures))) c.terminated_row.ensures

-- Question 12: an empty text.
pub returns-then-h-eq0 : goal.returns-then-h-eq0
returns-then-h-eq0 c = laws.edges-refused _ _ (laws.settled-sound _ _ _) _ _ (laws.asks-empty _ _ c.requires _ _ c.number_of-number.ensures.0 c.if-h-number.false c.if-h-eq0.true)
    (laws.start-past _ _ _ _ c.requires _ c.number_of-number.ensures.0 c.if-h-number.false _ c.total-all.ensures c.if-q-all.false)

pub overflow_sub-q : goal.overflow_sub-q
overflow_sub-q c = omega (arith, c.if-q-eq0.false)

-- No newline ends it.
pub last_row-requires : goal.last_row-requires
last_row-requires c =
    let asks : eqb (c.args.q - 1) c.total-all.result ≡ is_unterminated_row c.args.t.now c.args.q = laws.asks-is _ _ c.requires
    _ _ c.number_of-number.ensures.0 c.if-h-number.false c.if-h-eq0.false c.if-q-eq0.false _ c.total-all.ensures in
    (c.requires, sym asks ∙ eq-eqb _ _ c.if-q-all-2.true, c.number_of-number.ensures.0, c.if-h-number.false)

pub returns-then-q-all-2 : goal.returns-then-q-all-2
returns-then-q-all-2 c =
    let asks : eqb (c.args.q - 1) c.total-all.result ≡ is_unterminated_row c.args.t.now c.args.q = laws.asks-is _ _ c.requires
    _ _ c.number_of-number.ensures.0 c.if-h-number.false c.if-h-eq0.false c.if-q-eq0.false _ c.total-all.ensures in
    laws.edges-last _ _ (laws.settled-sound _ _ _) _ _ (sym (eq-eqb _ _ c.if-q-all-2.true) ∙ asks) c.last_row.ensures

-- Question 12: more rows than there are.
pub returns : goal.returns
returns c =
    let asks : eqb (c.args.q - 1) c.total-all.result ≡ is_unterminated_row c.args.t.now c.args.q = laws.asks-is _ _ c.requires
    _ _ c.number_of-number.ensures.0 c.if-h-number.false c.if-h-eq0.false c.if-q-eq0.false _ c.total-all.ensures in
    laws.edges-refused _ _ (laws.settled-sound _ _ _) _ _ (sym (ne_eqb _ _ c.if-q-all-2.false) ∙ asks)
    (laws.start-past _ _ _ _ c.requires _ c.number_of-number.ensures.0 c.if-h-number.false
    _ c.total-all.ensures c.if-q-all.false)
