-- The result of the walk of a short span, and the preconditions of its steps.
use Rattle.std.specs.Prelude.{List, Some, None, cond, ℕ, ◌+◌, ◌-◌, ◌*◌, ◌/◌, ◌%◌, ◌≤◌, ◌<◌, length, leb, eqb}
use Rattle.std.specs.Prelude as prelude
use Rattle.std.proofs.Math.Option.{Option, none, some}
use Rattle.format.specs.Layout as at
use Rattle.format.specs.TreeReading.{is_kept_block, pointing_block, target_block, target_place}
use Rattle.format.specs.TreeReading as format
use Rattle.walk_steps.specs.Steps.{OnLevel}
use Rattle.walk_short.specs.declared.gather.Parts.{Parts}
use Rattle.walk_short.specs.declared.gather.SpanStep.{SpanStep}
use Rattle.walk_short.specs.declared.gather.SpanStep.TheVariants as step

-- The result, with the number of blocks entered before.
unfoldable pub gathered : ℕ → Option format.Short → prelude.Option Parts
gathered entered none = None
gathered entered (some q) = Some (record { entered = entered + length q.visits; from = q.from; size = q.size; next = q.next })

-- The result as one number.
abbrev pub packed : ℕ → ℕ → ℕ → ℕ → ℕ
packed crossing entered size from = 1 + (crossing + 2 * (entered + 32 * (size + 512 * from)))

module _ (t : List ℕ) where
  -- What a number stands for. The second part of a span that crosses a border is in the first edge of the next block.
  unfoldable pub unpacked : ℕ → prelude.Option Parts
  unpacked x =
      let rest = (x - 1) / 2 in
      let upper = rest / 32 in
      let m = (at.settings t).leaf in
      cond (eqb x 0) None (Some (record {
        entered = rest % 32;
        from = upper / 512;
        size = upper % 512;
        next = cond (eqb ((x - 1) % 2) 0) 0 (upper / 512 + upper % 512 + at.record_size t - (m + m));
      }))

  -- The step from kept block i to its children, of c bytes each.
  unfoldable pub down_to : ℕ → ℕ → ℕ → ℕ → ℕ → SpanStep
  down_to l c i o n = step.Down (record { 0 = at.link t l i }) (o / c) (record { 0 = o % c }) n

  -- The step from pointing block i.
  unfoldable pub pointed_to : ℕ → ℕ → ℕ → ℕ → SpanStep
  pointed_to l i o len =
      let j = target_block t l i o in
      let p = target_place t l i o in
      cond (leb (p + len) (at.full_length t l)) (cond (is_kept_block t l j) (down_to l (at.full_length t (l + 1)) j p 2) step.Off)
      (step.Over (record { 0 = j }) (record { 0 = p }))

  -- The step of a span of len bytes from place o of block i.
  unfoldable pub span_step : ℕ → ℕ → ℕ → ℕ → SpanStep
  span_step l i o len =
      cond (is_kept_block t l i) (down_to l (at.full_length t (l + 1)) i o 1) (cond (pointing_block t l i) (pointed_to l i o len) step.Off)

  -- A short span crosses the end of a block of a layout 2 tree and starts fewer than m bytes before it.
  pub record Crossing (size level b o entered : ℕ) : Type 0 where
    pub on : OnLevel t size level b
    pub place-in : o < b
    pub near : b ≤ o + (at.settings t).leaf
    pub few : entered ≤ 2 * level + 1

  -- A place in a block of a layout 2 tree, and the number of blocks entered before it.
  pub record Walking (size level b o len entered : ℕ) : Type 0 where
    pub on : OnLevel t size level b
    pub place-in : o < b
    pub short : len ≤ (at.settings t).leaf
    pub few : entered ≤ 2 * level

-- The bytes that were found are in the tree.
abbrev pub InRange : List ℕ → ℕ → prelude.Option Parts → Type 0
InRange t len (Some q) = (q.size ≤ len) × (q.from + q.size ≤ length t) × (q.next + (len - q.size) ≤ length t)
InRange t len None = Unit {0}
