use Rattle.std.proofs.Common.{◌≡◌, ◌+◌, ◌-◌, [], ℕ, ap, ◌∙◌, take, drop, length, replicate, length-take-le, length-drop, arith}
use Rattle.std.proofs.lemmas.List.{get_or-replicate}
use Rattle.byte_slices.proofs.ByteSliceLaws.{bytes-put}
use Rattle.byte_slices.proofs.clear_at.Goals as goal

pub returns : goal.returns
returns c =
    let size : length (take (c.args.to + c.args.n - c.args.to) (drop c.args.to c.args.out.now)) ≡ c.args.n =
    length-take-le _ _ (simp length-drop (omega arith)) ∙ omega arith in
    let zeros : c.fill.new.self ≡ replicate c.args.n 0 = c.fill.ensures.after (λ y e. e) ∙ ap (λ (m : ℕ). replicate m 0) size in
    bytes-put c.args.out.now [] _ c.args.to 0 c.args.n _ (omega arith) (omega arith) (omega (arith, c.fill.ensures.len))
    (λ x l. rw zeros (get_or-replicate c.args.n x 0 0 l))
