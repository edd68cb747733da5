use Rattle.scan_rolling_hash.proofs.WindowFingerprintLaws.{first-power, next_power}
use Rattle.scan_rolling_hash.proofs.first_powers.Goals as goal

pub returns : goal.returns
returns c = let two = next_power c.args.seed _ _ _ _ (first-power c.args.seed _ c.base_of-one.ensures) c.base_of-one.ensures c.join-two.ensures in
    let three = next_power c.args.seed _ _ _ _ two c.base_of-one.ensures c.join-three.ensures in
    (c.base_of-one.ensures, two, three, next_power c.args.seed _ _ _ _ three c.base_of-one.ensures c.join-four.ensures)
