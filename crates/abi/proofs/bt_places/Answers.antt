use Rattle.abi.proofs.PlacesExportsLaws as laws
use Rattle.abi.proofs.bt_places.Goals as goal

pub returns-in-Ok : goal.returns-in-Ok
returns-in-Ok c = record { number_after = rw (c.put_u32.ensures.0, c.put_u32.ensures.1) (laws.places-answered _ _ _ _ c.places-written.ensures.places_answer _ c.in-Ok.is); table_after = c.places-written.ensures.table_after }

pub returns-in-Err : goal.returns-in-Err
returns-in-Err c = record { number_after = rw (c.put_u32-in-Err.ensures.0, c.put_u32-in-Err.ensures.1, c.number.ensures) (laws.places-refused _ _ _ _ c.places-written.ensures.places_answer _ c.in-Err.is); table_after = c.places-written.ensures.table_after }
