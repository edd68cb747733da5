use Rattle.query_places.specs.Places.{places_words_reply}
use Rattle.abi.proofs.ExportsLaws as laws
use Rattle.abi.proofs.figure_exports.bt_places_words.Goals as goal

pub returns-in-Ok : goal.returns-in-Ok
returns-in-Ok c = rw (c.put_u32.ensures.0, c.put_u32.ensures.1) (laws.reply-is places_words_reply _ _ _ c.places_words-room.ensures.answers c.in-Ok.is)

pub returns-in-Err : goal.returns-in-Err
returns-in-Err c = rw (c.put_u32-in-Err.ensures.0, c.put_u32-in-Err.ensures.1, c.number.ensures) (laws.reply-is places_words_reply _ _ _ c.places_words-room.ensures.answers c.in-Err.is)
