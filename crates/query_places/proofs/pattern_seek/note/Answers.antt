use borrow.Author.Tests.{lt-ltb, le-ltb}
use Rattle.query_places.proofs.pattern_seek.note.Goals as goal

pub returns-then-found-room : goal.returns-then-found-room
returns-then-found-room c = rw (lt-ltb _ _ c.if-found-room.true)

pub returns-else-found-room : goal.returns-else-found-room
returns-else-found-room c = rw (le-ltb _ _ c.if-found-room.false)
