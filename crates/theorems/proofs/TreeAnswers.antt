-- Every question about a tree that the check accepts is answered, or refused, by the one text that fits: `Answers` and `Refuses` of `Promises`, from the
-- theorems in the files of the calls.
use mathlib.Core.Path.{◌≡◌}
use Rattle.format.specs.Layout as at
use Rattle.format.specs.TreeReading.{text_of, check_result}
use Rattle.theorems.specs.Promises.{Answers, Refuses}
use Rattle.theorems.proofs.PublicCall.{Borrowed}
use Rattle.theorems.proofs.ByteCall
use Rattle.theorems.proofs.RunCall
use Rattle.theorems.proofs.SpanCall
use Rattle.theorems.proofs.CountCall
use Rattle.theorems.proofs.FindCall
use Rattle.theorems.proofs.RowCall
use Rattle.theorems.proofs.PlacesCall
use Rattle.theorems.proofs.NextMatchCall
use Rattle.theorems.proofs.PrefixRowCall
use Rattle.theorems.proofs.ColumnRowCall
use Rattle.theorems.proofs.DigestCall

-- Any tree that the check accepts, and the one text that fits it.
module _ (t : Borrowed) (v : check_result t.now ≡ 0) where
  pub accepted-answers : Answers t (at.settings t.now) (text_of t.now)
  accepted-answers = record {
    byte = ByteCall.accepted-answers t v;
    run = RunCall.accepted-answers t v;
    span = SpanCall.accepted-answers t v;
    count = CountCall.accepted-answers t v;
    find = FindCall.accepted-answers t v;
    row = RowCall.accepted-answers t v;
    places = PlacesCall.accepted-answers t v;
    digest = DigestCall.accepted-answers t v;
    next-match = NextMatchCall.accepted-answers t v;
    prefix_row = PrefixRowCall.accepted-answers t v;
    column_row = ColumnRowCall.accepted-answers t v;
  }

  pub accepted-refuses : Refuses t (at.settings t.now) (text_of t.now)
  accepted-refuses = record {
    byte = ByteCall.accepted-refuses t v;
    run = RunCall.accepted-refuses t v;
    span = SpanCall.accepted-refuses t v;
    count = CountCall.accepted-refuses t v;
    find = FindCall.accepted-refuses t v;
    row = RowCall.accepted-refuses t v;
    places = PlacesCall.accepted-refuses t v;
    digest = DigestCall.accepted-refuses t v;
    next-match = NextMatchCall.accepted-refuses t v;
    prefix_row = PrefixRowCall.accepted-refuses t v;
    column_row = ColumnRowCall.accepted-refuses t v;
  }
