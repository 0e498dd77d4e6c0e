use Rattle.std.proofs.Common.{refl, rules}
use Rattle.cursor.specs.Reading.{rest, text_of}
use Rattle.cursor.proofs.cursor.Cursor.take.Goals as goal

pub returns : goal.returns
unfolding rest text_of
returns g c = record { chosen = (c.in-Word.piece, c.in-Word.end, c.in-Word.is, search rules, c.look_from-self.ensures); text = refl }
