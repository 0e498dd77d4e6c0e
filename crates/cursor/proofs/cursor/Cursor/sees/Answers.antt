use Rattle.cursor.specs.Reading.{rest}
use Rattle.cursor.proofs.Expecting.{sees_word, sees_none}
use Rattle.cursor.proofs.cursor.Cursor.sees.Goals as goal

pub returns-in-Word : goal.returns-in-Word
unfolding rest
returns-in-Word c = sees_word _ _ _ c.in-Word.piece c.in-Word.field-1 _ c.in-Word.is c.is_any.ensures

pub returns-in_default : goal.returns-in_default
unfolding rest
returns-in_default c = sees_none _ _ _ c.in_default.not-Word
