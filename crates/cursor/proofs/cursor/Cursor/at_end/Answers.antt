use Rattle.cursor.specs.Reading.{rest}
use Rattle.cursor.proofs.Expecting.{some_left}
use Rattle.cursor.proofs.cursor.Cursor.at_end.Goals as goal

pub returns-in_default : goal.returns-in_default
unfolding rest
returns-in_default c = some_left _ _ c.in_default.not-End
