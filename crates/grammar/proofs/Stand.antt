-- The examples hold, by computation.
use Rattle.std.proofs.Common.{refl}
use Rattle.grammar.specs.Readers.{t, many}
use Rattle.grammar.specs.Parse.{Rules}
use Rattle.grammar.specs.Whole.{parse}
use Rattle.grammar.specs.Examples.{Examples}

pub stand : Examples
unfolding parse t many Rules
stand = record { nothing = refl; blanks = refl; all_allowed = refl; some_denied = refl; always_issued = refl; bare_word = refl; no_operator = refl; no_end = refl; before_open_string = refl; lone_ampersand = refl; open_string = refl; long_name = refl; string_as_value_type = refl; five_conditions = refl; five_selections = refl; no_fifth_selection = refl }
