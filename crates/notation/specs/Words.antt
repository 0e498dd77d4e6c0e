-- A mistake in words.
use Rattle.std.specs.Prelude.{ℕ, List, codes}
use Rattle.notation.specs.declared.mistakes.Mistake.{Mistake}
use Rattle.notation.specs.declared.mistakes.Mistake.TheVariants.{NotUtf8, MissingValueType, MissingValue, UnknownValueType, NotANumber, NumberOutOfRange, NotABoolean, TextNotClosed, BadEscape, TextTooLong, IllFormedText, NoBlankAfterField, MoreAfterValue, TooManyClaims, TextsTooLarge}

abbrev pub words_of : Mistake → List ℕ
words_of NotUtf8 = codes "not UTF-8 text"
words_of MissingValueType = codes "a value type and a value are missing"
words_of MissingValue = codes "a value is missing"
words_of UnknownValueType = codes "the value type is none of uint64, int64, string and boolean"
words_of NotANumber = codes "not a decimal number"
words_of NumberOutOfRange = codes "the number is out of range"
words_of NotABoolean = codes "a boolean is true, false, 1 or 0"
words_of TextNotClosed = codes "the quoted text is not closed"
words_of BadEscape = codes "the escape is none of \\\", \\\\, \\t, \\n and \\uXXXX"
words_of TextTooLong = codes "the text is longer than 255 units"
words_of IllFormedText = codes "the text has a unit 0000 or half of a surrogate pair"
words_of NoBlankAfterField = codes "a blank is missing after the field"
words_of MoreAfterValue = codes "something stands after the value"
words_of TooManyClaims = codes "more than 256 claims"
words_of TextsTooLarge = codes "the texts are more than a packet carries"
