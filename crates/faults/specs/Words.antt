-- A cause in words, and a fault in words.
use Rattle.std.specs.Prelude.{ℕ, List, ◌++◌, codes, decimal}
use Rattle.faults.specs.Numbers.{number_of}
use Rattle.faults.specs.declared.Fault.{Fault}
use Rattle.faults.specs.declared.Cause.{Cause}
use Rattle.faults.specs.declared.Cause.TheVariants.{TextTooLong, OddByteCount, IllFormedRuleText, UnknownCharacter, StringNotClosed, WordTooLong, UnexpectedWord, OverLimit, RepeatedIdentifier, UnknownIdentifier, MalformedPattern, PatternOverLimit, PartsTooShort, NotAPacket, LengthMismatch, TooManyClaims, ClaimPastEnd, UnknownValueType, BooleanOverOne, IllFormedText, UncarriableClaim, LiteralDoesNotConvert, TypeMismatch, BufferTooShort, PacketTooLarge, StoreFull, CutOutside}

abbrev pub words_of : Cause → List ℕ
words_of TextTooLong = codes "the rule text has over 32768 bytes"
words_of OddByteCount = codes "the rule text has an odd number of bytes"
words_of IllFormedRuleText = codes "a unit 0000 or half of a surrogate pair in the rule text"
words_of UnknownCharacter = codes "no word begins with this character"
words_of StringNotClosed = codes "the string is not closed on its line"
words_of WordTooLong = codes "an identifier over 31 units or a string over 255"
words_of UnexpectedWord = codes "the grammar has no use for this word"
words_of OverLimit = codes "a rule, selection or condition past its limit"
words_of RepeatedIdentifier = codes "an earlier selection of the rule has this identifier"
words_of UnknownIdentifier = codes "no selection of the rule has this identifier"
words_of MalformedPattern = codes "the pattern is malformed"
words_of PatternOverLimit = codes "the pattern nests over 8 deep or has over 60 atoms"
words_of PartsTooShort = codes "the buffer for the parts is too short"
words_of NotAPacket = codes "not a packet of version 1"
words_of LengthMismatch = codes "the length is not that of the bytes present"
words_of TooManyClaims = codes "more than 256 claims"
words_of ClaimPastEnd = codes "a claim runs past the end"
words_of UnknownValueType = codes "an unknown value type"
words_of BooleanOverOne = codes "a boolean that is neither 0 nor 1"
words_of IllFormedText = codes "a text with a unit 0000 or half of a surrogate pair"
words_of UncarriableClaim = codes "a claim that a packet cannot carry"
words_of LiteralDoesNotConvert = codes "the literal does not convert to the value type"
words_of TypeMismatch = codes "a value of another kind than the new claim asks for"
words_of BufferTooShort = codes "the buffer is too short"
words_of PacketTooLarge = codes "more than a packet carries"
words_of StoreFull = codes "the store is full"
words_of CutOutside = codes "a cut outside floor and length"

-- its number, its place, and its cause
abbrev pub told : Fault → List ℕ
told f = decimal (number_of f.cause) ++ (codes " at " ++ (decimal f.place ++ (codes ": " ++ words_of f.cause)))
