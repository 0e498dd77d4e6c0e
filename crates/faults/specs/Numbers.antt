-- The number of a cause, and its layer, whose digit is the number's tens digit.
use Rattle.std.specs.Prelude.{ℕ}
use Rattle.faults.specs.declared.Cause.{Cause}
use Rattle.faults.specs.declared.Cause.TheVariants.{TextTooLong, OddByteCount, IllFormedRuleText, UnknownCharacter, StringNotClosed, WordTooLong, UnexpectedWord, OverLimit, RepeatedIdentifier, UnknownIdentifier, MalformedPattern, PatternOverLimit, PartsTooShort, NotAPacket, LengthMismatch, TooManyClaims, ClaimPastEnd, UnknownValueType, BooleanOverOne, IllFormedText, UncarriableClaim, LiteralDoesNotConvert, TypeMismatch, BufferTooShort, PacketTooLarge, StoreFull, CutOutside}
use Rattle.faults.specs.declared.Layer.{Layer}
use Rattle.faults.specs.declared.Layer.TheVariants.{Text, Words, Grammar, Checks, Packet, Session, Forming, Output, Store}

abbrev pub number_of : Cause → ℕ
number_of TextTooLong = 11
number_of OddByteCount = 12
number_of IllFormedRuleText = 13
number_of UnknownCharacter = 21
number_of StringNotClosed = 22
number_of WordTooLong = 23
number_of UnexpectedWord = 31
number_of OverLimit = 41
number_of RepeatedIdentifier = 42
number_of UnknownIdentifier = 43
number_of MalformedPattern = 44
number_of PatternOverLimit = 45
number_of PartsTooShort = 46
number_of NotAPacket = 51
number_of LengthMismatch = 52
number_of TooManyClaims = 53
number_of ClaimPastEnd = 54
number_of UnknownValueType = 55
number_of BooleanOverOne = 56
number_of IllFormedText = 57
number_of UncarriableClaim = 64
number_of LiteralDoesNotConvert = 71
number_of TypeMismatch = 72
number_of BufferTooShort = 81
number_of PacketTooLarge = 82
number_of StoreFull = 91
number_of CutOutside = 92

abbrev pub layer_of : Cause → Layer
layer_of TextTooLong = Text
layer_of OddByteCount = Text
layer_of IllFormedRuleText = Text
layer_of UnknownCharacter = Words
layer_of StringNotClosed = Words
layer_of WordTooLong = Words
layer_of UnexpectedWord = Grammar
layer_of OverLimit = Checks
layer_of RepeatedIdentifier = Checks
layer_of UnknownIdentifier = Checks
layer_of MalformedPattern = Checks
layer_of PatternOverLimit = Checks
layer_of PartsTooShort = Checks
layer_of NotAPacket = Packet
layer_of LengthMismatch = Packet
layer_of TooManyClaims = Packet
layer_of ClaimPastEnd = Packet
layer_of UnknownValueType = Packet
layer_of BooleanOverOne = Packet
layer_of IllFormedText = Packet
layer_of UncarriableClaim = Session
layer_of LiteralDoesNotConvert = Forming
layer_of TypeMismatch = Forming
layer_of BufferTooShort = Output
layer_of PacketTooLarge = Output
layer_of StoreFull = Store
layer_of CutOutside = Store

abbrev pub digit_of : Layer → ℕ
digit_of Text = 1
digit_of Words = 2
digit_of Grammar = 3
digit_of Checks = 4
digit_of Packet = 5
digit_of Session = 6
digit_of Forming = 7
digit_of Output = 8
digit_of Store = 9
