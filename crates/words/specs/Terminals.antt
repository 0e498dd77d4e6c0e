-- The terminals of the rule language by their spelling, and what is no word.
use Rattle.std.specs.Prelude.{ℕ, Bool, false, List, [], ◌∷◌, codes, ◌==◌}
use Rattle.words.specs.declared.terminals.Slip.{Slip}
use Rattle.words.specs.declared.terminals.Terminal.{Terminal}
use Rattle.words.specs.declared.terminals.Terminal.TheVariants.{Imply, Semicolon, Colon, Comma, Dot, OpenSquare, CloseSquare, OpenRound, CloseRound, Equal, NotEqual, Matches, NotMatches, Assign, And, KeyIssue, KeyType, KeyValue, KeyValueType, KeyClaim, Identifier, Literal, Uint64Type, Int64Type, StringType, BooleanType}

-- what stands at a place: a terminal, or units that are no word
pub data Kind : Type 0 where
  terminal : Terminal → Kind
  unreadable : Slip → Kind

-- a number for each, to tell them apart
abbrev pub mark : Terminal → ℕ
mark Imply = 0
mark Semicolon = 1
mark Colon = 2
mark Comma = 3
mark Dot = 4
mark OpenSquare = 5
mark CloseSquare = 6
mark OpenRound = 7
mark CloseRound = 8
mark Equal = 9
mark NotEqual = 10
mark Matches = 11
mark NotMatches = 12
mark Assign = 13
mark And = 14
mark KeyIssue = 15
mark KeyType = 16
mark KeyValue = 17
mark KeyValueType = 18
mark KeyClaim = 19
mark Identifier = 20
mark Literal = 21
mark Uint64Type = 22
mark Int64Type = 23
mark StringType = 24
mark BooleanType = 25

abbrev pub is : Terminal → Kind → Bool
is t (terminal u) = mark t == mark u
is t (unreadable s) = false

-- terminals that are told by their characters; a longer one comes before those that begin it
abbrev pub symbols : List (List ℕ × Terminal)
symbols =
    (codes "=>", Imply) ∷ (codes "==", Equal) ∷ (codes "=~", Matches) ∷ (codes "=", Assign) ∷ (codes "!=", NotEqual) ∷ (codes "!~", NotMatches) ∷ (codes "&&", And)
    ∷ (codes ";", Semicolon) ∷ (codes ":", Colon) ∷ (codes ",", Comma) ∷ (codes ".", Dot)
    ∷ (codes "[", OpenSquare) ∷ (codes "]", CloseSquare) ∷ (codes "(", OpenRound) ∷ (codes ")", CloseRound) ∷ []

-- words that are never identifiers, in any case
abbrev pub keywords : List (List ℕ × Terminal)
keywords = (codes "issue", KeyIssue) ∷ (codes "type", KeyType) ∷ (codes "value", KeyValue) ∷ (codes "valuetype", KeyValueType) ∷ (codes "claim", KeyClaim) ∷ []

-- quoted words that are value types, in any case
abbrev pub value_types : List (List ℕ × Terminal)
value_types = (codes "uint64", Uint64Type) ∷ (codes "int64", Int64Type) ∷ (codes "string", StringType) ∷ (codes "boolean", BooleanType) ∷ []
