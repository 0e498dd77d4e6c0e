-- Rule texts that are accepted or refused, each with its rules or its fault.
use Rattle.std.specs.Prelude.{◌≡◌, ℕ, List, [], ◌∷◌, Some, codes}
use Rattle.faults.specs.At.{fault_at}
use Rattle.faults.specs.declared.Cause.{Cause}
use Rattle.faults.specs.declared.Cause.TheVariants.{UnknownCharacter, StringNotClosed, WordTooLong, UnexpectedWord, OverLimit}
use Rattle.words.specs.Terminals.{terminal}
use Rattle.words.specs.Words.{Word}
use Rattle.words.specs.declared.terminals.Terminal.TheVariants.{Identifier, Literal, BooleanType}
use Rattle.grammar.specs.Tree.{Rule, neq, type_cond, copy, new, literal, value_type}
use Rattle.grammar.specs.Whole.{Parsed, parse, rules, fault}

abbrev pub refused : Cause → ℕ → Parsed
refused c p = fault (fault_at c p)

abbrev pub c1 : ℕ → Word
c1 p = record { kind = terminal Identifier; at = p; text = codes "C1" }

abbrev pub allow_all : List Rule
allow_all = record { at = 0; selections = record { name = Some (c1 0); conds = [] } ∷ []; action = copy (c1 20) } ∷ []

abbrev pub type1 : Word
type1 = record { kind = terminal Literal; at = 12; text = codes "Type1" }

abbrev pub deny_some : List Rule
deny_some = record { at = 0; selections = record { name = Some (c1 0); conds = type_cond neq type1 ∷ [] } ∷ []; action = copy (c1 39) } ∷ []

abbrev pub letter_a : Word
letter_a = record { kind = terminal Literal; at = 14; text = codes "a" }

abbrev pub zero : Word
zero = record { kind = terminal Literal; at = 25; text = codes "0" }

abbrev pub boolean : Word
boolean = record { kind = terminal BooleanType; at = 40; text = codes "Boolean" }

abbrev pub always : List Rule
always = record { at = 0; selections = []; action = new (literal letter_a) (literal zero) (value_type boolean) } ∷ []

pub record Examples : Type 0 where
  pub nothing : parse [] ≡ rules []
  pub blanks : parse (codes " \n ") ≡ rules []
  pub all_allowed : parse (codes "C1:[]=> ISSUE(Claim=C1);") ≡ rules allow_all
  pub some_denied : parse (codes "C1:[type != \"Type1\"] => ISSUE (Claim = C1);") ≡ rules deny_some
  pub always_issued : parse (codes "=> issue(type=\"a\", value=\"0\", valuetype=\"Boolean\");") ≡ rules always
  pub bare_word : parse (codes "=> ISSUE (type=\"type1\", VALUE=false, VALUE-TYPE=\"boolean\");") ≡ refused UnexpectedWord 35
  pub no_operator : parse (codes "C1:[type] => ISSUE (Claim = C1);") ≡ refused UnexpectedWord 8
  pub no_end : parse (codes "a:[] => issue(claim=a) ") ≡ refused UnexpectedWord 23
  pub before_open_string : parse (codes "c:[];\"") ≡ refused UnexpectedWord 4
  pub lone_ampersand : parse (codes "a:[] & b:[]") ≡ refused UnknownCharacter 5
  pub open_string : parse (codes "[type == \"abc]") ≡ refused StringNotClosed 9
  pub long_name : parse (codes "abcdefghijklmnopqrstuvwxyz_012345:[]") ≡ refused WordTooLong 0
  pub string_as_value_type : parse (codes "[valuetype == \"x\", value == \"x\"] => issue(claim=a);") ≡ refused UnexpectedWord 14
  pub five_conditions : parse (codes "[type==\"a\",type==\"a\",type==\"a\",type==\"a\",type=>") ≡ refused OverLimit 41
  pub five_selections : parse (codes "[] && [] && [] && [] && x") ≡ refused OverLimit 24
  pub no_fifth_selection : parse (codes "[] && [] && [] && [] && =>") ≡ refused UnexpectedWord 24
