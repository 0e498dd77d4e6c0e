-- The grammar as it is read: one definition for each production, under its published name.
use Rattle.std.specs.Prelude.{ℕ, zero, suc, List, [], ◌∷◌, Some, None}
use Rattle.words.specs.Words.{Word}
use Rattle.words.specs.declared.terminals.Terminal.{Terminal}
use Rattle.words.specs.declared.terminals.Terminal.TheVariants.{Imply, Semicolon, Colon, Comma, Dot, OpenSquare, CloseSquare, OpenRound, CloseRound, Equal, NotEqual, Matches, NotMatches, Assign, And, KeyIssue, KeyType, KeyValue, KeyValueType, KeyClaim, Identifier, Literal, Uint64Type, Int64Type, StringType, BooleanType}
use Rattle.grammar.specs.Tree.{Oper, eq, neq, match, no_match, Cond, type_cond, value_cond, Selection, Expr, literal, value_type, type_of, value_of, value_type_of, Action, copy, new, Rule}
use Rattle.grammar.specs.Readers.{Reads, return, ◌>>=◌, ◌>>◌, ◌starts◌else◌, past_limit, t, many, placed}

-- Value-type-literal = INT64-TYPE / UINT64-TYPE / STRING-TYPE / BOOLEAN-TYPE
abbrev pub ValueTypeLiteral : Reads Word
ValueTypeLiteral =
    (Int64Type ∷ []) starts t Int64Type else (Uint64Type ∷ []) starts t Uint64Type else (StringType ∷ []) starts t StringType else t BooleanType

-- Literal-expr = Literal / Value-type-literal
abbrev pub LiteralExpr : Reads Word
LiteralExpr = (Literal ∷ []) starts t Literal else ValueTypeLiteral

-- Cond-oper = EQ / NEQ / REGEXP-MATCH / REGEXP-NOT-MATCH
abbrev pub CondOper : Reads Oper
CondOper =
    (Equal ∷ []) starts t Equal >> return eq
    else (NotEqual ∷ []) starts t NotEqual >> return neq
    else (Matches ∷ []) starts t Matches >> return match
    else t NotMatches >> return no_match

-- Type-cond = TYPE Cond-oper Literal-expr
abbrev pub TypeCond : Reads Cond
TypeCond = do
  t KeyType
  o ← CondOper
  l ← LiteralExpr
  return (type_cond o l)

abbrev pub Half : Type 0
Half = Oper × Word

abbrev pub both : Half → Half → Cond
both v y = value_cond v.0 v.1 y.0 y.1

-- Val-cond = VALUE Cond-oper Literal-expr
abbrev pub ValCond : Reads Half
ValCond = do
  t KeyValue
  o ← CondOper
  l ← LiteralExpr
  return (o, l)

-- Val-type-cond = VALUE-TYPE Cond-oper Value-type-literal
abbrev pub ValTypeCond : Reads Half
ValTypeCond = do
  t KeyValueType
  o ← CondOper
  l ← ValueTypeLiteral
  return (o, l)

-- Val-cond COMMA Val-type-cond
abbrev pub read_value_first : Reads Cond
read_value_first = do
  v ← ValCond
  t Comma
  y ← ValTypeCond
  return (both v y)

-- Val-type-cond COMMA Val-cond
abbrev pub read_value_type_first : Reads Cond
read_value_type_first = do
  y ← ValTypeCond
  t Comma
  v ← ValCond
  return (both v y)

-- Value-cond = (Val-cond COMMA Val-type-cond) / (Val-type-cond COMMA Val-cond)
abbrev pub ValueCond : Reads Cond
ValueCond = (KeyValue ∷ []) starts read_value_first else read_value_type_first

-- Cond = Value-cond / Type-cond
abbrev pub ACond : Reads Cond
ACond = (KeyValue ∷ KeyValueType ∷ []) starts ValueCond else TypeCond

abbrev pub conds_begin : List Terminal
conds_begin = KeyValue ∷ KeyValueType ∷ KeyType ∷ []

-- Cond-list = Cond / (Cond-list COMMA Cond), at most 4
abbrev pub CondList : Reads (List Cond)
CondList = many Comma conds_begin ACond 4

-- Opt-cond-list = NULL / Cond-list
abbrev pub OptCondList : Reads (List Cond)
OptCondList = conds_begin starts CondList else return []

-- Sel-condition-body = O-SQ-BRACKET Opt-cond-list C-SQ-BRACKET
abbrev pub SelConditionBody : Reads (List Cond)
SelConditionBody = do
  t OpenSquare
  cs ← OptCondList
  t CloseSquare
  return cs

abbrev pub unnamed : Reads Selection
unnamed = do
  cs ← SelConditionBody
  return (record { name = None; conds = cs })

-- IDENTIFIER COLON Sel-condition-body
abbrev pub named : Reads Selection
named = do
  i ← t Identifier
  t Colon
  cs ← SelConditionBody
  return (record { name = Some i; conds = cs })

-- Sel-condition = Sel-condition-body / (IDENTIFIER COLON Sel-condition-body)
abbrev pub SelCondition : Reads Selection
SelCondition = (OpenSquare ∷ []) starts unnamed else named

abbrev pub selections_begin : List Terminal
selections_begin = OpenSquare ∷ Identifier ∷ []

-- Sel-condition-list = Sel-condition / (Sel-condition-list AND Sel-condition), at most 4
abbrev pub SelConditionList : Reads (List Selection)
SelConditionList = many And selections_begin SelCondition 4

-- Conditions = NULL / Sel-condition-list
abbrev pub Conditions : Reads (List Selection)
Conditions = selections_begin starts SelConditionList else return []

-- Claim-prop / VALUE-TYPE, of the claim i
abbrev pub property : Word → Reads Expr
property i =
    (KeyType ∷ []) starts t KeyType >> return (type_of i)
    else (KeyValue ∷ []) starts t KeyValue >> return (value_of i)
    else t KeyValueType >> return (value_type_of i)

-- IDENTIFIER DOT (Claim-prop / VALUE-TYPE)
abbrev pub reference : Reads Expr
reference = do
  i ← t Identifier
  t Dot
  property i

-- Expr = Literal / Value-type-expr / (IDENTIFIER DOT Claim-prop)
abbrev pub Expression : Reads Expr
Expression =
    (Identifier ∷ []) starts reference
    else (Literal ∷ []) starts t Literal >>= (λ w. return (literal w))
    else ValueTypeLiteral >>= (λ w. return (value_type w))

-- Value-type-expr = Value-type-literal / (IDENTIFIER DOT VALUE-TYPE)
abbrev pub ValueTypeExpr : Reads Expr
ValueTypeExpr =
    (Identifier ∷ []) starts t Identifier >>= (λ i. t Dot >> t KeyValueType >> return (value_type_of i))
    else ValueTypeLiteral >>= (λ w. return (value_type w))

abbrev pub ClaimTypeAssign : Reads Expr
ClaimTypeAssign = t KeyType >> t Assign >> Expression

abbrev pub ClaimValAssign : Reads Expr
ClaimValAssign = t KeyValue >> t Assign >> Expression

abbrev pub ClaimValTypeAssign : Reads Expr
ClaimValTypeAssign = t KeyValueType >> t Assign >> ValueTypeExpr

abbrev pub Two : Type 0
Two = Expr × Expr

-- Claim-val-assign COMMA Claim-val-type-assign
abbrev pub assigns_value_first : Reads Two
assigns_value_first = do
  v ← ClaimValAssign
  t Comma
  y ← ClaimValTypeAssign
  return (v, y)

-- Claim-val-type-assign COMMA Claim-val-assign
abbrev pub assigns_value_type_first : Reads Two
assigns_value_type_first = do
  y ← ClaimValTypeAssign
  t Comma
  v ← ClaimValAssign
  return (v, y)

-- Claim-value-assign = (Claim-val-assign COMMA Claim-val-type-assign) / (Claim-val-type-assign COMMA Claim-val-assign)
abbrev pub ClaimValueAssign : Reads Two
ClaimValueAssign = (KeyValue ∷ []) starts assigns_value_first else assigns_value_type_first

-- Claim-type-assign COMMA Claim-value-assign
abbrev pub assigns_type_first : Reads Action
assigns_type_first = do
  n ← ClaimTypeAssign
  t Comma
  v ← ClaimValueAssign
  return (new n v.0 v.1)

-- Claim-value-assign COMMA Claim-type-assign
abbrev pub assigns_type_last : Reads Action
assigns_type_last = do
  v ← ClaimValueAssign
  t Comma
  n ← ClaimTypeAssign
  return (new n v.0 v.1)

-- Claim-prop-assign-list = (Claim-value-assign COMMA Claim-type-assign) / (Claim-type-assign COMMA Claim-value-assign)
abbrev pub ClaimNew : Reads Action
ClaimNew = (KeyType ∷ []) starts assigns_type_first else assigns_type_last

abbrev pub ClaimCopy : Reads Action
ClaimCopy = t KeyClaim >> t Assign >> t Identifier >>= (λ i. return (copy i))

-- Issue-params = Claim-copy / Claim-new
abbrev pub IssueParams : Reads Action
IssueParams = (KeyClaim ∷ []) starts ClaimCopy else ClaimNew

-- Rule-action = ISSUE O-BRACKET Issue-params C-BRACKET
abbrev pub RuleAction : Reads Action
RuleAction = do
  t KeyIssue
  t OpenRound
  x ← IssueParams
  t CloseRound
  return x

-- Rule-body = (Conditions IMPLY Rule-action SEMICOLON)
abbrev pub RuleBody : Reads (List Selection × Action)
RuleBody = do
  ss ← Conditions
  t Imply
  x ← RuleAction
  t Semicolon
  return (ss, x)

abbrev pub ARule : Reads Rule
ARule = placed RuleBody >>= (λ r. return (record { at = r.0; selections = r.1.0; action = r.1.1 }))

abbrev pub rules_begin : List Terminal
rules_begin = OpenSquare ∷ Identifier ∷ Imply ∷ []

-- Rules = Rule / Rule Rules, at most so many; Rule-set = NULL / Rules
unfoldable pub Rules : ℕ → Reads (List Rule)
Rules zero = rules_begin starts past_limit else return []
Rules (suc room) =
    rules_begin starts
    (do
      r ← ARule
      rs ← Rules room
      return (r ∷ rs))
    else return []

abbrev pub RuleSet : Reads (List Rule)
RuleSet = Rules 32
