-- The published grammar: a relation for each production, a constructor for each of its alternatives. A relation says that these words
-- are that production and say that much.
use Rattle.std.specs.Prelude.{◌≡◌, true, List, [], ◌∷◌, ◌++◌, Some, None}
use Rattle.words.specs.Words.{Word}
use Rattle.words.specs.Terminals.{is}
use Rattle.words.specs.declared.terminals.Terminal.{Terminal}
use Rattle.words.specs.declared.terminals.Terminal.TheVariants.{Imply, Semicolon, Colon, Comma, Dot, OpenSquare, CloseSquare, OpenRound, CloseRound, Equal, NotEqual, Matches, NotMatches, Assign, And, KeyIssue, KeyType, KeyValue, KeyValueType, KeyClaim, Identifier, Literal, Uint64Type, Int64Type, StringType, BooleanType}
use Rattle.grammar.specs.Tree as Tree
use Rattle.grammar.specs.Tree.{Oper, eq, neq, match, no_match, type_cond, value_cond, Selection, Expr, literal, value_type, type_of, value_of, value_type_of, Action, copy, new, Rule}
use Rattle.grammar.specs.Readers.{first_place}

-- w is the terminal k
pub record Is (k : Terminal) (w : Word) : Type 0 where
  pub told : is k w.kind ≡ true

-- Value-type-literal = INT64-TYPE / UINT64-TYPE / STRING-TYPE / BOOLEAN-TYPE
pub data ValueTypeLiteral : List Word → Word → Type 0 where
  int64 : {w : Word} → Is Int64Type w → ValueTypeLiteral (w ∷ []) w
  uint64 : {w : Word} → Is Uint64Type w → ValueTypeLiteral (w ∷ []) w
  string : {w : Word} → Is StringType w → ValueTypeLiteral (w ∷ []) w
  boolean : {w : Word} → Is BooleanType w → ValueTypeLiteral (w ∷ []) w

-- Literal-expr = Literal / Value-type-literal; Literal = STRING
pub data LiteralExpr : List Word → Word → Type 0 where
  a_literal : {w : Word} → Is Literal w → LiteralExpr (w ∷ []) w
  a_value_type : {ws : List Word} {w : Word} → ValueTypeLiteral ws w → LiteralExpr ws w

-- Cond-oper = EQ / NEQ / REGEXP-MATCH / REGEXP-NOT-MATCH
pub data CondOper : List Word → Oper → Type 0 where
  an_eq : {w : Word} → Is Equal w → CondOper (w ∷ []) eq
  a_neq : {w : Word} → Is NotEqual w → CondOper (w ∷ []) neq
  a_match : {w : Word} → Is Matches w → CondOper (w ∷ []) match
  a_no_match : {w : Word} → Is NotMatches w → CondOper (w ∷ []) no_match

-- Type-cond = TYPE Cond-oper Literal-expr
pub data TypeCond : List Word → Tree.Cond → Type 0 where
  type_is : {k : Word} {os ls : List Word} {o : Oper} {l : Word} → Is KeyType k → CondOper os o → LiteralExpr ls l → TypeCond (k ∷ (os ++ ls)) (type_cond o l)

-- Val-cond = VALUE Cond-oper Literal-expr
pub data ValCond : List Word → Oper × Word → Type 0 where
  value_is : {k : Word} {os ls : List Word} {o : Oper} {l : Word} → Is KeyValue k → CondOper os o → LiteralExpr ls l → ValCond (k ∷ (os ++ ls)) (o, l)

-- Val-type-cond = VALUE-TYPE Cond-oper Value-type-literal
pub data ValTypeCond : List Word → Oper × Word → Type 0 where
  value_type_is : {k : Word} {os ls : List Word} {o : Oper} {l : Word} → Is KeyValueType k → CondOper os o → ValueTypeLiteral ls l → ValTypeCond (k ∷ (os ++ ls)) (o, l)

-- Value-cond = (Val-cond COMMA Val-type-cond) / (Val-type-cond COMMA Val-cond)
pub data ValueCond : List Word → Tree.Cond → Type 0 where
  value_first : {vs ys : List Word} {k : Word} {v y : Oper × Word} → ValCond vs v → Is Comma k → ValTypeCond ys y → ValueCond (vs ++ (k ∷ ys)) (value_cond v.0 v.1 y.0 y.1)
  value_type_first : {vs ys : List Word} {k : Word} {v y : Oper × Word} → ValTypeCond ys y → Is Comma k → ValCond vs v → ValueCond (ys ++ (k ∷ vs)) (value_cond v.0 v.1 y.0 y.1)

-- Cond = Value-cond / Type-cond
pub data Cond : List Word → Tree.Cond → Type 0 where
  of_value : {ws : List Word} {c : Tree.Cond} → ValueCond ws c → Cond ws c
  of_type : {ws : List Word} {c : Tree.Cond} → TypeCond ws c → Cond ws c

-- one or more, parted by k: L = X / (L k X)
pub data Listed {A : Type 0} (k : Terminal) (X : List Word → A → Type 0) : List Word → List A → Type 0 where
  one : {ws : List Word} {x : A} → X ws x → Listed k X ws (x ∷ [])
  more : {ws vs : List Word} {w : Word} {xs : List A} {x : A} → Listed k X ws xs → Is k w → X vs x → Listed k X (ws ++ (w ∷ vs)) (xs ++ (x ∷ []))

-- Cond-list = Cond / (Cond-list COMMA Cond)
abbrev pub CondList : List Word → List Tree.Cond → Type 0
CondList = Listed Comma Cond

-- Opt-cond-list = NULL / Cond-list
pub data OptCondList : List Word → List Tree.Cond → Type 0 where
  no_conds : OptCondList [] []
  conds : {ws : List Word} {cs : List Tree.Cond} → CondList ws cs → OptCondList ws cs

-- Sel-condition-body = O-SQ-BRACKET Opt-cond-list C-SQ-BRACKET
pub data SelConditionBody : List Word → List Tree.Cond → Type 0 where
  in_brackets : {o c : Word} {ws : List Word} {cs : List Tree.Cond} → Is OpenSquare o → OptCondList ws cs → Is CloseSquare c → SelConditionBody (o ∷ (ws ++ (c ∷ []))) cs

-- Sel-condition = Sel-condition-body / (IDENTIFIER COLON Sel-condition-body)
pub data SelCondition : List Word → Selection → Type 0 where
  bare : {ws : List Word} {cs : List Tree.Cond} → SelConditionBody ws cs → SelCondition ws (record { name = None; conds = cs })
  named : {i k : Word} {ws : List Word} {cs : List Tree.Cond} → Is Identifier i → Is Colon k → SelConditionBody ws cs → SelCondition (i ∷ k ∷ ws) (record { name = Some i; conds = cs })

-- Sel-condition-list = Sel-condition / (Sel-condition-list AND Sel-condition)
abbrev pub SelConditionList : List Word → List Selection → Type 0
SelConditionList = Listed And SelCondition

-- Conditions = NULL / Sel-condition-list
pub data Conditions : List Word → List Selection → Type 0 where
  no_selections : Conditions [] []
  selections : {ws : List Word} {ss : List Selection} → SelConditionList ws ss → Conditions ws ss

-- Value-type-expr = Value-type-literal / (IDENTIFIER DOT VALUE-TYPE)
pub data ValueTypeExpr : List Word → Expr → Type 0 where
  written : {ws : List Word} {w : Word} → ValueTypeLiteral ws w → ValueTypeExpr ws (value_type w)
  of_claim : {i d k : Word} → Is Identifier i → Is Dot d → Is KeyValueType k → ValueTypeExpr (i ∷ d ∷ k ∷ []) (value_type_of i)

-- Expr = Literal / Value-type-expr / (IDENTIFIER DOT Claim-prop); Claim-prop = TYPE / VALUE
pub data Expression : List Word → Expr → Type 0 where
  a_string : {w : Word} → Is Literal w → Expression (w ∷ []) (literal w)
  a_value_type_expr : {ws : List Word} {e : Expr} → ValueTypeExpr ws e → Expression ws e
  a_type : {i d k : Word} → Is Identifier i → Is Dot d → Is KeyType k → Expression (i ∷ d ∷ k ∷ []) (type_of i)
  a_value : {i d k : Word} → Is Identifier i → Is Dot d → Is KeyValue k → Expression (i ∷ d ∷ k ∷ []) (value_of i)

-- Claim-type-assign = TYPE ASSIGN Expr; Claim-val-assign = VALUE ASSIGN Expr; Claim-val-type-assign = VALUE-TYPE ASSIGN Value-type-expr
pub data Assignment (k : Terminal) (Right : List Word → Expr → Type 0) : List Word → Expr → Type 0 where
  assign : {p q : Word} {ws : List Word} {e : Expr} → Is k p → Is Assign q → Right ws e → Assignment k Right (p ∷ q ∷ ws) e

-- Claim-value-assign = (Claim-val-assign COMMA Claim-val-type-assign) / (Claim-val-type-assign COMMA Claim-val-assign)
pub data ClaimValueAssign : List Word → Expr × Expr → Type 0 where
  val_first : {vs ys : List Word} {k : Word} {v y : Expr} → Assignment KeyValue Expression vs v → Is Comma k → Assignment KeyValueType ValueTypeExpr ys y → ClaimValueAssign (vs ++ (k ∷ ys)) (v, y)
  val_type_first : {vs ys : List Word} {k : Word} {v y : Expr} → Assignment KeyValueType ValueTypeExpr ys y → Is Comma k → Assignment KeyValue Expression vs v → ClaimValueAssign (ys ++ (k ∷ vs)) (v, y)

-- Issue-params = Claim-copy / Claim-new; Claim-copy = CLAIM ASSIGN IDENTIFIER; Claim-new = Claim-prop-assign-list;
-- Claim-prop-assign-list = (Claim-value-assign COMMA Claim-type-assign) / (Claim-type-assign COMMA Claim-value-assign)
pub data IssueParams : List Word → Action → Type 0 where
  claim_copy : {p q i : Word} → Is KeyClaim p → Is Assign q → Is Identifier i → IssueParams (p ∷ q ∷ i ∷ []) (copy i)
  value_assigned_first : {vs ns : List Word} {k : Word} {n : Expr} {v : Expr × Expr} → ClaimValueAssign vs v → Is Comma k → Assignment KeyType Expression ns n → IssueParams (vs ++ (k ∷ ns)) (new n v.0 v.1)
  type_assigned_first : {vs ns : List Word} {k : Word} {n : Expr} {v : Expr × Expr} → Assignment KeyType Expression ns n → Is Comma k → ClaimValueAssign vs v → IssueParams (ns ++ (k ∷ vs)) (new n v.0 v.1)

-- Rule-action = ISSUE O-BRACKET Issue-params C-BRACKET
pub data RuleAction : List Word → Action → Type 0 where
  issue : {p o c : Word} {ws : List Word} {x : Action} → Is KeyIssue p → Is OpenRound o → IssueParams ws x → Is CloseRound c → RuleAction (p ∷ o ∷ (ws ++ (c ∷ []))) x

-- Rule = Rule-body; Rule-body = (Conditions IMPLY Rule-action SEMICOLON); its place is that of its first word
pub data ARule : List Word → Rule → Type 0 where
  rule_body : {ws vs : List Word} {i z : Word} {ss : List Selection} {x : Action} → Conditions ws ss → Is Imply i → RuleAction vs x → Is Semicolon z → ARule (ws ++ (i ∷ (vs ++ (z ∷ [])))) (record { at = first_place (ws ++ (i ∷ (vs ++ (z ∷ [])))); selections = ss; action = x })

-- Rules = Rule / Rule Rules
pub data Rules : List Word → List Rule → Type 0 where
  one_rule : {ws : List Word} {r : Rule} → ARule ws r → Rules ws (r ∷ [])
  more_rules : {ws vs : List Word} {r : Rule} {rs : List Rule} → ARule ws r → Rules vs rs → Rules (ws ++ vs) (r ∷ rs)

-- Rule-set = NULL / Rules
pub data RuleSet : List Word → List Rule → Type 0 where
  null : RuleSet [] []
  some_rules : {ws : List Word} {rs : List Rule} → Rules ws rs → RuleSet ws rs
