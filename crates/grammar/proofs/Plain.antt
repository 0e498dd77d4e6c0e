-- The productions in which no limit stands: each parser is exact for its published production.
use Rattle.std.proofs.Common.{List, [], ◌∷◌, refl, subst}
use Rattle.words.specs.Words.{Word}
use Rattle.words.specs.declared.terminals.Terminal.{Terminal}
use Rattle.words.specs.declared.terminals.Terminal.TheVariants.{Comma, Dot, OpenRound, CloseRound, Equal, NotEqual, Matches, NotMatches, Assign, KeyIssue, KeyType, KeyValue, KeyValueType, KeyClaim, Identifier, Literal, Uint64Type, Int64Type, StringType, BooleanType}
use Rattle.grammar.specs.Tree as Tree
use Rattle.grammar.specs.Tree.{Oper, eq, neq, match, no_match, type_cond, Expr, literal, value_type, type_of, value_of, value_type_of, Action, copy, new}
use Rattle.grammar.specs.Parse as P
use Rattle.grammar.specs.Readers.{Reads, return, ◌>>=◌, t, ◌starts◌else◌}
use Rattle.grammar.specs.Parse.{Half, Two}
use Rattle.grammar.specs.Grammar as G
use Rattle.grammar.specs.Exact.{Never}
use Rattle.grammar.proofs.Good.{Mode, Rel, One, one, Seq, seq, Map, mapped, Alt, left, right, Good, Among, word, put, row0, alt0, is_as}

-- ── Value-type-literal, Literal-expr, Cond-oper ──
abbrev TypeWords : Mode → Rel Word
TypeWords = Alt (One Int64Type) (Alt (One Uint64Type) (Alt (One StringType) (One BooleanType)))

abbrev types_begin : List Terminal
types_begin = Int64Type ∷ Uint64Type ∷ StringType ∷ BooleanType ∷ []

pub value_type_literal : {F : List Word → Type 0} → Good P.ValueTypeLiteral (λ _. G.ValueTypeLiteral) Never (Among types_begin) F
value_type_literal = is_as (alt0 (word _) (alt0 (word _) (alt0 (word _) (word _) refl) refl) refl) to from
  where
    to : (m : Mode) (ws : List Word) (w : Word) → TypeWords m ws w → G.ValueTypeLiteral ws w
    to m ws w (left (one i)) = G.int64 i
    to m ws w (right (left (one i))) = G.uint64 i
    to m ws w (right (right (left (one i)))) = G.string i
    to m ws w (right (right (right (one i)))) = G.boolean i

    from : (m : Mode) (ws : List Word) (w : Word) → G.ValueTypeLiteral ws w → TypeWords m ws w
    from m ws w (G.int64 i) = left (one i)
    from m ws w (G.uint64 i) = right (left (one i))
    from m ws w (G.string i) = right (right (left (one i)))
    from m ws w (G.boolean i) = right (right (right (one i)))

literal_expr : {F : List Word → Type 0} → Good P.LiteralExpr (λ _. G.LiteralExpr) Never (Among (Literal ∷ types_begin)) F
literal_expr = is_as (alt0 (word _) value_type_literal refl) to from
  where
    to : (m : Mode) (ws : List Word) (w : Word) → Alt (One Literal) (λ _. G.ValueTypeLiteral) m ws w → G.LiteralExpr ws w
    to m ws w (left (one i)) = G.a_literal i
    to m ws w (right d) = G.a_value_type d

    from : (m : Mode) (ws : List Word) (w : Word) → G.LiteralExpr ws w → Alt (One Literal) (λ _. G.ValueTypeLiteral) m ws w
    from m ws w (G.a_literal i) = left (one i)
    from m ws w (G.a_value_type d) = right d

abbrev OperWords : Mode → Rel Oper
OperWords = Alt (Map (λ _. eq) (One Equal)) (Alt (Map (λ _. neq) (One NotEqual)) (Alt (Map (λ _. match) (One Matches)) (Map (λ _. no_match) (One NotMatches))))

cond_oper : {F : List Word → Type 0} → Good P.CondOper (λ _. G.CondOper) Never (Among (Equal ∷ NotEqual ∷ Matches ∷ NotMatches ∷ [])) F
cond_oper = is_as (alt0 (put _ (word _)) (alt0 (put _ (word _)) (alt0 (put _ (word _)) (put _ (word _)) refl) refl) refl) to from
  where
    to : (m : Mode) (ws : List Word) (o : Oper) → OperWords m ws o → G.CondOper ws o
    to m ws o (left (mapped (one i) v)) = subst (G.CondOper _) v (G.an_eq i)
    to m ws o (right (left (mapped (one i) v))) = subst (G.CondOper _) v (G.a_neq i)
    to m ws o (right (right (left (mapped (one i) v)))) = subst (G.CondOper _) v (G.a_match i)
    to m ws o (right (right (right (mapped (one i) v)))) = subst (G.CondOper _) v (G.a_no_match i)

    from : (m : Mode) (ws : List Word) (o : Oper) → G.CondOper ws o → OperWords m ws o
    from m ws o (G.an_eq i) = left (mapped (one i) refl)
    from m ws o (G.a_neq i) = right (left (mapped (one i) refl))
    from m ws o (G.a_match i) = right (right (left (mapped (one i) refl)))
    from m ws o (G.a_no_match i) = right (right (right (mapped (one i) refl)))

-- ── conditions ──
-- a keyword, an operator and a right side
abbrev Three : {C : Type 0} → Terminal → Rel Word → (Oper → Word → C) → Mode → Rel C
Three k R made = Seq (One k) (λ _. Seq (λ _. G.CondOper) (λ o. Map (made o) (λ _. R)))

three : {C : Type 0} (k : Terminal) {q : Reads Word} {R : Rel Word} (made : Oper → Word → C) {H F : List Word → Type 0} → Good q (λ _. R) Never H F → Good (t k >>= (λ _. P.CondOper >>= (λ o. q >>= (λ l. return (made o l))))) (Three k R made) Never (Among (k ∷ [])) F
three k made g = row0 (word k) (λ _. row0 cond_oper (λ o. put (made o) g))

-- two productions parted by a terminal
abbrev Parted : {A B C : Type 0} → Terminal → Rel A → Rel B → (A → B → C) → Mode → Rel C
Parted k R S made = Seq (λ _. R) (λ x. Seq (One k) (λ _. Map (made x) (λ _. S)))

parted : {A B C : Type 0} (k : Terminal) {p : Reads A} {q : Reads B} {R : Rel A} {S : Rel B} (made : A → B → C) {H J F : List Word → Type 0} → Good p (λ _. R) Never H (Among (k ∷ [])) → Good q (λ _. S) Never J F → Good (p >>= (λ x. t k >>= (λ _. q >>= (λ y. return (made x y))))) (Parted k R S made) Never H F
parted k made g h = row0 g (λ x. row0 (word k) (λ _. put (made x) h))

type_cond_good : {F : List Word → Type 0} → Good P.TypeCond (λ _. G.TypeCond) Never (Among (KeyType ∷ [])) F
type_cond_good = is_as (three KeyType type_cond literal_expr) to from
  where
    to : (m : Mode) (ws : List Word) (c : Tree.Cond) → Three KeyType G.LiteralExpr type_cond m ws c → G.TypeCond ws c
    to m ws c (seq (one i) (seq o (mapped l v))) = subst (G.TypeCond _) v (G.type_is i o l)

    from : (m : Mode) (ws : List Word) (c : Tree.Cond) → G.TypeCond ws c → Three KeyType G.LiteralExpr type_cond m ws c
    from m ws c (G.type_is i o l) = seq (one i) (seq o (mapped l refl))

abbrev half : Oper → Word → Half
half o l = (o, l)

val_cond : {F : List Word → Type 0} → Good P.ValCond (λ _. G.ValCond) Never (Among (KeyValue ∷ [])) F
val_cond = is_as (three KeyValue half literal_expr) to from
  where
    to : (m : Mode) (ws : List Word) (c : Half) → Three KeyValue G.LiteralExpr half m ws c → G.ValCond ws c
    to m ws c (seq (one i) (seq o (mapped l v))) = subst (G.ValCond _) v (G.value_is i o l)

    from : (m : Mode) (ws : List Word) (c : Half) → G.ValCond ws c → Three KeyValue G.LiteralExpr half m ws c
    from m ws c (G.value_is i o l) = seq (one i) (seq o (mapped l refl))

val_type_cond : {F : List Word → Type 0} → Good P.ValTypeCond (λ _. G.ValTypeCond) Never (Among (KeyValueType ∷ [])) F
val_type_cond = is_as (three KeyValueType half value_type_literal) to from
  where
    to : (m : Mode) (ws : List Word) (c : Half) → Three KeyValueType G.ValueTypeLiteral half m ws c → G.ValTypeCond ws c
    to m ws c (seq (one i) (seq o (mapped l v))) = subst (G.ValTypeCond _) v (G.value_type_is i o l)

    from : (m : Mode) (ws : List Word) (c : Half) → G.ValTypeCond ws c → Three KeyValueType G.ValueTypeLiteral half m ws c
    from m ws c (G.value_type_is i o l) = seq (one i) (seq o (mapped l refl))

abbrev Halves : Mode → Rel Tree.Cond
Halves = Alt (Parted Comma G.ValCond G.ValTypeCond P.both) (Parted Comma G.ValTypeCond G.ValCond (λ y v. P.both v y))

value_cond : {F : List Word → Type 0} → Good P.ValueCond (λ _. G.ValueCond) Never (Among (KeyValue ∷ KeyValueType ∷ [])) F
value_cond = is_as (alt0 (parted Comma P.both val_cond val_type_cond) (parted Comma (λ y v. P.both v y) val_type_cond val_cond) refl) to from
  where
    to : (m : Mode) (ws : List Word) (c : Tree.Cond) → Halves m ws c → G.ValueCond ws c
    to m ws c (left (seq d (seq (one i) (mapped e v)))) = subst (G.ValueCond _) v (G.value_first d i e)
    to m ws c (right (seq d (seq (one i) (mapped e v)))) = subst (G.ValueCond _) v (G.value_type_first d i e)

    from : (m : Mode) (ws : List Word) (c : Tree.Cond) → G.ValueCond ws c → Halves m ws c
    from m ws c (G.value_first d i e) = left (seq d (seq (one i) (mapped e refl)))
    from m ws c (G.value_type_first d i e) = right (seq d (seq (one i) (mapped e refl)))

pub a_cond : {F : List Word → Type 0} → Good P.ACond (λ _. G.Cond) Never (Among (KeyValue ∷ KeyValueType ∷ KeyType ∷ [])) F
a_cond = is_as (alt0 value_cond type_cond_good refl) to from
  where
    to : (m : Mode) (ws : List Word) (c : Tree.Cond) → Alt (λ _. G.ValueCond) (λ _. G.TypeCond) m ws c → G.Cond ws c
    to m ws c (left d) = G.of_value d
    to m ws c (right d) = G.of_type d

    from : (m : Mode) (ws : List Word) (c : Tree.Cond) → G.Cond ws c → Alt (λ _. G.ValueCond) (λ _. G.TypeCond) m ws c
    from m ws c (G.of_value d) = left d
    from m ws c (G.of_type d) = right d

-- ── actions ──
abbrev OfClaim : Mode → Rel Expr
OfClaim = Seq (One Identifier) (λ i. Seq (One Dot) (λ _. Alt (Map (λ _. type_of i) (One KeyType)) (Alt (Map (λ _. value_of i) (One KeyValue)) (Map (λ _. value_type_of i) (One KeyValueType)))))

abbrev Exprs : Mode → Rel Expr
Exprs = Alt OfClaim (Alt (Map literal (One Literal)) (Map value_type (λ _. G.ValueTypeLiteral)))

expression : {F : List Word → Type 0} → Good P.Expression (λ _. G.Expression) Never (Among (Identifier ∷ Literal ∷ types_begin)) F
expression =
    is_as (alt0 (row0 (word _) (λ i. row0 (word _) (λ _. alt0 (put _ (word _)) (alt0 (put _ (word _)) (put _ (word _)) refl) refl))) (alt0 (put literal (word _)) (put value_type value_type_literal) refl) refl) to from
  where
    to : (m : Mode) (ws : List Word) (e : Expr) → Exprs m ws e → G.Expression ws e
    to m ws e (left (seq (one i) (seq (one d) (left (mapped (one k) v))))) = subst (G.Expression _) v (G.a_type i d k)
    to m ws e (left (seq (one i) (seq (one d) (right (left (mapped (one k) v)))))) = subst (G.Expression _) v (G.a_value i d k)
    to m ws e (left (seq (one i) (seq (one d) (right (right (mapped (one k) v)))))) = subst (G.Expression _) v (G.a_value_type_expr (G.of_claim i d k))
    to m ws e (right (left (mapped (one i) v))) = subst (G.Expression _) v (G.a_string i)
    to m ws e (right (right (mapped d v))) = subst (G.Expression _) v (G.a_value_type_expr (G.written d))

    from : (m : Mode) (ws : List Word) (e : Expr) → G.Expression ws e → Exprs m ws e
    from m ws e (G.a_string i) = right (left (mapped (one i) refl))
    from m ws e (G.a_value_type_expr (G.written d)) = right (right (mapped d refl))
    from m ws e (G.a_value_type_expr (G.of_claim i d k)) = left (seq (one i) (seq (one d) (right (right (mapped (one k) refl)))))
    from m ws e (G.a_type i d k) = left (seq (one i) (seq (one d) (left (mapped (one k) refl))))
    from m ws e (G.a_value i d k) = left (seq (one i) (seq (one d) (right (left (mapped (one k) refl)))))

abbrev TypeExprs : Mode → Rel Expr
TypeExprs = Alt (Seq (One Identifier) (λ i. Seq (One Dot) (λ _. Map (λ _. value_type_of i) (One KeyValueType)))) (Map value_type (λ _. G.ValueTypeLiteral))

value_type_expr : {F : List Word → Type 0} → Good P.ValueTypeExpr (λ _. G.ValueTypeExpr) Never (Among (Identifier ∷ types_begin)) F
value_type_expr = is_as (alt0 (row0 (word _) (λ i. row0 (word _) (λ _. put _ (word _)))) (put value_type value_type_literal) refl) to from
  where
    to : (m : Mode) (ws : List Word) (e : Expr) → TypeExprs m ws e → G.ValueTypeExpr ws e
    to m ws e (left (seq (one i) (seq (one d) (mapped (one k) v)))) = subst (G.ValueTypeExpr _) v (G.of_claim i d k)
    to m ws e (right (mapped d v)) = subst (G.ValueTypeExpr _) v (G.written d)

    from : (m : Mode) (ws : List Word) (e : Expr) → G.ValueTypeExpr ws e → TypeExprs m ws e
    from m ws e (G.of_claim i d k) = left (seq (one i) (seq (one d) (mapped (one k) refl)))
    from m ws e (G.written d) = right (mapped d refl)

assign : (k : Terminal) {p : Reads Expr} {R : Rel Expr} {H F : List Word → Type 0} → Good p (λ _. R) Never H F → Good (t k >>= (λ _. t Assign >>= (λ _. p))) (λ _. G.Assignment k R) Never (Among (k ∷ [])) F
assign k {R = R} g = is_as (row0 (word k) (λ _. row0 (word Assign) (λ _. g))) to from
  where
    to : (m : Mode) (ws : List Word) (e : Expr) → Seq (One k) (λ _. Seq (One Assign) (λ _ _. R)) m ws e → G.Assignment k R ws e
    to m ws e (seq (one i) (seq (one j) d)) = G.assign i j d

    from : (m : Mode) (ws : List Word) (e : Expr) → G.Assignment k R ws e → Seq (One k) (λ _. Seq (One Assign) (λ _ _. R)) m ws e
    from m ws e (G.assign i j d) = seq (one i) (seq (one j) d)

abbrev TypeAssign : Rel Expr
TypeAssign = G.Assignment KeyType G.Expression

abbrev ValueAssign : Rel Expr
ValueAssign = G.Assignment KeyValue G.Expression

abbrev ValueTypeAssign : Rel Expr
ValueTypeAssign = G.Assignment KeyValueType G.ValueTypeExpr

claim_type_assign : {F : List Word → Type 0} → Good P.ClaimTypeAssign (λ _. TypeAssign) Never (Among (KeyType ∷ [])) F
claim_type_assign = assign KeyType expression

claim_val_assign : {F : List Word → Type 0} → Good P.ClaimValAssign (λ _. ValueAssign) Never (Among (KeyValue ∷ [])) F
claim_val_assign = assign KeyValue expression

claim_val_type_assign : {F : List Word → Type 0} → Good P.ClaimValTypeAssign (λ _. ValueTypeAssign) Never (Among (KeyValueType ∷ [])) F
claim_val_type_assign = assign KeyValueType value_type_expr

abbrev two : Expr → Expr → Two
two v y = (v, y)

abbrev TwoAssigns : Mode → Rel Two
TwoAssigns = Alt (Parted Comma ValueAssign ValueTypeAssign two) (Parted Comma ValueTypeAssign ValueAssign (λ y v. two v y))

claim_value_assign : {F : List Word → Type 0} → Good P.ClaimValueAssign (λ _. G.ClaimValueAssign) Never (Among (KeyValue ∷ KeyValueType ∷ [])) F
claim_value_assign = is_as (alt0 (parted Comma two claim_val_assign claim_val_type_assign) (parted Comma (λ y v. two v y) claim_val_type_assign claim_val_assign) refl) to from
  where
    to : (m : Mode) (ws : List Word) (c : Two) → TwoAssigns m ws c → G.ClaimValueAssign ws c
    to m ws c (left (seq d (seq (one i) (mapped e v)))) = subst (G.ClaimValueAssign _) v (G.val_first d i e)
    to m ws c (right (seq d (seq (one i) (mapped e v)))) = subst (G.ClaimValueAssign _) v (G.val_type_first d i e)

    from : (m : Mode) (ws : List Word) (c : Two) → G.ClaimValueAssign ws c → TwoAssigns m ws c
    from m ws c (G.val_first d i e) = left (seq d (seq (one i) (mapped e refl)))
    from m ws c (G.val_type_first d i e) = right (seq d (seq (one i) (mapped e refl)))

abbrev made_new : Expr → Two → Action
made_new n v = new n v.0 v.1

abbrev Params : Mode → Rel Action
Params = Alt (Seq (One KeyClaim) (λ _. Seq (One Assign) (λ _. Map copy (One Identifier)))) (Alt (Parted Comma TypeAssign G.ClaimValueAssign made_new) (Parted Comma G.ClaimValueAssign TypeAssign (λ v n. made_new n v)))

abbrev params_read : Reads Action
params_read = ◌starts◌else◌ (KeyClaim ∷ []) P.ClaimCopy P.ClaimNew

issue_params : {F : List Word → Type 0} → Good params_read (λ _. G.IssueParams) Never (Among (KeyClaim ∷ KeyType ∷ KeyValue ∷ KeyValueType ∷ [])) F
issue_params =
    is_as (alt0 (row0 (word _) (λ _. row0 (word _) (λ _. put copy (word _)))) (alt0 (parted Comma made_new claim_type_assign claim_value_assign) (parted Comma (λ v n. made_new n v) claim_value_assign claim_type_assign) refl) refl) to from
  where
    to : (m : Mode) (ws : List Word) (x : Action) → Params m ws x → G.IssueParams ws x
    to m ws x (left (seq (one i) (seq (one j) (mapped (one k) v)))) = subst (G.IssueParams _) v (G.claim_copy i j k)
    to m ws x (right (left (seq d (seq (one i) (mapped e v))))) = subst (G.IssueParams _) v (G.type_assigned_first d i e)
    to m ws x (right (right (seq d (seq (one i) (mapped e v))))) = subst (G.IssueParams _) v (G.value_assigned_first d i e)

    from : (m : Mode) (ws : List Word) (x : Action) → G.IssueParams ws x → Params m ws x
    from m ws x (G.claim_copy i j k) = left (seq (one i) (seq (one j) (mapped (one k) refl)))
    from m ws x (G.type_assigned_first d i e) = right (left (seq d (seq (one i) (mapped e refl))))
    from m ws x (G.value_assigned_first d i e) = right (right (seq d (seq (one i) (mapped e refl))))

abbrev Issue : Mode → Rel Action
Issue = Seq (One KeyIssue) (λ _. Seq (One OpenRound) (λ _. Seq (λ _. G.IssueParams) (λ x. Map (λ _. x) (One CloseRound))))

pub rule_action : {F : List Word → Type 0} → Good P.RuleAction (λ _. G.RuleAction) Never (Among (KeyIssue ∷ [])) F
rule_action = is_as (row0 (word _) (λ _. row0 (word _) (λ _. row0 issue_params (λ x. put _ (word _))))) to from
  where
    to : (m : Mode) (ws : List Word) (x : Action) → Issue m ws x → G.RuleAction ws x
    to m ws x (seq (one i) (seq (one j) (seq d (mapped (one k) v)))) = subst (G.RuleAction _) v (G.issue i j d k)

    from : (m : Mode) (ws : List Word) (x : Action) → G.RuleAction ws x → Issue m ws x
    from m ws x (G.issue i j d k) = seq (one i) (seq (one j) (seq d (mapped (one k) refl)))
