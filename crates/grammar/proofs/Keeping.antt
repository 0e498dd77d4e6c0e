-- What holds of every word that is read holds of every word of the tree.
use Rattle.std.proofs.Common.{◌≡◌, ℕ, zero, suc, Bool, true, false, cond, leb, List, [], ◌∷◌, length, sym, refl, ap, ◌∙◌, subst, arith}
use Rattle.std.proofs.lemmas.Bool.{eqb-true}
use Rattle.std.specs.List.{AllByRecursion}
use Rattle.words.specs.Terminals.{Kind, terminal, unreadable, mark, is}
use Rattle.words.specs.Words.{Word, words}
use Rattle.words.specs.declared.terminals.Terminal.{Terminal}
use Rattle.words.specs.declared.terminals.Terminal.TheVariants.{Comma, OpenSquare, Equal, NotEqual, Matches, And, KeyType, KeyValue, KeyValueType, KeyClaim, Identifier, Literal, Uint64Type, Int64Type, StringType}
use Rattle.grammar.specs.Tree.{Oper, Selection, literal, value_type, Action, Rule}
use Rattle.grammar.specs.Readers.{Got, got, useless, past, Reads, next, return, ◌>>=◌, ◌starts◌else◌, past_limit, stop, t, many, placed, first_place}
use Rattle.grammar.specs.Parse as P
use Rattle.grammar.specs.Parse.{Half, Two, conds_begin, selections_begin, rules_begin, ARule, Rules}
use Rattle.grammar.specs.Whole.{rules, parse, whole, ends}
use Rattle.grammar.specs.Lying.{Lies, CondLies, SelectionLies, ExprLies, ActionLies, RuleLies, Lying}
use Rattle.grammar.proofs.Quoting.{quoted, QuoteLies, words_lie}

module _ (us : List ℕ) where
  -- of what is read P holds, and the words that are left still lie in the text
  abbrev After : {A : Type 0} → (A → Type 0) → Got A → Type 0
  After P (got x rest) = P x × AllByRecursion (QuoteLies us) rest
  After P (useless rest) = Unit {0}
  After P (past rest) = Unit {0}

  record Keeps {A : Type 0} (p : Reads A) (P : A → Type 0) : Type 0 where
    after : (ws : List Word) → AllByRecursion (QuoteLies us) ws → After P (p ws)

  abbrev Any : {A : Type 0} → A → Type 0
  Any x = Unit {0}

  returns : {A : Type 0} {P : A → Type 0} (x : A) → P x → Keeps (return x) P
  returns x h = record { after = λ ws a. (h, a) }

  module _ {A B : Type 0} {f : A → Reads B} {P : A → Type 0} {Q : B → Type 0} (h : (x : A) → P x → Keeps (f x) Q) where
    after_then : (g : Got A) → After P g → After Q (elim g [ got x rest ↦ f x rest | useless rest ↦ useless rest | past rest ↦ past rest ])
    after_then (got x rest) a = (h x a.0).after rest a.1
    after_then (useless rest) a = tt
    after_then (past rest) a = tt

  then : {A B : Type 0} {p : Reads A} {f : A → Reads B} {P : A → Type 0} {Q : B → Type 0} → Keeps p P → ((x : A) → P x → Keeps (f x) Q) → Keeps (p >>= f) Q
  then {p} k h = record { after = λ ws a. after_then h (p ws) (k.after ws a) }

  either : {A : Type 0} (ks : List Terminal) {p q : Reads A} {P : A → Type 0} → Keeps p P → Keeps q P → Keeps (ks starts p else q) P
  either ks {p} {q} {P} k l =
      record { after = λ ws a. elim (next ks ws) as (λ b. After P (cond b p q ws)) [ true ↦ k.after ws a | false ↦ l.after ws a ] }

  over : {A : Type 0} {P : A → Type 0} → Keeps past_limit P
  over = record { after = λ ws a. tt }

  stops : {A : Type 0} {P : A → Type 0} → Keeps stop P
  stops = record { after = λ ws a. tt }

  -- a word of the terminal, which lies in the text if it is quoted
  abbrev WordIs : Terminal → Word → Type 0
  WordIs k w = QuoteLies us w × (is k w.kind ≡ true)

  after_word : (k : Terminal) (w : Word) (ws : List Word) (b : Bool) → is k w.kind ≡ b → QuoteLies us w → AllByRecursion (QuoteLies us) ws
      → After (WordIs k) (elim b [ true ↦ got w ws | false ↦ useless (w ∷ ws) ])
  after_word k w ws true e q a = ((q, e), a)
  after_word k w ws false e q a = tt

  word_after : (k : Terminal) (ws : List Word) → AllByRecursion (QuoteLies us) ws → After (WordIs k) (t k ws)
  unfolding t
  word_after k [] a = tt
  word_after k (w ∷ ws) a = after_word k w ws (is k w.kind) refl a.0 a.1

  weaken : {A : Type 0} {P Q : A → Type 0} → ((x : A) → P x → Q x) → (g : Got A) → After P g → After Q g
  weaken h (got x rest) a = (h x a.0, a.1)
  weaken h (useless rest) a = tt
  weaken h (past rest) a = tt

  word : (k : Terminal) → Keeps (t k) Any
  word k = record { after = λ ws a. weaken (λ w _. tt) (t k ws) (word_after k ws a) }

  is_quoted : (k : Terminal) (m : Kind) → leb 21 (mark k) ≡ true → is k m ≡ true → quoted m ≡ true
  is_quoted k (terminal u) h e = sym (ap (leb 21) (eqb-true (mark k) (mark u) e)) ∙ h
  is_quoted k (unreadable s) h e = let z : ◌≡◌ {A = ℕ} 0 1 = cc in absurd (omega arith)

  quote : (k : Terminal) → leb 21 (mark k) ≡ true → Keeps (t k) (Lies us)
  quote k h = record { after = λ ws a. weaken (λ w q. q.0 (is_quoted k w.kind h q.1)) (t k ws) (word_after k ws a) }

  several : {A : Type 0} (k : Terminal) (ks : List Terminal) (p : Reads A) (P : A → Type 0) → Keeps p P → (room : ℕ) → Keeps (many k ks p room) (AllByRecursion P)
  unfolding many
  several k ks p P h zero = either ks over stops
  several k ks p P h (suc room) = then h (λ x a. then (either (k ∷ []) (then (word k) (λ _ _. several k ks p P h room)) (returns [] tt)) (λ xs b. returns (x ∷ xs) (a, b)))

  after_place : {A : Type 0} (P : A → Type 0) (n : ℕ) (g : Got A) → After P g → After {A = ℕ × A} (λ r. P r.1) (elim g [ got x rest ↦ got (n, x) rest | useless rest ↦ useless rest | past rest ↦ past rest ])
  after_place P n (got x rest) a = a
  after_place P n (useless rest) a = tt
  after_place P n (past rest) a = tt

  at_place : {A : Type 0} (p : Reads A) (P : A → Type 0) → Keeps p P → Keeps {A = ℕ × A} (placed p) (λ r. P r.1)
  at_place p P k = record { after = λ ws a. after_place P (first_place ws) (p ws) (k.after ws a) }

  -- conditions
  value_type_literal : Keeps P.ValueTypeLiteral (Lies us)
  value_type_literal = either (Int64Type ∷ []) (quote _ refl) (either (Uint64Type ∷ []) (quote _ refl) (either (StringType ∷ []) (quote _ refl) (quote _ refl)))

  literal_expr : Keeps P.LiteralExpr (Lies us)
  literal_expr = either (Literal ∷ []) (quote _ refl) value_type_literal

  oper : (k : Terminal) (o : Oper) → Keeps (t k >>= (λ _. return o)) Any
  oper k o = then (word k) (λ _ _. returns o tt)

  cond_oper : Keeps P.CondOper Any
  cond_oper = either (Equal ∷ []) (oper _ _) (either (NotEqual ∷ []) (oper _ _) (either (Matches ∷ []) (oper _ _) (oper _ _)))

  type_cond : Keeps P.TypeCond (CondLies us)
  type_cond = then (word _) (λ _ _. then cond_oper (λ o _. then literal_expr (λ l h. returns _ h)))

  abbrev HalfLies : Half → Type 0
  HalfLies h = Lies us h.1

  val_cond : Keeps P.ValCond HalfLies
  val_cond = then (word _) (λ _ _. then cond_oper (λ o _. then literal_expr (λ l h. returns (o, l) h)))

  val_type_cond : Keeps P.ValTypeCond HalfLies
  val_type_cond = then (word _) (λ _ _. then cond_oper (λ o _. then value_type_literal (λ l h. returns (o, l) h)))

  a_cond : Keeps P.ACond (CondLies us)
  a_cond =
      either (KeyValue ∷ KeyValueType ∷ [])
      (either (KeyValue ∷ [])
      (then val_cond (λ v a. then (word _) (λ _ _. then val_type_cond (λ y b. returns _ (a, b)))))
      (then val_type_cond (λ y b. then (word _) (λ _ _. then val_cond (λ v a. returns _ (a, b))))))
      type_cond

  opt_cond_list : Keeps P.OptCondList (AllByRecursion (CondLies us))
  opt_cond_list = either conds_begin (several Comma conds_begin P.ACond (CondLies us) a_cond _) (returns [] tt)

  body : Keeps P.SelConditionBody (AllByRecursion (CondLies us))
  body = then (word _) (λ _ _. then opt_cond_list (λ cs h. then (word _) (λ _ _. returns cs h)))

  sel_condition : Keeps P.SelCondition (SelectionLies us)
  sel_condition =
      either (OpenSquare ∷ []) (then body (λ cs h. returns _ h)) (then (word _) (λ i _. then (word _) (λ _ _. then body (λ cs h. returns _ h))))

  conditions : Keeps P.Conditions (AllByRecursion (SelectionLies us))
  conditions = either selections_begin (several And selections_begin P.SelCondition (SelectionLies us) sel_condition _) (returns [] tt)

  -- actions
  property : (i : Word) → Keeps (P.property i) (ExprLies us)
  property i =
      either (KeyType ∷ []) (then (word _) (λ _ _. returns _ tt)) (either (KeyValue ∷ []) (then (word _) (λ _ _. returns _ tt)) (then (word _) (λ _ _. returns _ tt)))

  quoted_type : Keeps (P.ValueTypeLiteral >>= (λ w. return (value_type w))) (ExprLies us)
  quoted_type = then value_type_literal (λ w h. returns (value_type w) h)

  expression : Keeps P.Expression (ExprLies us)
  expression =
      either (Identifier ∷ []) (then (word _) (λ i _. then (word _) (λ _ _. property i)))
      (either (Literal ∷ []) (then (quote _ refl) (λ w h. returns (literal w) h)) quoted_type)

  value_type_expr : Keeps P.ValueTypeExpr (ExprLies us)
  value_type_expr = either (Identifier ∷ []) (then (word _) (λ i _. then (word _) (λ _ _. then (word _) (λ _ _. returns _ tt)))) quoted_type

  type_assign : Keeps P.ClaimTypeAssign (ExprLies us)
  type_assign = then (word _) (λ _ _. then (word _) (λ _ _. expression))

  val_assign : Keeps P.ClaimValAssign (ExprLies us)
  val_assign = then (word _) (λ _ _. then (word _) (λ _ _. expression))

  val_type_assign : Keeps P.ClaimValTypeAssign (ExprLies us)
  val_type_assign = then (word _) (λ _ _. then (word _) (λ _ _. value_type_expr))

  abbrev TwoLie : Two → Type 0
  TwoLie v = ExprLies us v.0 × ExprLies us v.1

  value_assign : Keeps P.ClaimValueAssign TwoLie
  value_assign =
      either (KeyValue ∷ [])
      (then val_assign (λ v a. then (word _) (λ _ _. then val_type_assign (λ y b. returns (v, y) (a, b)))))
      (then val_type_assign (λ y b. then (word _) (λ _ _. then val_assign (λ v a. returns (v, y) (a, b)))))

  claim_new : Keeps P.ClaimNew (ActionLies us)
  claim_new =
      either (KeyType ∷ [])
      (then type_assign (λ n a. then (word _) (λ _ _. then value_assign (λ v b. returns _ (a, b.0, b.1)))))
      (then value_assign (λ v b. then (word _) (λ _ _. then type_assign (λ n a. returns _ (a, b.0, b.1)))))

  claim_copy : Keeps P.ClaimCopy (ActionLies us)
  claim_copy = then (word _) (λ _ _. then (word _) (λ _ _. then (word _) (λ i _. returns _ tt)))

  rule_action : Keeps P.RuleAction (ActionLies us)
  rule_action = then (word _) (λ _ _. then (word _) (λ _ _. then (either (KeyClaim ∷ []) claim_copy claim_new) (λ x h. then (word _) (λ _ _. returns x h))))

  -- rules
  abbrev BodyLies : List Selection × Action → Type 0
  BodyLies b = AllByRecursion (SelectionLies us) b.0 × ActionLies us b.1

  rule_body : Keeps P.RuleBody BodyLies
  rule_body = then conditions (λ ss a. then (word _) (λ _ _. then rule_action (λ x b. then (word _) (λ _ _. returns (ss, x) (a, b)))))

  a_rule : Keeps ARule (RuleLies us)
  a_rule = then (at_place P.RuleBody BodyLies rule_body) (λ r h. returns _ (record { selections = h.0; action = h.1 }))

  rule_list : (room : ℕ) → Keeps (Rules room) (AllByRecursion (RuleLies us))
  unfolding Rules
  rule_list zero = either rules_begin over (returns [] tt)
  rule_list (suc room) = either rules_begin (then a_rule (λ r a. then (rule_list room) (λ rs b. returns (r ∷ rs) (a, b)))) (returns [] tt)

  -- a whole text
  ended : (n : ℕ) (qs rs : List Rule) (ws : List Word) → ends n qs ws ≡ rules rs → qs ≡ rs
  ended n qs rs [] e = cc
  ended n qs rs (w ∷ ws) e = let z : ◌≡◌ {A = ℕ} 0 1 = cc in absurd (omega arith)

  told : (n : ℕ) (g : Got (List Rule)) (rs : List Rule) → After (AllByRecursion (RuleLies us)) g → whole n g ≡ rules rs → AllByRecursion (RuleLies us) rs
  told n (got qs ws) rs a e = subst (AllByRecursion (RuleLies us)) (ended n qs rs ws e) a.0
  told n (useless ws) rs a e = let z : ◌≡◌ {A = ℕ} 0 1 = cc in absurd (omega arith)
  told n (past ws) rs a e = let z : ◌≡◌ {A = ℕ} 0 1 = cc in absurd (omega arith)

pub lying : Lying
unfolding parse
lying us rs e = told us (length us) (P.RuleSet (words us)) rs ((rule_list us 32).after (words us) (words_lie us us 0 0 refl)) e
