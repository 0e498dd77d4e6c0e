-- What loading owes to the published grammar: which texts it accepts, and where it stops at the others.
use Rattle.std.specs.Prelude.{◌≡◌, ℕ, zero, suc, ◌≤◌, ◌↔◌, List, [], ◌∷◌, ◌++◌, length, ◌≢◌}
use Rattle.std.specs.List.{AllByRecursion}
use Rattle.faults.specs.At.{fault_at}
use Rattle.faults.specs.declared.Cause.TheVariants.{UnknownCharacter, StringNotClosed, WordTooLong, UnexpectedWord, OverLimit}
use Rattle.faults.specs.declared.Fault.{Fault}
use Rattle.words.specs.Words.{Word, words}
use Rattle.words.specs.Terminals.{terminal, unreadable}
use Rattle.words.specs.declared.terminals.Slip.TheVariants.{BeginsNone, NotClosed, TooLong}
use Rattle.words.specs.declared.terminals.Terminal.{Terminal}
use Rattle.words.specs.declared.terminals.Terminal.TheVariants.{Comma, And, OpenSquare, Colon, Identifier}
use Rattle.grammar.specs.Tree.{Selection, Rule}
use Rattle.grammar.specs.Whole.{Parsed, parse, rules, fault}
use Rattle.grammar.specs.Grammar.{Is, Cond, SelCondition, ARule, RuleSet}

-- some sentence of R begins with these words
pub record Begins {A : Type 0} (R : List Word → A → Type 0) (front : List Word) : Type 0 where
  pub more : List Word
  pub says : A
  pub holds : R (front ++ more) says

-- ── the limits ──
abbrev pub SelectionWithin : Selection → Type 0
SelectionWithin s = length s.conds ≤ 4

abbrev pub RuleWithin : Rule → Type 0
RuleWithin r = (length r.selections ≤ 4) × AllByRecursion SelectionWithin r.selections

abbrev pub Within : List Rule → Type 0
Within rs = (length rs ≤ 32) × AllByRecursion RuleWithin rs

-- ── an item past its limit: these words come before it, within the limits, and this is its first word ──
-- in a list of Xs parted by k with room for so many: an X where no room is left; or what P says, within one of the Xs
pub data Beyond {A : Type 0} (k : Terminal) (X : List Word → A → Type 0) (ok : A → Type 0) (P : List Word → Word → Type 0) : ℕ → List Word → Word → Type 0 where
  too_many : {w : Word} → Begins X (w ∷ []) → Beyond k X ok P zero [] w
  inside : {n : ℕ} {front : List Word} {w : Word} → P front w → Beyond k X ok P (suc n) front w
  later : {n : ℕ} {us vs : List Word} {x : A} {v w : Word} → X us x → ok x → Is k v → Beyond k X ok P n vs w → Beyond k X ok P (suc n) (us ++ (v ∷ vs)) w

pub record Never (front : List Word) (w : Word) : Type 0 where
  pub no_such : ⊥

abbrev pub CondPast : List Word → Word → Type 0
CondPast = Beyond Comma Cond (λ _. Unit {0}) Never 4

pub data PastInSelection : List Word → Word → Type 0 where
  in_bare : {o w : Word} {front : List Word} → Is OpenSquare o → CondPast front w → PastInSelection (o ∷ front) w
  in_named : {i k o w : Word} {front : List Word} → Is Identifier i → Is Colon k → Is OpenSquare o → CondPast front w → PastInSelection (i ∷ k ∷ o ∷ front) w

abbrev pub SelectionPast : List Word → Word → Type 0
SelectionPast = Beyond And SelCondition SelectionWithin PastInSelection 4

pub data RulePast : ℕ → List Word → Word → Type 0 where
  too_many_rules : {w : Word} → Begins ARule (w ∷ []) → RulePast zero [] w
  inside_rule : {n : ℕ} {front : List Word} {w : Word} → SelectionPast front w → RulePast (suc n) front w
  later_rule : {n : ℕ} {us vs : List Word} {r : Rule} {w : Word} → ARule us r → RuleWithin r → RulePast n vs w → RulePast (suc n) (us ++ vs) w

-- ── where a text goes wrong ──
-- after front: the text ends and no sentence does, or its next word is one with which no sentence goes on
abbrev pub NoUse : List Word → List Word → Type 0
NoUse front [] = (rs : List Rule) → RuleSet front rs → ⊥
NoUse front (w ∷ ws) = Begins RuleSet (front ++ (w ∷ [])) → ⊥

-- the grammar has use for all of front, and none for what comes then; up to there nothing is past a limit
pub record Stops (ws front rest : List Word) : Type 0 where
  pub cut : ws ≡ front ++ rest
  pub begun : Begins RuleSet front
  pub no_use : NoUse front rest
  pub in_limits : (before after : List Word) (w : Word) → front ≡ before ++ (w ∷ after) → RulePast 32 before w → ⊥

-- what is told of a text of so many units whose words from there on have no use
pub data Told (units : ℕ) : List Word → Fault → Type 0 where
  at_the_end : Told units [] (fault_at UnexpectedWord units)
  at_a_word : {w : Word} {ws : List Word} {k : Terminal} → w.kind ≡ terminal k → Told units (w ∷ ws) (fault_at UnexpectedWord w.at)
  at_no_terminal : {w : Word} {ws : List Word} → w.kind ≡ unreadable BeginsNone → Told units (w ∷ ws) (fault_at UnknownCharacter w.at)
  at_open_string : {w : Word} {ws : List Word} → w.kind ≡ unreadable NotClosed → Told units (w ∷ ws) (fault_at StringNotClosed w.at)
  at_long_word : {w : Word} {ws : List Word} → w.kind ≡ unreadable TooLong → Told units (w ∷ ws) (fault_at WordTooLong w.at)

-- the first item past its limit begins with w
pub record Passes (ws front : List Word) (w : Word) (rest : List Word) : Type 0 where
  pub cut : ws ≡ front ++ (w ∷ rest)
  pub item : RulePast 32 front w

-- ── the statements, of a text and what is told of it ──
abbrev pub AcceptsExactly : List ℕ → Parsed → Type 0
AcceptsExactly us p = (rs : List Rule) → (p ≡ rules rs) ↔ (RuleSet (words us) rs × Within rs)

-- a fault other than OverLimit is told of the first word without use, or of the text's end
abbrev pub UselessExactly : List ℕ → Parsed → Type 0
UselessExactly us p =
    (f : Fault) → (f.cause ≢ OverLimit) → (p ≡ fault f) ↔ ((front : List Word) × (rest : List Word) × Stops (words us) front rest × Told (length us) rest f)

abbrev pub PastExactly : List ℕ → Parsed → Type 0
PastExactly us p = (n : ℕ) → (p ≡ fault (fault_at OverLimit n)) ↔ ((front : List Word) × (w : Word) × (rest : List Word) × Passes (words us) front w rest × (n ≡ w.at))

pub record Judged (us : List ℕ) (p : Parsed) : Type 0 where
  pub accepts : AcceptsExactly us p
  pub stops : UselessExactly us p
  pub passes : PastExactly us p

-- words say no more than one list of rules
abbrev pub OneTree : Type 0
OneTree = (ws : List Word) (rs qs : List Rule) → RuleSet ws rs → Within rs → RuleSet ws qs → rs ≡ qs

abbrev pub Exact : Type 0
Exact = ((us : List ℕ) → Judged us (parse us)) × OneTree
