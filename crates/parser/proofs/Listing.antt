-- Rules with a limit, read by a loop: what is read and what is left give the whole.
use Rattle.std.proofs.Common.{◌≡◌, ℕ, suc, Bool, true, false, cond, List, [], ◌∷◌, ◌++◌, sym, ap, ◌∙◌, append-nil}
use Rattle.words.specs.Words.{Word}
use Rattle.grammar.specs.Parse.{ARule, Rules, rules_begin}
use Rattle.grammar.specs.Readers.{Got, got, useless, past, Reads, next, return, past_limit}
use Rattle.grammar.specs.Tree.{Rule}
use Rattle.cursor.proofs.Many.{pre, pre_one}
use Rattle.cursor.specs.Reading.{stopped, Reading}
use Rattle.cursor.specs.declared.pieces.Stop.{Stop}
use Rattle.cursor.specs.declared.pieces.Stop.TheVariants.{Useless, Past}

abbrev rule_after : ℕ → Got Rule → Got (List Rule)
rule_after n g = elim g as (λ _. Got (List Rule)) [ got y r ↦ pre (y ∷ []) (Rules n r) | useless r ↦ useless r | past r ↦ past r ]

module _ (n : ℕ) (xs : List Rule) (ws : List Word) where
  abbrev rules_by : Bool → Got (List Rule)
  rules_by b = pre xs (cond {A = Reads (List Rule)} b (λ us. rule_after n (ARule us)) (return []) ws)

  -- no rule begins
  pub no_rule : false ≡ next rules_begin ws → got xs ws ≡ pre xs (Rules (suc n) ws)
  unfolding Rules
  no_rule h = ap (λ l. got l ws) (sym (append-nil xs)) ∙ ap rules_by h

  module _ (h : true ≡ next rules_begin ws) where
    rule_on : {g : Got Rule} → Reading ARule ws g → pre xs (rule_after n g) ≡ pre xs (Rules (suc n) ws)
    unfolding Rules
    rule_on e = ap (λ g. pre xs (rule_after n g)) e.so ∙ ap rules_by h

    pub rule_stops : (e : Stop) (m : List Word) → Reading ARule ws (stopped e m) → stopped e m ≡ pre xs (Rules (suc n) ws)
    rule_stops Useless m e = rule_on e
    rule_stops Past m e = rule_on e

    pub one_more : (x : Rule) (m : List Word) → Reading ARule ws (got x m) → pre (xs ++ (x ∷ [])) (Rules n m) ≡ pre xs (Rules (suc n) ws)
    one_more x m e = sym (pre_one xs x (Rules n m)) ∙ rule_on e

abbrev rules_end : List Rule → List Word → Bool → Got (List Rule)
rules_end xs ws b = pre xs (cond {A = Reads (List Rule)} b past_limit (return []) ws)

-- a rule past the limit, or none
pub rule_over : (xs : List Rule) (ws : List Word) → true ≡ next rules_begin ws → past ws ≡ pre xs (Rules 0 ws)
unfolding Rules
rule_over xs ws h = ap (rules_end xs ws) h

pub rules_done : (xs : List Rule) (ws : List Word) → false ≡ next rules_begin ws → got xs ws ≡ pre xs (Rules 0 ws)
unfolding Rules
rules_done xs ws h = ap (λ l. got l ws) (sym (append-nil xs)) ∙ ap (rules_end xs ws) h
