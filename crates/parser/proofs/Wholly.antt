-- A whole text, by what its rules give and what is left behind them.
use Rattle.std.proofs.Common.{◌≡◌, ℕ, true, false, List, [], ◌∷◌, length, Ok, Err, Result, sym, refl, ap, ◌∙◌, subst, arith}
use Rattle.faults.specs.declared.Fault.{Fault}
use Rattle.words.specs.Words.{Word, words}
use Rattle.grammar.proofs.Top.{judged}
use Rattle.grammar.specs.Exact.{Judged}
use Rattle.grammar.specs.Parse.{RuleSet}
use Rattle.grammar.specs.Readers.{Got, got}
use Rattle.grammar.specs.Tree as T
use Rattle.grammar.specs.Whole.{rules, fault, whole, parse}
use Rattle.list.specs.Few.{Few}
use Rattle.parser.specs.Parsed.{parsed_of}
use Rattle.cursor.specs.Reading.{Reading, stopped, fault_of, is_none}
use Rattle.parser.specs.Shown.{rules_of}
use Rattle.parser.specs.declared.tree.Rule.{Rule}
use Rattle.cursor.specs.declared.pieces.Stop.{Stop}
use Rattle.cursor.specs.declared.pieces.Stop.TheVariants.{Useless, Past}

pub record Parses (us : List ℕ) (r : Result (Few Rule) Fault) : Type 0 where
  pub value : parsed_of us r ≡ parse us
  pub exact : Judged us (parsed_of us r)

-- the text by two names, and its words
module _ (us t : List ℕ) (ws : List Word) (v : t ≡ us) (q : ws ≡ words t) where
  by_value : (r : Result (Few Rule) Fault) → parsed_of us r ≡ parse us → Parses us r
  by_value r e = record { value = e; exact = subst (Judged us) (sym e) (judged us) }

  parsed : (g : Got (List T.Rule)) → Reading RuleSet ws g → whole (length t) g ≡ parse us
  unfolding parse
  parsed g e = ap (whole (length t)) e.so ∙ ap (λ z. whole (length t) (RuleSet z)) q ∙ ap (λ z. whole (length z) (RuleSet (words z))) v

  module _ (rest : List Word) where
    done : (all : Few Rule) (m : List Word) → true ≡ is_none m → rules (rules_of us all) ≡ whole (length t) (got (rules_of t all) m)
    done all [] h = ap (λ z. rules (rules_of z all)) (sym v)
    done all (w ∷ m) h = let z : ◌≡◌ {A = ℕ} 0 1 = cc in absurd (omega arith)

    pub at_end : (all : Few Rule) → Reading RuleSet ws (got (rules_of t all) rest) → true ≡ is_none rest → Parses us (Ok all)
    at_end all e h = by_value (Ok all) (done all rest h ∙ parsed _ e)

    over : (s : ℕ) (rs : List T.Rule) (m : List Word) → s ≡ length t → false ≡ is_none m → fault (fault_of s Useless m) ≡ whole (length t) (got rs m)
    over s rs [] k h = let z : ◌≡◌ {A = ℕ} 0 1 = cc in absurd (omega arith)
    over s rs (w ∷ m) k h = refl

    pub not_at_end : (s : List ℕ) (all : Few Rule) (f : Fault) → s ≡ t → Reading RuleSet ws (got (rules_of t all) rest) → false ≡ is_none rest → f ≡ fault_of (length s) Useless rest → Parses us (Err f)
    not_at_end s all f k e h i = by_value (Err f) (ap fault i ∙ over (length s) (rules_of t all) rest (ap length k) h ∙ parsed _ e)

    halted : (o : Stop) (m : List Word) → fault (fault_of (length t) o m) ≡ whole (length t) (stopped o m)
    halted Useless m = refl
    halted Past m = refl

    pub stops : (s : List ℕ) (o : Stop) (f : Fault) → s ≡ t → Reading RuleSet ws (stopped o rest) → f ≡ fault_of (length s) o rest → Parses us (Err f)
    stops s o f k e i = by_value (Err f) (ap fault i ∙ ap (λ z. fault (fault_of (length z) o rest)) k ∙ halted o rest ∙ parsed _ e)
