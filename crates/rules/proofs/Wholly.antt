-- A whole text, by what its rules give and what is left behind them.
use Rattle.std.proofs.Common.{◌≡◌, ℕ, true, false, List, [], ◌∷◌, length, sym, refl, ap, ◌∙◌, arith}
use Rattle.faults.specs.declared.Fault.{Fault}
use Rattle.words.specs.Words.{Word, words}
use Rattle.grammar.specs.Parse.{RuleSet}
use Rattle.grammar.specs.Readers.{Got, got}
use Rattle.grammar.specs.Tree.{Rule}
use Rattle.grammar.specs.Whole.{rules, fault, whole, ends, parse}
use Rattle.cursor.specs.Reading.{stopped, fault_of, is_none}
use Rattle.cursor.specs.declared.pieces.Stop.{Stop}
use Rattle.cursor.specs.declared.pieces.Stop.TheVariants.{Useless, Past}

-- the text by two names, and its words
module _ (us t : List ℕ) (ws : List Word) (v : t ≡ us) (q : ws ≡ words t) where
  parsed : (g : Got (List Rule)) → RuleSet ws ≡ g → parse us ≡ whole (length t) g
  unfolding parse
  parsed g e = ap (λ z. whole (length z) (RuleSet (words z))) (sym v) ∙ ap (λ z. whole (length t) (RuleSet z)) (sym q) ∙ ap (whole (length t)) e

  done : (n : ℕ) (rs : List Rule) (m : List Word) → true ≡ is_none m → ends n rs m ≡ rules rs
  done n rs [] h = refl
  done n rs (w ∷ m) h = let z : ◌≡◌ {A = ℕ} 0 1 = cc in absurd (omega arith)

  over : (n : ℕ) (rs : List Rule) (m : List Word) → false ≡ is_none m → ends n rs m ≡ fault (fault_of n Useless m)
  over n rs [] h = let z : ◌≡◌ {A = ℕ} 0 1 = cc in absurd (omega arith)
  over n rs (w ∷ m) h = refl

  halted : (n : ℕ) (o : Stop) (m : List Word) → whole n (stopped o m) ≡ fault (fault_of n o m)
  halted n Useless m = refl
  halted n Past m = refl

  pub at_end : (rs : List Rule) (m : List Word) → RuleSet ws ≡ got rs m → true ≡ is_none m → parse us ≡ rules rs
  at_end rs m e h = parsed (got rs m) e ∙ done (length t) rs m h

  module _ (s : List ℕ) (k : s ≡ t) (f : Fault) (m : List Word) where
    pub not_at_end : (rs : List Rule) → RuleSet ws ≡ got rs m → false ≡ is_none m → f ≡ fault_of (length s) Useless m → parse us ≡ fault f
    not_at_end rs e h i = parsed (got rs m) e ∙ over (length t) rs m h ∙ ap (λ z. fault (fault_of (length z) Useless m)) (sym k) ∙ ap fault (sym i)

    pub stops : (o : Stop) → RuleSet ws ≡ stopped o m → f ≡ fault_of (length s) o m → parse us ≡ fault f
    stops o e i = parsed (stopped o m) e ∙ halted (length t) o m ∙ ap (λ z. fault (fault_of (length z) o m)) (sym k) ∙ ap fault (sym i)
