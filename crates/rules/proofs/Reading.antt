-- Rules read by a loop, each checked and put before the next.
use Rattle.std.proofs.Common.{◌≡◌, ℕ, suc, ◌+◌, true, false, List, [], ◌∷◌, ◌++◌, length, Some, None, Ok, Err, Option, Result, sym, refl, ap, ◌∙◌, append_assoc, append-nil, arith}
use Rattle.std.proofs.lemmas.List.{length_push}
use Rattle.faults.specs.declared.Fault.{Fault}
use Rattle.words.specs.Words.{Word}
use Rattle.grammar.specs.Parse.{ARule, Rules, RuleSet, rules_begin}
use Rattle.grammar.specs.Readers.{got, next}
use Rattle.grammar.specs.Tree.{Rule}
use Rattle.grammar.specs.Whole.{Parsed, rules}
use Rattle.cursor.proofs.Many.{pre}
use Rattle.cursor.specs.Reading.{Reading, stopped}
use Rattle.cursor.specs.declared.pieces.Stop.{Stop}
use Rattle.cursor.specs.declared.pieces.Stop.TheVariants.{Past}
use Rattle.parser.proofs.Listing.{no_rule, rule_stops, one_more, rule_over, rules_done}
use Rattle.checks.proofs.First.{earliest-append}
use Rattle.checks.specs.Earliest.{earliest_from}
use Rattle.checks.specs.Faults.{rule_faults}
use Rattle.parts.specs.Laid.{lay_rule, lay_rules}
use Rattle.rules.specs.Held.{Put}
use Rattle.rules.specs.Judged.{rules_faults, sound, derived, refused}
use Rattle.rules.specs.Read.{Ends, Reads, Took, told_of}
use Rattle.rules.specs.declared.sink.Sink.{Sink}
use Rattle.rules.proofs.Filling.{put_twice, put_as}

-- these rules are read, and so many may follow
pub record SoFar (left : ℕ) (all ws : List Word) (known : Option Fault) (many : ℕ) (s t : Sink) : Type 0 where
  pub done : List Rule
  pub whole : pre done (Rules left ws) ≡ RuleSet all
  pub fault : known ≡ earliest_from None (rules_faults done)
  pub count : many ≡ length done
  pub put : Put (lay_rules done) s t

rules_faults-append : (rs : List Rule) (r : Rule) → rules_faults (rs ++ (r ∷ [])) ≡ rules_faults rs ++ rule_faults r
rules_faults-append [] r = append-nil (rule_faults r)
rules_faults-append (q ∷ rs) r = ap (λ l. rule_faults q ++ l) (rules_faults-append rs r) ∙ sym (append_assoc (rule_faults q) (rules_faults rs) (rule_faults r))

rules_laid : (rs : List Rule) (r : Rule) → lay_rules (rs ++ (r ∷ [])) ≡ lay_rules rs ++ lay_rule r
rules_laid [] r = append-nil (lay_rule r)
rules_laid (q ∷ rs) r = ap (λ l. lay_rule q ++ l) (rules_laid rs r) ∙ sym (append_assoc (lay_rule q) (lay_rules rs) (lay_rule r))

-- what is told of the rules that were read
took_all : (rs : List Rule) (known : Option Fault) (n : ℕ) (s t : Sink) → known ≡ earliest_from None (rules_faults rs) → n ≡ length rs → Put (lay_rules rs) s t → (r : Result ℕ Fault) → r ≡ told_of known n → Took rs r s t
took_all rs known n s t e k p r h = record { told = h ∙ ap (λ o. told_of o n) e ∙ ap (told_of (earliest_from None (rules_faults rs))) k; put = p }

module _ (left n : ℕ) (e : left ≡ suc n) (all ws : List Word) (known : Option Fault) (many : ℕ) (s t : Sink) (so : SoFar left all ws known many s t) where
  whole_at : pre so.done (Rules (suc n) ws) ≡ RuleSet all
  whole_at = ap (λ k. pre so.done (Rules k ws)) (sym e) ∙ so.whole

  -- no rule begins
  pub ends_here : false ≡ next rules_begin ws → (r : Result ℕ Fault) → r ≡ told_of known many → Ends (RuleSet all) ws s t (Ok r)
  ends_here h r k = (so.done, sym (no_rule n so.done ws h ∙ whole_at), took_all so.done known many s t so.fault so.count so.put r k)

  pub stops_inside : true ≡ next rules_begin ws → (o : Stop) (m : List Word) → Reading ARule ws (stopped o m) → Ends (RuleSet all) m s t (Err o)
  stops_inside h o m r = (sym (rule_stops n so.done ws h o m r ∙ whole_at), so.put.same)

  pub one_further : true ≡ next rules_begin ws → (r : Rule) (m : List Word) → Reading ARule ws (got r m) → (now : Option Fault) → now ≡ earliest_from known (rule_faults r)
      → (u : Sink) → Put (lay_rule r) t u → SoFar n all m now (many + 1) s u
  one_further h r m g now f u p = record {
    done = so.done ++ (r ∷ []);
    whole = one_more n so.done ws h r m g ∙ whole_at;
    fault = f ∙ ap (λ o. earliest_from o (rule_faults r)) so.fault ∙ sym (earliest-append None (rules_faults so.done) (rule_faults r)) ∙ ap (earliest_from None) (sym (rules_faults-append so.done r));
    count = ap (λ m. m + 1) so.count ∙ sym (length_push so.done r);
    put = put_as (lay_rules so.done ++ lay_rule r) (lay_rules (so.done ++ (r ∷ []))) s u u (sym (rules_laid so.done r)) refl (put_twice (lay_rules so.done) (lay_rule r) s t u so.put p);
  }

module _ (left : ℕ) (e : left ≡ 0) (all ws : List Word) (known : Option Fault) (many : ℕ) (s t : Sink) (so : SoFar left all ws known many s t) where
  whole_end : pre so.done (Rules 0 ws) ≡ RuleSet all
  whole_end = ap (λ k. pre so.done (Rules k ws)) (sym e) ∙ so.whole

  pub one_too_many : true ≡ next rules_begin ws → Ends (RuleSet all) ws s t (Err Past)
  one_too_many h = (sym (rule_over so.done ws h ∙ whole_end), so.put.same)

  pub ends_full : false ≡ next rules_begin ws → (r : Result ℕ Fault) → r ≡ told_of known many → Ends (RuleSet all) ws s t (Ok r)
  ends_full h r k = (so.done, sym (rules_done so.done ws h ∙ whole_end), took_all so.done known many s t so.fault so.count so.put r k)

-- rules that are the whole text, by what is told of them
pub reads_told : (p : Parsed) (rs : List Rule) (s t : Sink) → p ≡ rules rs → Put (lay_rules rs) s t → (o : Option Fault) → o ≡ earliest_from None (rules_faults rs) → (r : Result ℕ Fault) → r ≡ told_of o (length rs) → Reads p s t r
reads_told p rs s t e h None k (Ok n) i = let z : n ≡ length rs = cc in (rs, e, k, z, h)
reads_told p rs s t e h (Some f) k (Ok n) i = let z : ◌≡◌ {A = ℕ} 0 1 = cc in absurd (omega arith)
reads_told p rs s t e h None k (Err f) i = let z : ◌≡◌ {A = ℕ} 0 1 = cc in absurd (omega arith)
reads_told p rs s t e h (Some g) k (Err f) i =
    let z : g ≡ f = cc in
    (λ room. ap (derived room) e ∙ ap (sound room rs) (sym k) ∙ ap refused z, h.same)
