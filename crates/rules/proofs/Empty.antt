-- The empty text: no rule, and no part.
use Rattle.std.proofs.Common.{◌≡◌, ℕ, ◌-◌, true, cond, List, [], ◌++◌, length, replicate, sym, refl, ap, ◌∙◌, arith}
use Rattle.std.proofs.lemmas.List.{take_all, length-replicate}
use Rattle.std.proofs.lemmas.Bool.{le-leb}
use Rattle.faults.specs.At.{fault_at}
use Rattle.faults.specs.declared.Cause.TheVariants.{PartsTooShort}
use Rattle.grammar.specs.Parse.{Rules}
use Rattle.grammar.specs.Whole.{rules, parse}
use Rattle.parts.specs.Laid.{lay_rules}
use Rattle.parts.specs.declared.Part.{Part}
use Rattle.parts.specs.declared.Part.TheVariants.{Blank}
use Rattle.rules.specs.Buffer.{padded, tree_of, tree_from}
use Rattle.rules.specs.Judged.{is_accepted, derived, accepted, refused, judged}

no_rules : parse [] ≡ rules []
unfolding parse Rules
no_rules = refl

pub empty_tree : tree_of [] ≡ []
empty_tree = ap tree_from no_rules

pub empty_accepted : (n : ℕ) → is_accepted (judged [] n) ≡ true
empty_accepted n = ap (λ p. is_accepted (derived n p)) no_rules ∙ ap (λ b. is_accepted (cond b (accepted []) (refused (fault_at PartsTooShort 0)))) (le-leb 0 n (omega arith))

pub empty_laid : (ps : List Part) → ps ≡ replicate (length ps) Blank → ps ≡ padded (length ps) (lay_rules (tree_of []))
empty_laid ps e =
    let d : length ps - 0 ≡ length ps = omega arith in
    e ∙ ap (λ k. replicate k Blank) (sym d) ∙ ap (λ l. l ++ replicate (length ps - 0) Blank) (sym (take_all (length ps) [] (omega arith))) ∙ ap (λ t. padded (length ps) (lay_rules t)) (sym empty_tree)

-- so many blanks are as many as they are
pub blanks_all : (n : ℕ) (ps : List Part) → ps ≡ replicate n Blank → ps ≡ replicate (length ps) Blank
blanks_all n ps e = e ∙ ap (λ k. replicate k Blank) (sym (ap length e ∙ length-replicate n Blank))
