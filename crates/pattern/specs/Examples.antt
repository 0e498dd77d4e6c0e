-- A worked pattern: ^(a|bc)*$ matches BCA, not ab.
use Rattle.std.specs.Prelude.{◌≡◌, true, false, Ok, Err, codes}
use Rattle.faults.specs.declared.Cause.TheVariants.{MalformedPattern, PatternOverLimit}
use Rattle.automaton.specs.declared.Atom.TheVariants.{Plain}
use Rattle.automaton.specs.Language.{Tree, empty, one, either, followed, star, Matches}
use Rattle.pattern.specs.Grammar.{Written}
use Rattle.pattern.specs.Caused.{pattern_answer}

-- a sequence of one item, or of two
abbrev pub alone : Tree → Tree
alone a = followed empty a

abbrev pub sample : Tree
sample = alone (star (either (alone (one (Plain 97))) (followed (alone (one (Plain 98))) (one (Plain 99)))))

-- by the definitions
abbrev pub Worked : Type 0
Worked = Written 8 true true sample (codes "^(a|bc)*$") × Matches true true sample (codes "BCA") × (Matches true true sample (codes "ab") → ⊥)

-- and computed, with others
abbrev pub Computed : Type 0
Computed =
    (pattern_answer (codes "^(a|bc)*$") (codes "BCA") ≡ Ok true)
    × (pattern_answer (codes "^(a|bc)*$") (codes "ab") ≡ Ok false)
    × (pattern_answer (codes "b.+") (codes "aBcd") ≡ Ok true)
    × (pattern_answer (codes "^a|b$") (codes "xb") ≡ Ok false)
    × (pattern_answer (codes "a||b") (codes "c") ≡ Ok true)
    × (pattern_answer (codes "^ab?c$") (codes "abbc") ≡ Ok false)
    × (pattern_answer (codes "a**") (codes "a") ≡ Err MalformedPattern)
    × (pattern_answer (codes "(^a)") (codes "a") ≡ Err MalformedPattern)
    × (pattern_answer (codes "((((((((a))))))))") (codes "a") ≡ Ok true)
    × (pattern_answer (codes "(((((((((a)))))))))") (codes "a") ≡ Err PatternOverLimit)
    × (pattern_answer (codes "(((((((((a))))))))") (codes "a") ≡ Err MalformedPattern)
