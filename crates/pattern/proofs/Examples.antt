-- The worked pattern, by computation.
use Rattle.std.proofs.Common.{true, [], codes, refl, arith}
use mathlib.Core.Bool.{false≢true}
use Rattle.automaton.specs.declared.Atom.TheVariants.{Plain}
use Rattle.automaton.specs.Language.{one, followed}
use Rattle.automaton.proofs.Made.{computed}
use Rattle.pattern.specs.Grammar.{choice, sequence, Spells, one_way, or_way, nothing, and_then, once, starred, unit, bracketed}
use Rattle.pattern.specs.Examples.{alone, sample, Worked, Computed}

spelt_a : Spells 7 sequence (alone (one (Plain 97))) (codes "a")
spelt_a = and_then [] (codes "a") refl nothing (once (unit 97 refl))

spelt_bc : Spells 7 sequence (followed (alone (one (Plain 98))) (one (Plain 99))) (codes "bc")
spelt_bc = and_then (codes "b") (codes "c") refl (and_then [] (codes "b") refl nothing (once (unit 98 refl))) (once (unit 99 refl))

spelt : Spells 8 choice sample (codes "(a|bc)*")
spelt =
    one_way (and_then [] (codes "(a|bc)*") refl nothing (starred (codes "(a|bc)") refl (bracketed (codes "a|bc") refl (or_way (codes "a") (codes "bc") refl (one_way spelt_a) spelt_bc))))

pub worked : Worked
worked = (
  (codes "(a|bc)*", refl, spelt),
  (computed true true sample (omega arith) (codes "BCA")).0 refl,
  λ m. false≢true ((computed true true sample (omega arith) (codes "ab")).1 m),
)

pub all_computed : Computed
all_computed = (refl, refl, refl, refl, refl, refl, refl, refl, refl, refl, refl)
