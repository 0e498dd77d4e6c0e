use Rattle.std.proofs.Common.{◌+◌, take, refl, ap, ◌∙◌, arith}
use Rattle.std.proofs.lemmas.List.{length-map, map-set, take_more_set}
use Rattle.std.proofs.Math.Seq.{map-set_same}
use Rattle.automaton.specs.Places.{follow_of, atoms}
use Rattle.automaton.specs.declared.Place.{Place}
use Rattle.automaton.proofs.Used.{blank}
use Rattle.pattern.proofs.reader.put.Goals as goal

pub returns : goal.returns
returns c =
    let ps = c.args.places.now in
    record {
      kept = map-set_same follow_of ps c.args.n _ blank refl;
      takes =
          ap (take (c.args.n + 1)) (map-set (λ (p : Place). p.atom) ps c.args.n _)
          ∙ take_more_set (atoms ps) c.args.n c.args.a (omega (arith, length-map ps (λ (p : Place). p.atom), c.told-places));
    }
