-- A turn of the loop over the places in use.
use Rattle.std.proofs.Common.{◌≡◌, ℕ, ◌+◌, ◌^◌, ◌<◌, Bool, cond, List, length, take, get_or, sym, ap, ◌∙◌, add-one, arith}
use lib.Bits.{bit_or}
use Rattle.std.proofs.lemmas.List.{get_or-take, length-take}
use Rattle.std.proofs.Math.ListN.{get_or-map}
use Rattle.automaton.specs.declared.Atom.TheVariants.{Plain}
use Rattle.automaton.specs.declared.Place.{Place}
use Rattle.automaton.specs.Language.{fits}
use Rattle.automaton.specs.Places.{bit, follow_of, atoms, follows}
use Rattle.automaton.specs.Run.{masked, reached}

abbrev pub blank : Place
blank = record { atom = Plain 0; low = 0; high = 0 }

pub used_at : (ps us : List Place) (n i : ℕ) → us ≡ take n ps → i < length us → get_or us i blank ≡ get_or ps i blank
used_at ps us n i e lt =
    let below : i < n = omega (arith, length-take n ps, ap length e) in
    ap (λ z. get_or z i blank) e ∙ get_or-take n ps i blank below

module _ (ps us : List Place) (n i : ℕ) (used : us ≡ take n ps) (lt : i < length us) where
  pub reach_turn : (g s q r : ℕ) (b : Bool) → q ≡ reached (follows ps) g s i → b ≡ bit s i → r ≡ cond b (bit_or q (follow_of (get_or us i blank))) q → r ≡ reached (follows ps) g s (i + 1)
  reach_turn g s q r b inv test is =
      is
      ∙ (λ j. cond (test j) (bit_or (inv j) ((ap follow_of (used_at ps us n i used lt) ∙ sym (get_or-map follow_of ps i blank)) j)) (inv j))
      ∙ ap (reached (follows ps) g s) (sym (add-one i))

  pub mask_turn : (u q r : ℕ) (b : Bool) → q ≡ masked (atoms ps) u i → b ≡ fits (get_or us i blank).atom u → r ≡ cond b (bit_or q (2 ^ i)) q → r ≡ masked (atoms ps) u (i + 1)
  mask_turn u q r b inv test is =
      is
      ∙ (λ j. cond ((test ∙ ap (λ (z : Place). fits z.atom u) (used_at ps us n i used lt) ∙ ap (λ z. fits z u) (sym (get_or-map (λ (p : Place). p.atom) ps i blank))) j) (bit_or (inv j) (2 ^ i)) (inv j))
      ∙ ap (masked (atoms ps) u) (sym (add-one i))
