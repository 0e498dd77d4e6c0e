-- The step that keeps the earlier fault finds the earliest.
use Rattle.std.proofs.Common.{◌≡◌, Bool, true, false, cond, ◌&&◌, eqb, ltb, ◌⊎◌, List, [], ◌∷◌, ◌++◌, Some, None, Option, sym, refl, ap, ◌∙◌, subst, inl, inr, arith}
use Rattle.std.proofs.lemmas.Bool.{and_parts, and_cases, or_cases, or_parts, ltb-true, ltb-false, eqb-true, eqb-false}
use Rattle.faults.specs.Numbers.{number_of}
use Rattle.faults.specs.declared.Fault.{Fault}
use Rattle.checks.specs.Earliest.{sooner, earlier_of, earliest_from, NotBefore, First, Earliest, known_faults}

pub earliest-append : (o : Option Fault) (fs gs : List Fault) → earliest_from o (fs ++ gs) ≡ earliest_from (earliest_from o fs) gs
earliest-append o [] gs = refl
earliest-append o (f ∷ fs) gs = earliest-append (Some (earlier_of o f)) fs gs

itself : (f : Fault) → NotBefore f f
itself f = record { place = omega arith; number = λ e. omega arith }

after : (f g h : Fault) → NotBefore f g → NotBefore g h → NotBefore f h
after f g h a b =
    let p = a.place in
    let q = b.place in
    record {
      place = omega arith;
      number = λ e.
          let x : h.place ≡ g.place = omega arith in
          let y : g.place ≡ f.place = omega arith in
          let u = a.number y in
          let v = b.number x in
          omega arith;
    }

sooner_first : (f g : Fault) → sooner g f ≡ true → NotBefore g f
sooner_first f g e =
    elim (or_cases (ltb g.place f.place) (eqb g.place f.place && ltb (number_of g.cause) (number_of f.cause)) e) [
      | inl h ↦ let k = ltb-true g.place f.place h in record { place = omega arith; number = λ x. absurd (omega arith) }
      | inr h ↦
          let p = and_parts (eqb g.place f.place) (ltb (number_of g.cause) (number_of f.cause)) h in
          let k = eqb-true g.place f.place p.0 in
          let m = ltb-true (number_of g.cause) (number_of f.cause) p.1 in
          record { place = omega arith; number = λ x. omega arith }
    ]

later_stays : (f g : Fault) → sooner g f ≡ false → NotBefore f g
later_stays f g e =
    let p = or_parts (ltb g.place f.place) (eqb g.place f.place && ltb (number_of g.cause) (number_of f.cause)) e in
    let k = ltb-false g.place f.place p.0 in
    elim (and_cases (eqb g.place f.place) (ltb (number_of g.cause) (number_of f.cause)) p.1) [
      | inl h ↦ let n = eqb-false g.place f.place h in record { place = omega arith; number = λ x. absurd (n x) }
      | inr h ↦ let n = ltb-false (number_of g.cause) (number_of f.cause) h in record { place = omega arith; number = λ x. omega arith }
    ]

-- the first of f and the others
first_of : Fault → List Fault → Fault
first_of f [] = f
first_of f (g ∷ gs) = first_of (cond (sooner g f) g f) gs

some_first : (f : Fault) (gs : List Fault) → earliest_from (Some f) gs ≡ Some (first_of f gs)
unfolding first_of
some_first f [] = refl
some_first f (g ∷ gs) = some_first (cond (sooner g f) g f) gs

-- one fault more, of which the earlier is h
module _ (f g h r : Fault) (gs : List Fault) (a : NotBefore h f) (b : NotBefore h g) (w : (h ≡ f) ⊎ (h ≡ g)) where
  joined : First (h ∷ gs) r → First (f ∷ g ∷ gs) r
  joined t =
      record {
        among = elim t.among [
          | inl e ↦ elim w [ inl x ↦ inl (e ∙ x) | inr x ↦ inr (inl (e ∙ x)) ]
          | inr m ↦ inr (inr m)
        ];
        first = (after r h f t.first.0 a, (after r h g t.first.0 b, t.first.1));
      }

first_step : (f g : Fault) (gs : List Fault) (t : Bool) → sooner g f ≡ t → First (cond t g f ∷ gs) (first_of (cond t g f) gs) → First (f ∷ g ∷ gs) (first_of (cond t g f) gs)
first_step f g gs true e h = joined f g g _ gs (sooner_first f g e) (itself g) (inr refl) h
first_step f g gs false e h = joined f g f _ gs (itself f) (later_stays f g e) (inl refl) h

first_found : (f : Fault) (gs : List Fault) → First (f ∷ gs) (first_of f gs)
unfolding first_of
first_found f [] = record { among = inl refl; first = (itself f, tt) }
first_found f (g ∷ gs) = first_step f g gs (sooner g f) refl (first_found (cond (sooner g f) g f) gs)

pub earliest_found : (fs : List Fault) → Earliest fs (earliest_from None fs)
earliest_found [] = refl
earliest_found (f ∷ fs) = subst (Earliest (f ∷ fs)) (sym (some_first f fs)) (first_found f fs)

-- with the fault that is known before
pub earliest_known : (o : Option Fault) (fs : List Fault) (r : Option Fault) → r ≡ earliest_from o fs → Earliest (known_faults o ++ fs) r
earliest_known None fs r e = rw e (earliest_found fs)
earliest_known (Some f) fs r e = rw e (earliest_found (f ∷ fs))

-- found one after another
pub earliest_three : (o p q r : Option Fault) (fs gs hs : List Fault) → p ≡ earliest_from o fs → q ≡ earliest_from p gs → r ≡ earliest_from q hs → r ≡ earliest_from o (fs ++ (gs ++ hs))
earliest_three o p q r fs gs hs a b c =
    c ∙ ap (λ z. earliest_from z hs) b ∙ sym (earliest-append p gs hs) ∙ ap (λ z. earliest_from z (gs ++ hs)) a ∙ sym (earliest-append o fs (gs ++ hs))
