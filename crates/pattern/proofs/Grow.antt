-- Links that are added to what may follow each place.
use Rattle.std.proofs.Common.{◌≡◌, ℕ, ◌+◌, ◌<◌, ◌≤◌, Bool, true, false, cond, ◌≢◌, ◌⊎◌, List, [], ◌∷◌, ◌++◌, length, get_or, set, sym, ap, ◌∙◌, subst, inl, inr, arith}
use mathlib.Core.Bool.{false≢true}
use lib.Bits.{bit_or}
use Rattle.std.proofs.lemmas.List.{get_or-set_same, get_or-set_other, map-set}
use Rattle.std.proofs.Math.ListN.{get_or-map}
use Rattle.std.proofs.lemmas.Bool.{cases_order}
use Rattle.automaton.specs.declared.Place.{Place}
use Rattle.automaton.specs.Places.{bit, Has, Link, follow_of, follows}
use Rattle.automaton.proofs.Used.{blank}
use Rattle.automaton.proofs.Holds.{split_if, has_left, has_right, linked_left, linked_right, linked_split}
use Rattle.pattern.specs.Parts.{Grown}

pub grown_none : (f g : List ℕ) → g ≡ f → Grown f g []
grown_none f g e p q lt = (λ h. inl (subst (λ z. Has (get_or z p 0) q) e h), λ h. elim h [ inl i ↦ subst (λ z. Has (get_or z p 0) q) (sym e) i | inr i ↦ absurd i ])

pub grown_more : (f g h : List ℕ) (ls ms : List Link) → Grown f g ls → Grown g h ms → Grown f h (ls ++ ms)
grown_more f g h ls ms x y p q lt =
    let a = x p q lt in
    let b = y p q lt in (
      λ i. elim (b.0 i) [
        | inl j ↦ elim (a.0 j) [ inl k ↦ inl k | inr k ↦ inr (linked_left ls ms p q k) ]
        | inr j ↦ inr (linked_right ls ms p q j)
      ],
      λ i. elim i [
        | inl j ↦ b.1 (inl (a.1 (inl j)))
        | inr j ↦ elim (linked_split ls ms p q j) [ inl k ↦ b.1 (inl (a.1 (inr k))) | inr k ↦ b.1 (inr k) ]
      ],
    )

-- the places below p have been done, the others not
abbrev pub Spread : ℕ → ℕ → List ℕ → List ℕ → ℕ → Type 0
Spread from to before after p =
    ((k : ℕ) → k < p → get_or after k 0 ≡ cond (bit from k) (bit_or (get_or before k 0) to) (get_or before k 0)) × ((k : ℕ) → p ≤ k → get_or after k 0 ≡ get_or before k 0)

module _ (from to : ℕ) (before after : List ℕ) (p : ℕ) (s : Spread from to before after p) where
  pub spread_keep : bit from p ≡ false → Spread from to before after (p + 1)
  spread_keep e = (
    λ k lt. elim (cases_order k p) [
      | inl same ↦ s.1 k (omega arith) ∙ sym (ap (λ b. cond b (bit_or (get_or before k 0) to) (get_or before k 0)) (ap (bit from) same ∙ e))
      | inr o ↦ elim o [ inl below ↦ s.0 k below | inr above ↦ absurd (omega arith) ]
    ],
    λ k le. s.1 k (omega arith),
  )

  pub spread_add : bit from p ≡ true → p < length after → Spread from to before (set after p (bit_or (get_or after p 0) to)) (p + 1)
  spread_add e lt = (
    λ k below. elim (cases_order k p) [
      | inl same ↦
          ap (λ z. get_or (set after p (bit_or (get_or after p 0) to)) z 0) same
          ∙ get_or-set_same after p (bit_or (get_or after p 0) to) 0 lt
          ∙ ap (λ z. bit_or z to) (s.1 p (omega arith) ∙ ap (λ z. get_or before z 0) (sym same))
          ∙ sym (ap (λ b. cond b (bit_or (get_or before k 0) to) (get_or before k 0)) (ap (bit from) same ∙ e))
      | inr o ↦ elim o [
        | inl under ↦ let ne : k ≢ p = omega arith in get_or-set_other after p k (bit_or (get_or after p 0) to) 0 ne ∙ s.0 k under
        | inr above ↦ absurd (omega arith)
      ]
    ],
    λ k le. let ne : k ≢ p = omega arith in get_or-set_other after p k (bit_or (get_or after p 0) to) 0 ne ∙ s.1 k (omega arith),
  )

join_to : (b : Bool) (f to q : ℕ) → Has f q ⊎ ((b ≡ true) × Has to q) → Has (cond b (bit_or f to) f) q
join_to true f to q h = elim h [ inl i ↦ has_left f to q i | inr i ↦ has_right f to q i.1 ]
join_to false f to q h = elim h [ inl i ↦ i | inr i ↦ absurd (false≢true i.0) ]

pub grown_one : (from to : ℕ) (before after : List ℕ) (p : ℕ) → 60 ≤ p → Spread from to before after p → Grown before after ((from, to) ∷ [])
grown_one from to before after n le s p q lt =
    let e = s.0 p (omega arith) in (
      λ h. elim (split_if (bit from p) (get_or before p 0) to q (subst (λ z. Has z q) e h)) [ inl i ↦ inl i | inr i ↦ inr (inl i) ],
      λ h. subst (λ z. Has z q) (sym e) (join_to (bit from p) (get_or before p 0) to q (elim h [ inl i ↦ inl i | inr i ↦ elim i [ inl j ↦ inr j | inr j ↦ absurd j ] ])),
    )

-- a link added at one place
pub follows_set : (ps : List Place) (p to : ℕ) (a : Place) → follow_of a ≡ bit_or (follow_of (get_or ps p blank)) to → follows (set ps p a) ≡ set (follows ps) p (bit_or (get_or (follows ps) p 0) to)
follows_set ps p to a e =
    map-set follow_of ps p a
    ∙ ap (set (follows ps) p) e
    ∙ ap (λ z. set (follows ps) p (bit_or z to)) (sym (get_or-map follow_of ps p blank))
