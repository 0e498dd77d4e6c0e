-- The pass over the units tells whether they spell a choice, however deep.
use Rattle.std.proofs.Common.{◌≡◌, ℕ, zero, suc, ◌+◌, ◌≤◌, Bool, true, false, cond, ◌&&◌, ◌||◌, eqb, leb, ◌⊎◌, List, [], ◌∷◌, ◌++◌, Some, None, Option, sym, refl, ap, ◌∙◌, subst, inl, inr, append_assoc, append-nil, arith}
use mathlib.Core.Bool.{false≢true}
use Rattle.std.proofs.lemmas.Bool.{eqb-true, or_cases, or_parts, cases_Bool, cases_lt, eqb-false, and_left, and_right, lt-leb}
use Rattle.automaton.specs.Language.{Tree, empty, one, either, followed}
use Rattle.pattern.specs.Signs.{special}
use Rattle.pattern.specs.Grammar.{Kind, choice, sequence, item, atom, Spells, one_way, or_way, nothing, and_then, once, starred, plussed, queried, dot, unit, escaped, bracketed, closing}
use Rattle.pattern.specs.Formed.{class_of, pass, free, after, done, formed}
use Rattle.pattern.specs.declared.scan.State.{State}
use Rattle.pattern.specs.declared.scan.Pass.{Pass}
use Rattle.pattern.specs.declared.scan.State.TheVariants.{Fresh, Behind, Escaped, Closed}
use Rattle.pattern.specs.declared.scan.Class.{Class}
use Rattle.pattern.specs.declared.scan.Class.TheVariants.{Opens, Closes, Parts, Escapes, Repeats, Ends, Strays, Takes}
use Rattle.automaton.specs.declared.Atom.TheVariants.{Plain, Any}
use Rattle.pattern.proofs.Onward.{no_eq}
use Rattle.pattern.proofs.Passing.{On}

-- where a pattern may go on without an atom before, it may with one
more_free : (d : ℕ) (c : Class) (us : List ℕ) → On (free false d c) us ≡ true → On (free true d c) us ≡ true
more_free d Opens us h = h
more_free zero Closes us h = h
more_free (suc d) Closes us h = h
more_free d Parts us h = h
more_free d Escapes us h = h
more_free d Repeats us h = absurd (false≢true h)
more_free d Ends us h = h
more_free d Strays us h = h
more_free d Takes us h = h

loosen : (d : ℕ) (us : List ℕ) → formed Fresh d us ≡ true → formed Behind d us ≡ true
loosen d [] h = h
loosen d (u ∷ us) h = more_free d (class_of u) us h

pub plain_takes : (c : ℕ) → special c ≡ false → class_of c ≡ Takes
plain_takes c h =
    λ i.
    cond (no_eq c 40 refl h i) Opens
    (cond (no_eq c 41 refl h i) Closes
    (cond (no_eq c 124 refl h i) Parts
    (cond (no_eq c 92 refl h i) Escapes
    (cond (no_eq c 42 refl h i || no_eq c 43 refl h i || no_eq c 63 refl h i) Repeats
    (cond (no_eq c 36 refl h i) Ends
    (cond (no_eq c 91 refl h i || no_eq c 93 refl h i || no_eq c 94 refl h i) Strays Takes))))))

-- what may stand behind a part of each kind for the pass to succeed
abbrev Then : Kind → State
Then choice = Fresh
Then sequence = Fresh
Then item = Fresh
Then atom = Behind

pub passes : {D : ℕ} {k : Kind} {t : Tree} {u : List ℕ} → Spells D k t u → (d : ℕ) (v : List ℕ) → formed (Then k) d v ≡ true → formed Fresh d (u ++ v) ≡ true
passes (one_way x) d v h = passes x d v h
passes (or_way u u' q x y) d v h =
    subst (λ z. formed Fresh d z ≡ true) (sym (ap (λ z. z ++ v) q ∙ append_assoc u (124 ∷ u') v)) (passes x d (124 ∷ (u' ++ v)) (passes y d v h))
passes nothing d v h = h
passes (and_then u u' q x y) d v h =
    subst (λ z. formed Fresh d z ≡ true) (sym (ap (λ z. z ++ v) q ∙ append_assoc u u' v)) (passes x d (u' ++ v) (passes y d v h))
passes (once x) d v h = passes x d v (loosen d v h)
passes (starred u q x) d v h = subst (λ z. formed Fresh d z ≡ true) (sym (ap (λ z. z ++ v) q ∙ append_assoc u (42 ∷ []) v)) (passes x d (42 ∷ v) h)
passes (plussed u q x) d v h = subst (λ z. formed Fresh d z ≡ true) (sym (ap (λ z. z ++ v) q ∙ append_assoc u (43 ∷ []) v)) (passes x d (43 ∷ v) h)
passes (queried u q x) d v h = subst (λ z. formed Fresh d z ≡ true) (sym (ap (λ z. z ++ v) q ∙ append_assoc u (63 ∷ []) v)) (passes x d (63 ∷ v) h)
passes dot d v h = h
passes (unit c e) d v h = ap (λ z. On (free false d z) v) (plain_takes c e) ∙ h
passes (escaped c e) d v h = ap (λ b. On (cond b (Some (pass Behind d)) None) v) e ∙ h
passes (bracketed u q x) d v h =
    subst (λ z. formed Fresh d z ≡ true) (sym (ap (λ z. z ++ v) q ∙ ap (λ z. 40 ∷ z) (append_assoc u (41 ∷ []) v))) (passes x (suc d) (41 ∷ v) h)

-- brackets may be allowed to nest deeper
raise : {d : ℕ} {k : Kind} {t : Tree} {u : List ℕ} → Spells d k t u → (e : ℕ) → d ≤ e → Spells e k t u
raise (one_way x) e le = one_way (raise x e le)
raise (or_way u v q x y) e le = or_way u v q (raise x e le) (raise y e le)
raise nothing e le = nothing
raise (and_then u v q x y) e le = and_then u v q (raise x e le) (raise y e le)
raise (once x) e le = once (raise x e le)
raise (starred u q x) e le = starred u q (raise x e le)
raise (plussed u q x) e le = plussed u q (raise x e le)
raise (queried u q x) e le = queried u q (raise x e le)
raise dot e le = dot
raise (unit c h) e le = unit c h
raise (escaped c h) e le = escaped c h
raise (bracketed u q x) zero le = absurd (omega arith)
raise (bracketed u q x) (suc e) le = bracketed u q (raise x e (omega arith))

abbrev SomeChoice : List ℕ → Type 0
SomeChoice u = (d : ℕ) × (t : Tree) × Spells d choice t u

item_sequence : {d : ℕ} {a t : Tree} {w u : List ℕ} → Spells d item a w → Spells d sequence t u → (t' : Tree) × Spells d sequence t' (w ++ u)
item_sequence {a = a} {w = w} x nothing = (followed empty a, and_then [] w (append-nil w) nothing x)
item_sequence {w = w} x (and_then {b = b} u v q y z) =
    let r = item_sequence x y in
    (followed r.0 b, and_then (w ++ u) v (ap (λ s. w ++ s) q ∙ sym (append_assoc w u v)) r.1 z)

item_choice : {d : ℕ} {a t : Tree} {w u : List ℕ} → Spells d item a w → Spells d choice t u → (t' : Tree) × Spells d choice t' (w ++ u)
item_choice x (one_way y) = let r = item_sequence x y in (r.0, one_way r.1)
item_choice {w = w} x (or_way {b = b} u v q y z) =
    let r = item_choice x y in
    (either r.0 b, or_way (w ++ u) v (ap (λ s. w ++ s) q ∙ sym (append_assoc w u (124 ∷ v))) r.1 z)

-- an item before a choice
before : {d e : ℕ} {a t : Tree} {w u : List ℕ} → Spells d item a w → Spells e choice t u → SomeChoice (w ++ u)
before {d} {e} x y = let r = item_choice (raise x (d + e) (omega arith)) (raise y (d + e) (omega arith)) in (d + e, r.0, r.1)

bar_choice : {d : ℕ} {t : Tree} {u : List ℕ} → Spells d choice t u → (t' : Tree) × Spells d choice t' (124 ∷ u)
bar_choice {t = t} {u = u} (one_way x) = (either empty t, or_way [] u refl (one_way nothing) x)
bar_choice (or_way {b = b} u v q x y) = let r = bar_choice x in (either r.0 b, or_way (124 ∷ u) v (ap (λ s. 124 ∷ s) q) r.1 y)

-- behind any atom, a choice
abbrev Going : List ℕ → Type 0
Going u = (d : ℕ) (a : Tree) (w : List ℕ) → Spells d atom a w → SomeChoice (w ++ u)

choice_going : (u : List ℕ) → SomeChoice u → Going u
choice_going u c d a w x = before (once x) c.2

-- up to the end, or up to the brackets that close
abbrev Rest : (List ℕ → Type 0) → ℕ → List ℕ → Type 0
Rest P zero s = (u : List ℕ) × (e : Bool) × (s ≡ u ++ closing e) × P u
Rest P (suc d) s = (u : List ℕ) × (v : List ℕ) × (s ≡ u ++ (41 ∷ v)) × P u × Rest Going d v

prefix : (P Q : List ℕ → Type 0) (w : List ℕ) → ((u : List ℕ) → P u → Q (w ++ u)) → (d : ℕ) (s : List ℕ) → Rest P d s → Rest Q d (w ++ s)
prefix P Q w f zero s r = (w ++ r.0, r.1, ap (λ z. w ++ z) r.2 ∙ sym (append_assoc w r.0 (closing r.1)), f r.0 r.3)
prefix P Q w f (suc d) s r = (w ++ r.0, r.1, ap (λ z. w ++ z) r.2 ∙ sym (append_assoc w r.0 (41 ∷ r.1)), f r.0 r.3, r.4)

abbrev Meant : State → ℕ → List ℕ → Type 0
Meant Fresh d s = Rest SomeChoice d s
Meant Behind d s = Rest Going d s
Meant Escaped d s = (c : ℕ) × (s' : List ℕ) × (s ≡ c ∷ s') × (special c ≡ true) × Rest Going d s'
Meant Closed d s = s ≡ []

no_choice : SomeChoice []
no_choice = (0, empty, one_way nothing)

-- the units of each class
abbrev pub Is : Class → ℕ → Type 0
Is Opens u = u ≡ 40
Is Closes u = u ≡ 41
Is Parts u = u ≡ 124
Is Escapes u = u ≡ 92
Is Repeats u = (u ≡ 42) ⊎ ((u ≡ 43) ⊎ (u ≡ 63))
Is Ends u = u ≡ 36
Is Strays u = Unit {0}
Is Takes u = (d : ℕ) → (a : Tree) × Spells d atom a (u ∷ [])

takes_plain : (u : ℕ) → special u ≡ false → Is Takes u
takes_plain u h d = (one (Plain u), unit u h)

takes_dot : (u : ℕ) → u ≡ 46 → Is Takes u
takes_dot u e d = (one Any, subst (λ z. Spells d atom (one Any) (z ∷ [])) (sym e) dot)

outside : (u a b : ℕ) → (a ≤ u → u ≤ b → ⊥) → (leb a u && leb u b) ≡ false
outside u a b h =
    elim (cases_lt u a) [
      | inl lt ↦ and_left (leb a u) (leb u b) (lt-leb a u lt)
      | inr le ↦ elim (cases_lt b u) [ inl gt ↦ and_right (leb a u) (leb u b) (lt-leb u b gt) | inr ge ↦ absurd (h le ge) ]
    ]

module _ (u : ℕ) (a : eqb u 40 ≡ false) (b : eqb u 41 ≡ false) (c : eqb u 124 ≡ false) (d : eqb u 92 ≡ false) (e : (eqb u 42 || eqb u 43 || eqb u 63) ≡ false) (f : eqb u 36 ≡ false) (g : (eqb u 91 || eqb u 93 || eqb u 94) ≡ false) where
  rounds : (leb 40 u && leb u 43) ≡ false
  rounds =
      let p = or_parts (eqb u 42 || eqb u 43) (eqb u 63) e in
      let q = or_parts (eqb u 42) (eqb u 43) p.0 in
      let i = eqb-false u 40 a in
      let j = eqb-false u 41 b in
      let k = eqb-false u 42 q.0 in
      let l = eqb-false u 43 q.1 in
      outside u 40 43 (λ x y. omega (arith, i, j, k, l))

  squares : (leb 91 u && leb u 94) ≡ false
  squares =
      let p = or_parts (eqb u 91 || eqb u 93) (eqb u 94) g in
      let q = or_parts (eqb u 91) (eqb u 93) p.0 in
      let i = eqb-false u 91 q.0 in
      let j = eqb-false u 92 d in
      let k = eqb-false u 93 q.1 in
      let l = eqb-false u 94 p.1 in
      outside u 91 94 (λ x y. omega (arith, i, j, k, l))

  takes_is : Is Takes u
  takes_is =
      elim (cases_Bool (eqb u 46)) [
        | inl dotted ↦ takes_dot u (eqb-true u 46 dotted)
        | inr plain ↦
            let p = or_parts (eqb u 42 || eqb u 43) (eqb u 63) e in
            takes_plain u (λ i. rounds i || plain i || p.1 i || c i || squares i || f i)
      ]

choose : (b : Bool) (c k : Class) (u : ℕ) → (b ≡ true → Is c u) → (b ≡ false → Is k u) → Is (cond b c k) u
choose true c k u f g = f refl
choose false c k u f g = g refl

repeats_is : (u : ℕ) → (eqb u 42 || eqb u 43 || eqb u 63) ≡ true → Is Repeats u
repeats_is u h =
    elim (or_cases (eqb u 42 || eqb u 43) (eqb u 63) h) [
      | inl i ↦ elim (or_cases (eqb u 42) (eqb u 43) i) [ inl j ↦ inl (eqb-true u 42 j) | inr j ↦ inr (inl (eqb-true u 43 j)) ]
      | inr i ↦ inr (inr (eqb-true u 63 i))
    ]

pub class_is : (u : ℕ) → Is (class_of u) u
class_is u =
    choose (eqb u 40) Opens _ u (eqb-true u 40) (λ a.
    choose (eqb u 41) Closes _ u (eqb-true u 41) (λ b.
    choose (eqb u 124) Parts _ u (eqb-true u 124) (λ c.
    choose (eqb u 92) Escapes _ u (eqb-true u 92) (λ d.
    choose (eqb u 42 || eqb u 43 || eqb u 63) Repeats _ u (repeats_is u) (λ e.
    choose (eqb u 36) Ends _ u (eqb-true u 36) (λ f.
    choose (eqb u 91 || eqb u 93 || eqb u 94) Strays Takes u (λ _. tt) (takes_is u a b c d e f)))))))

-- a bracket and what it holds
bracket : (d : ℕ) (s : List ℕ) → Meant Fresh (suc d) s → Rest SomeChoice d (40 ∷ s)
bracket d s r =
    let w : List ℕ = 40 ∷ (r.0 ++ (41 ∷ [])) in
    let c = r.3 in
    subst (Rest SomeChoice d) (ap (λ z. 40 ∷ z) (append_assoc r.0 (41 ∷ []) r.1 ∙ sym r.2))
    (prefix Going SomeChoice w (λ u p. p (suc c.0) c.1 w (bracketed r.0 refl c.2)) d r.1 r.4)

-- a backslash and a special unit
escape : (d : ℕ) (s : List ℕ) → Meant Escaped d s → Rest SomeChoice d (92 ∷ s)
escape d s r =
    subst (λ z. Rest SomeChoice d (92 ∷ z)) (sym r.2)
    (prefix Going SomeChoice (92 ∷ r.0 ∷ []) (λ u p. p 0 (one (Plain r.0)) (92 ∷ r.0 ∷ []) (escaped r.0 r.3)) d r.1 r.4)

-- a repeat behind an atom
repeat : (u : ℕ) → Is Repeats u → (v : List ℕ) → SomeChoice v → Going (u ∷ v)
repeat u k v c d a w x =
    subst SomeChoice (append_assoc w (u ∷ []) v)
    (elim k [
      | inl e ↦ subst (λ z. SomeChoice ((w ++ (z ∷ [])) ++ v)) (sym e) (before (starred w refl x) c.2)
      | inr k' ↦ elim k' [
        | inl e ↦ subst (λ z. SomeChoice ((w ++ (z ∷ [])) ++ v)) (sym e) (before (plussed w refl x) c.2)
        | inr e ↦ subst (λ z. SomeChoice ((w ++ (z ∷ [])) ++ v)) (sym e) (before (queried w refl x) c.2)
      ]
    ])

-- what a unit of each class makes of what follows
abbrev Follows : Option Pass → List ℕ → Type 0
Follows None us = ⊥
Follows (Some p) us = Meant p.state p.depth us

ended : (d u : ℕ) (us : List ℕ) (t : Bool) → eqb d 0 ≡ t → u ≡ 36 → Follows (cond t (Some (pass Closed 0)) None) us → Rest SomeChoice d (u ∷ us)
ended d u us true z e f = subst (λ i. Rest SomeChoice i (u ∷ us)) (sym (eqb-true d 0 z)) ([], true, (λ i. e i ∷ f i), no_choice)
ended d u us false z e f = absurd f

fresh_unit : (d u : ℕ) (us : List ℕ) (c : Class) → Is c u → Follows (free false d c) us → Rest SomeChoice d (u ∷ us)
fresh_unit d u us Opens e f = subst (λ z. Rest SomeChoice d (z ∷ us)) (sym e) (bracket d us f)
fresh_unit zero u us Closes e f = absurd f
fresh_unit (suc d) u us Closes e f = ([], us, ap (λ z. z ∷ us) e, no_choice, f)
fresh_unit d u us Parts e f = subst (λ z. Rest SomeChoice d (z ∷ us)) (sym e) (prefix SomeChoice SomeChoice (124 ∷ []) (λ v c. let r = bar_choice c.2 in (c.0, r.0, r.1)) d us f)
fresh_unit d u us Escapes e f = subst (λ z. Rest SomeChoice d (z ∷ us)) (sym e) (escape d us f)
fresh_unit d u us Repeats e f = absurd f
fresh_unit d u us Ends e f = ended d u us (eqb d 0) refl e f
fresh_unit d u us Strays e f = absurd f
fresh_unit d u us Takes e f = prefix Going SomeChoice (u ∷ []) (λ v p. let r = e 0 in p 0 r.0 (u ∷ []) r.1) d us f

behind_unit : (d u : ℕ) (us : List ℕ) (c : Class) → Is c u → Follows (free true d c) us → Rest Going d (u ∷ us)
behind_unit d u us Opens e f = prefix SomeChoice Going [] choice_going d (u ∷ us) (fresh_unit d u us Opens e f)
behind_unit zero u us Closes e f = absurd f
behind_unit (suc d) u us Closes e f = prefix SomeChoice Going [] choice_going (suc d) (u ∷ us) (fresh_unit (suc d) u us Closes e f)
behind_unit d u us Parts e f = prefix SomeChoice Going [] choice_going d (u ∷ us) (fresh_unit d u us Parts e f)
behind_unit d u us Escapes e f = prefix SomeChoice Going [] choice_going d (u ∷ us) (fresh_unit d u us Escapes e f)
behind_unit d u us Repeats e f = prefix SomeChoice Going (u ∷ []) (repeat u e) d us f
behind_unit d u us Ends e f = prefix SomeChoice Going [] choice_going d (u ∷ us) (fresh_unit d u us Ends e f)
behind_unit d u us Strays e f = absurd f
behind_unit d u us Takes e f = prefix SomeChoice Going [] choice_going d (u ∷ us) (fresh_unit d u us Takes e f)

escaped_unit : (d u : ℕ) (us : List ℕ) (b : Bool) → special u ≡ b → Follows (cond b (Some (pass Behind d)) None) us → Meant Escaped d (u ∷ us)
escaped_unit d u us true h f = (u, us, refl, h, f)
escaped_unit d u us false h f = absurd f

step : (state : State) (d u : ℕ) (us : List ℕ) → Follows (after state d u) us → Meant state d (u ∷ us)
step Fresh d u us f = fresh_unit d u us (class_of u) (class_is u) f
step Behind d u us f = behind_unit d u us (class_of u) (class_is u) f
step Escaped d u us f = escaped_unit d u us (special u) refl f
step Closed d u us f = absurd f

finish : (state : State) (d : ℕ) → done state d ≡ true → Meant state d []
finish Fresh d h = subst (λ z. Rest SomeChoice z []) (sym (eqb-true d 0 h)) ([], false, refl, no_choice)
finish Behind d h = subst (λ z. Rest Going z []) (sym (eqb-true d 0 h)) ([], false, refl, choice_going [] no_choice)
finish Escaped d h = absurd (false≢true h)
finish Closed d h = refl

follow : (o : Option Pass) (us : List ℕ) → ((s : State) (e : ℕ) → formed s e us ≡ true → Meant s e us) → On o us ≡ true → Follows o us
follow None us f h = absurd (false≢true h)
follow (Some p) us f h = f p.state p.depth h

pub means : (us : List ℕ) (state : State) (d : ℕ) → formed state d us ≡ true → Meant state d us
means [] state d h = finish state d h
means (u ∷ us) state d h = step state d u us (follow (after state d u) us (λ s e. means us s e) h)
