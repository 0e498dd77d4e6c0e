-- Parts put one after the other by a loop over items.
use Rattle.std.proofs.Common.{◌≡◌, ℕ, ◌+◌, ◌<◌, ◌≤◌, List, [], ◌∷◌, ◌++◌, map, length, get_or, take, sym, refl, ap, ◌∙◌, subst, append_assoc}
use Rattle.std.proofs.lemmas.List.{take_more, take_all}
use Rattle.cursor.specs.declared.pieces.Piece.{Piece}
use Rattle.units.specs.Units.{units}
use Rattle.conditions.specs.Shown.{cond_of, selection_of, conds_of}
use Rattle.conditions.specs.declared.tree.Cond.{Cond}
use Rattle.conditions.specs.declared.tree.Selection.{Selection}
use Rattle.parts.specs.Laid.{lay_cond, lay_conds, lay_selections}
use Rattle.parts.specs.declared.Part.{Part}
use Rattle.parts.specs.declared.Part.TheVariants as part
use Rattle.rules.specs.Held.{Put}
use Rattle.rules.specs.declared.sink.Sink.{Sink}
use Rattle.rules.proofs.Filling.{put_twice}

-- the item x of a list that has two names
module _ {X : Type 0} (F : List ℕ → List X → List Part) (f : List ℕ → X → List Part) (push : (us : List ℕ) (xs : List X) (x : X) → F us (xs ++ (x ∷ [])) ≡ F us xs ++ f us x)
    (xs ys : List X) (same : ys ≡ xs) (i : ℕ) (s t : Sink) (so : Put (F (units s.text.now) (take i xs)) s t) where
  pub each_found : (x d : X) → i < length ys → x ≡ get_or ys i d → (u : Sink) → Put (f (units t.text.now) x) t u → Put (F (units s.text.now) (take (i + 1) xs)) s u
  each_found x d within is u h =
      let us = units s.text.now in
      let e : take (i + 1) xs ≡ take i xs ++ (x ∷ []) = subst (λ zs. take (i + 1) zs ≡ take i zs ++ (x ∷ [])) same (take_more ys i d within ∙ ap (λ z. take i ys ++ (z ∷ [])) (sym is)) in
      let k : Put (f us x) t u = subst (λ z. Put (f (units z.now) x) t u) so.text h in
      subst (λ ps. Put ps s u) (sym (ap (F us) e ∙ push us (take i xs) x)) (put_twice (F us (take i xs)) (f us x) s t u so k)

  -- all of them
  pub each_end : length ys ≤ i → Put (F (units s.text.now) xs) s t
  each_end within = subst (λ zs. Put (F (units s.text.now) zs) s t) (take_all i xs (subst (λ zs. length zs ≤ i) same within)) so

-- ── conditions ──
abbrev pub of_conds : List ℕ → List (Cond Piece) → List Part
of_conds us cs = lay_conds (map (cond_of us) cs)

abbrev pub of_cond : List ℕ → Cond Piece → List Part
of_cond us c = part.Condition (lay_cond (cond_of us c)) ∷ []

pub conds_push : (us : List ℕ) (cs : List (Cond Piece)) (c : Cond Piece) → of_conds us (cs ++ (c ∷ [])) ≡ of_conds us cs ++ of_cond us c
conds_push us [] c = refl
conds_push us (d ∷ cs) c = ap (λ l. part.Condition (lay_cond (cond_of us d)) ∷ l) (conds_push us cs c)

-- ── selections ──
abbrev pub of_selections : List ℕ → List Selection → List Part
of_selections us ss = lay_selections (map (selection_of us) ss)

abbrev pub of_selection : List ℕ → Selection → List Part
of_selection us s = lay_selections (selection_of us s ∷ [])

pub selections_push : (us : List ℕ) (ss : List Selection) (s : Selection) → of_selections us (ss ++ (s ∷ [])) ≡ of_selections us ss ++ of_selection us s
selections_push us [] s = refl
selections_push us (r ∷ ss) s =
    let cs = lay_conds (conds_of us r.conds) in
    ap (λ l. part.Selection ∷ (cs ++ l)) (selections_push us ss s) ∙ ap (λ l. part.Selection ∷ l) (sym (append_assoc cs (of_selections us ss) (of_selection us s)))
