-- Rules, and the rule set.
use Rattle.std.proofs.Common.{◌≡◌, ℕ, zero, suc, ◌≤◌, Bool, true, false, cond, ◌⊎◌, List, [], ◌∷◌, ◌++◌, length, sym, refl, ap, ◌∙◌, subst, inl, inr, ⊎_elim, append-nil, arith}
use Rattle.words.specs.Words.{Word}
use Rattle.words.specs.declared.terminals.Terminal.{Terminal}
use Rattle.grammar.specs.Tree.{Rule}
use Rattle.grammar.specs.Parse as P
use Rattle.grammar.specs.Readers.{Got, got, useless, past, Reads, return, next, first_place, past_limit, placed}
use Rattle.grammar.specs.Parse.{rules_begin}
use Rattle.grammar.specs.Grammar as G
use Rattle.grammar.specs.Exact.{Begins, Never, SelectionPast, RulePast, too_many_rules, inside_rule, later_rule, RuleWithin}
use Rattle.grammar.proofs.Steps.{pick, way, next_first, first, useless_got, past_got, past_useless, useless_same, past_same}
use Rattle.grammar.proofs.Good.{Mode, kept, free, Rel, one, Ret, ret, Seq, seq, Map, mapped, Alt, left, right, PastSeq, in_first, in_second, PastAlt, in_left, in_right, Good, Front, Inside, Lost, More, Among, returned, put, row, either, same}
use Rattle.grammar.proofs.Limited.{Kept, Lim, Fits, First, first_of, first_is, Made, RuleWords, rule_words, begins_rule, keep, keep_two, keep_all}

pub record Any (ws : List Word) : Type 0 where

-- ── with the place of the first word ──
pub record Placed {A : Type 0} (D : Mode → Rel A) (m : Mode) (ws : List Word) (y : ℕ × A) : Type 0 where
  pub says : D m ws y.1
  pub place : y.0 ≡ first_place ws

module _ {A : Type 0} (p : Reads A) where
  abbrev with_place : List Word → Got A → Got (ℕ × A)
  with_place ws g = elim g as (λ _. Got (ℕ × A)) [ got x rest ↦ got (first_place ws, x) rest | useless rest ↦ useless rest | past rest ↦ past rest ]

  data Unplaced (ws : List Word) (g : Got (ℕ × A)) : Type 0 where
    unplaced : (h : Got A) → p ws ≡ h → with_place ws h ≡ g → Unplaced ws g

  placed_of : (ws : List Word) (g : Got (ℕ × A)) → placed p ws ≡ g → Unplaced ws g
  placed_of ws g e = unplaced (p ws) refl e

  on_placed : (ws : List Word) (g : Got A) → p ws ≡ g → placed p ws ≡ with_place ws g
  on_placed ws g e = ap (with_place ws) e

first_place_of : {ks : List Terminal} (f rest : List Word) → First ks f → first_place (f ++ rest) ≡ first_place f
first_place_of f rest u = ap (λ z. first_place (z ++ rest)) u.cut ∙ ap first_place (sym u.cut)

module _ {A : Type 0} {p : Reads A} {D : Mode → Rel A} {Q : List Word → Word → Type 0} {ks : List Terminal} {F : List Word → Type 0} (g : Good p D Q (Among ks) F) (firsts : (f : List Word) (x : A) → D free f x → First ks f) where
  begun : (f : List Word) → Begins (D free) f → Begins (Placed D free) f
  begun f b = record { more = b.more; says = (first_place (f ++ b.more), b.says); holds = record { says = b.holds; place = refl } }

  sound_placed : (ws rest : List Word) (y : ℕ × A) → Unplaced p ws (got y rest) → Front (placed p) (Placed D kept) ws y rest
  sound_placed ws rest y (unplaced (got x r) i j) =
      let v : (first_place ws, x) ≡ y = cc in
      let tail : r ≡ rest = cc in
      let u = g.sound ws rest x (i ∙ ap (λ z. got x z) tail) in
      let d = firsts u.front x (g.loose u.front x u.says) in
      subst (λ z. Front (placed p) (Placed D kept) ws z rest) v (record {
        front = u.front;
        cut = u.cut;
        says = record { says = u.says; place = ap first_place u.cut ∙ first_place_of u.front rest d };
        again = λ o h. on_placed p (u.front ++ o) (got x o) (u.again o h) ∙ ap (λ n. got (n, x) o) (first_place_of u.front o d ∙ sym (ap first_place u.cut ∙ first_place_of u.front rest d));
      })
  sound_placed ws rest y (unplaced (useless r) i j) = absurd (useless_got j)
  sound_placed ws rest y (unplaced (past r) i j) = absurd (past_got j)

  lost_placed : (ws rest : List Word) → Unplaced p ws (past rest) → Lost Q ws rest
  lost_placed ws rest (unplaced (got x r) i j) = absurd (past_got (sym j))
  lost_placed ws rest (unplaced (useless r) i j) = absurd (past_useless (sym j))
  lost_placed ws rest (unplaced (past r) i j) = g.lost ws rest (i ∙ ap (λ z. past z) (past_same j))

  alive_placed : (ws rest : List Word) → Unplaced p ws (useless rest) → More (placed p) (Placed D free) ws rest
  alive_placed ws rest (unplaced (got x r) i j) = absurd (useless_got (sym j))
  alive_placed ws rest (unplaced (useless r) i j) =
      let u = g.alive ws rest (i ∙ ap (λ z. useless z) (useless_same j)) in
      record { front = u.front; cut = u.cut; begun = begun _ u.begun; again = λ o h. on_placed p _ (useless o) (u.again o h) }
  alive_placed ws rest (unplaced (past r) i j) = absurd (past_useless j)

  with_places : Good (placed p) (Placed D) Q (Among ks) F
  with_places = record {
    sound = λ ws rest y e. sound_placed ws rest y (placed_of p ws _ e);
    complete = λ f rest y d h. on_placed p _ _ (g.complete f rest y.1 d.says h) ∙ ap (λ n. got (n, y.1) rest) (first_place_of f rest (firsts f y.1 (g.loose _ _ d.says)) ∙ sym d.place);
    head = λ f rest y d h. g.head f rest y.1 d.says h;
    loose = λ f y d. record { says = g.loose f y.1 d.says; place = d.place };
    fits = λ f y d. ⊎_elim (λ e. inl (record { says = e; place = d.place })) (λ i. inr i) (g.fits f y.1 d.says);
    lost = λ ws rest e. lost_placed ws rest (placed_of p ws _ e);
    passes = λ f w b h. on_placed p _ _ (g.passes f w b h);
    past_head = g.past_head;
    past_begun = λ f w h. begun _ (g.past_begun f w h);
    alive = λ ws rest e. alive_placed ws rest (placed_of p ws _ e);
    sample = begun [] g.sample;
  }

-- ── a rule ──
rule_first : (f : List Word) (x : Made) → RuleWords free f x → First rules_begin f
rule_first f x d = let h = (rule_words {F = Any}).head f [] x d (record {}) in first_of rules_begin f (ap (next rules_begin) (sym (append-nil f)) ∙ h.told)

abbrev made_rule : ℕ × Made → Rule
made_rule r = record { at = r.0; selections = r.1.0; action = r.1.1 }

as_rule : (m : Mode) (ws : List Word) (b : Made) → RuleWords m ws b → (n : ℕ) → n ≡ first_place ws → Lim G.ARule RuleWithin m ws (made_rule (n, b))
as_rule m ws b (seq {us = us} {x = ss} c (seq (one {w = i} h) (seq {us = vs} {x = x} d (mapped (one {w = z} g) v)))) n e =
    let at : List Word = us ++ (i ∷ (vs ++ (z ∷ []))) in
    subst (λ (y : Made). Lim G.ARule RuleWithin m at (made_rule (n, y))) v (subst (λ k. Lim G.ARule RuleWithin m at (made_rule (k, (ss, x)))) (sym e) (record { says = G.rule_body c.says h d g; fits = c.fits }))

a_rule : {F : List Word → Type 0} → Good P.ARule (Lim G.ARule RuleWithin) SelectionPast (Among rules_begin) F
a_rule = same (put made_rule (with_places rule_words rule_first)) to (λ m ws r d. from m ws r d.says d.fits) (λ f w h. h) (λ f w h. h)
  where
    to : (m : Mode) (ws : List Word) (r : Rule) → Map made_rule (Placed RuleWords) m ws r → Lim G.ARule RuleWithin m ws r
    to m ws r (mapped {x = y} d v) = subst (Lim G.ARule RuleWithin m ws) v (as_rule m ws y.1 d.says y.0 d.place)

    from : (m : Mode) (ws : List Word) (r : Rule) → G.ARule ws r → Kept m (RuleWithin r) → Map made_rule (Placed RuleWords) m ws r
    from m ws r (G.rule_body {ss = ss} {x = x} c i d z) h = mapped {x = (_, (ss, x))} (record { says = seq (record { says = c; fits = h }) (seq (one i) (seq d (mapped (one z) refl))); place = refl }) refl

a_rule_first : (f : List Word) (r : Rule) → G.ARule f r → First rules_begin f
a_rule_first f r d = let h = (a_rule {F = Any}).head f [] r (record { says = d; fits = tt }) (record {}) in first_of rules_begin f (ap (next rules_begin) (sym (append-nil f)) ∙ h.told)

begun_next : (w : Word) → Begins G.ARule (w ∷ []) → next rules_begin (w ∷ []) ≡ true
begun_next w b = first_is rules_begin w b.more (a_rule_first (w ∷ b.more) b.says b.holds)

-- ── the rule set ──
pub record NoneOf (ks : List Terminal) (ws : List Word) : Type 0 where
  pub told : next ks ws ≡ false

abbrev pub RulesWithin : ℕ → List Rule → Type 0
RulesWithin = Fits RuleWithin

rules_first : (f : List Word) (rs : List Rule) → G.Rules f rs → First rules_begin f
rules_first f rs (G.one_rule {r = r} d) = a_rule_first f r d
rules_first f rs (G.more_rules {ws = us} {vs = vs} {r = r} d c) = let u = a_rule_first us r d in record { w = u.w; back = u.back ++ vs; cut = ap (λ z. z ++ vs) u.cut; told = u.told }

rules_long : (f : List Word) (rs : List Rule) → G.Rules f rs → length rs ≤ 0 → ⊥
rules_long f rs (G.one_rule d) h = omega arith
rules_long f rs (G.more_rules d c) h = omega arith

abbrev Set : ℕ → Mode → Rel (List Rule)
Set n = Lim G.RuleSet (RulesWithin n)

next_word : (w : Word) (b : List Word) → next rules_begin (w ∷ []) ≡ true → next rules_begin (w ∷ b) ≡ true
next_word w b h = next_first rules_begin (w ∷ b) (w ∷ []) refl ∙ h

base_sound : (b : Bool) (ws rest : List Word) (rs : List Rule) → next rules_begin ws ≡ b → cond b (past_limit {A = List Rule}) (return []) ws ≡ got rs rest → Front (P.Rules 0) (Set 0 kept) ws rs rest
unfolding P.Rules
base_sound true ws rest rs n e = absurd (past_got e)
base_sound false ws rest rs n e =
    let v : [] ≡ rs = cc in
    let s : ws ≡ rest = cc in
    record {
      front = [];
      cut = s;
      says = subst (Set 0 kept []) v (record { says = G.null; fits = (omega arith, tt) });
      again = λ o h. pick rules_begin past_limit (return []) false o (next_first rules_begin o ws (sym (ap first s ∙ h)) ∙ n) (ap (λ z. got z o) v);
    }

base_complete : (f rest : List Word) (rs : List Rule) → G.RuleSet f rs → length rs ≤ 0 → next rules_begin rest ≡ false → P.Rules 0 (f ++ rest) ≡ got rs rest
unfolding P.Rules
base_complete f rest rs G.null h e = pick rules_begin past_limit (return []) false rest e refl
base_complete f rest rs (G.some_rules d) h e = absurd (rules_long f rs d h)

base_fits : (f : List Word) (rs : List Rule) → G.RuleSet f rs → Set 0 kept f rs ⊎ Inside (RulePast 0) f
base_fits f rs G.null = inl (record { says = G.null; fits = (omega arith, tt) })
base_fits f rs (G.some_rules d) = let u = rules_first f rs d in inr (record { front = []; w = u.w; back = u.back; cut = u.cut; here = too_many_rules (begins_rule u.w u.told) })

base_lost : (b : Bool) (ws rest : List Word) → next rules_begin ws ≡ b → cond b (past_limit {A = List Rule}) (return []) ws ≡ past rest → Lost (RulePast 0) ws rest
base_lost true ws rest h e = let u = first_of rules_begin ws h in record { front = []; w = u.w; back = u.back; cut = past_same e; word = sym (past_same e) ∙ u.cut; here = too_many_rules (begins_rule u.w u.told) }
base_lost false ws rest h e = absurd (past_got (sym e))

base_passes : (f : List Word) (w : Word) (b : List Word) → RulePast 0 f w → P.Rules 0 (f ++ (w ∷ b)) ≡ past (w ∷ b)
unfolding P.Rules
base_passes f w b (too_many_rules h) = pick rules_begin past_limit (return []) true (w ∷ b) (next_word w b (begun_next w h)) refl

base_begun : (f : List Word) (w : Word) → RulePast 0 f w → Begins (Set 0 free) (f ++ (w ∷ []))
base_begun f w (too_many_rules h) =
    record { more = h.more; says = h.says ∷ []; holds = record { says = G.some_rules (G.one_rule h.holds); fits = tt } }

base_alive : (b : Bool) (ws rest : List Word) → cond b (past_limit {A = List Rule}) (return []) ws ≡ useless rest → ⊥
base_alive true ws rest e = past_useless e
base_alive false ws rest e = useless_got (sym e)

base : Good (P.Rules 0) (Set 0) (RulePast 0) Any (NoneOf rules_begin)
unfolding P.Rules
base = record {
  sound = λ ws rest rs e. let w = way rules_begin _ _ e in base_sound w.0 ws rest rs w.1 w.2;
  complete = λ f rest rs d h. base_complete f rest rs d.says d.fits.0 h.told;
  head = λ f rest rs d h. record {};
  loose = λ f rs d. record { says = d.says; fits = tt };
  fits = λ f rs d. base_fits f rs d.says;
  lost = λ ws rest e. let w = way rules_begin _ _ e in base_lost w.0 ws rest w.1 w.2;
  passes = base_passes;
  past_head = λ f w b h. record {};
  past_begun = base_begun;
  alive = λ ws rest e. let w = way rules_begin _ _ e in absurd (base_alive w.0 ws rest w.2);
  sample = record { more = []; says = []; holds = record { says = G.null; fits = tt } };
}

abbrev Step : ℕ → Mode → Rel (List Rule)
Step n = Alt (Seq (Lim G.ARule RuleWithin) (λ r. Map (λ rs. r ∷ rs) (Set n))) (Ret [])

abbrev StepPast : ℕ → List Word → Word → Type 0
StepPast n = PastAlt (PastSeq (Lim G.ARule RuleWithin) SelectionPast (λ _. RulePast n)) Never

one_more : (us vs : List Word) (r : Rule) (rs : List Rule) → G.ARule us r → G.RuleSet vs rs → G.RuleSet (us ++ vs) (r ∷ rs)
one_more us vs r rs d G.null = subst (λ z. G.RuleSet z (r ∷ [])) (sym (append-nil us)) (G.some_rules (G.one_rule d))
one_more us vs r rs d (G.some_rules c) = G.some_rules (G.more_rules d c)

to_step : (n : ℕ) (m : Mode) (ws : List Word) (ys : List Rule) → Step n m ws ys → Set (suc n) m ws ys
to_step n m ws ys (left (seq d (mapped c v))) =
    subst (Set (suc n) m _) v (record { says = one_more _ _ _ _ d.says c.says; fits = keep_two m (λ o h. (omega (arith, h.0), (o, h.1))) d.fits c.fits })
to_step n m ws ys (right (ret v)) = subst (Set (suc n) m []) v (record { says = G.null; fits = keep_all m (omega arith, tt) })

from_step : (n : ℕ) (m : Mode) (ws : List Word) (ys : List Rule) → G.RuleSet ws ys → Kept m (RulesWithin (suc n) ys) → Step n m ws ys
from_step n m ws ys G.null h = right (ret refl)
from_step n m ws ys (G.some_rules (G.one_rule {ws = us} {r = r} d)) h =
    subst (λ z. Step n m z (r ∷ [])) (append-nil us)
    (left (seq (record { says = d; fits = keep {S = RulesWithin (suc n) (r ∷ [])} m (λ q. q.1.0) h }) (mapped (record { says = G.null; fits = keep_all m (omega arith, tt) }) refl)))
from_step n m ws ys (G.some_rules (G.more_rules {r = r} {rs = rs} d c)) h =
    left (seq (record { says = d; fits = keep {S = RulesWithin (suc n) (r ∷ rs)} m (λ q. q.1.0) h })
    (mapped (record { says = G.some_rules c; fits = keep {S = RulesWithin (suc n) (r ∷ rs)} {T = RulesWithin n rs} m (λ q. (omega (arith, q.0), q.1.1)) h }) refl))

to_past : (n : ℕ) (f : List Word) (w : Word) → StepPast n f w → RulePast (suc n) f w
to_past n f w (in_left (in_first h)) = inside_rule h
to_past n f w (in_left (in_second d h)) = later_rule d.says d.fits h
to_past n f w (in_right h) = absurd h.no_such

from_past : (n : ℕ) (f : List Word) (w : Word) → RulePast (suc n) f w → StepPast n f w
from_past n f w (inside_rule h) = in_left (in_first h)
from_past n f w (later_rule d o h) = in_left (in_second (record { says = d; fits = o }) h)

rules : (n : ℕ) → Good (P.Rules n) (Set n) (RulePast n) Any (NoneOf rules_begin)
unfolding P.Rules
rules zero = base
rules (suc n) =
    same (either rules_begin (row a_rule (λ r. put (λ rs. r ∷ rs) (rules n))) (returned []) (λ ws h. h.told) (λ ws h. h.told) (λ ws h. record {}) (λ ws h. record {}))
    (to_step n) (λ m ws ys d. from_step n m ws ys d.says d.fits) (to_past n) (from_past n)

pub rule_set : Good P.RuleSet (Set 32) (RulePast 32) Any (NoneOf rules_begin)
rule_set = rules 32
