-- Loading is exact: what is accepted, and where it stops.
use Rattle.std.proofs.Common.{◌≡◌, ℕ, ◌↔◌, List, [], ◌∷◌, ◌++◌, length, sym, refl, ap, ◌∙◌, subst, ⊎_elim, append_assoc, append-nil, arith}
use Rattle.faults.specs.At.{fault_at}
use Rattle.faults.specs.declared.Cause.TheVariants.{OverLimit}
use Rattle.faults.specs.declared.Fault.{Fault}
use Rattle.words.specs.Words.{Word, words}
use Rattle.words.specs.Terminals.{Kind, terminal, unreadable}
use Rattle.words.specs.declared.terminals.Slip.TheVariants.{BeginsNone, NotClosed, TooLong}
use Rattle.grammar.specs.Tree.{Rule}
use Rattle.grammar.specs.Parse as P
use Rattle.grammar.specs.Readers.{Got, got, useless, past, first_place}
use Rattle.grammar.specs.Whole.{fault_from, cause_of, whole, parse, rules, fault}
use Rattle.grammar.specs.Grammar as G
use Rattle.grammar.specs.Exact.{Begins, RulePast, Within, NoUse, Stops, Told, at_the_end, at_a_word, at_no_terminal, at_open_string, at_long_word, Passes, Judged, OneTree, Exact}
use Rattle.grammar.proofs.Steps.{first}
use Rattle.grammar.proofs.Rules.{rule_set}

-- ── two ways to cut one list ──
data Cuts (f r g s : List Word) : Type 0 where
  alike : f ≡ g → r ≡ s → Cuts f r g s
  before : (v : Word) (m : List Word) → g ≡ f ++ (v ∷ m) → r ≡ v ∷ (m ++ s) → Cuts f r g s
  behind : (v : Word) (m : List Word) → f ≡ g ++ (v ∷ m) → s ≡ v ∷ (m ++ r) → Cuts f r g s

cuts : (f r g s : List Word) → f ++ r ≡ g ++ s → Cuts f r g s
cuts [] r [] s e = alike refl e
cuts [] r (v ∷ m) s e = before v m refl e
cuts (v ∷ m) r [] s e = behind v m refl (sym e)
cuts (x ∷ f) r (y ∷ g) s e =
    let h : x ≡ y = cc in
    let l : f ++ r ≡ g ++ s = cc in
    on_tails h (cuts f r g s l)
  where
    on_tails : x ≡ y → Cuts f r g s → Cuts (x ∷ f) r (y ∷ g) s
    on_tails h (alike p q) = alike (ap (λ z. z ∷ f) h ∙ ap (λ z. y ∷ z) p) q
    on_tails h (before v m p q) = before v m (ap (λ z. y ∷ z) p ∙ ap (λ z. z ∷ (f ++ (v ∷ m))) (sym h)) q
    on_tails h (behind v m p q) = behind v m (ap (λ z. x ∷ z) p ∙ ap (λ z. z ∷ (g ++ (v ∷ m))) h) q

shorter : (f z : List Word) → Begins G.RuleSet (f ++ z) → Begins G.RuleSet f
shorter f z b = record { more = z ++ b.more; says = b.says; holds = subst (λ u. G.RuleSet u b.says) (append_assoc f z b.more) b.holds }

-- ── what the parser does with a sentence ──
abbrev Stuck : Got (List Rule) → Type 0
Stuck (got rs []) = ⊥
Stuck (got rs (w ∷ b)) = Unit {0}
Stuck (useless r) = Unit {0}
Stuck (past r) = ⊥

accepted : (ws : List Word) (rs : List Rule) → G.RuleSet ws rs → Within rs → P.RuleSet ws ≡ got rs []
accepted ws rs d h = ap P.RuleSet (sym (append-nil ws)) ∙ rule_set.complete ws [] rs (record { says = d; fits = h }) (record { told = refl })

not_stuck : (ws : List Word) (rs : List Rule) → G.RuleSet ws rs → Stuck (P.RuleSet ws) → ⊥
not_stuck ws rs d h =
    ⊎_elim (λ k. subst Stuck (accepted ws rs k.says k.fits) h)
    (λ i. subst Stuck (ap P.RuleSet i.cut ∙ rule_set.passes i.front i.w i.back i.here) h)
    (rule_set.fits ws rs (record { says = d; fits = tt }))

no_use_of : (front rest : List Word) → ((z : List Word) → first rest ≡ first z → Stuck (P.RuleSet (front ++ z))) → NoUse front rest
no_use_of front [] h = λ rs d. not_stuck (front ++ []) rs (subst (λ z. G.RuleSet z rs) (sym (append-nil front)) d) (h [] refl)
no_use_of front (w ∷ b) h = λ s. not_stuck (front ++ (w ∷ s.more)) s.says (subst (λ z. G.RuleSet z s.says) (append_assoc front (w ∷ []) s.more) s.holds) (h (w ∷ s.more) refl)

make_stops : (ws front rest : List Word) → ws ≡ front ++ rest → Begins G.RuleSet front → ((z : List Word) → first rest ≡ first z → Stuck (P.RuleSet (front ++ z))) → Stops ws front rest
make_stops ws front rest c b h = record {
  cut = c;
  begun = b;
  no_use = no_use_of front rest h;
  in_limits = λ u v w e q.
      subst Stuck (ap (λ z. P.RuleSet (z ++ rest)) e ∙ ap P.RuleSet (append_assoc u (w ∷ v) rest) ∙ rule_set.passes u w (v ++ rest) q) (h rest refl);
}

some_word : (w : Word) (b z : List Word) (rs : List Rule) → first (w ∷ b) ≡ first z → Stuck (got rs z)
some_word w b [] rs h = let e : ◌≡◌ {A = ℕ} 0 1 = cc in absurd (omega arith)
some_word w b (v ∷ z) rs h = tt

got_stops : (ws : List Word) (rs : List Rule) (w : Word) (b : List Word) → P.RuleSet ws ≡ got rs (w ∷ b) → (front : List Word) × Stops ws front (w ∷ b)
got_stops ws rs w b e =
    let s = rule_set.sound ws (w ∷ b) rs e in
    (s.front, make_stops ws s.front (w ∷ b) s.cut (record { more = []; says = rs; holds = subst (λ z. G.RuleSet z rs) (sym (append-nil s.front)) s.says.says }) (λ z h. subst Stuck (sym (s.again z h)) (some_word w b z rs h)))

useless_stops : (ws rest : List Word) → P.RuleSet ws ≡ useless rest → (front : List Word) × Stops ws front rest
useless_stops ws rest e =
    let s = rule_set.alive ws rest e in
    (s.front, make_stops ws s.front rest s.cut (record { more = s.begun.more; says = s.begun.says; holds = s.begun.holds.says }) (λ z h. subst Stuck (sym (s.again z h)) tt))

-- ── a text stops at one place ──
no_further : (front rest m : List Word) (v : Word) → NoUse front rest → rest ≡ v ∷ m → (z : List Word) → Begins G.RuleSet ((front ++ (v ∷ [])) ++ z) → ⊥
no_further front [] m v h e z b = let x : ◌≡◌ {A = ℕ} 0 1 = cc in omega arith
no_further front (w ∷ r) m v h e z b = let s : v ≡ w = cc in h (subst (λ u. Begins G.RuleSet (front ++ (u ∷ []))) s (shorter _ z b))

one_stop : (ws f r g s : List Word) → Stops ws f r → Stops ws g s → r ≡ s
one_stop ws f r g s x y = go (cuts f r g s (sym x.cut ∙ y.cut))
  where
    go : Cuts f r g s → r ≡ s
    go (alike p q) = q
    go (before v m p q) = absurd (no_further f r (m ++ s) v x.no_use q m (subst (Begins G.RuleSet) (p ∙ sym (append_assoc f (v ∷ []) m)) y.begun))
    go (behind v m p q) = absurd (no_further g s (m ++ r) v y.no_use q m (subst (Begins G.RuleSet) (p ∙ sym (append_assoc g (v ∷ []) m)) x.begun))

past_begun : (f : List Word) (w : Word) → RulePast 32 f w → Begins G.RuleSet (f ++ (w ∷ []))
past_begun f w h = let b = rule_set.past_begun f w h in record { more = b.more; says = b.says; holds = b.holds.says }

not_past : (ws f r g : List Word) (w : Word) (b : List Word) → Stops ws f r → ws ≡ g ++ (w ∷ b) → RulePast 32 g w → ⊥
not_past ws f r g w b x c h = go (cuts f r g (w ∷ b) (sym x.cut ∙ c))
  where
    go : Cuts f r g (w ∷ b) → ⊥
    go (alike p q) = no_further f r b w x.no_use q [] (subst (Begins G.RuleSet) (ap (λ z. z ++ (w ∷ [])) (sym p) ∙ sym (append-nil (f ++ (w ∷ [])))) (past_begun g w h))
    go (before v m p q) =
        no_further f r (m ++ (w ∷ b)) v x.no_use q (m ++ (w ∷ []))
        (subst (Begins G.RuleSet) (ap (λ z. z ++ (w ∷ [])) p ∙ append_assoc f (v ∷ m) (w ∷ []) ∙ sym (append_assoc f (v ∷ []) (m ++ (w ∷ [])))) (past_begun g w h))
    go (behind v m p q) = let s : w ≡ v = cc in x.in_limits g m w (p ∙ ap (λ z. g ++ (z ∷ m)) (sym s)) h

-- ── the three statements ──
cause_not : (k : Kind) → cause_of k ≡ OverLimit → ⊥
cause_not (terminal u) h = let z : ◌≡◌ {A = ℕ} 0 1 = cc in omega arith
cause_not (unreadable BeginsNone) h = let z : ◌≡◌ {A = ℕ} 0 1 = cc in omega arith
cause_not (unreadable NotClosed) h = let z : ◌≡◌ {A = ℕ} 0 1 = cc in omega arith
cause_not (unreadable TooLong) h = let z : ◌≡◌ {A = ℕ} 0 1 = cc in omega arith

fault_not : (n : ℕ) (ws : List Word) → (fault_from n ws).cause ≡ OverLimit → ⊥
fault_not n [] h = let z : ◌≡◌ {A = ℕ} 0 1 = cc in omega arith
fault_not n (w ∷ ws) h = cause_not w.kind h

accepts : (n : ℕ) (ws : List Word) (rs : List Rule) → (whole n (P.RuleSet ws) ≡ rules rs) ↔ (G.RuleSet ws rs × Within rs)
accepts n ws rs = ((λ e. go (P.RuleSet ws) refl e), (λ d. ap (whole n) (accepted ws rs d.0 d.1)))
  where
    go : (g : Got (List Rule)) → P.RuleSet ws ≡ g → whole n g ≡ rules rs → G.RuleSet ws rs × Within rs
    go (got qs []) h e =
        let s = rule_set.sound ws [] qs h in
        let v : qs ≡ rs = cc in
        (subst (λ z. G.RuleSet ws z) v (subst (λ z. G.RuleSet z qs) (sym (s.cut ∙ append-nil s.front)) s.says.says), subst Within v s.says.fits)
    go (got qs (w ∷ b)) h e = let x : ◌≡◌ {A = ℕ} 0 1 = cc in absurd (omega arith)
    go (useless r) h e = let x : ◌≡◌ {A = ℕ} 0 1 = cc in absurd (omega arith)
    go (past r) h e = let x : ◌≡◌ {A = ℕ} 0 1 = cc in absurd (omega arith)

told : (n : ℕ) (ws : List Word) → Told n ws (fault_from n ws)
told n [] = at_the_end
told n (w ∷ ws) = go w.kind refl
  where
    go : (k : Kind) → w.kind ≡ k → Told n (w ∷ ws) (fault_at (cause_of k) w.at)
    go (terminal u) e = at_a_word e
    go (unreadable BeginsNone) e = at_no_terminal e
    go (unreadable NotClosed) e = at_open_string e
    go (unreadable TooLong) e = at_long_word e

told_so : (n : ℕ) (ws : List Word) (f : Fault) → Told n ws f → fault_from n ws ≡ f
told_so n ws f at_the_end = refl
told_so n ws f (at_a_word {w = w} e) = ap (λ k. fault_at (cause_of k) w.at) e
told_so n ws f (at_no_terminal {w = w} e) = ap (λ k. fault_at (cause_of k) w.at) e
told_so n ws f (at_open_string {w = w} e) = ap (λ k. fault_at (cause_of k) w.at) e
told_so n ws f (at_long_word {w = w} e) = ap (λ k. fault_at (cause_of k) w.at) e

abbrev Stopped : ℕ → List Word → Fault → Type 0
Stopped n ws f = (front : List Word) × (rest : List Word) × Stops ws front rest × Told n rest f

stopped : (n : ℕ) (ws : List Word) (f : Fault) → (f.cause ≡ OverLimit → ⊥) → (whole n (P.RuleSet ws) ≡ fault f) ↔ Stopped n ws f
stopped n ws f other = ((λ e. there (P.RuleSet ws) refl e), (λ d. back (P.RuleSet ws) refl d.0 d.1 d.2 ∙ ap (λ z. fault z) (told_so n _ f d.3)))
  where
    there : (g : Got (List Rule)) → P.RuleSet ws ≡ g → whole n g ≡ fault f → Stopped n ws f
    there (got qs []) h e = let x : ◌≡◌ {A = ℕ} 0 1 = cc in absurd (omega arith)
    there (got qs (w ∷ b)) h e = let s = got_stops ws qs w b h in let v : fault_from n (w ∷ b) ≡ f = cc in (s.0, w ∷ b, s.1, subst (Told n (w ∷ b)) v (told n (w ∷ b)))
    there (useless r) h e = let s = useless_stops ws r h in let v : fault_from n r ≡ f = cc in (s.0, r, s.1, subst (Told n r) v (told n r))
    there (past r) h e = let v : fault_at OverLimit (first_place r) ≡ f = cc in absurd (other (ap (λ (z : Fault). z.cause) (sym v)))

    back : (g : Got (List Rule)) → P.RuleSet ws ≡ g → (front rest : List Word) → Stops ws front rest → whole n g ≡ fault (fault_from n rest)
    back (got qs []) h front rest x = absurd (whole_not rest x.cut x.no_use)
      where
        s : G.RuleSet ws qs
        s = let u = rule_set.sound ws [] qs h in subst (λ z. G.RuleSet z qs) (sym (u.cut ∙ append-nil u.front)) u.says.says

        whole_not : (r : List Word) → ws ≡ front ++ r → NoUse front r → ⊥
        whole_not [] c u = u qs (subst (λ z. G.RuleSet z qs) (c ∙ append-nil front) s)
        whole_not (w ∷ b) c u = u (record { more = b; says = qs; holds = subst (λ z. G.RuleSet z qs) (c ∙ sym (append_assoc front (w ∷ []) b)) s })
    back (got qs (w ∷ b)) h front rest x = let s = got_stops ws qs w b h in ap (λ z. fault (fault_from n z)) (one_stop ws s.0 (w ∷ b) front rest s.1 x)
    back (useless r) h front rest x = let s = useless_stops ws r h in ap (λ z. fault (fault_from n z)) (one_stop ws s.0 r front rest s.1 x)
    back (past r) h front rest x =
        let u = rule_set.lost ws r h in
        absurd (not_past ws front rest u.front u.w u.back x (u.cut ∙ ap (λ z. u.front ++ z) u.word) u.here)

passed : (n : ℕ) (ws : List Word) (p : ℕ) → (whole n (P.RuleSet ws) ≡ fault (fault_at OverLimit p)) ↔ ((front : List Word) × (w : Word) × (rest : List Word) × Passes ws front w rest × (p ≡ w.at))
passed n ws p = ((λ e. there (P.RuleSet ws) refl e), (λ d. ap (whole n) (ap P.RuleSet d.3.cut ∙ rule_set.passes d.0 d.1 d.2 d.3.item) ∙ ap (λ z. fault (fault_at OverLimit z)) (sym d.4)))
  where
    there : (g : Got (List Rule)) → P.RuleSet ws ≡ g → whole n g ≡ fault (fault_at OverLimit p) → (front : List Word) × (w : Word) × (rest : List Word) × Passes ws front w rest × (p ≡ w.at)
    there (got qs []) h e = let x : ◌≡◌ {A = ℕ} 0 1 = cc in absurd (omega arith)
    there (got qs (w ∷ b)) h e = let v : fault_from n (w ∷ b) ≡ fault_at OverLimit p = cc in absurd (fault_not n (w ∷ b) (ap (λ (z : Fault). z.cause) v))
    there (useless r) h e = let v : fault_from n r ≡ fault_at OverLimit p = cc in absurd (fault_not n r (ap (λ (z : Fault). z.cause) v))
    there (past r) h e =
        let u = rule_set.lost ws r h in
        let v : ◌≡◌ {A = Fault} (fault_at OverLimit (first_place r)) (fault_at OverLimit p) = cc in
        (u.front, u.w, u.back, record { cut = u.cut ∙ ap (λ z. u.front ++ z) u.word; item = u.here }, ap (λ (z : Fault). z.place) (sym v) ∙ ap first_place u.word)

one_tree : OneTree
one_tree ws rs qs d h c =
    let e = accepted ws rs d h in
    ⊎_elim (λ k. let g = accepted ws qs k.says k.fits in cc)
    (λ i. let g = ap P.RuleSet i.cut ∙ rule_set.passes i.front i.w i.back i.here in let x : ◌≡◌ {A = ℕ} 0 1 = cc in absurd (omega arith))
    (rule_set.fits ws qs (record { says = c; fits = tt }))

pub judged : (us : List ℕ) → Judged us (parse us)
unfolding parse
judged us = record { accepts = accepts (length us) (words us); stops = stopped (length us) (words us); passes = passed (length us) (words us) }

pub exact : Exact
exact = (judged, one_tree)
