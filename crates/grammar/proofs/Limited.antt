-- The productions with limits, up to the whole text.
use Rattle.std.proofs.Common.{◌≡◌, ℕ, zero, suc, ◌≤◌, Bool, true, false, cond, ◌||◌, List, [], ◌∷◌, ◌++◌, length, Some, None, sym, refl, ap, ◌∙◌, subst, inr, ⊎_elim, append_assoc, append-nil, arith}
use Rattle.std.specs.List.{AllByRecursion}
use Rattle.std.proofs.lemmas.Bool.{or_cases, or_right}
use Rattle.words.specs.Words.{Word}
use Rattle.words.specs.declared.terminals.Terminal.{Terminal}
use Rattle.words.specs.declared.terminals.Terminal.TheVariants.{Imply, Semicolon, Colon, Comma, And, OpenSquare, CloseSquare, OpenRound, CloseRound, Equal, Assign, KeyIssue, KeyClaim, KeyType, KeyValue, KeyValueType, Identifier, Literal, Int64Type}
use Rattle.grammar.specs.Tree as Tree
use Rattle.grammar.specs.Tree.{Selection, Action, Rule}
use Rattle.grammar.specs.Parse as P
use Rattle.grammar.specs.Readers.{got, useless, past, Reads, next, many, past_limit, stop}
use Rattle.grammar.specs.Parse.{conds_begin, selections_begin, rules_begin}
use Rattle.grammar.specs.Grammar as G
use Rattle.grammar.specs.Grammar.{Is, Listed}
use Rattle.grammar.specs.Exact.{Begins, Never, Beyond, too_many, inside, later, CondPast, PastInSelection, in_bare, in_named, SelectionPast, SelectionWithin}
use Rattle.grammar.proofs.Steps.{useless_got, past_got, past_useless, useless_same, past_same, pick, way, next_first, first}
use Rattle.grammar.proofs.Good.{Mode, kept, free, Rel, One, one, Ret, ret, Seq, seq, Map, mapped, Alt, left, right, PastSeq, in_first, in_second, PastAlt, in_left, in_right, Good, Lost, More, Among, any, any_is, word, returned, put, row, alt, same, no_others, disjoint, not_both, nothing_next}
use Rattle.grammar.proofs.Plain.{a_cond, rule_action}

abbrev pub Kept : Mode → Type 0 → Type 0
Kept kept T = T
Kept free T = Unit {0}

-- what R says, within the limits where they count
pub record Lim {A : Type 0} (R : Rel A) (ok : A → Type 0) (m : Mode) (ws : List Word) (x : A) : Type 0 where
  pub says : R ws x
  pub fits : Kept m (ok x)

abbrev pub Fits : {A : Type 0} → (A → Type 0) → ℕ → List A → Type 0
Fits ok n xs = (length xs ≤ n) × AllByRecursion ok xs

pub keep : {S T : Type 0} (m : Mode) → (S → T) → Kept m S → Kept m T
keep kept f s = f s
keep free f s = tt

pub keep_two : {R S T : Type 0} (m : Mode) → (R → S → T) → Kept m R → Kept m S → Kept m T
keep_two kept f r s = f r s
keep_two free f r s = tt

pub keep_all : {T : Type 0} (m : Mode) → T → Kept m T
keep_all kept x = x
keep_all free x = tt

-- the first word is among ks
pub record First (ks : List Terminal) (f : List Word) : Type 0 where
  pub w : Word
  pub back : List Word
  pub cut : f ≡ w ∷ back
  pub told : next ks (w ∷ []) ≡ true

pub first_of : (ks : List Terminal) (f : List Word) → next ks f ≡ true → First ks f
first_of ks [] h = absurd (not_both h (nothing_next ks))
first_of ks (w ∷ f) h = record { w = w; back = f; cut = refl; told = next_first ks (w ∷ []) (w ∷ f) refl ∙ h }

pub first_is : (ks : List Terminal) (w : Word) (f : List Word) → First ks (w ∷ f) → next ks (w ∷ []) ≡ true
first_is ks w f u = let s : u.w ≡ w = cc u.cut in subst (λ z. next ks (z ∷ []) ≡ true) s u.told

-- ── lists ──
pub data Chain {A : Type 0} (k : Terminal) (X : Rel A) : List Word → List A → Type 0 where
  last : {us : List Word} {x : A} → X us x → Chain k X us (x ∷ [])
  link : {us vs : List Word} {w : Word} {x : A} {xs : List A} → X us x → Is k w → Chain k X vs xs → Chain k X (us ++ (w ∷ vs)) (x ∷ xs)

module _ {A : Type 0} (k : Terminal) (X : Rel A) where
  in_front : {us ws : List Word} {w : Word} {x : A} {xs : List A} → X us x → Is k w → Listed k X ws xs → Listed k X (us ++ (w ∷ ws)) (x ∷ xs)
  in_front d i (Listed.one e) = Listed.more (Listed.one d) i e
  in_front {us} {w = w} {x = x} d i (Listed.more {ws = ws} {vs = vs} {w = v} {xs = xs} {x = y} l j e) =
      subst (λ z. Listed k X z (x ∷ (xs ++ (y ∷ [])))) (append_assoc us (w ∷ ws) (v ∷ vs)) (Listed.more (in_front d i l) j e)

  to_listed : (ws : List Word) (xs : List A) → Chain k X ws xs → Listed k X ws xs
  to_listed ws xs (last d) = Listed.one d
  to_listed ws xs (link {vs = vs} {xs = ys} d i c) = in_front d i (to_listed vs ys c)

  at_end : {ws vs : List Word} {w : Word} {xs : List A} {x : A} → Chain k X ws xs → Is k w → X vs x → Chain k X (ws ++ (w ∷ vs)) (xs ++ (x ∷ []))
  at_end (last d) i e = link d i (last e)
  at_end {vs = vs} {w = w} {x = y} (link {us = us} {vs = zs} {w = v} {x = x} {xs = xs} d j c) i e =
      subst (λ z. Chain k X z (x ∷ (xs ++ (y ∷ [])))) (sym (append_assoc us (v ∷ zs) (w ∷ vs))) (link d j (at_end c i e))

  from_listed : (ws : List Word) (xs : List A) → Listed k X ws xs → Chain k X ws xs
  from_listed ws xs (Listed.one d) = last d
  from_listed ws xs (Listed.more {ws = us} {xs = ys} l i e) = at_end (from_listed us ys l) i e

  chain_long : (ws : List Word) (xs : List A) → Chain k X ws xs → length xs ≤ 0 → ⊥
  chain_long ws xs (last d) h = omega arith
  chain_long ws xs (link d i c) h = omega arith

module _ {A : Type 0} (k : Terminal) (ks fs : List Terminal) {p : Reads A} (X : Rel A) (ok : A → Type 0) (Pin : List Word → Word → Type 0) (g : Good p (Lim X ok) Pin (Among ks) (Among (k ∷ fs))) (apart : disjoint ks (k ∷ []) ≡ true) (parted : disjoint (k ∷ []) fs ≡ true) (opens : (w : Word) → next ks (w ∷ []) ≡ true → Begins X (w ∷ [])) where
  item_first : (us : List Word) (x : A) → X us x → First ks us
  item_first [] x d =
      let h = g.head [] (any k ∷ []) x (record { says = d; fits = tt }) (record { told = ap (λ b. b || next fs (any k ∷ [])) (any_is k).told }) in
      absurd (not_both h.told (no_others ks (k ∷ []) (any k ∷ []) apart (ap (λ b. b || false) (any_is k).told)))
  item_first (w ∷ us) x d =
      let h = g.head (w ∷ us) (any k ∷ []) x (record { says = d; fits = tt }) (record { told = ap (λ b. b || next fs (any k ∷ [])) (any_is k).told }) in
      record { w = w; back = us; cut = refl; told = next_first ks (w ∷ []) (w ∷ (us ++ (any k ∷ []))) refl ∙ h.told }

  begun_next : (w : Word) → Begins X (w ∷ []) → next ks (w ∷ []) ≡ true
  begun_next w b = first_is ks w b.more (item_first (w ∷ b.more) b.says b.holds)

  chain_first : (us : List Word) (xs : List A) → Chain k X us xs → First ks us
  chain_first us xs (last {x = x} d) = item_first us x d
  chain_first us xs (link {us = vs} {vs = zs} {w = v} {x = x} d i c) =
      let u = item_first vs x d in
      record { w = u.w; back = u.back ++ (v ∷ zs); cut = ap (λ z. z ++ (v ∷ zs)) u.cut; told = u.told }

  begins_list : (f : List Word) → Begins X f → Begins (Lim (Chain k X) (Fits ok 0) free) f
  begins_list f b = record { more = b.more; says = b.says ∷ []; holds = record { says = last b.holds; fits = tt } }

  next_word : (w : Word) (b : List Word) → next ks (w ∷ []) ≡ true → next ks (w ∷ b) ≡ true
  next_word w b h = next_first ks (w ∷ b) (w ∷ []) refl ∙ h

  base_complete : (f rest : List Word) (xs : List A) → Lim (Chain k X) (Fits ok 0) kept f xs → many k ks p 0 (f ++ rest) ≡ got xs rest
  base_complete f rest xs d = absurd (chain_long k X f xs d.says d.fits.0)

  base_head : (f rest : List Word) (xs : List A) → Lim (Chain k X) (Fits ok 0) free f xs → Among ks (f ++ rest)
  base_head f rest xs d = let u = chain_first f xs d.says in record { told = ap (λ z. next ks (z ++ rest)) u.cut ∙ next_word u.w (u.back ++ rest) u.told }

  base_lost : (b : Bool) (ws rest : List Word) → next ks ws ≡ b → cond b (past_limit {A = List A}) stop ws ≡ past rest → Lost (Beyond k X ok Pin 0) ws rest
  base_lost true ws rest h e = let u = first_of ks ws h in record { front = []; w = u.w; back = u.back; cut = past_same e; word = sym (past_same e) ∙ u.cut; here = too_many (opens u.w u.told) }
  base_lost false ws rest h e = absurd (past_useless (sym e))

  base_passes : (f : List Word) (w : Word) (b : List Word) → Beyond k X ok Pin 0 f w → many k ks p 0 (f ++ (w ∷ b)) ≡ past (w ∷ b)
  unfolding many
  base_passes f w b (too_many h) = pick ks past_limit stop true (w ∷ b) (next_word w b (begun_next w h)) refl

  base_past_head : (f : List Word) (w : Word) (b : List Word) → Beyond k X ok Pin 0 f w → Among ks (f ++ (w ∷ b))
  base_past_head f w b (too_many h) = record { told = next_word w b (begun_next w h) }

  base_begun : (f : List Word) (w : Word) → Beyond k X ok Pin 0 f w → Begins (Lim (Chain k X) (Fits ok 0) free) (f ++ (w ∷ []))
  base_begun f w (too_many h) = begins_list (w ∷ []) h

  base_sample : Begins (Lim (Chain k X) (Fits ok 0) free) []
  base_sample = let s = g.sample in record { more = s.more; says = s.says ∷ []; holds = record { says = last s.holds.says; fits = tt } }

  base_alive : (b : Bool) (ws rest : List Word) → next ks ws ≡ b → cond b (past_limit {A = List A}) stop ws ≡ useless rest → More (many k ks p 0) (Lim (Chain k X) (Fits ok 0) free) ws rest
  unfolding many
  base_alive true ws rest n e = absurd (past_useless e)
  base_alive false ws rest n e =
      record { front = []; cut = useless_same e; begun = base_sample; again = λ o h. pick ks past_limit stop false o (next_first ks o ws (sym (ap first (useless_same e) ∙ h)) ∙ n) refl }

  base_nothing : (b : Bool) (ws rest : List Word) (xs : List A) → cond b (past_limit {A = List A}) stop ws ≡ got xs rest → ⊥
  base_nothing true ws rest xs e = past_got e
  base_nothing false ws rest xs e = useless_got e

  base : Good (many k ks p 0) (Lim (Chain k X) (Fits ok 0)) (Beyond k X ok Pin 0) (Among ks) (Among fs)
  unfolding many
  base = record {
    sound = λ ws rest xs e. let w = way ks _ _ e in absurd (base_nothing w.0 ws rest xs w.2);
    complete = λ f rest xs d h. base_complete f rest xs d;
    head = λ f rest xs d h. base_head f rest xs d;
    loose = λ f xs d. record { says = d.says; fits = tt };
    fits = λ f xs d. let u = chain_first f xs d.says in inr (record { front = []; w = u.w; back = u.back; cut = u.cut; here = too_many (opens u.w u.told) });
    lost = λ ws rest e. let w = way ks _ _ e in base_lost w.0 ws rest w.1 w.2;
    passes = base_passes;
    past_head = base_past_head;
    past_begun = base_begun;
    alive = λ ws rest e. let w = way ks _ _ e in base_alive w.0 ws rest w.1 w.2;
    sample = base_sample;
  }

  abbrev Step : ℕ → Mode → Rel (List A)
  Step n = Seq (Lim X ok) (λ x. Map (λ xs. x ∷ xs) (Alt (Seq (One k) (λ _. Lim (Chain k X) (Fits ok n))) (Ret [])))

  abbrev StepPast : ℕ → List Word → Word → Type 0
  StepPast n = PastSeq (Lim X ok) Pin (λ x. PastAlt (PastSeq (One k) Never (λ _. Beyond k X ok Pin n)) Never)

  to_step : (n : ℕ) (m : Mode) (ws : List Word) (ys : List A) → Step n m ws ys → Lim (Chain k X) (Fits ok (suc n)) m ws ys
  to_step n m ws ys (seq d (mapped (left (seq (one i) c)) v)) =
      subst (Lim (Chain k X) (Fits ok (suc n)) m _) v (record { says = link d.says i c.says; fits = keep_two m (λ o h. (omega (arith, h.0), (o, h.1))) d.fits c.fits })
  to_step n m ws ys (seq {us = us} {x = x} d (mapped (right (ret r)) v)) =
      subst (λ z. Lim (Chain k X) (Fits ok (suc n)) m z ys) (sym (append-nil us))
      (subst (Lim (Chain k X) (Fits ok (suc n)) m us) (ap (λ z. x ∷ z) r ∙ v) (record { says = last d.says; fits = keep m (λ o. (omega arith, (o, tt))) d.fits }))

  from_step : (n : ℕ) (m : Mode) (ws : List Word) (ys : List A) → Chain k X ws ys → Kept m (Fits ok (suc n) ys) → Step n m ws ys
  from_step n m ws ys (last {us = us} {x = x} d) h =
      subst (λ z. Step n m z (x ∷ [])) (append-nil us) (seq (record { says = d; fits = keep {S = Fits ok (suc n) (x ∷ [])} m (λ q. q.1.0) h }) (mapped (right (ret refl)) refl))
  from_step n m ws ys (link {x = x} {xs = xs} d i c) h =
      seq (record { says = d; fits = keep {S = Fits ok (suc n) (x ∷ xs)} m (λ q. q.1.0) h })
      (mapped (left (seq (one i) (record { says = c; fits = keep {S = Fits ok (suc n) (x ∷ xs)} {T = Fits ok n xs} m (λ q. (omega (arith, q.0), q.1.1)) h }))) refl)

  to_past : (n : ℕ) (f : List Word) (w : Word) → StepPast n f w → Beyond k X ok Pin (suc n) f w
  to_past n f w (in_first h) = inside h
  to_past n f w (in_second d (in_left (in_first h))) = absurd h.no_such
  to_past n f w (in_second d (in_left (in_second (one i) b))) = later d.says d.fits i b
  to_past n f w (in_second d (in_right h)) = absurd h.no_such

  from_past : (n : ℕ) (f : List Word) (w : Word) → Beyond k X ok Pin (suc n) f w → StepPast n f w
  from_past n f w (inside h) = in_first h
  from_past n f w (later d o i b) = in_second (record { says = d; fits = o }) (in_left (in_second (one i) b))

  chains : (n : ℕ) → Good (many k ks p n) (Lim (Chain k X) (Fits ok n)) (Beyond k X ok Pin n) (Among ks) (Among fs)
  unfolding many
  chains zero = base
  chains (suc n) =
      same (row g (λ x. put (λ xs. x ∷ xs) (alt (row (word k) (λ _. chains n)) (returned []) parted)))
      (to_step n) (λ m ws ys d. from_step n m ws ys d.says d.fits) (to_past n) (from_past n)

  pub lists : (n : ℕ) → Good (many k ks p n) (Lim (Listed k X) (Fits ok n)) (Beyond k X ok Pin n) (Among ks) (Among fs)
  lists n =
      same (chains n) (λ m ws xs d. record { says = to_listed k X ws xs d.says; fits = d.fits }) (λ m ws xs d. record { says = from_listed k X ws xs d.says; fits = d.fits })
      (λ f w h. h) (λ f w h. h)

-- ── the words that begin an item do begin one ──
begins_cond : (w : Word) → next conds_begin (w ∷ []) ≡ true → Begins G.Cond (w ∷ [])
begins_cond w h =
    ⊎_elim (λ e. record { more = _; says = _; holds = G.of_value (G.value_first (value (record { told = e })) (any_is Comma) (kind (any_is KeyValueType))) })
    (λ n.
    ⊎_elim (λ e. record { more = _; says = _; holds = G.of_value (G.value_type_first (kind (record { told = e })) (any_is Comma) (value (any_is KeyValue))) })
    (λ o. ⊎_elim (λ e. record { more = _; says = _; holds = G.of_type (G.type_is (record { told = e }) (G.an_eq (any_is Equal)) (G.a_literal (any_is Literal))) }) (λ z. absurd (not_both z refl)) (or_cases _ _ o))
    (or_cases _ _ n))
    (or_cases _ _ h)
  where
    value : {v : Word} → Is KeyValue v → G.ValCond (v ∷ any Equal ∷ any Literal ∷ []) (Tree.eq, any Literal)
    value i = G.value_is i (G.an_eq (any_is Equal)) (G.a_literal (any_is Literal))

    kind : {v : Word} → Is KeyValueType v → G.ValTypeCond (v ∷ any Equal ∷ any Int64Type ∷ []) (Tree.eq, any Int64Type)
    kind i = G.value_type_is i (G.an_eq (any_is Equal)) (G.int64 (any_is Int64Type))

a_body : {v : Word} → Is OpenSquare v → G.SelConditionBody (v ∷ any CloseSquare ∷ []) []
a_body i = G.in_brackets i G.no_conds (any_is CloseSquare)

begins_selection : (w : Word) → next selections_begin (w ∷ []) ≡ true → Begins G.SelCondition (w ∷ [])
begins_selection w h =
    ⊎_elim (λ e. record { more = _; says = _; holds = G.bare (a_body (record { told = e })) })
    (λ n. ⊎_elim (λ e. record { more = _; says = _; holds = G.named (record { told = e }) (any_is Colon) (a_body (any_is OpenSquare)) }) (λ z. absurd (not_both z refl)) (or_cases _ _ n))
    (or_cases _ _ h)

an_action : G.RuleAction (any KeyIssue ∷ any OpenRound ∷ any KeyClaim ∷ any Assign ∷ any Identifier ∷ any CloseRound ∷ []) (Tree.copy (any Identifier))
an_action = G.issue (any_is KeyIssue) (any_is OpenRound) (G.claim_copy (any_is KeyClaim) (any_is Assign) (any_is Identifier)) (any_is CloseRound)

pub begins_rule : (w : Word) → next rules_begin (w ∷ []) ≡ true → Begins G.ARule (w ∷ [])
begins_rule w h =
    ⊎_elim (λ e. selected (begins_selection w (ap (λ b. b || next (Identifier ∷ []) (w ∷ [])) e)))
    (λ n.
    ⊎_elim (λ e. selected (begins_selection w (or_right _ _ (ap (λ b. b || false) e))))
    (λ o. ⊎_elim (λ e. record { more = _; says = _; holds = G.rule_body G.no_selections (record { told = e }) an_action (any_is Semicolon) }) (λ z. absurd (not_both z refl)) (or_cases _ _ o))
    (or_cases _ _ n))
    (or_cases _ _ h)
  where
    selected : Begins G.SelCondition (w ∷ []) → Begins G.ARule (w ∷ [])
    selected b = record { more = _; says = _; holds = G.rule_body (G.selections (Listed.one b.holds)) (any_is Imply) an_action (any_is Semicolon) }

-- ── conditions in a selection ──
all_unit : {A : Type 0} (xs : List A) → AllByRecursion (λ _. Unit {0}) xs
all_unit [] = tt
all_unit (x ∷ xs) = (tt, all_unit xs)

abbrev four : List Tree.Cond → Type 0
four cs = length cs ≤ 4

cond_list : Good P.CondList (Lim G.CondList four) CondPast (Among conds_begin) (Among (CloseSquare ∷ []))
cond_list =
    same (lists Comma conds_begin (CloseSquare ∷ []) G.Cond (λ _. Unit {0}) Never (same a_cond (λ m ws c d. record { says = d; fits = keep_all m tt }) (λ m ws c d. d.says) (λ f w h. h) (λ f w h. h)) refl refl begins_cond _)
    (λ m ws cs d. record { says = d.says; fits = keep {S = Fits (λ _. Unit {0}) _ cs} m (λ q. q.0) d.fits }) (λ m ws cs d. record { says = d.says; fits = keep {S = four cs} m (λ q. (q, all_unit cs)) d.fits })
    (λ f w h. h) (λ f w h. h)

-- none, or what R says
only_left : (P : List Word → Word → Type 0) (f : List Word) (w : Word) → PastAlt P Never f w → P f w
only_left P f w (in_left h) = h
only_left P f w (in_right h) = absurd h.no_such

opt_cond_list : Good P.OptCondList (Lim G.OptCondList four) CondPast (Among (KeyValue ∷ KeyValueType ∷ KeyType ∷ CloseSquare ∷ [])) (Among (CloseSquare ∷ []))
opt_cond_list = same (alt cond_list (returned []) refl) to (λ m ws cs d. from m ws cs d.says d.fits) (only_left CondPast) (λ f w h. in_left h)
  where
    to : (m : Mode) (ws : List Word) (cs : List Tree.Cond) → Alt (Lim G.CondList four) (Ret []) m ws cs → Lim G.OptCondList four m ws cs
    to m ws cs (left d) = record { says = G.conds d.says; fits = d.fits }
    to m ws cs (right (ret v)) = subst (Lim G.OptCondList four m []) v (record { says = G.no_conds; fits = keep_all m (omega arith) })

    from : (m : Mode) (ws : List Word) (cs : List Tree.Cond) → G.OptCondList ws cs → Kept m (four cs) → Alt (Lim G.CondList four) (Ret []) m ws cs
    from m ws cs G.no_conds h = right (ret refl)
    from m ws cs (G.conds d) h = left (record { says = d; fits = h })

data PastInBody : List Word → Word → Type 0 where
  in_body : {o w : Word} {f : List Word} → Is OpenSquare o → CondPast f w → PastInBody (o ∷ f) w

abbrev Body : Mode → Rel (List Tree.Cond)
Body = Seq (One OpenSquare) (λ _. Seq (Lim G.OptCondList four) (λ cs. Map (λ _. cs) (One CloseSquare)))

body : {F : List Word → Type 0} → Good P.SelConditionBody (Lim G.SelConditionBody four) PastInBody (Among (OpenSquare ∷ [])) F
body = same (row (word _) (λ _. row opt_cond_list (λ cs. put (λ _. cs) (word _)))) to (λ m ws cs d. from m ws cs d.says d.fits) past_to past_from
  where
    to : (m : Mode) (ws : List Word) (cs : List Tree.Cond) → Body m ws cs → Lim G.SelConditionBody four m ws cs
    to m ws cs (seq (one i) (seq d (mapped (one j) v))) = subst (Lim G.SelConditionBody four m _) v (record { says = G.in_brackets i d.says j; fits = d.fits })

    from : (m : Mode) (ws : List Word) (cs : List Tree.Cond) → G.SelConditionBody ws cs → Kept m (four cs) → Body m ws cs
    from m ws cs (G.in_brackets i d j) h = seq (one i) (seq (record { says = d; fits = h }) (mapped (one j) refl))

    past_to : (f : List Word) (w : Word) → PastSeq (One OpenSquare) Never (λ _. PastSeq (Lim G.OptCondList four) CondPast (λ cs. Never)) f w → PastInBody f w
    past_to f w (in_first h) = absurd h.no_such
    past_to f w (in_second (one i) (in_first h)) = in_body i h
    past_to f w (in_second (one i) (in_second d h)) = absurd h.no_such

    past_from : (f : List Word) (w : Word) → PastInBody f w → PastSeq (One OpenSquare) Never (λ _. PastSeq (Lim G.OptCondList four) CondPast (λ cs. Never)) f w
    past_from f w (in_body i h) = in_second (one i) (in_first h)

-- ── selections in a rule ──
abbrev bare_of : List Tree.Cond → Selection
bare_of cs = record { name = None; conds = cs }

abbrev named_of : Word → List Tree.Cond → Selection
named_of i cs = record { name = Some i; conds = cs }

abbrev Sel : Mode → Rel Selection
Sel = Alt (Map bare_of (Lim G.SelConditionBody four)) (Seq (One Identifier) (λ i. Seq (One Colon) (λ _. Map (named_of i) (Lim G.SelConditionBody four))))

abbrev SelPast : List Word → Word → Type 0
SelPast = PastAlt PastInBody (PastSeq (One Identifier) Never (λ _. PastSeq (One Colon) Never (λ _. PastInBody)))

selection : {F : List Word → Type 0} → Good P.SelCondition (Lim G.SelCondition SelectionWithin) PastInSelection (Among selections_begin) F
selection = same (alt (put bare_of body) (row (word _) (λ i. row (word _) (λ _. put (named_of i) body))) refl) to (λ m ws s d. from m ws s d.says d.fits) past_to past_from
  where
    to : (m : Mode) (ws : List Word) (s : Selection) → Sel m ws s → Lim G.SelCondition SelectionWithin m ws s
    to m ws s (left (mapped d v)) = subst (Lim G.SelCondition SelectionWithin m _) v (record { says = G.bare d.says; fits = d.fits })
    to m ws s (right (seq (one i) (seq (one j) (mapped d v)))) = subst (Lim G.SelCondition SelectionWithin m _) v (record { says = G.named i j d.says; fits = d.fits })

    from : (m : Mode) (ws : List Word) (s : Selection) → G.SelCondition ws s → Kept m (SelectionWithin s) → Sel m ws s
    from m ws s (G.bare d) h = left (mapped (record { says = d; fits = h }) refl)
    from m ws s (G.named i j d) h = right (seq (one i) (seq (one j) (mapped (record { says = d; fits = h }) refl)))

    past_to : (f : List Word) (w : Word) → SelPast f w → PastInSelection f w
    past_to f w (in_left (in_body i h)) = in_bare i h
    past_to f w (in_right (in_first h)) = absurd h.no_such
    past_to f w (in_right (in_second (one i) (in_first h))) = absurd h.no_such
    past_to f w (in_right (in_second (one i) (in_second (one j) (in_body o h)))) = in_named i j o h

    past_from : (f : List Word) (w : Word) → PastInSelection f w → SelPast f w
    past_from f w (in_bare i h) = in_left (in_body i h)
    past_from f w (in_named i j o h) = in_right (in_second (one i) (in_second (one j) (in_body o h)))

abbrev pub SelsWithin : List Selection → Type 0
SelsWithin = Fits SelectionWithin 4

selection_list : Good P.SelConditionList (Lim G.SelConditionList SelsWithin) SelectionPast (Among selections_begin) (Among (Imply ∷ []))
selection_list = lists And selections_begin (Imply ∷ []) G.SelCondition SelectionWithin PastInSelection selection refl refl begins_selection _

conditions : Good P.Conditions (Lim G.Conditions SelsWithin) SelectionPast (Among rules_begin) (Among (Imply ∷ []))
conditions = same (alt selection_list (returned []) refl) to (λ m ws ss d. from m ws ss d.says d.fits) (only_left SelectionPast) (λ f w h. in_left h)
  where
    to : (m : Mode) (ws : List Word) (ss : List Selection) → Alt (Lim G.SelConditionList SelsWithin) (Ret []) m ws ss → Lim G.Conditions SelsWithin m ws ss
    to m ws ss (left d) = record { says = G.selections d.says; fits = d.fits }
    to m ws ss (right (ret v)) = subst (Lim G.Conditions SelsWithin m []) v (record { says = G.no_selections; fits = keep_all m (omega arith, tt) })

    from : (m : Mode) (ws : List Word) (ss : List Selection) → G.Conditions ws ss → Kept m (SelsWithin ss) → Alt (Lim G.SelConditionList SelsWithin) (Ret []) m ws ss
    from m ws ss G.no_selections h = right (ret refl)
    from m ws ss (G.selections d) h = left (record { says = d; fits = h })

abbrev pub Made : Type 0
Made = List Selection × Action

abbrev pub RuleWords : Mode → Rel Made
RuleWords = Seq (Lim G.Conditions SelsWithin) (λ ss. Seq (One Imply) (λ _. Seq (λ _. G.RuleAction) (λ x. Map (λ _. (ss, x)) (One Semicolon))))

pub rule_words : {F : List Word → Type 0} → Good P.RuleBody RuleWords SelectionPast (Among rules_begin) F
rule_words = same (row conditions (λ ss. row (word _) (λ _. row rule_action (λ x. put (λ _. (ss, x)) (word _))))) (λ m ws r d. d) (λ m ws r d. d) past_to (λ f w h. in_first h)
  where
    past_to : (f : List Word) (w : Word) → PastSeq (Lim G.Conditions SelsWithin) SelectionPast (λ _. PastSeq (One Imply) Never (λ _. PastSeq (λ _. G.RuleAction) Never (λ _. Never))) f w → SelectionPast f w
    past_to f w (in_first h) = h
    past_to f w (in_second d (in_first h)) = absurd h.no_such
    past_to f w (in_second d (in_second i (in_first h))) = absurd h.no_such
    past_to f w (in_second d (in_second i (in_second e h))) = absurd h.no_such
