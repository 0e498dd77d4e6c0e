-- A list with a limit, read by a loop: what is read and what is left give the whole.
use Rattle.std.proofs.Common.{◌≡◌, ℕ, suc, Bool, true, false, cond, List, [], ◌∷◌, ◌++◌, sym, refl, ap, ◌∙◌, append_assoc, append-nil}
use Rattle.words.specs.Words.{Word}
use Rattle.words.specs.declared.terminals.Terminal.{Terminal}
use Rattle.grammar.specs.Readers.{Got, got, useless, past, Reads, t, next, many, return, stop, past_limit, ◌>>◌, ◌starts◌else◌}
use Rattle.cursor.specs.declared.pieces.Stop.{Stop}
use Rattle.cursor.specs.declared.pieces.Stop.TheVariants.{Useless, Past}
use Rattle.cursor.specs.Reading.{stopped, Reading}

-- xs before what is given
abbrev pub pre : {A : Type 0} → List A → Got (List A) → Got (List A)
pre xs (got ys r) = got (xs ++ ys) r
pre xs (useless r) = useless r
pre xs (past r) = past r

pub pre_none : {A : Type 0} (g : Got (List A)) → pre [] g ≡ g
pre_none (got ys r) = refl
pre_none (useless r) = refl
pre_none (past r) = refl

pub pre_one : {A : Type 0} (xs : List A) (x : A) (g : Got (List A)) → pre xs (pre (x ∷ []) g) ≡ pre (xs ++ (x ∷ [])) g
pre_one xs x (got ys r) = ap (λ l. got l r) (sym (append_assoc xs (x ∷ []) ys))
pre_one xs x (useless r) = refl
pre_one xs x (past r) = refl

module _ {A : Type 0} (k : Terminal) (ks : List Terminal) (p : Reads A) (n : ℕ) where
  -- what may follow an item
  abbrev tail : Reads (List A)
  tail = (k ∷ []) starts t k >> many k ks p n else return []

  abbrev item : Got A → Got (List A)
  item g = elim g as (λ _. Got (List A)) [ got y r ↦ pre (y ∷ []) (tail r) | useless r ↦ useless r | past r ↦ past r ]

  abbrev next_item : Got Word → Got (List A)
  next_item g = elim g as (λ _. Got (List A)) [ got w r ↦ many k ks p n r | useless r ↦ useless r | past r ↦ past r ]

  many_on : {ws : List Word} {g : Got A} → Reading p ws g → item g ≡ many k ks p (suc n) ws
  unfolding many
  many_on e = ap item e.so

  tail_by : (b : Bool) (m : List Word) → b ≡ next (k ∷ []) m → cond {A = Reads (List A)} b (t k >> many k ks p n) (return []) m ≡ tail m
  tail_by b m h = ap (λ c. cond {A = Reads (List A)} c (t k >> many k ks p n) (return []) m) h

  module _ (xs : List A) (ws : List Word) where
    -- the item stopped
    pub item_stops : (e : Stop) (m : List Word) → Reading p ws (stopped e m) → stopped e m ≡ pre xs (many k ks p (suc n) ws)
    item_stops Useless m h = ap (pre xs) (many_on h)
    item_stops Past m h = ap (pre xs) (many_on h)

    module _ (x : A) (m : List Word) (e : Reading p ws (got x m)) where
      to_whole : {g : Got (List A)} → g ≡ tail m → pre (xs ++ (x ∷ [])) g ≡ pre xs (many k ks p (suc n) ws)
      to_whole {g} h = sym (pre_one xs x g) ∙ ap (λ o. pre xs (pre (x ∷ []) o)) h ∙ ap (pre xs) (many_on e)

      -- no other follows
      pub last : false ≡ next (k ∷ []) m → got (xs ++ (x ∷ [])) m ≡ pre xs (many k ks p (suc n) ws)
      last h = ap (λ l. got l m) (sym (append-nil (xs ++ (x ∷ [])))) ∙ to_whole (tail_by false m h)

      -- what stands between stopped
      pub between_stops : (s : Stop) (l : List Word) → true ≡ next (k ∷ []) m → Reading (t k) m (stopped s l) → stopped s l ≡ pre xs (many k ks p (suc n) ws)
      between_stops Useless l h f = to_whole (ap next_item f.so ∙ tail_by true m h)
      between_stops Past l h f = to_whole (ap next_item f.so ∙ tail_by true m h)

      -- another follows
      pub more : (w : Word) (l : List Word) → true ≡ next (k ∷ []) m → Reading (t k) m (got w l) → pre (xs ++ (x ∷ [])) (many k ks p n l) ≡ pre xs (many k ks p (suc n) ws)
      more w l h f = to_whole (ap next_item f.so ∙ tail_by true m h)

-- one more than is allowed
pub over : {A : Type 0} (k : Terminal) (ks : List Terminal) (p : Reads A) (xs : List A) (ws : List Word) (b : Bool) → b ≡ next ks ws → cond b (past ws) (useless ws) ≡ pre xs (many k ks p 0 ws)
unfolding many
over {A} k ks p xs ws true h = ap (λ c. pre xs (cond {A = Reads (List A)} c past_limit stop ws)) h
over {A} k ks p xs ws false h = ap (λ c. pre xs (cond {A = Reads (List A)} c past_limit stop ws)) h
