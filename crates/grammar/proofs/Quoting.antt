-- Every quoted word of a text has the units behind its opening quote.
use Rattle.std.proofs.Common.{◌≡◌, ℕ, zero, suc, pred, ◌+◌, ◌≤◌, Bool, true, false, cond, eqb, leb, List, [], ◌∷◌, length, take, drop, Some, None, Option, sym, refl, ap, ◌∙◌, add-one, arith}
use Rattle.std.proofs.lemmas.List.{length-drop}
use Rattle.std.proofs.lemmas.Bool.{cond_both}
use Rattle.std.specs.List.{prefix_len, AllByRecursion}
use Rattle.units.specs.Fold.{same_units}
use Rattle.words.specs.Terminals.{Kind, terminal, unreadable, mark, symbols, keywords, value_types}
use Rattle.words.specs.Words.{Word, Spelled, words_from, blank, letter, in_name, in_string, begins, spelled_by, no_word, symbol, name_word, name, quoted_word, string, front, spelled}
use Rattle.words.specs.declared.terminals.Slip.TheVariants.{NotClosed, TooLong}
use Rattle.words.specs.declared.terminals.Terminal.{Terminal}
use Rattle.grammar.specs.Lying.{Lies}

-- the terminals of quoted words are marked last
abbrev pub quoted : Kind → Bool
quoted (terminal t) = leb 21 (mark t)
quoted (unreadable s) = false

abbrev pub QuoteLies : List ℕ → Word → Type 0
QuoteLies us w = quoted w.kind ≡ true → Lies us w

-- the text of what is quoted stands in front of the units behind its quote
pub record Front (us text : List ℕ) : Type 0 where
  pub long : length text ≤ length us
  pub same : text ≡ take (length text) us

abbrev Fronted : List ℕ → Spelled → Type 0
Fronted us s = quoted s.kind ≡ true → Front us s.text

front_more : (x : ℕ) (us text : List ℕ) → Front us text → Front (x ∷ us) (x ∷ text)
front_more x us text f = let l = f.long in record { long = omega arith; same = ap (λ z. x ∷ z) f.same }

front_taken : (n : ℕ) (us : List ℕ) → Front us (take n us)
front_taken zero us = record { long = omega arith; same = refl }
front_taken (suc n) [] = record { long = omega arith; same = refl }
front_taken (suc n) (x ∷ us) = front_more x us (take n us) (front_taken n us)

-- a table without quoted words
abbrev Bare : List (List ℕ × Terminal) → Type 0
Bare ns = AllByRecursion (λ n. leb 21 (mark n.1) ≡ false) ns

abbrev BareOne : Option Terminal → Type 0
BareOne None = Unit {0}
BareOne (Some t) = leb 21 (mark t) ≡ false

never : {X : Type 0} (b : Bool) → b ≡ false → b ≡ true → X
never b e h = let z : ◌≡◌ {A = ℕ} 0 1 = cc in absurd (omega arith)

bare_spelled : (ns : List (List ℕ × Terminal)) (us : List ℕ) → Bare ns → BareOne (spelled_by ns us)
bare_spelled [] us h = tt
bare_spelled (n ∷ ns) us h = cond_both (same_units us n.0) (Some n.1) (spelled_by ns us) BareOne (λ _. h.0) (λ _. bare_spelled ns us h.1)

symbol_bare : (ss : List (List ℕ × Terminal)) (us : List ℕ) → Bare ss → quoted (symbol ss us).kind ≡ false
symbol_bare [] us h = refl
symbol_bare (s ∷ ss) us h =
    cond_both (begins s.0 us) (record { kind = terminal s.1; long = length s.0; text = [] }) (symbol ss us) (λ e. quoted e.kind ≡ false) (λ _. h.0) (λ _. symbol_bare ss us h.1)

name_word_bare : (run : List ℕ) (o : Option Terminal) → BareOne o → quoted (name_word run o).kind ≡ false
name_word_bare run None h = refl
name_word_bare run (Some t) h = h

name_bare : (us run : List ℕ) → quoted (name us run).kind ≡ false
name_bare us run =
    cond_both (leb (length run) 31) (name_word run (spelled_by keywords run)) (no_word TooLong us) (λ e. quoted e.kind ≡ false) (λ _. name_word_bare run (spelled_by keywords run) (bare_spelled keywords run (refl, (refl, (refl, (refl, (refl, tt))))))) (λ _. refl)

string_fronted : (vs us : List ℕ) (n : ℕ) (rest : List ℕ) → Fronted us (string vs (take n us) rest)
string_fronted vs us n rest =
    cond_both (begins (34 ∷ []) rest) (cond (leb (length (take n us)) 255) (quoted_word (take n us) (spelled_by value_types (take n us))) (no_word TooLong vs)) (no_word NotClosed vs) (Fronted us)
    (λ _. cond_both (leb (length (take n us)) 255) (quoted_word (take n us) (spelled_by value_types (take n us))) (no_word TooLong vs) (Fronted us) (λ _ _. front_taken n us) (λ _ k. never false refl k))
    (λ _ k. never false refl k)

symbols_bare : Bare symbols
symbols_bare = (refl, (refl, (refl, (refl, (refl, (refl, (refl, (refl, (refl, (refl, (refl, (refl, (refl, (refl, (refl, tt)))))))))))))))

spelled_fronted : (u : ℕ) (us : List ℕ) → Fronted us (spelled u us)
spelled_fronted u us =
    cond_both (letter u) (name (u ∷ us) (front in_name (u ∷ us))) (cond (eqb u 34) (string (u ∷ us) (front in_string us) (drop (prefix_len in_string us) us)) (symbol symbols (u ∷ us))) (Fronted us)
    (λ _ k. never (quoted (name (u ∷ us) (front in_name (u ∷ us))).kind) (name_bare (u ∷ us) (front in_name (u ∷ us))) k)
    (λ _. cond_both (eqb u 34) (string (u ∷ us) (front in_string us) (drop (prefix_len in_string us) us)) (symbol symbols (u ∷ us)) (Fronted us)
    (λ _. string_fronted (u ∷ us) us (prefix_len in_string us) (drop (prefix_len in_string us) us))
    (λ _ k. never (quoted (symbol symbols (u ∷ us)).kind) (symbol_bare symbols (u ∷ us) symbols_bare) k))

-- in the text, one unit on
next_drop : (us xs : List ℕ) (i u : ℕ) → drop i us ≡ u ∷ xs → drop (suc i) us ≡ xs
next_drop [] xs zero u e = let z : ◌≡◌ {A = ℕ} 0 1 = cc in absurd (omega arith)
next_drop [] xs (suc i) u e = let z : ◌≡◌ {A = ℕ} 0 1 = cc in absurd (omega arith)
next_drop (y ∷ us) xs zero u e = cc
next_drop (y ∷ us) xs (suc i) u e = next_drop us xs i u e

module _ (us : List ℕ) where
  word_lies : (xs : List ℕ) (i u : ℕ) (w : Word) → drop i us ≡ u ∷ xs → w.at ≡ i → Front xs w.text → Lies us w
  word_lies xs i u w e p f =
      let n : drop (w.at + 1) us ≡ xs = ap (λ k. drop k us) (ap (λ k. k + 1) p ∙ add-one i) ∙ next_drop us xs i u e in
      let long = length-drop i us in
      let size = ap length e in
      let l = f.long in
      record { within = omega arith; units = f.same ∙ ap (take (length w.text)) (sym n) }

  pub words_lie : (xs : List ℕ) (more i : ℕ) → drop i us ≡ xs → AllByRecursion (QuoteLies us) (words_from xs more i)
  words_lie [] more i e = tt
  words_lie (u ∷ xs) zero i e =
      let d = next_drop us xs i u e in
      cond_both (blank u) (words_from xs 0 (suc i)) (record { kind = (spelled u xs).kind; at = i; text = (spelled u xs).text } ∷ words_from xs (pred (spelled u xs).long) (suc i)) (AllByRecursion (QuoteLies us))
      (λ _. words_lie xs 0 (suc i) d)
      (λ _. (λ k. word_lies xs i u _ e refl (spelled_fronted u xs k), words_lie xs (pred (spelled u xs).long) (suc i) d))
  words_lie (u ∷ xs) (suc more) i e = words_lie xs more (suc i) (next_drop us xs i u e)
