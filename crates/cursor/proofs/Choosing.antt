-- One word of a table's terminals, for what stands beside the terminal.
use Rattle.std.proofs.Common.{◌≡◌, ℕ, Bool, true, false, cond, ◌||◌, List, [], ◌∷◌, map, Option, Some, None, Ok, Err, Result, sym, refl, ap, ◌∙◌}
use Rattle.std.specs.List.{find}
use Rattle.std.specs.Option.{option_map}
use Rattle.words.specs.Places.{from}
use Rattle.words.specs.Terminals.{Kind, terminal, unreadable, is}
use Rattle.words.specs.Words.{Word}
use Rattle.words.specs.declared.terminals.Slip.{Slip}
use Rattle.words.specs.declared.terminals.Terminal.{Terminal}
use Rattle.grammar.specs.Readers.{Got, got, useless, past, Reads, return, t, ◌>>◌}
use Rattle.cursor.specs.Ahead.{ahead_words}
use Rattle.cursor.specs.Reading.{Reading, Parses, Chosen, Takes, rest, text_of, stopped, beside, choice, shown}
use Rattle.cursor.specs.Pieces.{word_of}
use Rattle.cursor.specs.declared.ahead.Ahead.{Ahead}
use Rattle.cursor.specs.declared.ahead.Ahead.TheVariants as ahead
use Rattle.cursor.specs.declared.cursor.Cursor.{Cursor}
use Rattle.cursor.specs.declared.pieces.Piece.{Piece}
use Rattle.cursor.specs.declared.pieces.Stop.{Stop}
use Rattle.cursor.specs.declared.pieces.Stop.TheVariants.{Useless, Past}
use Rattle.cursor.proofs.Expecting.{look, slip_at}

-- x in place of the word
abbrev with : {A : Type 0} → A → Got Word → Got A
with {A} x g = elim g as (λ _. Got A) [ got w r ↦ got x r | useless r ↦ useless r | past r ↦ past r ]

module _ {A : Type 0} where
  abbrev chosen : Word → List Word → Option A → Got A
  chosen w ws o = elim o as (λ _. Got A) [ Some x ↦ got x ws | None ↦ useless (w ∷ ws) ]

  one_by : (e : Terminal × A) (w : Word) (ws : List Word) (b : Bool) → is e.0 w.kind ≡ b → (t e.0 >> return e.1) (w ∷ ws) ≡ chosen w ws (cond b (Some e.1) None)
  unfolding t
  one_by e w ws true h = ap (λ c. with e.1 (look w ws c)) h
  one_by e w ws false h = ap (λ c. with e.1 (look w ws c)) h

  choice_by : (e f : Terminal × A) (es : List (Terminal × A)) (w : Word) (ws : List Word) (b : Bool) → is e.0 w.kind ≡ b → choice (f ∷ es) (w ∷ ws) ≡ chosen w ws (beside (f ∷ es) w.kind)
      → cond {A = Reads A} (b || false) (t e.0 >> return e.1) (choice (f ∷ es)) (w ∷ ws) ≡ chosen w ws (cond b (Some e.1) (beside (f ∷ es) w.kind))
  choice_by e f es w ws true h k = one_by e w ws true h
  choice_by e f es w ws false h k = k

  choice_is : (es : List (Terminal × A)) (w : Word) (ws : List Word) → choice es (w ∷ ws) ≡ chosen w ws (beside es w.kind)
  choice_is [] w ws = refl
  choice_is (e ∷ []) w ws = one_by e w ws (is e.0 w.kind) refl
  choice_is (e ∷ f ∷ es) w ws = choice_by e f es w ws (is e.0 w.kind) refl (choice_is (f ∷ es) w ws)

  entry_by : (b : Bool) (e : Terminal × A) (o : Option (Terminal × A)) (p : Option A) → option_map (λ f. f.1) o ≡ p → option_map (λ f. f.1) (cond b (Some e) o) ≡ cond b (Some e.1) p
  entry_by true e o p h = refl
  entry_by false e o p h = h

  pub found : (es : List (Terminal × A)) (m : Kind) → option_map (λ e. e.1) (find (λ e. is e.0 m) es) ≡ beside es m
  found [] m = refl
  found (e ∷ es) m = entry_by (is e.0 m) e (find (λ f. is f.0 m) es) (beside es m) (found es m)

  choice_none : (es : List (Terminal × A)) → choice es [] ≡ useless []
  unfolding t
  choice_none [] = refl
  choice_none (e ∷ []) = refl
  choice_none (e ∷ f ∷ es) = choice_none (f ∷ es)

  beside_no_word : (es : List (Terminal × A)) (s : Slip) → beside es (unreadable s) ≡ None
  beside_no_word [] s = refl
  beside_no_word (e ∷ es) s = beside_no_word es s

  took_as : (es : List (Terminal × A)) (us : List ℕ) (a : Ahead) (p : Piece) (end : ℕ) (x : A) (m : List Word) → a ≡ ahead.Word p end → Some x ≡ beside es (terminal p.terminal) → m ≡ from us end → Reading (choice es) (ahead_words us a) (got x m)
  took_as es us a p end x m i h k = record { so = ap (got x) k ∙ ap (chosen (word_of us p) (from us end)) h ∙ sym (choice_is es (word_of us p) (from us end)) ∙ ap (λ z. choice es (ahead_words us z)) (sym i) }

  left_as : (es : List (Terminal × A)) (us : List ℕ) (a : Ahead) → ((p : Piece) (end : ℕ) → a ≡ ahead.Word p end → None ≡ beside es (terminal p.terminal)) → Reading (choice es) (ahead_words us a) (useless (ahead_words us a))
  left_as es us (ahead.Word p end) h = record { so = ap (chosen (word_of us p) (from us end)) (h p end refl) ∙ sym (choice_is es (word_of us p) (from us end)) }
  left_as es us (ahead.Slip s at end) h = record { so = sym (choice_is es (slip_at s at) (from us end) ∙ ap (chosen (slip_at s at) (from us end)) (beside_no_word es s)) }
  left_as es us ahead.End h = record { so = sym (choice_none es) }

  module _ (es : List (Terminal × A)) {R : Piece → Option A → Type 0} (old new : Cursor) (chooses : (p : Piece) (o : Option A) → R p o → o ≡ beside es (terminal p.terminal)) where
    reads_as : (r : Result A Stop) → Chosen R old r new → Reading (choice es) (rest old) (shown (λ x. x) r (rest new))
    unfolding rest text_of
    reads_as (Ok x) (p, end, i, h, e) = took_as es (text_of old) old.ahead p end x (rest new) i (chooses p (Some x) h) e
    reads_as (Err o) (u, e, n) =
        let l = left_as es (text_of old) old.ahead (λ p end i. chooses p None (n p end i)) in
        record { so = ap (λ z. stopped z (rest new)) u ∙ ap useless e ∙ l.so }

  pub takes_as : (es : List (Terminal × A)) {R : Piece → Option A → Type 0} {old new : Cursor} {r : Result A Stop} → Takes R old r new
      → ((p : Piece) (o : Option A) → R p o → o ≡ beside es (terminal p.terminal)) → Parses (choice es) (λ us x. x) old r new
  takes_as es {r = r} t chooses = record { reads = reads_as es _ _ chooses r t.chosen; text = t.text }

-- what v shows of what stands in the table
module _ {A B : Type 0} (v : A → B) where
  abbrev shows : Got A → Got B
  shows g = elim g as (λ _. Got B) [ got x r ↦ got (v x) r | useless r ↦ useless r | past r ↦ past r ]

  abbrev pub table : List (Terminal × A) → List (Terminal × B)
  table = map (λ e. (e.0, v e.1))

  with_shows : (x : A) (g : Got Word) → with (v x) g ≡ shows (with x g)
  with_shows x (got w r) = refl
  with_shows x (useless r) = refl
  with_shows x (past r) = refl

  either_shows : (b : Bool) (p q : Reads A) (r s : Reads B) (ws : List Word) → r ws ≡ shows (p ws) → s ws ≡ shows (q ws) → cond {A = Reads B} b r s ws ≡ shows (cond {A = Reads A} b p q ws)
  either_shows true p q r s ws h k = h
  either_shows false p q r s ws h k = k

  choice_shows : (es : List (Terminal × A)) (ws : List Word) → choice (table es) ws ≡ shows (choice es ws)
  choice_shows [] ws = refl
  choice_shows (e ∷ []) ws = with_shows e.1 (t e.0 ws)
  choice_shows (e ∷ f ∷ es) ws = either_shows _ (t e.0 >> return e.1) (choice (f ∷ es)) (t e.0 >> return (v e.1)) (choice (table (f ∷ es))) ws (with_shows e.1 (t e.0 ws)) (choice_shows (f ∷ es) ws)

  pub shown_as : (es : List (Terminal × A)) (ws : List Word) (r : Result A Stop) (m : List Word) → Reading (choice es) ws (shown (λ x. x) r m) → Reading (choice (table es)) ws (shown v r m)
  shown_as es ws (Ok x) m h = record { so = ap shows h.so ∙ sym (choice_shows es ws) }
  shown_as es ws (Err Useless) m h = record { so = ap shows h.so ∙ sym (choice_shows es ws) }
  shown_as es ws (Err Past) m h = record { so = ap shows h.so ∙ sym (choice_shows es ws) }
