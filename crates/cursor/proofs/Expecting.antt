-- One word, by what stands ahead.
use Rattle.std.proofs.Common.{◌≡◌, ℕ, Bool, true, false, cond, ◌||◌, List, [], ◌∷◌, Option, Some, None, Ok, Err, Result, sym, refl, ap, ◌∙◌, subst, arith}
use Rattle.std.proofs.Math.Bool.{or-false}
use Rattle.std.specs.Bool.{then_some}
use Rattle.std.specs.List.{list_any}
use Rattle.words.specs.Places.{from}
use Rattle.words.specs.Terminals.{Kind, terminal, unreadable, is}
use Rattle.words.specs.Tokens as W
use Rattle.words.specs.Tokens.{Lies}
use Rattle.words.specs.Words.{Word}
use Rattle.words.specs.declared.terminals.Slip.{Slip}
use Rattle.words.specs.declared.terminals.Terminal.{Terminal}
use Rattle.words.specs.declared.tokens.Lexeme.{Lexeme}
use Rattle.words.specs.declared.tokens.Token.{Token}
use Rattle.words.specs.declared.tokens.Token.TheVariants as token
use Rattle.grammar.proofs.Good.{nothing_next}
use Rattle.grammar.specs.Readers.{Got, got, useless, Reads, next, t}
use Rattle.cursor.specs.Ahead.{ahead_words, ahead_of}
use Rattle.cursor.specs.Reading.{Reading, Parses, Chosen, Takes, rest, text_of, stopped, shown, any_of, is_none}
use Rattle.cursor.specs.Pieces.{word_of}
use Rattle.cursor.specs.declared.ahead.Ahead.{Ahead}
use Rattle.cursor.specs.declared.ahead.Ahead.TheVariants as ahead
use Rattle.cursor.specs.declared.cursor.Cursor.{Cursor}
use Rattle.cursor.specs.declared.pieces.Piece.{Piece}
use Rattle.cursor.specs.declared.pieces.Stop.{Stop}

abbrev pub look : Word → List Word → Bool → Got Word
look w ws b = elim b as (λ _. Got Word) [ true ↦ got w ws | false ↦ useless (w ∷ ws) ]

abbrev pub slip_at : Slip → ℕ → Word
slip_at s at = record { kind = unreadable s; at = at; text = [] }

abbrev among : List Terminal → Kind → Bool
among ks m = list_any (λ k. is k m) ks

pub same_any : {X : Type 0} (p q : X → Bool) → ((x : X) → p x ≡ q x) → (xs : List X) → list_any p xs ≡ list_any q xs
same_any p q h [] = refl
same_any p q h (x ∷ xs) = ap (λ b. b || list_any p xs) (h x) ∙ ap (λ b. q x || b) (same_any p q h xs)

-- whether one of these stands ahead
pub next_is : (ks : List Terminal) (w : Word) (ws : List Word) → next ks (w ∷ ws) ≡ among ks w.kind
next_is [] w ws = refl
next_is (k ∷ ks) w ws = ap (λ b. is k w.kind || b) (next_is ks w ws)

among_no_word : (ks : List Terminal) (s : Slip) → among ks (unreadable s) ≡ false
among_no_word [] s = refl
among_no_word (k ∷ ks) s = among_no_word ks s

any_by : (k j : Terminal) (ks : List Terminal) (w : Word) (ws : List Word) (b : Bool) → is k w.kind ≡ b → any_of (j ∷ ks) (w ∷ ws) ≡ look w ws (among (j ∷ ks) w.kind)
    → cond {A = Reads Word} (b || false) (t k) (any_of (j ∷ ks)) (w ∷ ws) ≡ look w ws (b || among (j ∷ ks) w.kind)
unfolding t
any_by k j ks w ws true e h = ap (look w ws) e
any_by k j ks w ws false e h = h

any_is : (ks : List Terminal) (w : Word) (ws : List Word) → any_of ks (w ∷ ws) ≡ look w ws (among ks w.kind)
unfolding t
any_is [] w ws = refl
any_is (k ∷ []) w ws = ap (look w ws) (sym (or-false (is k w.kind)))
any_is (k ∷ j ∷ ks) w ws = any_by k j ks w ws (is k w.kind) refl (any_is (j ∷ ks) w ws)

any_none : (ks : List Terminal) → any_of ks [] ≡ useless []
unfolding t
any_none [] = refl
any_none (k ∷ []) = refl
any_none (k ∷ j ∷ ks) = any_none (j ∷ ks)

module _ (ks : List Terminal) (us : List ℕ) (a : Ahead) where
  took : (p : Piece) (end : ℕ) (m : List Word) → a ≡ ahead.Word p end → true ≡ among ks (terminal p.terminal) → m ≡ from us end → Reading (any_of ks) (ahead_words us a) (got (word_of us p) m)
  took p end m i h e = record { so = ap (got (word_of us p)) e ∙ ap (look (word_of us p) (from us end)) h ∙ sym (any_is ks (word_of us p) (from us end)) ∙ ap (λ z. any_of ks (ahead_words us z)) (sym i) }

  pub sees_word : (p : Piece) (end : ℕ) (b : Bool) → a ≡ ahead.Word p end → b ≡ among ks (terminal p.terminal) → b ≡ next ks (ahead_words us a)
  sees_word p end b i h = h ∙ sym (next_is ks (word_of us p) (from us end)) ∙ ap (λ z. next ks (ahead_words us z)) (sym i)

-- no word stands ahead
abbrev pub Wordless : Ahead → Type 0
Wordless a = (p : Piece) (end : ℕ) → a ≡ ahead.Word p end → ⊥

module _ (ks : List Terminal) (us : List ℕ) where
  pub sees_none : (a : Ahead) → Wordless a → false ≡ next ks (ahead_words us a)
  sees_none (ahead.Word p end) h = absurd (h p end refl)
  sees_none (ahead.Slip s at end) h = sym (next_is ks (slip_at s at) (from us end) ∙ among_no_word ks s)
  sees_none ahead.End h = sym (nothing_next ks)

  left : (a : Ahead) → ((p : Piece) (end : ℕ) → a ≡ ahead.Word p end → false ≡ among ks (terminal p.terminal)) → Reading (any_of ks) (ahead_words us a) (useless (ahead_words us a))
  left (ahead.Word p end) h = record { so = ap (look (word_of us p) (from us end)) (h p end refl) ∙ sym (any_is ks (word_of us p) (from us end)) }
  left (ahead.Slip s at end) h = record { so = sym (any_is ks (slip_at s at) (from us end) ∙ ap (look (slip_at s at) (from us end)) (among_no_word ks s)) }
  left ahead.End h = record { so = sym (any_none ks) }

-- what is chosen of a word that is asked for is the word
chosen_is : (b : Bool) (p x : Piece) → Some x ≡ then_some b p → (true ≡ b) × (p ≡ x)
chosen_is true p x h = (refl, cc)
chosen_is false p x h = let z : ◌≡◌ {A = ℕ} 0 1 = cc in absurd (omega arith)

none_chosen : (b : Bool) (p : Piece) → None ≡ then_some b p → false ≡ b
none_chosen true p h = let z : ◌≡◌ {A = ℕ} 0 1 = cc in absurd (omega arith)
none_chosen false p h = refl

module _ (ks : List Terminal) {R : Piece → Option Piece → Type 0} (old new : Cursor) (chooses : (p : Piece) (o : Option Piece) → R p o → o ≡ then_some (among ks (terminal p.terminal)) p) where
  reads_any : (r : Result Piece Stop) → Chosen R old r new → Reading (any_of ks) (rest old) (shown (word_of (text_of old)) r (rest new))
  unfolding rest text_of
  reads_any (Ok x) (p, end, i, h, e) =
      let (b, q) = chosen_is _ p x (chooses p (Some x) h) in
      subst (λ y. Reading (any_of ks) (rest old) (got (word_of (text_of old) y) (rest new))) q (took ks (text_of old) old.ahead p end (rest new) i b e)
  reads_any (Err o) (u, e, n) =
      let l = left ks (text_of old) old.ahead (λ p end i. none_chosen _ p (chooses p None (n p end i))) in
      record { so = ap (λ z. stopped z (rest new)) u ∙ ap useless e ∙ l.so }

pub takes_any : (ks : List Terminal) {R : Piece → Option Piece → Type 0} {old new : Cursor} {r : Result Piece Stop} → Takes R old r new
    → ((p : Piece) (o : Option Piece) → R p o → o ≡ then_some (among ks (terminal p.terminal)) p) → Parses (any_of ks) word_of old r new
takes_any ks {r = r} t chooses = record { reads = reads_any ks _ _ chooses r t.chosen; text = t.text }

-- more is left
pub some_left : (us : List ℕ) (a : Ahead) → (a ≡ ahead.End → ⊥) → false ≡ is_none (ahead_words us a)
some_left us (ahead.Word p end) h = refl
some_left us (ahead.Slip s at end) h = refl
some_left us ahead.End h = absurd (h refl)

-- a token, held by places
module _ (us : List ℕ) (l : Lexeme) where
  abbrev word : Token → List ℕ → List Word
  word k text = record { kind = W.kind_of k; at = l.at; text = text } ∷ from us l.end

  pub seen : (k : Token) → Lies us l k → ahead_words us (ahead_of k l.at l.end) ≡ word k (W.text_of k)
  seen (token.Symbol t) h = refl
  seen (token.Keyword t) h = refl
  seen (token.Ident s) h = ap (word (token.Ident s)) (sym h)
  seen (token.Str s) h = ap (word (token.Str s)) (sym h)
  seen (token.TypeName t s) h = ap (word (token.TypeName t s)) (sym h)
  seen (token.Slip s) h = refl

  -- the first word from a place on, in a text that is another by name only
  pub seen_from : (vs : List ℕ) (i start : ℕ) (r : Ahead) → us ≡ vs → i ≡ start → from us i ≡ W.word_of l ∷ from us l.end → Lies us l l.token → r ≡ ahead_of l.token l.at l.end → ahead_words vs r ≡ from vs start
  seen_from vs i start r v q e h s = subst (λ z. ahead_words z r ≡ from z start) v (ap (ahead_words us) s ∙ seen l.token h ∙ sym e ∙ ap (from us) q)
