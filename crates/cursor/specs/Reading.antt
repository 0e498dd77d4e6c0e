-- What a cursor has still before it, and what a result of it says of that.
use Rattle.std.specs.Prelude.{◌≡◌, ℕ, Bool, true, false, if◌then◌else◌, List, [], ◌∷◌, Some, None, Option, Ok, Err, Result}
use Rattle.units.specs.Units.{units}
use Rattle.faults.specs.At.{fault_at}
use Rattle.faults.specs.declared.Cause.TheVariants.{OverLimit}
use Rattle.faults.specs.declared.Fault.{Fault}
use Rattle.words.specs.Places.{from}
use Rattle.words.specs.Terminals.{Kind, is}
use Rattle.words.specs.Words.{Word}
use Rattle.words.specs.declared.terminals.Terminal.{Terminal}
use Rattle.grammar.specs.Readers.{Got, got, useless, past, Reads, ◌starts◌else◌, ◌>>◌, return, stop, t, first_place}
use Rattle.grammar.specs.Whole.{fault_from}
use Rattle.cursor.specs.Ahead.{short, ahead_words}
use Rattle.cursor.specs.declared.ahead.Ahead.TheVariants as ahead
use Rattle.cursor.specs.declared.cursor.Cursor.{Cursor}
use Rattle.cursor.specs.declared.pieces.Piece.{Piece}
use Rattle.cursor.specs.declared.pieces.Stop.{Stop}
use Rattle.cursor.specs.declared.pieces.Stop.TheVariants.{Useless, Past}

-- the units of the text
unfoldable pub text_of : Cursor → List ℕ
text_of p = short (units p.text.now)

-- the words from where the cursor stands
unfoldable pub rest : Cursor → List Word
rest p = ahead_words (short (units p.text.now)) p.ahead

abbrev pub stopped : {Y : Type 0} → Stop → List Word → Got Y
stopped Useless ws = useless ws
stopped Past ws = past ws

-- a result and the words from where the cursor then stands, as the grammar gives them
abbrev pub shown : {X Y : Type 0} → (X → Y) → Result X Stop → List Word → Got Y
shown f (Ok x) ws = got (f x) ws
shown f (Err e) ws = stopped e ws

-- the production p gives g of these words
pub record Reading {A : Type 0} (p : Reads A) (ws : List Word) (g : Got A) : Type 0 where
  pub so : g ≡ p ws

-- the production p gives, of the words from where a cursor stood, what v shows of a result, and the words from where it then stands in the same text
pub record Parses {A X : Type 0} (p : Reads A) (v : List ℕ → X → A) (old : Cursor) (r : Result X Stop) (new : Cursor) : Type 0 where
  pub reads : Reading p (rest old) (shown (v (text_of old)) r (rest new))
  pub text : text_of new ≡ text_of old

-- what R says may be chosen of the next word, and then the words behind it; or a stop at the same words, where no word is next, or one of which nothing is chosen
abbrev pub Chosen : {X : Type 0} → (Piece → Option X → Type 0) → Cursor → Result X Stop → Cursor → Type 0
Chosen R old (Ok x) new = (p : Piece) × (end : ℕ) × (old.ahead ≡ ahead.Word p end) × R p (Some x) × (rest new ≡ from (text_of old) end)
Chosen R old (Err e) new = (e ≡ Useless) × (rest new ≡ rest old) × ((p : Piece) (end : ℕ) → old.ahead ≡ ahead.Word p end → R p None)

-- that, in the same text
pub record Takes {X : Type 0} (R : Piece → Option X → Type 0) (old : Cursor) (r : Result X Stop) (new : Cursor) : Type 0 where
  pub chosen : Chosen R old r new
  pub text : text_of new ≡ text_of old

-- one word, which is one of these terminals
abbrev pub any_of : List Terminal → Reads Word
any_of [] = stop
any_of (k ∷ []) = t k
any_of (k ∷ j ∷ ks) = (k ∷ []) starts t k else any_of (j ∷ ks)

-- what stands in a table beside the terminal that a word is
abbrev pub beside : {A : Type 0} → List (Terminal × A) → Kind → Option A
beside [] m = None
beside (e ∷ es) m = if is e.0 m then Some e.1 else beside es m

-- one word of a table's terminals, for what stands beside the terminal
abbrev pub choice : {A : Type 0} → List (Terminal × A) → Reads A
choice [] = stop
choice (e ∷ []) = t e.0 >> return e.1
choice (e ∷ f ∷ es) = (e.0 ∷ []) starts t e.0 >> return e.1 else choice (f ∷ es)

-- the fault at a stop, in a text of so many units
abbrev pub fault_of : ℕ → Stop → List Word → Fault
fault_of n Useless ws = fault_from n ws
fault_of n Past ws = fault_at OverLimit (first_place ws)

-- no word is left
abbrev pub is_none : List Word → Bool
is_none [] = true
is_none (w ∷ ws) = false
