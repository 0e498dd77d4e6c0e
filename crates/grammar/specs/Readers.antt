-- What reading a production gives, and how readers are put together.
use Rattle.std.specs.Prelude.{ℕ, zero, suc, Bool, true, false, if◌then◌else◌, ◌||◌, List, [], ◌∷◌}
use Rattle.words.specs.Words.{Word}
use Rattle.words.specs.Terminals.{is}
use Rattle.words.specs.declared.terminals.Terminal.{Terminal}

-- what reading a production gives: what it says and the words after it; or the words from the one on that the grammar has no use for;
-- or those from the rule, selection or condition on that is one too many
pub data Got (A : Type 0) : Type 0 where
  got : A → List Word → Got A
  useless : List Word → Got A
  past : List Word → Got A

abbrev pub Reads : Type 0 → Type 0
Reads A = List Word → Got A

abbrev pub first_place : List Word → ℕ
first_place [] = 0
first_place (w ∷ ws) = w.at

-- the first word is one of these terminals
abbrev pub next : List Terminal → List Word → Bool
next [] ws = false
next (k ∷ ks) [] = false
next (k ∷ ks) (w ∷ ws) = is k w.kind || next ks (w ∷ ws)

abbrev pub return : {A : Type 0} → A → Reads A
return x ws = got x ws

infixr 30 ◌>>=◌
abbrev pub ◌>>=◌ : {A B : Type 0} → Reads A → (A → Reads B) → Reads B
◌>>=◌ p f ws = elim (p ws) [ got x rest ↦ f x rest | useless rest ↦ useless rest | past rest ↦ past rest ]

infixr 30 ◌>>◌
abbrev pub ◌>>◌ : {A B : Type 0} → Reads A → Reads B → Reads B
p >> q = p >>= (λ _. q)

infixr 20 ◌starts◌else◌
-- the one where the next word is among these, else the other
abbrev pub ◌starts◌else◌ : {A : Type 0} → List Terminal → Reads A → Reads A → Reads A
◌starts◌else◌ ks p q ws = (if next ks ws then p else q) ws

abbrev pub stop : {A : Type 0} → Reads A
stop ws = useless ws

-- one more than is allowed, where one begins
abbrev pub past_limit : {A : Type 0} → Reads A
past_limit ws = past ws

-- one word
unfoldable pub t : Terminal → Reads Word
t k [] = useless []
t k (w ∷ ws) = elim (is k w.kind) [ true ↦ got w ws | false ↦ useless (w ∷ ws) ]

-- one or more, each but the first behind a k, at most so many; each begins with one of ks
unfoldable pub many : {A : Type 0} → Terminal → List Terminal → Reads A → ℕ → Reads (List A)
many k ks p zero = ks starts past_limit else stop
many k ks p (suc room) = do
  x ← p
  xs ← (k ∷ []) starts t k >> many k ks p room else return []
  return (x ∷ xs)

-- with the place of its first word
abbrev pub placed : {A : Type 0} → Reads A → Reads (ℕ × A)
placed p ws = elim (p ws) [ got x rest ↦ got (first_place ws, x) rest | useless rest ↦ useless rest | past rest ↦ past rest ]
