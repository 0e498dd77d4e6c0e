-- What a record of the packet's own texts stands for in the packet's bytes, and where it lies there.
use Rattle.std.specs.Prelude.{◌≡◌, ℕ, ◌+◌, ◌*◌, ◌≤◌, List, length, take, drop, Ok, Err, Result}
use Rattle.claims.specs.Meaning as meaning
use Rattle.claims.specs.declared.records.Claim.{Claim}
use Rattle.claims.specs.declared.texts.Origin.TheVariants.{Packet}
use Rattle.claims.specs.declared.texts.Text.{Text}
use Rattle.claims.specs.declared.values.Value.{Value}
use Rattle.claims.specs.declared.values.Value.TheVariants.{Uint64, Int64, String, Boolean}
use Rattle.faults.specs.declared.Cause.{Cause}
use Rattle.packet.specs.Judge.{size_of_text, size_of_value, size}
use Rattle.units.specs.Units.{units}

abbrev pub held_part : List ℕ → Text → List ℕ
held_part bs t = take (2 * t.len) (drop t.place bs)

abbrev pub held_text : List ℕ → Text → List ℕ
held_text bs t = units (held_part bs t)

abbrev pub held_value : List ℕ → Value → meaning.Value
held_value bs (Uint64 n) = meaning.uint64 n
held_value bs (Int64 z) = meaning.int64 z
held_value bs (String t) = meaning.string (held_text bs t)
held_value bs (Boolean b) = meaning.boolean b

abbrev pub held_claim : List ℕ → Claim → meaning.Claim
held_claim bs c = meaning.claim (held_text bs c.typ) (held_text bs c.word) (held_value bs c.value)

-- what stands in an Ok, by its meaning
abbrev pub meant : {X Y : Type 0} → (X → Y) → Result X Cause → Result Y Cause
meant f (Ok x) = Ok (f x)
meant f (Err n) = Err n

-- the place behind a text, and behind a claim
abbrev pub after_text : Text → ℕ
after_text t = t.place + 2 * t.len

abbrev pub after_value : ℕ → Value → ℕ
after_value at (Uint64 n) = at + 8
after_value at (Int64 z) = at + 8
after_value at (String t) = after_text t
after_value at (Boolean b) = at + 1

abbrev pub past : Claim → ℕ
past c = after_value (after_text c.word) c.value

abbrev pub InsideValue : List ℕ → Value → Type 0
InsideValue bs (Uint64 n) = Unit {0}
InsideValue bs (Int64 z) = Unit {0}
InsideValue bs (String t) = after_text t ≤ length bs
InsideValue bs (Boolean b) = Unit {0}

pub record InsideClaim (bs : List ℕ) (c : Claim) : Type 0 where
  pub type_inside : after_text c.typ ≤ length bs
  pub word_inside : after_text c.word ≤ length bs
  pub value_inside : InsideValue bs c.value

-- where a text lies, whose length byte is at `at`
pub record Lies (bs : List ℕ) (at : ℕ) (t : Text) : Type 0 where
  pub of : t.origin ≡ Packet
  pub begins : t.place ≡ at + 1
  pub inside : after_text t ≤ length bs
  pub ends : after_text t ≡ at + size_of_text (held_text bs t)

abbrev pub TextLies : List ℕ → ℕ → Value → Type 0
TextLies bs at (Uint64 n) = Unit {0}
TextLies bs at (Int64 z) = Unit {0}
TextLies bs at (String t) = Lies bs at t
TextLies bs at (Boolean b) = Unit {0}

pub record ValueLies (bs : List ℕ) (at : ℕ) (v : Value) : Type 0 where
  pub place : TextLies bs at v
  pub shown : InsideValue bs v
  pub inside : after_value at v ≤ length bs
  pub ends : after_value at v ≡ at + size_of_value (held_value bs v)

-- where a claim lies, whose first byte is at `at`
pub record ClaimLies (bs : List ℕ) (at : ℕ) (c : Claim) : Type 0 where
  pub type_place : Lies bs at c.typ
  pub word_place : Lies bs (after_text c.typ) c.word
  pub value_place : TextLies bs (after_text c.word) c.value
  pub inside : past c ≤ length bs
  pub ends : past c ≡ at + size (held_claim bs c)
