-- Records whose texts lie in a text of so many bytes, by units.
use Rattle.std.specs.Prelude.{◌≡◌, ℕ, ◌+◌, ◌*◌, ◌≤◌, Bool, true, false, List, [], ◌∷◌, refl}
use Rattle.std.specs.Coded.{×_prop, Unit-prop, le_prop, Coded-set, code_by, coded_bool}
use Rattle.claims.specs.declared.records.Claim.{Claim}
use Rattle.claims.specs.declared.texts.Origin.{Origin}
use Rattle.claims.specs.declared.texts.Origin.TheVariants.{Rules, Packet}
use Rattle.claims.specs.declared.texts.Text.{Text}
use Rattle.claims.specs.declared.values.Value.{Value}
use Rattle.claims.specs.declared.values.Value.TheVariants.{Uint64, Int64, String, Boolean}

abbrev pub TextInside : ℕ → Text → Type 0
TextInside n t = (t.origin ≡ Rules) × (2 * (t.place + t.len) ≤ n)

abbrev pub ValueInside : ℕ → Value → Type 0
ValueInside n (Uint64 v) = Unit {0}
ValueInside n (Int64 v) = Unit {0}
ValueInside n (String t) = TextInside n t
ValueInside n (Boolean v) = Unit {0}

pub record Inside (n : ℕ) (c : Claim) : Type 0 where
  pub typ : TextInside n c.typ
  pub word : TextInside n c.word
  pub value : ValueInside n c.value

abbrev pub AllInside : ℕ → List Claim → Type 0
AllInside n [] = Unit {0}
AllInside n (c ∷ cs) = Inside n c × AllInside n cs

-- There is at most one proof of each, so a list of claims keeps it as its invariant.
in_rules : Origin → Bool
in_rules Rules = true
in_rules Packet = false

origin_of : Bool → Origin
origin_of true = Rules
origin_of false = Packet

origin_again : (o : Origin) → origin_of (in_rules o) ≡ o
unfolding in_rules origin_of
origin_again Rules = refl
origin_again Packet = refl

TextInside-prop : (n : ℕ) (t : Text) → IsProp (TextInside n t)
TextInside-prop n t = ×_prop (Coded-set (code_by Bool coded_bool in_rules origin_of origin_again) _ _) le_prop

ValueInside-prop : (n : ℕ) (v : Value) → IsProp (ValueInside n v)
ValueInside-prop n (Uint64 v) = Unit-prop
ValueInside-prop n (Int64 v) = Unit-prop
ValueInside-prop n (String t) = TextInside-prop n t
ValueInside-prop n (Boolean v) = Unit-prop

Inside-prop : (n : ℕ) (c : Claim) → IsProp (Inside n c)
Inside-prop n c a b =
    λ i. record {
      typ = TextInside-prop n c.typ a.typ b.typ i;
      word = TextInside-prop n c.word a.word b.word i;
      value = ValueInside-prop n c.value a.value b.value i;
    }

pub AllInside-prop : (n : ℕ) (cs : List Claim) → IsProp (AllInside n cs)
AllInside-prop n [] = Unit-prop
AllInside-prop n (c ∷ cs) = ×_prop (Inside-prop n c) (AllInside-prop n cs)
