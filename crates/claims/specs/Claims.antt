-- The claim that a record stands for through the rule text and the packet, if its texts lie in them.
use Rattle.std.specs.Prelude.{ℕ, List, [], ◌∷◌, Some, None, Option}
use Rattle.std.specs.Option.{option_map}
use Rattle.units.specs.Units.{units}
use Rattle.claims.specs.Meaning as meaning
use Rattle.claims.specs.Texts.{part_of}
use Rattle.claims.specs.declared.records.Claim.{Claim}
use Rattle.claims.specs.declared.texts.Text.{Text}
use Rattle.claims.specs.declared.values.Value.{Value}
use Rattle.claims.specs.declared.values.Value.TheVariants.{Uint64, Int64, String, Boolean}

-- both, or none
abbrev pub onward : {X Y : Type 0} → Option X → (X → Option Y) → Option Y
onward None f = None
onward (Some x) f = f x

abbrev pub text_of : List ℕ → List ℕ → Text → Option (List ℕ)
text_of rules packet t = option_map units (part_of rules packet t)

abbrev pub value_of : List ℕ → List ℕ → Value → Option meaning.Value
value_of rules packet (Uint64 n) = Some (meaning.uint64 n)
value_of rules packet (Int64 z) = Some (meaning.int64 z)
value_of rules packet (String t) = option_map meaning.string (text_of rules packet t)
value_of rules packet (Boolean b) = Some (meaning.boolean b)

abbrev pub claim_of : List ℕ → List ℕ → Claim → Option meaning.Claim
claim_of rules packet c =
    onward (text_of rules packet c.typ) (λ t. onward (text_of rules packet c.word) (λ w. option_map (meaning.claim t w) (value_of rules packet c.value)))

-- the claims that records stand for, if each of them stands for one
abbrev pub claims_of : List ℕ → List ℕ → List Claim → Option (List meaning.Claim)
claims_of rules packet [] = Some []
claims_of rules packet (c ∷ cs) = onward (claim_of rules packet c) (λ d. option_map (λ ds. d ∷ ds) (claims_of rules packet cs))
