-- The packet's bytes, as a function of the claims, and what a packet is.
use Rattle.std.specs.Prelude.{◌≡◌, ℕ, zero, suc, ◌/◌, ◌%◌, ◌<◌, ◌≤◌, cond, List, [], ◌∷◌, ◌++◌, length}
use Rattle.std.proofs.Common.{of_z}
use Rattle.std.specs.Int.{w64}
use Rattle.std.specs.List.{flat_map, AllByRecursion}
use Rattle.claims.specs.Meaning.{Value, uint64, int64, string, boolean, Claim}
use Rattle.packet.specs.Carriable.{Carriable}
use Rattle.units.specs.Units.{unit_bytes}

-- the k lowest bytes of n in front of more, high byte first
abbrev pub bytes_before : ℕ → ℕ → List ℕ → List ℕ
bytes_before zero n more = more
bytes_before (suc k) n more = bytes_before k (n / 256) (n % 256 ∷ more)

abbrev pub encode_text : List ℕ → List ℕ
encode_text us = length us ∷ unit_bytes us

abbrev pub encode_value : Value → List ℕ
encode_value (uint64 n) = bytes_before 8 n []
encode_value (int64 z) = bytes_before 8 (of_z w64 z) []
encode_value (string us) = encode_text us
encode_value (boolean b) = cond b 1 0 ∷ []

abbrev pub encode : Claim → List ℕ
encode c = encode_text c.typ ++ (encode_text c.word ++ encode_value c.value)

abbrev pub body : List Claim → List ℕ
body cs = flat_map encode cs

-- the version, and the length of what follows
abbrev pub head_of : ℕ → List ℕ
head_of n = 1 ∷ bytes_before 2 n []

abbrev pub packet : List Claim → List ℕ
packet cs = head_of (length (body cs)) ++ body cs

-- the packet of these claims, and none of its limits passed
pub record Carries (bytes : List ℕ) (cs : List Claim) : Type 0 where
  pub each : AllByRecursion Carriable cs
  pub few : length cs ≤ 256
  pub short : length (body cs) ≤ 32765
  pub spelt : bytes ≡ packet cs

abbrev pub Bytes : List ℕ → Type 0
Bytes bs = AllByRecursion (λ b. b < 256) bs
