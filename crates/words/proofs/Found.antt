-- The terminal of a table, found by its name.
use Rattle.std.proofs.Common.{◌≡◌, ℕ, Bool, true, false, cond, List, [], ◌∷◌, Some, Option, Bor, refl}
use Rattle.std.specs.List.{find}
use Rattle.std.specs.Option.{option_map}
use Rattle.units.specs.Fold.{same_units}
use Rattle.words.specs.Tables.{entries}
use Rattle.words.specs.Words.{spelled_by}
use Rattle.words.specs.declared.terminals.Terminal.{Terminal}

chosen : (b : Bool) (t : Bor (List ℕ) × Terminal) (o : Option (Bor (List ℕ) × Terminal)) (p : Option Terminal) → option_map (λ e. e.1) o ≡ p → option_map (λ e. e.1) (cond b (Some t) o) ≡ cond b (Some t.1) p
chosen true t o p e = refl
chosen false t o p e = e

pub found : (us : List ℕ) (ts : List (Bor (List ℕ) × Terminal)) → option_map (λ e. e.1) (find (λ e. same_units us e.0.now) ts) ≡ spelled_by (entries ts) us
found us [] = refl
found us (t ∷ ts) = chosen (same_units us t.0.now) t (find (λ e. same_units us e.0.now) ts) (spelled_by (entries ts) us) (found us ts)
