-- The terminal that two units begin, told by their characters.
use Rattle.std.specs.Prelude.{ℕ, Bool, false, if◌then◌else◌, ◌&&◌, List, [], ◌∷◌, length, Some, None, Option, ◌==◌}
use Rattle.words.specs.Terminals.{terminal, symbols}
use Rattle.words.specs.Words.{Spelled, no_word}
use Rattle.words.specs.declared.signs.Sign.{Sign}
use Rattle.words.specs.declared.terminals.Slip.TheVariants.{BeginsNone}
use Rattle.words.specs.declared.terminals.Terminal.{Terminal}

-- units that begin with u and v, or with u alone
abbrev pub fits : List ℕ → ℕ → ℕ → Bool
fits [] u v = false
fits (p ∷ []) u v = p == u
fits (p ∷ q ∷ ps) u v = p == u && q == v

abbrev pub sign_in : List (List ℕ × Terminal) → ℕ → ℕ → Option Sign
sign_in [] u v = None
sign_in (s ∷ ss) u v = if fits s.0 u v then Some (record { terminal = s.1; long = length s.0 }) else sign_in ss u v

abbrev pub sign_of : ℕ → ℕ → Option Sign
sign_of u v = sign_in symbols u v

-- the word that a sign is, at the front of units
abbrev pub sign_word : Option Sign → List ℕ → Spelled
sign_word None us = no_word BeginsNone us
sign_word (Some s) us = record { kind = terminal s.terminal; long = s.long; text = [] }
