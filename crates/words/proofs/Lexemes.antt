-- A lexeme by its parts: a word, or units that are no word.
use Rattle.std.proofs.Common.{◌≡◌, ℕ, ◌+◌, ◌-◌, ◌<◌, ◌≤◌, List, [], length, get_or, drop, refl, sym, ap, ◌∙◌, subst, arith}
use Rattle.words.specs.Terminals.{unreadable}
use Rattle.words.specs.Tokens.{kind_of, text_of, Lies, WordAt}
use Rattle.words.specs.Words.{spelled}
use Rattle.words.specs.declared.terminals.Slip.{Slip}
use Rattle.words.specs.declared.tokens.Lexeme.{Lexeme}
use Rattle.words.specs.declared.tokens.Token.{Token}
use Rattle.words.specs.declared.tokens.Token.TheVariants as token

abbrev pub lexeme : Token → ℕ → ℕ → Lexeme
lexeme t i n = record { token = t; at = i; end = n }

by_parts : (l : Lexeme) {t : Token} {i n : ℕ} → l.token ≡ t → l.at ≡ i → l.end ≡ n → l ≡ lexeme t i n
by_parts l {t} {i} {n} it ia ie = ap (λ x. lexeme x l.at l.end) it ∙ ap (λ x. lexeme t x l.end) ia ∙ ap (λ x. lexeme t i x) ie

module _ (us : List ℕ) (i : ℕ) (l : Lexeme) where
  -- a word of such a token, up to a place
  pub token_word : (t : Token) (n : ℕ) → l.token ≡ t → l.at ≡ i → l.end ≡ n → i < n → n ≤ length us
      → record { kind = kind_of t; long = n - i; text = text_of t } ≡ spelled (get_or us i 0) (drop (i + 1) us) → Lies us (lexeme t i n) t → WordAt us i l
  token_word t n it ia ie on within e lies =
      subst (WordAt us i) (sym (by_parts l it ia ie)) (record { at = refl; spelt = e; on = on; within = within; lies = lies })

  pub slip_word : (s : Slip) → i < length us → l.token ≡ token.Slip s → l.at ≡ i → l.end ≡ length us
      → record { kind = unreadable s; long = length us - i; text = [] } ≡ spelled (get_or us i 0) (drop (i + 1) us) → WordAt us i l
  slip_word s h it ia ie e = token_word (token.Slip s) (length us) it ia ie h (omega arith) e tt
