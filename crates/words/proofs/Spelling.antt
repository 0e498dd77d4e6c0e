-- The word at a place, as the definition spells it.
use Rattle.std.proofs.Common.{◌≡◌, ℕ, ◌+◌, ◌-◌, ◌<◌, ◌≤◌, Bool, true, false, cond, ◌&&◌, eqb, leb, List, [], ◌∷◌, length, get_or, take, drop, Some, None, Option, sym, refl, ap, ◌∙◌, subst, inl, inr, add-zero, arith}
use Rattle.std.proofs.lemmas.List.{drop_more, drop-drop, get_or-drop, get_or_past, length-drop, length-take-le}
use Rattle.std.proofs.lemmas.List.Sums.{prefix_len-le-length, prefix_len-drop_yes}
use Rattle.std.proofs.lemmas.Bool.{cases_lt, cond-true, cond-false, le-leb, lt-leb, eq-eqb, ne_eqb, or_left, and_parts, eqb-true, eqb-false}
use Rattle.std.proofs.Math.Bool.{and-true}
use Rattle.std.specs.List.{prefix_len, AllByRecursion}
use Rattle.words.specs.Signs.{fits, sign_in, sign_of, sign_word}
use Rattle.words.specs.Terminals.{Kind, terminal, unreadable, symbols, keywords, value_types}
use Rattle.words.specs.Words.{Spelled, letter, in_name, in_string, begins, spelled_by, no_word, symbol, name_word, name, quoted_word, string, front, within, spelled}
use Rattle.words.specs.declared.signs.Sign.{Sign}
use Rattle.words.specs.declared.terminals.Slip.{Slip}
use Rattle.words.specs.declared.terminals.Slip.TheVariants.{BeginsNone, NotClosed, TooLong}
use Rattle.words.specs.declared.terminals.Terminal.{Terminal}
use Rattle.words.specs.declared.terminals.Terminal.TheVariants.{Identifier, Literal}

abbrev word : Kind → ℕ → List ℕ → Spelled
word k n us = record { kind = k; long = n; text = us }

-- entries of one unit, or of two of which the second is no 0000
abbrev Entry : List ℕ → Type 0
Entry [] = ⊥
Entry (p ∷ []) = Unit {0}
Entry (p ∷ q ∷ []) = eqb q 0 ≡ false
Entry (p ∷ q ∷ r ∷ ps) = ⊥

begins_fits : (ps : List ℕ) (u : ℕ) (us : List ℕ) → Entry ps → begins ps (u ∷ us) ≡ fits ps u (get_or us 0 0)
begins_fits [] u us h = absurd h
begins_fits (p ∷ []) u us h = and-true (eqb p u)
begins_fits (p ∷ q ∷ []) u [] h = ap (λ b. eqb p u && b) (sym h)
begins_fits (p ∷ q ∷ []) u (v ∷ us) h = ap (λ b. eqb p u && b) (and-true (eqb q v))
begins_fits (p ∷ q ∷ r ∷ ps) u us h = absurd h

chosen : (b c : Bool) (t : Terminal) (n : ℕ) (x : Spelled) (o : Option Sign) (us : List ℕ) → b ≡ c → x ≡ sign_word o us → cond b (word (terminal t) n []) x ≡ sign_word (cond c (Some (record { terminal = t; long = n })) o) us
chosen b true t n x o us e f = ap (λ d. cond d (word (terminal t) n []) x) e
chosen b false t n x o us e f = ap (λ d. cond d (word (terminal t) n []) x) e ∙ f

table_signs : (ts : List (List ℕ × Terminal)) (u : ℕ) (us : List ℕ) → AllByRecursion (λ t. Entry t.0) ts → symbol ts (u ∷ us) ≡ sign_word (sign_in ts u (get_or us 0 0)) (u ∷ us)
table_signs [] u us h = refl
table_signs (t ∷ ts) u us h =
    chosen (begins t.0 (u ∷ us)) (fits t.0 u (get_or us 0 0)) t.1 (length t.0) (symbol ts (u ∷ us)) (sign_in ts u (get_or us 0 0)) (u ∷ us) (begins_fits t.0 u us h.0) (table_signs ts u us h.1)

entries : AllByRecursion (λ t. Entry t.0) symbols
entries = (refl, (refl, (refl, (tt, (refl, (refl, (refl, (tt, (tt, (tt, (tt, (tt, (tt, (tt, (tt, tt)))))))))))))))

-- how long a sign is: one unit, or two where the second is no 0000
pub record Long (s : Sign) (v : ℕ) : Type 0 where
  pub some : 0 < s.long
  pub most : s.long ≤ 2
  pub second : v ≡ 0 → s.long ≤ 1

entry_long : (ps : List ℕ) (t : Terminal) (u v : ℕ) → Entry ps → fits ps u v ≡ true → Long (record { terminal = t; long = length ps }) v
entry_long [] t u v h e = absurd h
entry_long (p ∷ []) t u v h e = record { some = omega arith; most = omega arith; second = λ _. omega arith }
entry_long (p ∷ q ∷ []) t u v h e = record {
  some = omega arith;
  most = omega arith;
  second = λ z.
      let same = eqb-true q v (and_parts (eqb p u) (eqb q v) e).1 in
      let no' = eqb-false q 0 h in
      absurd (no' (same ∙ z));
}
entry_long (p ∷ q ∷ r ∷ ps) t u v h e = absurd h

chosen_long : (b : Bool) (x s : Sign) (o : Option Sign) (v : ℕ) → (b ≡ true → Long x v) → (Some s ≡ o → Long s v) → Some s ≡ cond b (Some x) o → Long s v
chosen_long true x s o v f g e = let is : x ≡ s = cc in subst (λ y. Long y v) is (f refl)
chosen_long false x s o v f g e = g e

sign_long : (ts : List (List ℕ × Terminal)) (u v : ℕ) (s : Sign) → AllByRecursion (λ t. Entry t.0) ts → Some s ≡ sign_in ts u v → Long s v
sign_long [] u v s h e = let z : ◌≡◌ {A = ℕ} 0 1 = cc in absurd (omega arith)
sign_long (t ∷ ts) u v s h e =
    chosen_long (fits t.0 u v) (record { terminal = t.1; long = length t.0 }) s (sign_in ts u v) v (entry_long t.0 t.1 u v h.0) (sign_long ts u v s h.1) e

pub symbol_long : (u v : ℕ) (s : Sign) → Some s ≡ sign_of u v → Long s v
symbol_long u v s e = sign_long symbols u v s entries e

module _ (us : List ℕ) (i : ℕ) (h : i < length us) where
  abbrev u : ℕ
  u = get_or us i 0

  abbrev rest : List ℕ
  rest = drop (i + 1) us

  here : drop i us ≡ u ∷ rest
  here = drop_more us i 0 h

  -- units that are no word take the rest of the text
  pub slipped : (s : Slip) (n : ℕ) → n ≡ length us → word (unreadable s) (n - i) [] ≡ no_word s (u ∷ rest)
  slipped s n e =
      let l = length-drop (i + 1) us in
      let k : n - i ≡ length (u ∷ rest) = omega arith in
      ap (λ m. word (unreadable s) m []) k

  -- a symbol
  module _ (no-letter : letter u ≡ false) (no-quote : u ≡ 34 → ⊥) (v : ℕ) (iv : v ≡ get_or us (i + 1) 0) where
    as_symbol : spelled u rest ≡ sign_word (sign_of u v) (u ∷ rest)
    as_symbol =
        let first : get_or rest 0 0 ≡ v = get_or-drop (i + 1) us 0 0 ∙ ap (λ k. get_or us k 0) (add-zero (i + 1)) ∙ sym iv in
        cond-false _ _ _ no-letter ∙ cond-false _ _ _ (ne_eqb u 34 no-quote) ∙ table_signs symbols u rest entries ∙ ap (λ x. sign_word (sign_in symbols u x) (u ∷ rest)) first

    pub symbol_ends : (s : Sign) → Some s ≡ sign_of u v → i + s.long ≤ length us
    symbol_ends s e =
        let l = symbol_long u v s e in
        let m = l.most in
        elim (cases_lt (i + 1) (length us)) [
          | inl lt ↦ omega arith
          | inr ge ↦ let one = l.second (iv ∙ get_or_past us (i + 1) 0 ge) in omega arith
        ]

    pub symbol_spelt : (s : Sign) → Some s ≡ sign_of u v → (n : ℕ) → n ≡ i + s.long → word (terminal s.terminal) (n - i) [] ≡ spelled u rest
    symbol_spelt s e n is =
        let k : n - i ≡ s.long = omega arith in
        ap (λ m. word (terminal s.terminal) m []) k ∙ sym (as_symbol ∙ ap (λ o. sign_word o (u ∷ rest)) (sym e))

    pub symbol_none : None ≡ sign_of u v → (n : ℕ) → n ≡ length us → word (unreadable BeginsNone) (n - i) [] ≡ spelled u rest
    symbol_none e n is = slipped BeginsNone n is ∙ sym (as_symbol ∙ ap (λ o. sign_word o (u ∷ rest)) (sym e))

  -- a name
  module _ (is-letter : letter u ≡ true) (end : ℕ) (ie : end ≡ i + prefix_len in_name (drop i us)) where
    as_name : spelled u rest ≡ name (u ∷ rest) (take (end - i) (drop i us))
    as_name =
        let n : prefix_len in_name (drop i us) ≡ end - i = omega arith in
        cond-true _ _ _ is-letter ∙ ap (λ z. name (u ∷ rest) (front in_name z)) (sym here) ∙ ap (λ k. name (u ∷ rest) (take k (drop i us))) n

    run_length : length (take (end - i) (drop i us)) ≡ end - i
    run_length =
        let l = prefix_len-le-length in_name (drop i us) in
        length-take-le (end - i) (drop i us) (omega arith)

    pub name_on : i < end
    name_on = let y = prefix_len-drop_yes in_name us i 0 h (or_left (letter u) (within 48 57 u) is-letter) in omega arith

    pub name_long : (n : ℕ) → n ≡ length us → 31 < end - i → word (unreadable TooLong) (n - i) [] ≡ spelled u rest
    name_long n e long = slipped TooLong n e ∙ sym (as_name ∙ cond-false _ _ _ (ap (λ k. leb k 31) run_length ∙ lt-leb (end - i) 31 long))

    module _ (ws : List ℕ) (iw : ws ≡ take (end - i) (drop i us)) (short : end - i ≤ 31) where
      as_short : spelled u rest ≡ name_word ws (spelled_by keywords ws)
      as_short =
          as_name ∙ cond-true _ _ _ (ap (λ k. leb k 31) run_length ∙ le-leb (end - i) 31 short)
          ∙ ap (λ z. name_word z (spelled_by keywords z)) (sym iw)

      long_is : length ws ≡ end - i
      long_is = ap length iw ∙ run_length

      pub name_key : (t : Terminal) → Some t ≡ spelled_by keywords ws → word (terminal t) (end - i) [] ≡ spelled u rest
      name_key t e = sym (as_short ∙ ap (name_word ws) (sym e) ∙ ap (λ n. word (terminal t) n []) long_is)

      pub name_ident : None ≡ spelled_by keywords ws → word (terminal Identifier) (end - i) ws ≡ spelled u rest
      name_ident e = sym (as_short ∙ ap (name_word ws) (sym e) ∙ ap (λ n. word (terminal Identifier) n ws) long_is)

  -- a string
  module _ (is-quote : u ≡ 34) (to : ℕ) (it : to ≡ i + 1 + prefix_len in_string (drop (i + 1) us)) where
    behind : drop (prefix_len in_string rest) rest ≡ drop to us
    behind = drop-drop (prefix_len in_string rest) (i + 1) us ∙ ap (λ k. drop k us) (sym it)

    as_string : spelled u rest ≡ string (u ∷ rest) (take (to - (i + 1)) rest) (drop to us)
    as_string =
        let n : prefix_len in_string rest ≡ to - (i + 1) = omega arith in
        cond-false _ _ _ (ap letter is-quote) ∙ cond-true _ _ _ (eq-eqb u 34 is-quote)
        ∙ ap (string (u ∷ rest) (front in_string rest)) behind ∙ ap (λ k. string (u ∷ rest) (take k rest) (drop to us)) n

    quoted_length : length (take (to - (i + 1)) rest) ≡ to - (i + 1)
    quoted_length =
        let l = prefix_len-le-length in_string rest in
        length-take-le (to - (i + 1)) rest (omega arith)

    open_end : (z : ℕ) → z ≡ get_or us to 0 → (z ≡ 34 → ⊥) → begins (34 ∷ []) (drop to us) ≡ false
    open_end z iz no' = open_at (drop to us) (get_or-drop to us 0 0 ∙ ap (λ k. get_or us k 0) (add-zero to))
      where
        open_at : (vs : List ℕ) → get_or vs 0 0 ≡ get_or us to 0 → begins (34 ∷ []) vs ≡ false
        open_at [] e = refl
        open_at (v ∷ vs) e = and-true (eqb 34 v) ∙ ne_eqb 34 v (λ same. no' (iz ∙ sym e ∙ sym same))

    close_end : get_or us to 0 ≡ 34 → (to < length us) × (begins (34 ∷ []) (drop to us) ≡ true)
    close_end e = close_at (drop to us) refl
      where
        close_at : (vs : List ℕ) → drop to us ≡ vs → (to < length us) × (begins (34 ∷ []) (drop to us) ≡ true)
        close_at [] is =
            let g = get_or-drop to us 0 0 ∙ ap (λ k. get_or us k 0) (add-zero to) ∙ e in
            let k : get_or (drop to us) 0 0 ≡ 0 = ap (λ vs. get_or vs 0 0) is in
            let z : ◌≡◌ {A = ℕ} 0 34 = sym k ∙ g in absurd (omega arith)
        close_at (v ∷ vs) is =
            let g = get_or-drop to us 0 0 ∙ ap (λ k. get_or us k 0) (add-zero to) ∙ e in
            let k : get_or (drop to us) 0 0 ≡ v = ap (λ vs. get_or vs 0 0) is in
            let l = length-drop to us in
            let n = ap length is in
            (omega arith, ap (begins (34 ∷ [])) is ∙ and-true (eqb 34 v) ∙ eq-eqb 34 v (sym g ∙ k))

    pub string_open : (z n : ℕ) → z ≡ get_or us to 0 → (z ≡ 34 → ⊥) → n ≡ length us → word (unreadable NotClosed) (n - i) [] ≡ spelled u rest
    string_open z n iz no' e = slipped NotClosed n e ∙ sym (as_string ∙ cond-false _ _ _ (open_end z iz no'))

    module _ (z : ℕ) (iz : z ≡ get_or us to 0) (quote' : z ≡ 34) where
      pub string_ends : to < length us
      string_ends = (close_end (sym iz ∙ quote')).0

      pub string_long : (n : ℕ) → n ≡ length us → 255 < to - (i + 1) → word (unreadable TooLong) (n - i) [] ≡ spelled u rest
      string_long n e long =
          slipped TooLong n e
          ∙ sym (as_string ∙ cond-true _ _ _ (close_end (sym iz ∙ quote')).1 ∙ cond-false _ _ _ (ap (λ k. leb k 255) quoted_length ∙ lt-leb (to - (i + 1)) 255 long))

      module _ (ws : List ℕ) (iw : ws ≡ take (to - (i + 1)) rest) (short : to - (i + 1) ≤ 255) (end : ℕ) (ie : end ≡ to + 1) where
        as_quoted : spelled u rest ≡ quoted_word ws (spelled_by value_types ws)
        as_quoted =
            as_string ∙ cond-true _ _ _ (close_end (sym iz ∙ quote')).1 ∙ cond-true _ _ _ (ap (λ k. leb k 255) quoted_length ∙ le-leb (to - (i + 1)) 255 short)
            ∙ ap (λ x. quoted_word x (spelled_by value_types x)) (sym iw)

        quoted_is : length ws + 2 ≡ end - i
        quoted_is = let l = ap length iw ∙ quoted_length in let q = it in omega arith

        pub string_type : (t : Terminal) → Some t ≡ spelled_by value_types ws → word (terminal t) (end - i) ws ≡ spelled u rest
        string_type t e = sym (as_quoted ∙ ap (quoted_word ws) (sym e) ∙ ap (λ n. word (terminal t) n ws) quoted_is)

        pub string_literal : None ≡ spelled_by value_types ws → word (terminal Literal) (end - i) ws ≡ spelled u rest
        string_literal e = sym (as_quoted ∙ ap (quoted_word ws) (sym e) ∙ ap (λ n. word (terminal Literal) n ws) quoted_is)
