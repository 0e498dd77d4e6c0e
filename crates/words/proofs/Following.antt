-- The words from a place on: past blanks, and past a word.
use Rattle.std.proofs.Common.{◌≡◌, ℕ, zero, suc, pred, ◌+◌, ◌-◌, ◌<◌, ◌≤◌, Bool, true, false, cond, List, [], ◌∷◌, length, get_or, drop, Some, None, sym, refl, ap, ◌∙◌, add-zero, one-add, arith}
use Rattle.std.proofs.lemmas.List.{drop_more, drop_all, drop-drop, get_or-drop, length-drop}
use Rattle.std.proofs.lemmas.Bool.{cond-true, cond-false}
use Rattle.std.specs.List.{prefix_len}
use Rattle.words.specs.Places.{from, word_at}
use Rattle.words.specs.Tokens.{spelled_as, word_of, WordAt, Reads}
use Rattle.words.specs.Words.{blank, spelled, words_from}
use Rattle.words.specs.declared.tokens.Lexeme.{Lexeme}

-- units that belong to a word that is read already
skip : (n : ℕ) (us : List ℕ) (place : ℕ) → words_from us n place ≡ words_from (drop n us) 0 (place + n)
skip zero us place = ap (words_from us 0) (sym (add-zero place))
skip (suc n) [] place = refl
skip (suc n) (u ∷ us) place = let e : suc place + n ≡ place + suc n = omega arith in skip n us (suc place) ∙ ap (words_from (drop n us) 0) e

-- blanks in front
blanks_at : (u : ℕ) (us : List ℕ) (place : ℕ) (b : Bool) → blank u ≡ b → words_from us 0 (suc place) ≡ words_from (drop (prefix_len blank us) us) 0 (suc place + prefix_len blank us)
    → words_from (u ∷ us) 0 place ≡ words_from (drop (cond b (1 + prefix_len blank us) 0) (u ∷ us)) 0 (place + cond b (1 + prefix_len blank us) 0)
blanks_at u us place true e more =
    let k = one-add (prefix_len blank us) in
    let p : suc place + prefix_len blank us ≡ place + (1 + prefix_len blank us) = omega arith in
    cond-true _ _ _ e ∙ more ∙ ap (words_from (drop (prefix_len blank us) us) 0) p ∙ ap (λ n. words_from (drop n (u ∷ us)) 0 (place + (1 + prefix_len blank us))) (sym k)
blanks_at u us place false e more = ap (words_from (u ∷ us) 0) (sym (add-zero place))

blanks : (us : List ℕ) (place : ℕ) → words_from us 0 place ≡ words_from (drop (prefix_len blank us) us) 0 (place + prefix_len blank us)
blanks [] place = refl
blanks (u ∷ us) place =
    blanks_at u us place (blank u) refl (blanks us (suc place))

stops_at : (u : ℕ) (us : List ℕ) (b : Bool) → blank u ≡ b → (prefix_len blank us < length us → blank (get_or us (prefix_len blank us) 0) ≡ false)
    → cond b (1 + prefix_len blank us) 0 < suc (length us) → blank (get_or (u ∷ us) (cond b (1 + prefix_len blank us) 0) 0) ≡ false
stops_at u us true e more h =
    let k = one-add (prefix_len blank us) in
    ap (λ n. blank (get_or (u ∷ us) n 0)) k ∙ more (omega arith)
stops_at u us false e more h = e

stops : (us : List ℕ) → prefix_len blank us < length us → blank (get_or us (prefix_len blank us) 0) ≡ false
stops [] h = absurd (omega arith)
stops (u ∷ us) h = stops_at u us (blank u) refl (stops us) h

module _ (us : List ℕ) (start : ℕ) where
  pub none_left : length us ≤ start → Reads us start None
  none_left h = ap (λ l. words_from l 0 start) (drop_all start us h)

  module _ (at : ℕ) (ia : at ≡ start + prefix_len blank (drop start us)) where
    skipped : from us start ≡ from us at
    skipped =
        blanks (drop start us) start
        ∙ ap (λ l. words_from l 0 (start + prefix_len blank (drop start us))) (drop-drop (prefix_len blank (drop start us)) start us)
        ∙ ap (from us) (sym ia)

    pub only_blanks : length us ≤ at → Reads us start None
    only_blanks h = skipped ∙ ap (λ l. words_from l 0 at) (drop_all at us h)

    no_blank : at < length us → blank (get_or us at 0) ≡ false
    no_blank h =
        let l = length-drop start us in
        let lt : prefix_len blank (drop start us) < length (drop start us) = omega arith in
        ap (λ n. blank (get_or us n 0)) ia ∙ ap blank (sym (get_or-drop start us (prefix_len blank (drop start us)) 0)) ∙ stops (drop start us) lt

    pub next_word : (l : Lexeme) → at < length us → WordAt us at l → Reads us start (Some l)
    next_word l h w =
        let u : ℕ = get_or us at 0 in
        let rest : List ℕ = drop (at + 1) us in
        let ends : at + 1 + pred (l.end - l.at) ≡ l.end = let a = w.at in let b = w.on in omega arith in
        let step : suc at ≡ at + 1 = omega arith in
        let here : from us at ≡ word_at at (spelled u rest) ∷ words_from rest (pred (spelled u rest).long) (suc at) =
        ap (λ z. words_from z 0 at) (drop_more us at 0 h) ∙ cond-false _ _ _ (no_blank h) in
        let said : from us at ≡ word_at at (spelled_as l) ∷ words_from rest (pred (l.end - l.at)) (at + 1) =
        here ∙ ap (λ s. word_at at s ∷ words_from rest (pred s.long) (suc at)) (sym w.spelt) ∙ ap (λ n. word_at at (spelled_as l) ∷ words_from rest (pred (l.end - l.at)) n) step in
        let behind : words_from rest (pred (l.end - l.at)) (at + 1) ≡ from us l.end =
        skip (pred (l.end - l.at)) rest (at + 1) ∙ ap (λ z. words_from z 0 (at + 1 + pred (l.end - l.at))) (drop-drop (pred (l.end - l.at)) (at + 1) us) ∙ ap (from us) ends in
        let whole : from us start ≡ word_of l ∷ from us l.end =
        skipped ∙ said ∙ ap (λ z. word_at at (spelled_as l) ∷ z) behind ∙ ap (λ n. word_at n (spelled_as l) ∷ from us l.end) (sym w.at) in
        let a = w.at in
        let b = w.on in
        (whole, omega arith, omega arith, w.within, w.lies)
