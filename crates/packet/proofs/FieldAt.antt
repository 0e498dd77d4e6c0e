-- A field of a packet at a place.
use Rattle.std.proofs.Common.{◌≡◌, ℕ, ◌+◌, ◌*◌, ◌<◌, ◌≤◌, cond, eqb, leb, List, [], ◌∷◌, length, get_or, take, drop, Some, None, Ok, Err, sym, refl, ap, ◌∙◌, arith, w64}
use Rattle.std.specs.Int.Digits.{number_from_digits}
use Rattle.std.specs.Int.{from_be_bytes}
use Rattle.std.proofs.lemmas.List.{drop_more, drop_all, length-drop, length-take-le, take_all}
use Rattle.std.proofs.lemmas.Bool.{cond-true, cond-false, le-leb, lt-leb}
use Rattle.faults.specs.declared.Cause.TheVariants.{ClaimPastEnd, BooleanOverOne}
use Rattle.claims.specs.declared.texts.Origin.TheVariants.{Packet}
use Rattle.units.specs.Units.{units}
use Rattle.claims.specs.Meaning.{boolean}
use Rattle.packet.specs.Judge.{need, text_in, boolean_in}
use Rattle.packet.specs.Held.{Lies}
use Rattle.units.proofs.Texts.{length-units}

module _ (bs : List ℕ) (at : ℕ) where
  pub text_none : length bs ≤ at → text_in (drop at bs) ≡ None
  text_none h = ap text_in (drop_all at bs h)

  module _ (n : ℕ) (h : at < length bs) (is : n ≡ get_or bs at 0) where
    at_text : text_in (drop at bs) ≡ cond (leb (2 * n) (length (drop (at + 1) bs))) (Some (units (take (2 * n) (drop (at + 1) bs)))) None
    at_text = ap text_in (drop_more bs at 0 h) ∙ ap (λ m. text_in (m ∷ drop (at + 1) bs)) (sym is)

    pub text_cut : length bs < at + 1 + 2 * n → text_in (drop at bs) ≡ None
    text_cut short = let l = length-drop (at + 1) bs in at_text ∙ cond-false _ _ _ (lt-leb (2 * n) _ (omega arith))

    pub text_there : at + 1 + 2 * n ≤ length bs → text_in (drop at bs) ≡ Some (units (take (2 * n) (drop (at + 1) bs)))
    text_there room = let l = length-drop (at + 1) bs in at_text ∙ cond-true _ _ _ (le-leb (2 * n) _ (omega arith))

  pub no_text : text_in (drop at bs) ≡ None → Err ClaimPastEnd ≡ need (text_in (drop at bs)) ClaimPastEnd (λ us. Ok us)
  no_text e = sym (ap (λ o. need o ClaimPastEnd (λ us. Ok us)) e)

  pub a_text : (us : List ℕ) → text_in (drop at bs) ≡ Some us → Ok us ≡ need (text_in (drop at bs)) ClaimPastEnd (λ us. Ok us)
  a_text us e = sym (ap (λ o. need o ClaimPastEnd (λ us. Ok us)) e)

  pub text_lies : (n : ℕ) → at + 1 + 2 * n ≤ length bs → Lies bs at (record { origin = Packet; place = at + 1; len = n })
  text_lies n room =
      let l = length-drop (at + 1) bs in
      let t = length-take-le (2 * n) (drop (at + 1) bs) (omega arith) in
      let u = length-units (take (2 * n) (drop (at + 1) bs)) in
      record { of = refl; begins = refl; inside = room; ends = omega arith }

-- numbers
pub eight_reads : (bs : List ℕ) → 8 ≤ length bs
    → number_from_digits 256 (take 8 bs)
    ≡ get_or bs 0 0 * 72057594037927936 + get_or bs 1 0 * 281474976710656 + get_or bs 2 0 * 1099511627776 + get_or bs 3 0 * 4294967296 + get_or bs 4 0 * 16777216 + get_or bs 5 0 * 65536 + get_or bs 6 0 * 256 + get_or bs 7 0
eight_reads [] h = absurd (omega arith)
eight_reads (a ∷ []) h = absurd (omega arith)
eight_reads (a ∷ b ∷ []) h = absurd (omega arith)
eight_reads (a ∷ b ∷ c ∷ []) h = absurd (omega arith)
eight_reads (a ∷ b ∷ c ∷ d ∷ []) h = absurd (omega arith)
eight_reads (a ∷ b ∷ c ∷ d ∷ e ∷ []) h = absurd (omega arith)
eight_reads (a ∷ b ∷ c ∷ d ∷ e ∷ f ∷ []) h = absurd (omega arith)
eight_reads (a ∷ b ∷ c ∷ d ∷ e ∷ f ∷ g ∷ []) h = absurd (omega arith)
eight_reads (a ∷ b ∷ c ∷ d ∷ e ∷ f ∷ g ∷ i ∷ bs) h = omega arith

-- what eight bytes at the front write
pub eight_number : (bs e : List ℕ) → 8 ≤ length bs → e ≡ take 8 bs → from_be_bytes w64 e ≡ number_from_digits 256 (take 8 bs)
eight_number bs e h is =
    let l : length e ≡ 8 = ap length is ∙ length-take-le 8 bs h in
    sym (eight_reads e (omega arith)) ∙ ap (number_from_digits 256) (take_all 8 e (omega arith) ∙ is)

-- a boolean
module _ (bs : List ℕ) (at : ℕ) where
  pub truth_none : length bs ≤ at → boolean_in (drop at bs) ≡ Err ClaimPastEnd
  truth_none h = ap boolean_in (drop_all at bs h)

  module _ (h : at < length bs) where
    pub truth_over : 1 < get_or bs at 0 → boolean_in (drop at bs) ≡ Err BooleanOverOne
    truth_over o = ap boolean_in (drop_more bs at 0 h) ∙ cond-false _ _ _ (lt-leb (get_or bs at 0) 1 o)

    pub truth_there : get_or bs at 0 ≤ 1 → boolean_in (drop at bs) ≡ Ok (boolean (eqb (get_or bs at 0) 1))
    truth_there o = ap boolean_in (drop_more bs at 0 h) ∙ cond-true _ _ _ (le-leb (get_or bs at 0) 1 o)
