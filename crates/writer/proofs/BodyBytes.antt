-- The bytes of records, one record after the other.
use Rattle.std.proofs.Common.{◌≡◌, ℕ, ◌+◌, ◌≤◌, List, [], ◌∷◌, ◌++◌, length, sym, refl, ap, ◌∙◌, subst, append_assoc, arith, length-append}
use Rattle.std.proofs.lemmas.List.{map_push, flat_map_more, map-append}
use Rattle.std.specs.List.{AllByRecursion}
use Rattle.claims.specs.Meaning as meaning
use Rattle.claims.specs.declared.records.Claim.{Claim}
use Rattle.packet.proofs.Claims.{length-encode}
use Rattle.packet.specs.Format.{encode, body}
use Rattle.packet.specs.Judge.{size}
use Rattle.writer.proofs.Written.{written_more}
use Rattle.writer.specs.Shown.{shown_claim, shown_claims, shown_body, Writable}
use Rattle.writer.specs.Writing.{written}

body-append : (cs ds : List meaning.Claim) → body (cs ++ ds) ≡ body cs ++ body ds
body-append [] ds = refl
body-append (c ∷ cs) ds = ap (λ z. encode c ++ z) (body-append cs ds) ∙ sym (append_assoc (encode c) (body cs) (body ds))

all_mid : {X : Type 0} (P : X → Type 0) (ys zs : List X) (x : X) → AllByRecursion P (ys ++ x ∷ zs) → P x
all_mid P [] zs x h = h.0
all_mid P (y ∷ ys) zs x h = all_mid P ys zs x h.1

-- the records of cs, of which ys are done and c is next
module _ (rules packet' : List ℕ) (cs ys zs : List Claim) (c : Claim) (e : ys ++ c ∷ zs ≡ cs) where
  pub next_whole : (ys ++ c ∷ []) ++ zs ≡ cs
  next_whole = append_assoc ys (c ∷ []) zs ∙ e

  pub next_writable : AllByRecursion (Writable rules packet') cs → Writable rules packet' c
  next_writable h = all_mid (Writable rules packet') ys zs c (subst (AllByRecursion (Writable rules packet')) (sym e) h)

  next_body : shown_body rules packet' (ys ++ c ∷ []) ≡ shown_body rules packet' ys ++ encode (shown_claim rules packet' c)
  next_body = ap body (map_push (shown_claim rules packet') ys c) ∙ sym (flat_map_more encode [] (shown_claims rules packet' ys) (shown_claim rules packet' c))

  pub next_size : length (shown_body rules packet' (ys ++ c ∷ [])) ≡ length (shown_body rules packet' ys) + size (shown_claim rules packet' c)
  next_size =
      ap length next_body ∙ length-append (shown_body rules packet' ys) (encode (shown_claim rules packet' c))
      ∙ ap (λ n. length (shown_body rules packet' ys) + n) (length-encode (shown_claim rules packet' c))

  pub next_room : length (shown_body rules packet' ys) + size (shown_claim rules packet' c) ≤ length (shown_body rules packet' cs)
  next_room =
      let parts : shown_body rules packet' cs ≡ shown_body rules packet' (ys ++ c ∷ []) ++ shown_body rules packet' zs =
      ap (shown_body rules packet') (sym next_whole) ∙ ap body (map-append (shown_claim rules packet') (ys ++ c ∷ []) zs)
      ∙ body-append (shown_claims rules packet' (ys ++ c ∷ [])) (shown_claims rules packet' zs) in
      let l = ap length parts in
      let s = next_size in
      omega (arith, length-append (shown_body rules packet' (ys ++ c ∷ [])) (shown_body rules packet' zs))

  pub next_written : (old p q : List ℕ) (at : ℕ) → 3 + length (shown_body rules packet' cs) ≤ length old → at ≡ 3 + length (shown_body rules packet' ys)
      → p ≡ written old 3 (shown_body rules packet' ys) → q ≡ written p at (encode (shown_claim rules packet' c)) → q ≡ written old 3 (shown_body rules packet' (ys ++ c ∷ []))
  next_written old p q at room ia ip iq =
      let r = next_room in
      iq ∙ ap (λ z. written z at (encode (shown_claim rules packet' c))) ip
      ∙ ap (λ n. written (written old 3 (shown_body rules packet' ys)) n (encode (shown_claim rules packet' c))) ia
      ∙ written_more old 3 (shown_body rules packet' ys) (encode (shown_claim rules packet' c)) (omega arith)
      ∙ ap (written old 3) (sym next_body)
