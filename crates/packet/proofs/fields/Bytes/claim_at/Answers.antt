use Rattle.std.proofs.Common.{Err, sym, ap, ◌∙◌}
use Rattle.std.proofs.lemmas.Result.{err_from_is_err_and}
use Rattle.faults.specs.declared.Cause.TheVariants.{UnknownValueType}
use Rattle.units.specs.Units.{units}
use Rattle.claims.specs.Meaning.{named}
use Rattle.packet.proofs.Steps.{need_some, err_is, named_none, value_fails, claim_unsound, claim_there}
use Rattle.packet.proofs.fields.Bytes.claim_at.Goals as goal

pub returns-in_err-kind-clause-means : goal.returns-in_err-kind-clause-means
returns-in_err-kind-clause-means c =
    let bs = c.args.self.now.bytes.now in
    let it = need_some _ _ c.in_ok-typ.ensures.means in
    let iw = need_some _ _ c.in_ok-word.ensures.means in
    let says = sym (c.value_type.ensures ∙ ap (λ z. named (units z)) c.part.ensures) in
    let e = named_none bs c.args.at c.in_ok-typ.typ c.in_ok-typ.ensures.lies it c.past_text.result c.past_text.ensures c.in_ok-word.word c.in_ok-word.ensures.lies iw (says ∙ c.in_err-kind.ensures.ok_part) in
    let p = err_from_is_err_and c.from_residual-in_err-kind.result c.from_residual-in_err-kind.ensures.1 in
    rw (p.1, p.2) (ap Err (err_is c.value_type.result UnknownValueType c.in_err-kind.field-0.0 c.in_err-kind.ensures.value c.in_err-kind.ensures.ok_part) ∙ sym e)

pub returns-in_err-value-clause-means : goal.returns-in_err-value-clause-means
returns-in_err-value-clause-means c =
    let bs = c.args.self.now.bytes.now in
    let it = need_some _ _ c.in_ok-typ.ensures.means in
    let iw = need_some _ _ c.in_ok-word.ensures.means in
    let says = sym (c.value_type.ensures ∙ ap (λ z. named (units z)) c.part.ensures) in
    let e = value_fails bs c.args.at c.in_ok-typ.typ c.in_ok-typ.ensures.lies it c.past_text.result c.past_text.ensures c.in_ok-word.word c.in_ok-word.ensures.lies iw c.past_text-2.result c.past_text-2.ensures c.in_ok-kind.kind (says ∙ c.in_ok-kind.ensures.ok_part) c.in_err-value.field-0.0 c.in_err-value.ensures.means in
    let p = err_from_is_err_and c.from_residual-in_err-value.result c.from_residual-in_err-value.ensures.1 in
    rw (p.1, p.2) e

pub returns-then-not-holds_claim-clause-means : goal.returns-then-not-holds_claim-clause-means
returns-then-not-holds_claim-clause-means c =
    let bs = c.args.self.now.bytes.now in
    let it = need_some _ _ c.in_ok-typ.ensures.means in
    let iw = need_some _ _ c.in_ok-word.ensures.means in
    let says = sym (c.value_type.ensures ∙ ap (λ z. named (units z)) c.part.ensures) in
    sym (claim_unsound bs c.args.at c.in_ok-typ.typ c.in_ok-typ.ensures.lies it c.past_text.result c.past_text.ensures c.in_ok-word.word c.in_ok-word.ensures.lies iw c.past_text-2.result c.past_text-2.ensures c.in_ok-kind.kind (says ∙ c.in_ok-kind.ensures.ok_part) c.in_ok-value.value (sym c.in_ok-value.ensures.means) (sym c.if-not-holds_claim.ensures))

pub returns-clause-means : goal.returns-clause-means
returns-clause-means c =
    let bs = c.args.self.now.bytes.now in
    let it = need_some _ _ c.in_ok-typ.ensures.means in
    let iw = need_some _ _ c.in_ok-word.ensures.means in
    let says = sym (c.value_type.ensures ∙ ap (λ z. named (units z)) c.part.ensures) in
    sym (claim_there bs c.args.at c.in_ok-typ.typ c.in_ok-typ.ensures.lies it c.past_text.result c.past_text.ensures c.in_ok-word.word c.in_ok-word.ensures.lies iw c.past_text-2.result c.past_text-2.ensures c.in_ok-kind.kind (says ∙ c.in_ok-kind.ensures.ok_part) c.in_ok-value.value (sym c.in_ok-value.ensures.means) (sym c.if-not-holds_claim.ensures))
