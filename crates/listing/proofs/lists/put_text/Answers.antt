use Rattle.std.proofs.Common.{◌≡◌, ◌++◌, length, ap, ◌∙◌, arith}
use Rattle.listing.proofs.Placed.{stands}
use Rattle.notation.proofs.Spelt.{whole_even}
use Rattle.listing.proofs.lists.put_text.Goals as goal

pub returns-clause-stands : goal.returns-clause-stands
returns-clause-stands c packet =
    let old = c.args.text.now.bytes.items in
    let more = c.args.field.now.text.bytes.items in
    let a = whole_even old c.args.text.now.whole in
    let b = whole_even more c.args.field.now.text.whole in
    let m : c.text-more.result.now.bytes.items ≡ more = ap (λ t. t.bytes.items) c.text-more.ensures in
    let e : length c.bytes.result.now ≡ length old = ap length c.bytes.ensures in
    let f : length c.bytes-2.result.now ≡ length more = ap length (c.bytes-2.ensures ∙ m) in
    stands old more _ packet _ _ (omega arith) (omega arith) (c.in_ok-append.ensures.more ∙ ap (λ t. old ++ t) m)
