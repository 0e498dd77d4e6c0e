-- What holds of the list of an overlay. Assumes nothing.
use Rattle.std.proofs.Common.{◌≡◌, ℕ, ◌+◌, ◌-◌, ◌≤◌, min, List, ◌++◌, length, take, sym, ap, ◌∙◌, arith, length-append, length-take, take_all, take-take}
use Rattle.std.proofs.Math.Seq.{take-append-add}
use Rattle.claims.specs.declared.records.Claim.{Claim}
use Rattle.store.specs.Bounds.{Bounds}
use Rattle.store.specs.Overlays.{laid_over, capacity_over}

pub laid_length : (b o : List Claim) → length b ≤ 512 → length (laid_over b o) ≡ min (length b + length o) 512
laid_length b o h = simp (length-append, length-take) (omega arith)

pub laid_bounds : (b o : List Claim) → length b ≤ 512 → length o ≤ 128 → Bounds (length b) (laid_over b o) (capacity_over b)
laid_bounds b o h few =
    let len = laid_length b o h in
    record { low = omega arith; high = omega arith; few = omega arith }

pub laid_cut : (b o : List Claim) (n : ℕ) → length b ≤ n → n ≤ length b + length o → n ≤ 512 → laid_over b (take (n - length b) o) ≡ take n (laid_over b o)
laid_cut b o n h hn few =
    let at : n ≡ length b + (n - length b) = omega arith in
    let len = length-take (n - length b) o in
    let left : take (512 - length b) (take (n - length b) o) ≡ take (n - length b) o = take_all (512 - length b) (take (n - length b) o) (omega arith) in
    ap (λ r. b ++ r) left
    ∙ sym (ap (λ j. take j (laid_over b o)) at ∙ take-append-add b (take (512 - length b) o) (n - length b)
    ∙ ap (λ r. b ++ r) (take-take (n - length b) (512 - length b) o (omega arith)))
