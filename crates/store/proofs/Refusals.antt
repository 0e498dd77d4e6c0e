-- A call whose error becomes a fault, and a table whose list is as it was. Assumes nothing.
use Rattle.std.proofs.Common.{◌≡◌, ◌≤◌, Ok, Err, Result, refl, ap, subst, sym}
use Rattle.std.proofs.Math.Bridge.{le_prop}
use Rattle.std.proofs.lemmas.Bool.{false≢true}
use Rattle.std.specs.Prelude.{◌↔◌, IsOk, OnOk, OnErr, IsErrAnd, MatchResult}
use Rattle.claims.specs.declared.records.Claim.{Claim}
use Rattle.faults.specs.declared.Fault.{Fault}
use Rattle.list.specs.Held.{room}
use Rattle.list.specs.declared.lists.List.{List as Held}
use Rattle.store.specs.declared.tables.Table.{Table}

-- what holds of either answer holds of the answer with its error turned into the fault
pub refused_as : {X E A B L : Type 0} {Q : E → Fault → Type 0} (P : Result X Fault → Type 0) (f : Fault) (r : Result X E) (s : Result X Fault)
    → MatchResult r (λ x. s ≡ Ok x) (λ e. IsErrAnd s (Q e)) → ((e : E) (g : Fault) → Q e g → g ≡ f)
    → IsOk r ↔ L → OnOk r A → OnErr r B → ((x : X) → L → A → P (Ok x)) → ((L → ⊥) → B → P (Err f)) → P s
refused_as P f (Ok x) s made same when after before ok err = subst P (sym made) (ok x (when.0 refl) after)
refused_as P f (Err e) (Ok y) made same when after before ok err = absurd made
refused_as P f (Err e) (Err g) made same when after before ok err =
    subst (λ h. P (Err h)) (sym (same e g made)) (err (λ l. false≢true (when.1 l)) before)

pub table_same : (t : Table) (h : Held Claim) → h ≡ t.held → (few : room h ≤ 512) → ◌≡◌ {A = Table} (record { held = h; few = few }) t
table_same t h e few =
    subst (λ k. (p : room k ≤ 512) → ◌≡◌ {A = Table} (record { held = k; few = p }) t) (sym e)
    (λ p. ap (λ q. record { held = t.held; few = q }) (le_prop p t.few)) few
