use Rattle.std.proofs.Common.{rules}
use Rattle.std.proofs.lemmas.List.{take-append-le}
use Rattle.store.proofs.Nths.{slice_get-append_last}
use Rattle.store.proofs.rounds.append_read_cut.Goals as goal

pub returns : goal.returns
returns g c = search (rules, slice_get-append_last, take-append-le)
