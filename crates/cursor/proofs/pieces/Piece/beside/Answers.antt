use Rattle.std.proofs.Common.{◌≡◌, rules, tests}
use Rattle.std.proofs.lemmas.Iterator.{YieldsList-from_slice}
use Rattle.std.proofs.lemmas.Iterator.Search.{find_from_yields_List}
use Rattle.std.specs.List.{find}
use Rattle.std.specs.Option.{option_map}
use Rattle.words.specs.Terminals.{is, terminal}
use Rattle.cursor.proofs.Choosing.{found}
use Rattle.cursor.proofs.pieces.Piece.beside.Goals as goal

pub returns : goal.returns
returns g c =
    let m = terminal c.args.self.now.terminal in
    let f : option_map (λ y. y.now) c.find.result ≡ find (λ e. is e.0 m) c.args.table.now =
    find_from_yields_List (λ e. is e.0 m) _ _ c.find.result c.find.ensures.ran (YieldsList-from_slice c.args.table.now (cc)) (λ x b q k. search rules) in
    let t = found c.args.table.now m in
    search (rules, tests)
