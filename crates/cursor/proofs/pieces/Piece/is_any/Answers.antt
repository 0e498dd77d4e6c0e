use Rattle.std.proofs.Common.{◌∙◌, rules}
use Rattle.words.specs.Terminals.{is, terminal}
use Rattle.cursor.proofs.Expecting.{same_any}
use Rattle.cursor.proofs.pieces.Piece.is_any.Goals as goal

pub returns : goal.returns
returns c = c.contains.ensures.value ∙ same_any _ (λ k. is k (terminal c.args.self.now.terminal)) (λ k. search rules) c.args.kinds.now
