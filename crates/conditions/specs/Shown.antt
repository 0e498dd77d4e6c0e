-- What the conditions of a rule say through the units of the rule text.
use Rattle.std.specs.Prelude.{ℕ, List, map}
use Rattle.std.specs.Option.{option_map}
use Rattle.words.specs.Words.{Word}
use Rattle.grammar.specs.Tree as T
use Rattle.cursor.specs.Pieces.{word_of}
use Rattle.cursor.specs.declared.pieces.Piece.{Piece}
use Rattle.list.specs.Few.{Few}
use Rattle.conditions.specs.declared.tree.Cond.{Cond}
use Rattle.conditions.specs.declared.tree.Cond.TheVariants as cond
use Rattle.conditions.specs.declared.tree.Oper.{Oper}
use Rattle.conditions.specs.declared.tree.Oper.TheVariants as oper
use Rattle.conditions.specs.declared.tree.Selection.{Selection}

abbrev pub oper_of : List ℕ → Oper → T.Oper
oper_of us oper.Equal = T.eq
oper_of us oper.NotEqual = T.neq
oper_of us oper.Matches = T.match
oper_of us oper.NotMatches = T.no_match

abbrev pub cond_of : List ℕ → Cond Piece → T.Cond
cond_of us (cond.Type o l) = T.type_cond (oper_of us o) (word_of us l)
cond_of us (cond.Value o l p m) = T.value_cond (oper_of us o) (word_of us l) (oper_of us p) (word_of us m)

-- an operator and its right side
abbrev pub half_of : List ℕ → Oper × Piece → T.Oper × Word
half_of us h = (oper_of us h.0, word_of us h.1)

abbrev pub conds_of : List ℕ → Few (Cond Piece) → List T.Cond
conds_of us cs = map (cond_of us) cs.items

abbrev pub selection_of : List ℕ → Selection → T.Selection
selection_of us s = record { name = option_map (word_of us) s.name; conds = conds_of us s.conds }

abbrev pub selections_of : List ℕ → Few Selection → List T.Selection
selections_of us ss = map (selection_of us) ss.items
