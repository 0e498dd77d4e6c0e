-- What loading hands out: the rules of the text, or a fault; and the buffer either way.
use Rattle.std.specs.Prelude.{ℕ, List, Ok, Err, Result}
use Rattle.parts.specs.declared.Part.{Part}
use Rattle.rules.specs.Buffer.{tree_of}
use Rattle.rules.specs.Judged.{Verdict, accepted, refused}
use Rattle.rules.specs.declared.checked.Rules.{Rules}
use Rattle.rules.specs.declared.checked.load.Refused.{Refused}

abbrev pub verdict_of : List ℕ → Result Rules Refused → Verdict
verdict_of bytes (Ok rules) = accepted (tree_of bytes)
verdict_of bytes (Err r) = refused r.fault

abbrev pub parts_of : Result Rules Refused → List Part
parts_of (Ok rules) = rules.parts.now
parts_of (Err r) = r.parts.now
