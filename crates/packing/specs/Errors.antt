-- Why a list became no packet, where the list was not read.
use Rattle.listing.specs.declared.mistakes.ListError.{ListError}
use Rattle.listing.specs.declared.mistakes.ListError.TheVariants as list
use Rattle.packing.specs.declared.packs.PackError.{PackError}
use Rattle.packing.specs.declared.packs.PackError.TheVariants.{Memory, Line}

abbrev pub of_list : ListError → PackError
of_list list.Memory = Memory
of_list (list.Line found) = Line found
