-- The standard functions in code (own rules).
use Rattle.il_statics.specs.declared.names.StandardFunction.{StandardFunction}
use Rattle.il_statics.specs.declared.names.StandardFunction.TheVariants.{Selected}
use Rattle.il_syntax.specs.declared.tree.Elementary.{Elementary}
use Rattle.il_semantics.specs.declared.known.Known.{Known}
use Rattle.il_semantics.specs.declared.known.Known.TheVariants.{Flag, Ranged}
use Rattle.ranges_transfer.specs.declared.meant.Meant.{Meant}
use Rattle.ranges_transfer.specs.Meant.{natural_of}

-- the type of a bare literal among a function's further arguments
abbrev pub argument_type_of : StandardFunction → Known → Meant → Elementary
argument_type_of Selected first m = natural_of m
argument_type_of _ (Ranged e i) m = e
argument_type_of _ Flag m = natural_of m
