-- No two slots of the globals have one path.
use Rattle.std.specs.Prelude.{zero}
use Rattle.il_syntax.specs.declared.tree.Config.{Config}
use Rattle.il_statics.specs.Faults.{HasNoFault, Broken, Declaring}
use Rattle.il_statics.specs.Written.{IsWritten}
use Rattle.il_semantics.specs.Meaning.{entities}
use Rattle.load_slots.specs.Layout.{AreOnce}
use Rattle.load_slots.specs.Program.{global_cells}
use Rattle.load_slots.proofs.Distinct.{blocks_named, globals_named}
use Rattle.load_slots.proofs.Placed.{task_once}

pub globals_once : (c : Config) → HasNoFault (Broken Declaring c) → IsWritten c → AreOnce (global_cells c)
globals_once c unbroken written = task_once c (blocks_named c unbroken written) zero (entities c.globals) (globals_named c unbroken written)
