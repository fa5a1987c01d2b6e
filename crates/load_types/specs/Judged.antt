-- Units that are not too long (own rules).
use Rattle.std.specs.Prelude.{◌≡◌, ℕ, ◌<◌, List, Some, length, slice_get}
use Rattle.il_syntax.specs.declared.tree.Unit.{Unit as ProgramUnit}

-- each has fewer instructions than this
abbrev pub AreShort : List ProgramUnit → Type 0
AreShort units = (at : ℕ) (unit : ProgramUnit) → slice_get units at ≡ Some unit → length unit.body.steps < 4294967295
