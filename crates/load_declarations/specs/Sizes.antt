-- The sizes of a group, one after another.
use Rattle.std.specs.Prelude.{ℤ, int_le, not, ◌&&◌, Option}
use Rattle.il_syntax.specs.declared.tree.Config.{Config}
use Rattle.il_syntax.specs.declared.tree.Size.{Size}
use Rattle.il_statics.specs.Least.{NumberedFault, fault_of, earlier_of}
use Rattle.il_statics.specs.Limits.{cars_limits, floors_limits, slots_limits}

-- 23 where a size is outside its limits
abbrev pub size_of : Size → ℤ → ℤ → Option NumberedFault
size_of size lower upper = fault_of (not (int_le lower size.value && int_le size.value upper)) 23 size.place

-- the same for the three sizes
abbrev pub sizes_found : Config → Option NumberedFault
sizes_found config =
    earlier_of (size_of config.cars cars_limits.lower cars_limits.upper)
    (earlier_of (size_of config.floors floors_limits.lower floors_limits.upper) (size_of config.slots slots_limits.lower slots_limits.upper))
