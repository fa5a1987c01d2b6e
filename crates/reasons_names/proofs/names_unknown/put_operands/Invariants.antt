use Rattle.std.proofs.Common.{◌≡◌, ◌++◌, flat_map, take, string_bytes}
use Rattle.reasons_names.specs.NamesUnknown.{read_text}
use Rattle.reasons_names.proofs.names_unknown.put_operands.Given as goal

abbrev pub invariant-operands : goal.invariant-operands
invariant-operands l = string_bytes l.text ≡ string_bytes l.initial.text ++ flat_map (read_text l.here.config l.here.unit) (take l.operand-index l.operands)
