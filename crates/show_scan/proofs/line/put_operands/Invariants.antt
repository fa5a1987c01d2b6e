use Rattle.std.proofs.Common.{◌≡◌, ◌++◌, take, string_bytes}
use Rattle.std.specs.Prelude.{flat_map}
use Rattle.il_syntax.specs.declared.tree.Operand.{Operand}
use Rattle.show_scan.specs.Stands.{reference_text}
use Rattle.show_scan.proofs.line.put_operands.Given as goal

abbrev pub invariant-operands : goal.invariant-operands
invariant-operands l = string_bytes l.text ≡ string_bytes l.initial.text ++ flat_map (λ (o : Operand). reference_text l.view.state.values l.path o.reference) (take l.operand-index l.operands)
