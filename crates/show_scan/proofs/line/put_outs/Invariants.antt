use Rattle.std.proofs.Common.{◌≡◌, ◌++◌, take, string_bytes}
use Rattle.std.specs.Prelude.{flat_map}
use Rattle.show_scan.specs.Lines.{out_text}
use Rattle.show_scan.proofs.line.put_outs.Given as goal

abbrev pub invariant-arguments : goal.invariant-arguments
invariant-arguments l = string_bytes l.text ≡ string_bytes l.initial.text ++ flat_map (out_text l.view.state.values l.path l.instance) (take l.argument-index l.arguments)
