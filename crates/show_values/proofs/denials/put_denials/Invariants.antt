use Rattle.std.proofs.Common.{◌≡◌, ◌++◌, take, string_bytes}
use Rattle.show_values.specs.Denials.{denials_rows}
use Rattle.show_values.proofs.denials.put_denials.Given as goal

abbrev pub invariant-denials : goal.invariant-denials
invariant-denials l = string_bytes l.text ≡ string_bytes l.initial.text ++ denials_rows l.form l.round (take l.denial-index l.denials)
