use Rattle.std.proofs.Common.{◌≡◌, map, drop}
use Rattle.load_slots.specs.Making.{variable, added}
use Rattle.load_slots.proofs.variables.add_names.Given as goal

-- what is there, with what is left of the names, is all
abbrev pub invariant-names : goal.invariant-names
invariant-names l = added l.list (map (λ n. variable n.name l.declared l.initial') (drop l.named-index l.names)) ≡ added l.initial.list (map (λ n. variable n.name l.declared l.initial') l.names)
