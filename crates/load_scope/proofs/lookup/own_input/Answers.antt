use Rattle.std.proofs.Common.{◌∙◌, sym, ap, slice_get}
use Rattle.load_scope.proofs.Seen.{unit_of, own_entry, own_entry_none, read_at, none_at, scope_there}
use Rattle.load_scope.proofs.lookup.own_input.Goals as goal

pub returns-in-Some : goal.returns-in-Some
returns-in-Some c = λ config are.
    let unit = unit_of config config.units c.args.tables.now.scopes c.args.number c.in-Some.scope.now are.scopes (read_at c.as_slice.result.now c.args.tables.now.scopes c.args.number c.in-Some.scope.now c.as_slice.ensures c.in-Some.ensures.lookup.3.0 c.in-Some.ensures.lookup.1) in
    own_entry config (λ b. b.inputs) (slice_get config.units c.args.number) unit.0 c.args.word.now c.get-in-Some.result unit.1 (c.get-in-Some.ensures ∙ unit.2.inputs c.args.word.now)

pub returns-in-None : goal.returns-in-None
returns-in-None c = λ config are.
    own_entry_none config (λ b. b.inputs) (slice_get config.units c.args.number) c.args.word.now
    (scope_there config config.units c.args.tables.now.scopes c.args.number are.scopes (ap (λ l. slice_get l c.args.number) (sym c.as_slice.ensures) ∙ none_at c.as_slice.result.now c.args.number c.in-None.ensures.lookup.3))
