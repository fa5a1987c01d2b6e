use Rattle.std.proofs.Common.{◌∙◌, sym, ap, slice_get}
use Rattle.load_scope.proofs.Owned.{inputs_are}
use Rattle.load_scope.proofs.Seen.{unit_of, read_at, none_at, scope_there}
use Rattle.load_scope.proofs.lookup.input_scalars.Goals as goal

pub returns-in-Some-clause-some : goal.returns-in-Some-clause-some
returns-in-Some-clause-some c = λ config are.
    let unit = unit_of config config.units c.args.tables.now.scopes c.args.number c.in-Some.scope.now are.scopes (read_at c.as_slice.result.now c.args.tables.now.scopes c.args.number c.in-Some.scope.now c.as_slice.ensures c.in-Some.ensures.lookup.3.0 c.in-Some.ensures.lookup.1) in
    inputs_are (slice_get config.units c.args.number) unit.0 c.as_slice-in-Some.result.now unit.1 (c.as_slice-in-Some.ensures ∙ unit.2.scalars)

pub returns-in-None-clause-none : goal.returns-in-None-clause-none
returns-in-None-clause-none c = λ _ config are. scope_there config config.units c.args.tables.now.scopes c.args.number are.scopes (ap (λ l. slice_get l c.args.number) (sym c.as_slice.ensures) ∙ none_at c.as_slice.result.now c.args.number c.in-None.ensures.lookup.3)
