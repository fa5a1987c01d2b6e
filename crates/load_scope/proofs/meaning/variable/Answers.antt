use Rattle.std.proofs.Common.{◌∙◌, sym, ap, slice_get}
use Rattle.load_scope.proofs.Seen.{scope_at, scope_there, read_at, none_at}
use Rattle.load_scope.proofs.meaning.variable.Goals as goal

pub returns-in-Some : goal.returns-in-Some
returns-in-Some c = λ config unit tables there.
    c.variable_in.ensures config unit
    (scope_at config config.units c.args.tables.now.scopes c.args.at unit c.in-Some.scope.now tables.scopes there
    (read_at c.as_slice.result.now c.args.tables.now.scopes c.args.at c.in-Some.scope.now c.as_slice.ensures c.in-Some.ensures.lookup.3.0 c.in-Some.ensures.lookup.1))

pub returns-in-None : goal.returns-in-None
returns-in-None c = λ config unit tables there.
    let none = scope_there config config.units c.args.tables.now.scopes c.args.at tables.scopes (ap (λ l. slice_get l c.args.at) (sym c.as_slice.ensures) ∙ none_at c.as_slice.result.now c.args.at c.in-None.ensures.lookup.3) in
    let bad = sym none ∙ there in
    cc
