use Rattle.std.proofs.Common.{◌∙◌, sym, ap, slice_get}
use Rattle.load_scope.proofs.Seen.{scope_at, scope_there, read_at, none_at}
use Rattle.load_scope.proofs.meaning.meaning.Goals as goal

pub returns-in_default : goal.returns-in_default
returns-in_default c = λ unit there.
    let none = scope_there c.args.config.now c.args.config.now.units c.args.tables.now.scopes c.args.at c.requires.scopes (ap (λ l. slice_get l c.args.at) (sym c.as_slice.ensures) ∙ none_at c.as_slice.result.now c.args.at c.in_default.ensures.lookup.3) in
    let bad = sym none ∙ there in
    cc

pub returns : goal.returns
returns c = λ unit there.
    c.meaning_in.ensures unit
    (scope_at c.args.config.now c.args.config.now.units c.args.tables.now.scopes c.args.at unit c.in-Some.scope.now c.requires.scopes there
    (read_at c.as_slice.result.now c.args.tables.now.scopes c.args.at c.in-Some.scope.now c.as_slice.ensures c.in-Some.ensures.lookup.3.0 c.in-Some.ensures.lookup.1))
