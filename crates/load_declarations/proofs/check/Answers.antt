use Rattle.std.proofs.Common.{sym, subst}
use Rattle.il_statics.specs.Faults.{IsRefusedBy, BreaksDeclarations}
use Rattle.load_declarations.proofs.check.Goals as goal

pub returns-in-Some-clause-refused : goal.returns-in-Some-clause-refused
returns-in-Some-clause-refused c =
    subst (IsRefusedBy (BreaksDeclarations c.args.names.now)) (sym c.refusal.ensures) (record { broken = c.in_ok-found.ensures.holds c.in-Some.found c.in-Some.is; first = c.in_ok-found.ensures.first c.in-Some.found c.in-Some.is })

pub returns-in-None-clause-accepted : goal.returns-in-None-clause-accepted
returns-in-None-clause-accepted c = c.in_ok-found.ensures.none c.in-None.is
