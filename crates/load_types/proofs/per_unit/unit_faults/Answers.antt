use Rattle.std.proofs.Common.{IfOk, subst}
use Rattle.std.proofs.lemmas.Result.{IfOk-weaker}
use Rattle.il_statics.specs.Written.{HasFewInstructions}
use Rattle.load_declarations.specs.UnitFaults.{AreFirst}
use Rattle.load_declarations.proofs.UnitFaults.{first_broken}
use Rattle.load_types.specs.Faults.{UnitBreaks}
use Rattle.load_types.proofs.Short.{few_short}
use Rattle.load_types.proofs.Units.{broken_by}
use Rattle.load_types.proofs.per_unit.unit_faults.Goals as goal

pub faults_of-requires : goal.faults_of-requires
faults_of-requires c = record { room = few_short c.names-names.result.now (subst HasFewInstructions c.written.ensures c.tree-few.ensures.few) }

pub returns-clause-broken : goal.returns-clause-broken
returns-clause-broken c =
    let config = c.args.declared.now in
    let all : IfOk c.faults_of.result (λ faults. AreFirst (UnitBreaks config) config.units faults.items) = subst (λ d. IfOk c.faults_of.result (λ faults. AreFirst (UnitBreaks d) d.units faults.items)) c.names-names.ensures c.faults_of.ensures in
    IfOk-weaker c.faults_of.result _ _ (λ faults first fault among. let of = first_broken (UnitBreaks config) config.units faults.items first fault among in broken_by config of.0 fault.number fault.place of.1 of.2) all
