use Rattle.std.proofs.Common.{map}
use Rattle.reasons_names.specs.NamesNear.{candidate_shown}
use Rattle.reasons_names.specs.NamesKnown.{declared_instances}
use Rattle.reasons_names.proofs.TypeTexts.{read_more}
use Rattle.reasons_names.proofs.names_known.push_instances.Goals as goal

pub declarations-preserved : goal.declarations-preserved
declarations-preserved c =
    read_more declared_instances c.args.declarations.now c.declarations.declaration-index c.declaration-item.result (map candidate_shown c.args.candidates.now.items) (map candidate_shown c.declarations.candidates.items) (map candidate_shown c.push_instances_of.new.candidates.items)
    c.declarations-test.true c.declaration-item.is c.declarations.invariant c.in_ok-push_instances_of.ensures
