use Rattle.group_rounds.proofs.Taking.{commits}
use Rattle.group_rounds.proofs.scan.finish_and_commit.Goals as goal

pub returns-clause-taken : goal.returns-clause-taken
returns-clause-taken c =
    commits c.args.world.now.program c.finish.new.self.program c.finish.ensures.same c.args.world.now.world c.finish.new.self.world c.apply.new.self.world c.args.task c.finish.result
    c.apply.result c.apply.new.report c.in_default.not-Err c.finish.ensures.model c.apply.ensures.model
