use Rattle.load_scope.proofs.Seen.{on_ok, result_put}
use Rattle.load_scope.proofs.tables.put_result.Goals as goal

pub returns-in-Function : goal.returns-in-Function
returns-in-Function c =
    on_ok c.put_new.result (λ added. result_put c.args.unit.now.kind c.args.unit.now.name.name c.in-Function.scalar c.in-Function.field-1 c.args.own.now c.put_new.new.self c.as_str.result.now c.in-Function.is c.as_str.ensures added) c.put_new.ensures.ok
