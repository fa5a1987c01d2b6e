use Rattle.std.proofs.Common.{refl, rules, tests, ap, ◌∙◌}
use Rattle.std.specs.Prelude.{find}
use Rattle.std.proofs.lemmas.Iterator.Consumers.{YieldsList-from_first}
use Rattle.std.proofs.lemmas.Iterator.Search.{find_from_yields_List}
use Rattle.scan_task.specs.Listing.{TaskLine, is_task_name, task_shown}
use Rattle.liftplc_c.proofs.asking.listed.Goals as goal

pub returns : goal.returns
returns c =
    find_from_yields_List (λ (l : TaskLine). is_task_name l.name c.args.task) _ _ _ c.find.ensures.ran (YieldsList-from_first task_shown (λ left. left) c.tasks.result refl)
    (λ x b q k. search (rules, tests))
    ∙ ap (find (λ (l : TaskLine). is_task_name l.name c.args.task)) c.tasks.ensures.lines
