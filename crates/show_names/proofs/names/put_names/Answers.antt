use Rattle.std.proofs.Common.{◌∙◌}
use Rattle.show_names.specs.Names.{name_shown, names_left}
use Rattle.show_names.proofs.Seen.{told_put}
use Rattle.show_names.proofs.names.put_names.Goals as goal

pub names-preserved : goal.names-preserved
names-preserved c = λ name.
    told_put c.names.table c.put.new.self (names_left c.names.declared-iterator) (names_left c.next.new.self) (name_shown c.in-Some.declared) c.in-Some.ensures.steps c.in_ok-put.ensures.ok name
    ∙ c.names.invariant name
