use Rattle.std.proofs.Common.{map}
use Rattle.reasons_names.specs.NamesTasks.{writer_shown, writer_of}
use Rattle.reasons_names.proofs.TypeTexts.{read_more}
use Rattle.reasons_names.proofs.names_tasks.push_lines.Goals as goal

pub lines-preserved : goal.lines-preserved
lines-preserved c =
    read_more (writer_of c.args.names.now c.args.name.now) c.args.lines.now c.lines.line-index c.line-item.result (map writer_shown c.args.writers.now.items) (map writer_shown c.lines.writers.items) (map writer_shown c.push_line.new.writers.items)
    c.lines-test.true c.line-item.is c.lines.invariant c.in_ok-push_line.ensures
