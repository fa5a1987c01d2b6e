use Rattle.std.proofs.Common.{sym, ◌∙◌}
use Rattle.cli_host.specs.Messages.{message_of}
use Rattle.cli_messages.proofs.Telling.{writes_first, writes_both}
use Rattle.cli_messages.proofs.show.tell.Goals as goal

pub returns-then-is_ok : goal.returns-then-is_ok
returns-then-is_ok g c =
    writes_both c.put.result c.put_all.result _ _ _ _ (message_of c.args.fault.now) c.args.below.now (sym c.is_ok.ensures.value ∙ c.if-is_ok.true) c.put.ensures.ok c.put_all.ensures.ok c.put_all.ensures.failed c.put_all.ensures.front

pub returns-else-is_ok : goal.returns-else-is_ok
returns-else-is_ok g c =
    writes_first c.put.result _ _ _ (message_of c.args.fault.now) c.args.below.now (sym c.is_ok.ensures.value ∙ c.if-is_ok.false) c.put.ensures.failed c.put.ensures.front
