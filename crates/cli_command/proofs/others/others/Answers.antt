use Rattle.std.proofs.Common.{◌∙◌, ap, flat_map}
use Rattle.std.proofs.lemmas.Result.{IfOk-weaker}
use Rattle.cli_command.specs.Others.{unless_named}
use Rattle.cli_command.proofs.others.others.Goals as goal

pub returns : goal.returns
returns c =
    IfOk-weaker c.unnamed.result _ _ (λ found is. record {
      faults = c.in_ok-faults.faults.items;
      spelled = c.in_ok-faults.ensures.all;
      unspelled = c.in_ok-faults.ensures.early;
      are = is ∙ ap (flat_map (unless_named c.args.number c.args.place)) c.deref.ensures.value;
    }) c.unnamed.ensures
