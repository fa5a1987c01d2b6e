use Rattle.std.proofs.lemmas.Result.{on_ok_weaker}
use Rattle.show_names.proofs.Pushes.{all_pushed}
use Rattle.show_names.proofs.global_uses.add_external.Goals as goal

pub returns-clause-lines : goal.returns-clause-lines
returns-clause-lines c =
    on_ok_weaker c.add_places-3.result (λ called.
    all_pushed c.args.lines.now c.add_places.new.lines c.add_places-2.new.lines c.add_places-3.new.lines c.args.name.now c.args.uses.now.unit.now c.in_ok-add_places.ensures.lines c.in_ok-add_places-2.ensures.lines called)
    c.add_places-3.ensures.lines
