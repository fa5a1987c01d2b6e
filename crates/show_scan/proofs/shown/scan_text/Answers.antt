use Rattle.std.proofs.Common.{◌++◌, take, sym, ap, ◌∙◌, subst}
use Rattle.scan_task.specs.Scanning.{Program}
use Rattle.group_journal.specs.Rounds.{TakesAll, IsRefusedAt}
use Rattle.show_scan.specs.Shown.{heading, lines_text}
use Rattle.show_scan.proofs.Fronts.{refused_in_front, early_in_front}
use Rattle.show_scan.proofs.shown.scan_text.Goals as goal

pub returns-in-Err-clause-stopped : goal.returns-in-Err-clause-stopped
returns-in-Err-clause-stopped c =
    let config = c.args.world.now.program.config in
    let opening = c.args.world.now.world in
    let index = c.in-Err.refused.index in
    let why = c.in-Err.refused.fault in
    let refused : IsRefusedAt config opening (take c.in-Some.it.front c.args.events.now) index why = c.in-Err.ensures.refused in
    record {
      it = c.in-Some.it;
      is = sym c.choose.ensures ∙ c.in-Some.is;
      early = early_in_front config opening c.in-Some.it.front c.args.events.now index why refused;
      refused = refused_in_front config opening c.in-Some.it.front c.args.events.now index why refused;
    }

pub returns-clause-shown : goal.returns-clause-shown
returns-clause-shown c = record {
  it = c.in-Some.it;
  is = sym c.choose.ensures ∙ c.in-Some.is;
  started = c.replay_first.new.world.world;
  takes = c.in_default-replay_first.ensures.taken;
  text_is =
      c.in_ok-put_lines.ensures.lines
      ∙ ap (λ t. t ++ lines_text c.replay_first.new.world.program.config c.args.source.now 1000000 c.args.asked c.replay_first.new.world.world) c.in_ok-text.ensures
      ∙ ap (λ (p : Program). heading c.args.asked c.in-Some.it ++ lines_text p.config c.args.source.now 1000000 c.args.asked c.replay_first.new.world.world) c.replay_first.ensures.same;
}
