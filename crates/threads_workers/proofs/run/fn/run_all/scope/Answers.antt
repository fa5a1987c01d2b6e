use Rattle.std.proofs.Common.{rules, ◌∙◌}
use Rattle.threads_workers.proofs.Presses.{all_idle, all_pressed}
use Rattle.threads_workers.proofs.run.fn.run_all.scope.Goals as goal

pub start_panels-requires : goal.start_panels-requires
start_panels-requires g c = record { new = all_idle c.captures.desk.now c.captures.panels.items c.requires.panels c.requires.each; presses = c.requires.presses }

pub returns : goal.returns
returns g c = record {
  tasks = search rules;
  counts = search rules;
  refreshes = search rules;
  entered = search rules;
  desk = (search rules, (c.in_ok-panels-2.ensures.count ∙ c.in_ok-panels.ensures.count ∙ c.requires.panels.0, c.in_ok-panels-2.ensures.tables));
  pressed = record {
    all = λ call. c.in_ok-panels-2.ensures.pressed call ∙ c.in_ok-panels.ensures.made call ∙ all_pressed c.captures.desk.now c.captures.panels.items c.requires.panels c.requires.each call c.captures.presses.now c.requires.presses;
    news = c.in_ok-panels-2.ensures.news;
  };
}
