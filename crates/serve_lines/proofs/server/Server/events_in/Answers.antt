use Rattle.std.proofs.Common.{rules, arith, ◌≡◌, length, subst, ap, ◌∙◌}
use Rattle.scan_task.specs.Scanning.{Program, IsRunnable}
use Rattle.scan_task.proofs.Sizes.{sizes_fit}
use Rattle.group_spec.specs.declared.image.Sizes.{Sizes}
use Rattle.group_spec.specs.Image.{sizes_of}
use Rattle.group_rounds.proofs.Driving.{entries_fit}
use Rattle.serve_lines.specs.declared.said.Said.{Said}
use Rattle.serve_lines.specs.Saying.{events_of}
use Rattle.serve_lines.proofs.Tracing.{round_length}
use Rattle.serve_lines.proofs.server.Server.events_in.Goals as goal

pub overflow_add-result-in-Round : goal.overflow_add-result-in-Round
overflow_add-result-in-Round c =
    let p = c.args.self.now.rounds.world.program in
    let fit = sizes_fit p.config (subst (λ (x : Program). IsRunnable x.config) c.verified.ensures c.config-config.ensures.runnable) in
    let few = entries_fit p.config c.args.self.now.rounds.tasks c.args.self.now.rounds.fits fit.0.1 in
    let low = fit.1.1 in
    let floors : c.from.result ≡ (sizes_of p.config).floors = c.from.ensures ∙ ap (λ (s : Sizes). s.floors) c.sizes.ensures in
    let many : c.len.result ≡ length c.args.self.now.rounds.tasks = search rules in
    omega (arith, few, low, floors, many)

pub returns-in-Round : goal.returns-in-Round
returns-in-Round c =
    let p = c.args.self.now.rounds.world.program in
    let floors : c.from.result ≡ (sizes_of p.config).floors = c.from.ensures ∙ ap (λ (s : Sizes). s.floors) c.sizes.ensures in
    let many : c.len.result ≡ length c.args.self.now.rounds.tasks = search rules in
    let tasks = ap length c.args.self.now.rounds.fits in
    let events = ap (λ (s : Said). length (events_of p.config s)) c.in-Round.is in
    let all = round_length p.config c.in-Round.field-0 in
    omega (arith, floors, many, tasks, events, all)
