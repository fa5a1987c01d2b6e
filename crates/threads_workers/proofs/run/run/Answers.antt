use Rattle.std.proofs.Common.{◌≡◌, ◌≤◌, ℕ, List, sym, subst}
use Rattle.std.specs.Prelude.{IfOk}
use Rattle.threads_workers.specs.declared.run.Ran.{Ran}
use Rattle.threads_workers.specs.Ran.{IsRun}
use Rattle.std.proofs.lemmas.List.Sorted.{All-permutation}
use Rattle.threads_workers.specs.Panels.{IsPressAt}
use Rattle.cli_host.specs.declared.press.Press.{Press}
use Rattle.cli_host.specs.declared.press.Setting.{Setting}
use Rattle.group_plant.specs.declared.switches.Switches.{Switches}
use Rattle.group_spec.specs.Image.{sizes_of}
use Rattle.group_rounds.specs.Ahead.{setting_round, Rises}
use Rattle.group_rounds.specs.Driven.{switches_in}
use Rattle.group_rounds.proofs.Fronts.{limit_in, set_alike}
use Rattle.threads_workers.proofs.Keeping.{ran_same}
use Rattle.threads_workers.proofs.run.run.Goals as goal

pub run_in-requires-clause-presses : goal.run_in-requires-clause-presses
run_in-requires-clause-presses g c κs within =
    rw c.deref.ensures.value (All-permutation (λ (p : Press). IsPressAt (sizes_of c.args.verified.config).floors p) c.args.plan.presses.now c.in-Ok.presses.items c.in-Ok.ensures.presses c.requires.presses)

pub run_in-requires-clause-rises : goal.run_in-requires-clause-rises
run_in-requires-clause-rises g c κs within = rw c.deref-in-Ok.ensures.value c.in-Ok.ensures.settings.rises

pub run_in-requires-clause-limit : goal.run_in-requires-clause-limit
run_in-requires-clause-limit g c κs within = λ n.
    let cars = (sizes_of c.args.verified.config).cars in
    let low = subst (λ (s : Switches). s.run_limit ≤ cars) (sym (set_alike cars c.args.plan.settings.now c.in-Ok.settings.items c.in-Ok.ensures.settings n)) (limit_in cars c.args.plan.settings.now c.requires.settings n) in
    subst (λ (ss : List Setting). (switches_in cars ss n).run_limit ≤ cars) (sym c.deref-in-Ok.ensures.value) low

pub returns-in-Ok : goal.returns-in-Ok
returns-in-Ok g c =
    let config = c.args.verified.config in
    let cars = (sizes_of config).cars in
    let rounds = c.args.plan.rounds in
    let settings = c.args.plan.settings.now in
    let ordered = c.in-Ok.settings.items in
    let presses = c.in-Ok.presses.items in
    let alike : switches_in cars ordered ≡ switches_in cars settings = λ i n. set_alike cars settings ordered c.in-Ok.ensures.settings n i in
    let ran = subst (λ (l : List Press). IfOk c.run_in.result (λ (ran : Ran). IsRun config (switches_in cars c.deref-in-Ok.result.now) rounds l ran.journal.items ran.left)) c.deref.ensures.value c.run_in.ensures in
    let set = subst (λ (l : List Setting). IfOk c.run_in.result (λ (ran : Ran). IsRun config (switches_in cars l) rounds presses ran.journal.items ran.left)) c.deref-in-Ok.ensures.value ran in
    ran_same config (switches_in cars settings) rounds c.args.plan.presses.now presses c.run_in.result c.in-Ok.ensures.presses
    (subst (λ (f : ℕ → Switches). IfOk c.run_in.result (λ (ran : Ran). IsRun config f rounds presses ran.journal.items ran.left)) alike set)
