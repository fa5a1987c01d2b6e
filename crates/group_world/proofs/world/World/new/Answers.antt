use Rattle.std.proofs.Common.{◌≡◌, ◌∙◌, sym, ap}
use Rattle.std.proofs.lemmas.Result.{IfOk-at_ok, IfOk-weaker}
use Rattle.scan_task.specs.Scanning.{Program}
use Rattle.group_spec.specs.World.{opening, opening_group}
use Rattle.group_world.specs.Groups.{GroupOf}
use Rattle.group_world.specs.Setting.{IsSeated, resting}
use Rattle.group_world.specs.Worlds.{WorldOf}
use Rattle.group_world.proofs.Resuming.{opening_rests}
use Rattle.group_world.proofs.world.World.new.Goals as goal

pub resume-requires-clause-program : goal.resume-requires-clause-program
resume-requires-clause-program c =
    let ok = c.in_ok-verified.ensures.ok in
    IfOk-at_ok (λ (k : GroupOf). k.config ≡ c.args.verified.config) ok.1 c.new-core.ensures.config ∙ ap (λ (p : Program). p.config) (sym ok.0)

pub resume-requires-clause-seated : goal.resume-requires-clause-seated
resume-requires-clause-seated c = IfOk-at_ok (λ (k : GroupOf). IsSeated k.config k.group) c.in_ok-verified.ensures.ok.1 c.new-core.ensures.seated

pub returns-clause-same : goal.returns-clause-same
returns-clause-same c =
    IfOk-weaker c.resume.result (λ (w : WorldOf). w.program ≡ c.in_ok-verified.verified) (λ (w : WorldOf). w.program ≡ c.args.verified) (λ w is. is ∙ c.in_ok-verified.ensures.ok.0) c.resume.ensures.same

pub returns-clause-opening : goal.returns-clause-opening
returns-clause-opening c =
    let ok = c.in_ok-verified.ensures.ok in
    let config = c.args.verified.config in
    let group = IfOk-at_ok (λ (k : GroupOf). k.group ≡ opening_group config) ok.1 c.new-core.ensures.group in
    IfOk-weaker c.resume.result (λ (w : WorldOf). w.world ≡ resting c.in_ok-verified.verified.config c.in_ok-verified.core.group) (λ (w : WorldOf). w.world ≡ opening config)
    (λ w is. is ∙ opening_rests config c.in_ok-verified.verified.config c.in_ok-verified.core.group (ap (λ (p : Program). p.config) ok.0) group) c.resume.ensures.world
