use Rattle.std.proofs.Common.{◌≡◌, ap, ◌∙◌, map}
use Rattle.std.proofs.lemmas.Result.{IfOk-weaker}
use Rattle.il_syntax.specs.declared.tree.Config.{Config}
use Rattle.il_work_laws.specs.Work.{most_work}
use Rattle.load_work.specs.Sizes.{capped, unit_size}
use Rattle.load_work.specs.Rounds.{rounds}
use Rattle.load_work.specs.Weights.{unit_weighed}
use Rattle.load_work.proofs.Agreeing.{works_are}
use Rattle.load_work.proofs.works.Goals as goal

pub returns : goal.returns
returns c =
    let config : Config = c.args.names.now in
    let sizes = c.in_ok-sizes.ensures ∙ ap (λ k. map unit_size k.units) c.config.ensures in
    let all = c.in_ok-all.ensures ∙ ap (λ s. map (unit_weighed config s) config.units) sizes in
    IfOk-weaker c.rounds.result _ (λ works. works ≡ map (λ u. capped (most_work config u)) config.units) (λ works is. is ∙ ap (rounds 16) all ∙ works_are config) c.rounds.ensures
