use Rattle.std.proofs.Common.{◌≡◌, ◌≤◌, ℕ, suc, length, Some, sym, ap, ◌∙◌, subst}
use Rattle.std.specs.Prelude.{IfOk, slice_get, is_some}
use Rattle.il_syntax.specs.declared.tree.Config.{Config}
use Rattle.scan_task.specs.Standing.{Standing, IsOf}
use Rattle.scan_task.proofs.Sizes.{few_cars}
use Rattle.group_spec.specs.declared.image.Sizes.{Sizes}
use Rattle.group_spec.specs.Image.{sizes_of}
use Rattle.group_spec.specs.World.{flat, task_at}
use Rattle.group_world.specs.Groups.{HasVariables}
use Rattle.group_world.specs.Setting.{IsSeated}
use Rattle.group_world.proofs.Resuming.{stores_resume, variables_resume}
use Rattle.group_world.proofs.stores.resumed.Goals as goal

pub resumed_stores-stores-requires-clause-seated : goal.resumed_stores-stores-requires-clause-seated
resumed_stores-stores-requires-clause-seated c = subst (λ (k : Config). IsSeated k c.args.core.group) c.requires.program c.requires.seated

pub resumed_stores-stores-requires-clause-few : goal.resumed_stores-stores-requires-clause-few
resumed_stores-stores-requires-clause-few c = subst (λ (s : Sizes). s.cars ≤ 8) (sym c.sizes.ensures) (few_cars _ c.config-config.ensures.runnable.declared)

pub returns-clause-stores : goal.returns-clause-stores
returns-clause-stores c =
    let config = c.args.verified.now.config in
    let group = c.args.core.group in
    let e = c.resumed_stores-stores.ensures in
    let is = c.in_ok-core.ensures.ok.1 in
    let tasks = c.rests.ensures.holds.tasks ∙ ap (λ (k : Config). suc (sizes_of k).cars) c.requires.program in
    let cars = ap (λ (s : Sizes). s.cars) c.sizes.ensures in
    let many = subst (λ r. IfOk r (λ ss. length ss.items ≡ suc c.sizes.result.cars)) is e.as_many in
    let found = subst (λ r. IfOk r (λ ss. (t : ℕ) → t ≤ c.sizes.result.cars → is_some (flat (slice_get ss.items t)) ≡ is_some (task_at group t))) is e.there in
    let each = subst (λ r. IfOk r (λ ss. (t : ℕ) (s : Standing) → flat (slice_get ss.items t) ≡ Some s → IsOf config t s)) is e.each in
    rw c.in_ok-core.ensures.ok.0
    (stores_resume config group c.in_ok-core.stores.items tasks (many ∙ ap suc cars) (λ t few. found t (subst (λ n. t ≤ n) (sym cars) few)) each)

pub returns-clause-variables : goal.returns-clause-variables
returns-clause-variables c =
    let group = c.args.core.group in
    rw c.in_ok-core.ensures.ok.0
    (variables_resume group c.in_ok-core.stores.items
    (subst (λ r. IfOk r (λ ss. (t : ℕ) (s : Standing) → flat (slice_get ss.items t) ≡ Some s → HasVariables group t s)) c.in_ok-core.ensures.ok.1 c.resumed_stores-stores.ensures.variables))
