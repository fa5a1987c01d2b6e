use Rattle.std.proofs.Common.{◌≡◌, zero, suc, arith, length}
use Rattle.group_interlock.specs.Laws.{CommitKeeps}
use Rattle.group_spec.proofs.Interlock.{commit_obeys}
use Rattle.group_interlock.proofs.laws.commit_keeps_obeying.Goals as goal

keeps : CommitKeeps
keeps image zero wish open_wish obeys one car = absurd (omega (arith, one))
keeps image (suc k) wish open_wish obeys one car =
    let same : length image.outputs ≡ length image.fields.cars = obeys.cars in
    commit_obeys image k wish open_wish (omega (arith, car, same)) obeys

pub returns : goal.returns
returns c = keeps
