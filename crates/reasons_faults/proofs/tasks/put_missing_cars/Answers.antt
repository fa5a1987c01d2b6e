use Rattle.std.proofs.Common.{OnOk, subst}
use Rattle.base_texts.specs.Puts.{Puts}
use Rattle.reasons_faults.proofs.CarWords.{cars_of_rows}
use Rattle.reasons_faults.proofs.tasks.put_missing_cars.Goals as goal

pub returns : goal.returns
returns c = subst (λ lines. OnOk c.put_missing_of.result (Puts c.args.text.now c.put_missing_of.new.text lines)) (cars_of_rows c.args.names.now c.cars.result.now c.cars.ensures) c.put_missing_of.ensures
