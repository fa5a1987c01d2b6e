use Rattle.load_declarations.proofs.Instances.{least_initial}
use Rattle.load_declarations.proofs.types.initial_fault.Goals as goal

pub returns-in-Some : goal.returns-in-Some
returns-in-Some c = least_initial c.args.form.now c.args.initial c.in-Some.initial c.literal_fault.result c.in-Some.is c.literal_fault.ensures
