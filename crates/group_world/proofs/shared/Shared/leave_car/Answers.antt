use Rattle.std.proofs.Common.{◌∙◌, sym, arith, refl}
use Rattle.scan_task.specs.Sharing.{globals_in}
use Rattle.group_world.proofs.Views.{some_of}
use Rattle.group_world.proofs.Committing.{commit_car, serves}
use Rattle.group_world.proofs.shared.Shared.leave_car.Goals as goal

pub settle-requires-clause-car : goal.settle-requires-clause-car
settle-requires-clause-car c =
    let memory = some_of _ c.requires.there in
    let fits = c.requires.fits.memories c.args.car memory.0 memory.1 in
    let few = fits.0.1.within in
    let cars = c.requires.ranges.fields.cars in
    (c.requires.car, omega (arith, few, cars))

pub settle-requires-clause-outputs : goal.settle-requires-clause-outputs
settle-requires-clause-outputs c = c.requires.ranges.outputs ∙ sym c.requires.ranges.fields.cars

pub close-requires-clause-fits : goal.close-requires-clause-fits
close-requires-clause-fits c = record { memories = c.requires.fits.memories; globals = c.requires.fits.globals }

pub returns : goal.returns
returns c = λ tickets is.
    let config = c.args.verified.now.config in
    let before = c.args.self.now in
    let memory = some_of _ c.requires.there in
    record {
      group = λ s there.
          let closed = c.close.ensures.closed s there in
          commit_car config before.image before.calls (globals_in config before.globals) before.memories.items s tickets c.args.store.now.state.values closed.0 c.serve.new.calls (globals_in config c.close.new.self.globals) c.serve.new.answers
          c.args.car c.args.wishes c.requires.car c.requires.wishes (serves before.calls c.args.car tickets c.args.wishes.serve c.args.ticket is ∙ c.serve.ensures) closed.2 c.close.ensures.globals
          ∙ rw (c.close.ensures.shared.0, c.close.ensures.shared.1, closed.1, c.settle.ensures.image, c.settle.ensures.report) refl;
      closed = (let closed = c.close.ensures.closed memory.0 memory.1 in (closed.0, closed.1));
      fits = c.close.ensures.fits;
    }
