use Rattle.std.proofs.Common.{ap, ◌∙◌, arith}
use Rattle.group_spec.specs.declared.image.Image.{Image}
use Rattle.group_spec.specs.declared.image.Sizes.{Sizes}
use Rattle.group_spec.specs.Image.{opening_image}
use Rattle.group_spec.specs.Snapshot.{scan_begins}
use Rattle.scan_task.specs.Standing.{beginning_with}
use Rattle.scan_task.proofs.Opened.{opening_in, free_in}
use Rattle.scan_task.proofs.Sizes.{few_cars}
use Rattle.scan_task.proofs.scanning.opened.Goals as goal

pub opening_image-image-requires : goal.opening_image-image-requires
opening_image-image-requires c = let most = few_cars c.args.verified.now.config c.requires.runs.declared in let same = ap (λ (z : Sizes). z.cars) c.sizes.ensures in omega (arith, most, same)

pub start-requires-clause-begin : goal.start-requires-clause-begin
start-requires-clause-begin c =
    let image = opening_in c.args.verified.now.config c.requires.runs c.opening_image-image.result c.sizes.result c.sizes.ensures c.opening_image-image.ensures in
    let slots = free_in c.args.verified.now.config c.args.calls.now.slots c.requires.slots in
    record {
      variables = c.requires.variables;
      own = c.requires.own;
      globals = c.requires.globals;
      shared = c.requires.shared;
      fields = image.0;
      outputs = image.1;
      slots = slots.0;
      each = slots.1;
    }

pub returns-clause-begins : goal.returns-clause-begins
returns-clause-begins c =
    let config = c.args.verified.now.config in
    c.start.ensures.begins
    ∙ ap (λ (i : Image). scan_begins config c.args.task (beginning_with config c.args.task c.args.variables.now i c.args.calls.now.slots c.args.globals.now))
    (c.opening_image-image.ensures ∙ ap opening_image c.sizes.ensures)
