use Rattle.group_state.proofs.head.take_head.Goals as goal

pub returns-clause-found : goal.returns-clause-found
returns-clause-found c = record {
  behind_configuration = c.in-Ok.rest.now;
  behind_image = c.in_ok-image.rest.now;
  configuration = c.in-Ok.ensures.found;
  image_is = c.in_ok-image.ensures.found;
  calls_are = c.in_ok-calls.ensures.found;
}
