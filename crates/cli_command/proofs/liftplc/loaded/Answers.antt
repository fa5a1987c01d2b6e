use Rattle.cli_command.proofs.liftplc.loaded.Goals as goal

pub returns : goal.returns
returns c = record {
  found = c.load.ensures.found;
  costs = c.load.ensures.costs;
  runs = c.load.ensures.runs;
  refused = c.load.ensures.refused;
  named = c.load.ensures.named;
  number = c.load.ensures.number;
  one = c.load.ensures.one;
  bytes = c.load.ensures.bytes;
  grammar = c.load.ensures.grammar;
}
