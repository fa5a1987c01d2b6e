use Rattle.std.proofs.Common.{rules, [], refl, ◌∙◌}
use Rattle.cli_host.proofs.Known.{appends_nothing, appends_more, piece_step, all_taken}
use Rattle.cli_host.proofs.sink.put_all.Goals as goal

pub pieces-init : goal.pieces-init
pieces-init g c = record { grown = ([], appends_nothing _, refl); silent = λ none. none; made = refl; going = refl }

pub pieces-preserved : goal.pieces-preserved
pieces-preserved g c =
    let before = c.pieces.invariant.grown in
    record {
      grown = (_, appends_more _ _ _ _ _ before.1 c.in_ok-count.ensures.bytes, piece_step before.0 c.pieces.rest.now c.args.bytes.now c.in_ok-count.count before.2);
      silent = λ none. c.in_ok-count.ensures.silent (c.pieces.invariant.silent none);
      made = c.in_ok-count.ensures.made ∙ c.pieces.invariant.made;
      going = c.in_ok-count.ensures.goes_on ∙ c.pieces.invariant.going;
    }

pub returns-clause-ok : goal.returns-clause-ok
returns-clause-ok g c = all_taken _ _ c.pieces.invariant.grown.0 c.pieces.rest.now c.args.bytes.now (search rules) c.pieces.invariant.grown.2 c.pieces.invariant.grown.1
