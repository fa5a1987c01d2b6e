use Rattle.cli_host.proofs.Lines.{piece_first, piece_alone}
use Rattle.cli_host.proofs.calls.first_piece.Goals as goal

pub returns-in-Some : goal.returns-in-Some
returns-in-Some c =
    piece_first c.args.cut c.args.text.now c.split_at.result.0.now c.split_at.result.1.now c.in-Some.left.now c.first_cut.result c.in-Some.field-0-0.now c.first_cut.ensures.is c.split_at.ensures.front c.split_at.ensures.back c.in-Some.ensures.cases.0

pub returns-in-None : goal.returns-in-None
returns-in-None c =
    piece_alone c.args.cut c.args.text.now c.split_at.result.0.now c.split_at.result.1.now c.first_cut.result c.first_cut.ensures.is c.first_cut.ensures.within c.split_at.ensures.front c.split_at.ensures.back c.in-None.ensures.cases
