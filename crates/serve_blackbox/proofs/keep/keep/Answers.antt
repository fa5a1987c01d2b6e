use Rattle.std.proofs.Common.{◌∙◌, sym, subst, string_bytes}
use Rattle.cli_host.specs.Writes.{AppendsFront}
use Rattle.serve_lines.proofs.Serving.{if_err}
use Rattle.serve_blackbox.specs.Between.{kept_spot}
use Rattle.serve_blackbox.proofs.Keeping.{answer_is, turned}
use Rattle.serve_blackbox.proofs.keep.keep.Goals as goal

pub returns-then-is_err-clause-unkept : goal.returns-then-is_err-clause-unkept
returns-then-is_err-clause-unkept g c =
    let err = sym c.is_err.ensures.value ∙ c.if-is_err.true in
    let kept = c.in-Ok-turn.kept in (
      if_err c.put_all.result err c.put_all.ensures.failed,
      (
        kept,
        turned c.args.server.now.rounds.world.program.config c.args.source.now (kept_spot g.O.Sink g.T.Sink c.args.server.now c.args.out.now c.args.trace.now) (kept_spot g.O.Sink g.T.Sink c.args.server.now c.put_all.new.sink c.turn.new.self) c.args.name.now c.as_bytes.result.now c.as_bytes-2.result.now kept
            (c.as_bytes.ensures.value ∙ c.in-Ok.ensures.text) (c.as_bytes-2.ensures.value ∙ c.in-Ok-end_of.ensures) c.in-Ok-turn.ensures.turns,
        subst (AppendsFront (g.O.Sink.contents c.args.out.now) (g.O.Sink.contents c.put_all.new.sink))
            (c.as_bytes-3.ensures.value ∙ c.of.ensures ∙ answer_is kept c.args.name.now (string_bytes c.in-Ok-both_answers.answers.kept) (string_bytes c.in-Ok-both_answers.answers.refused) c.in-Ok-both_answers.ensures.kept c.in-Ok-both_answers.ensures.refused)
            (if_err c.put_all.result err c.put_all.ensures.front),
      ),
    )
