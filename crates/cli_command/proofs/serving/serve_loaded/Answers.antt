use Rattle.std.proofs.Common.{refl, ap, subst}
use Rattle.scan_task.specs.Scanning.{Program}
use Rattle.cli_command.specs.Servings as s
use Rattle.cli_command.specs.Origins.{IsNoOrigin, IsPrepared}
use Rattle.serve_blackbox.proofs.Ending.{consumes_none}
use Rattle.cli_command.proofs.serving.serve_loaded.Goals as goal

pub returns-in-Ok : goal.returns-in-Ok
returns-in-Ok g c =
    s.somewhere c.in-Ok.prepared (ap (λ (p : Program). p.config) c.in-Ok.ensures.same)
    (subst (λ from. IsPrepared (g.F.TextFiles.gives c.args.files.now) c.args.verified.config c.args.source.now from c.in-Ok.prepared) c.from_of.ensures c.in-Ok.ensures.prepared) c.serve_prepared.ensures

pub returns-in-Err : goal.returns-in-Err
returns-in-Err g c =
    s.nowhere c.in-Err.fault
    (subst (λ from. IsNoOrigin (g.F.TextFiles.gives c.args.files.now) (g.F.TextFiles.fails c.args.files.now) c.args.verified.config c.args.source.now from c.in-Err.fault) c.from_of.ensures c.in-Err.ensures.none)
    (record { untraced = record { unwritten = refl; unmade = refl }; untaken = consumes_none (g.I.Read.remaining c.args.input.now); unanswered = refl }) c.end_with.ensures.told c.end_with.ensures.ends
