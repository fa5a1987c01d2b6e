use Rattle.std.proofs.Common.{ap, subst, sym, ◌∙◌}
use Rattle.std.specs.Prelude.{is_some}
use Rattle.group_laws.proofs.Openings.{no_scan_open}
use Rattle.group_spec.specs.World.{World, scan_at}
use Rattle.group_world.specs.Worlds.{WorldOf}
use Rattle.group_rounds.specs.declared.kept.Rounds.{Rounds}
use Rattle.liftplc_c.specs.Handles.{IsLed}
use Rattle.il_syntax.specs.declared.fault.Refusal.TheVariants.{Fault}
use Rattle.liftplc_c.proofs.Refusing.{memory_at, no_fault}
use Rattle.liftplc_c.proofs.opening.opened.Goals as goal

pub returns-clause-rests : goal.returns-clause-rests
returns-clause-rests c =
    let of = ap (λ (r : Rounds). r.world) c.in_ok-new.ensures.ok ∙ c.of.ensures in
    let opens = ap (λ (w : WorldOf). w.world) of ∙ c.in_ok-world.ensures.opening in
    λ j. ap (λ (w : World). is_some (scan_at w j)) opens ∙ ap is_some (no_scan_open c.in_ok-load.field-0.config j)

pub returns-in_err-new-clause-bytes : goal.returns-in_err-new-clause-bytes
returns-in_err-new-clause-bytes c number place is = memory_at c.from_residual-in_err-new.result (Fault number place) c.from_residual-in_err-new.ensures.1

pub returns-in_err-new-clause-named : goal.returns-in_err-new-clause-named
returns-in_err-new-clause-named c = λ fault d spelled. absurd (no_fault c.from_residual-in_err-new.result c.from_residual-in_err-new.ensures.1 fault)

pub returns-in_err-new-clause-one : goal.returns-in_err-new-clause-one
returns-in_err-new-clause-one c = λ fault n p spelled. absurd (no_fault c.from_residual-in_err-new.result c.from_residual-in_err-new.ensures.1 fault)

pub returns-in_err-new-clause-refused : goal.returns-in_err-new-clause-refused
returns-in_err-new-clause-refused c = λ fault d accepted. no_fault c.from_residual-in_err-new.result c.from_residual-in_err-new.ensures.1 fault

pub returns-clause-led : goal.returns-clause-led
returns-clause-led c =
    let of = ap (λ (r : Rounds). r.world) c.in_ok-new.ensures.ok ∙ c.of.ensures in
    subst (λ (w : WorldOf). IsLed w) (sym of) c.led.ensures

pub returns-in_err-new-clause-grammar : goal.returns-in_err-new-clause-grammar
returns-in_err-new-clause-grammar c number place is = memory_at c.from_residual-in_err-new.result (Fault number place) c.from_residual-in_err-new.ensures.1
