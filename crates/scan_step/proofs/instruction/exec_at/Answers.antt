use Rattle.std.proofs.Common.{sym, ap, subst}
use Rattle.std.specs.Prelude.{IsSome}
use Rattle.load_slots.specs.declared.flat.Flat.TheVariants.{Apply}
use Rattle.load_slots.specs.Layout.{rows}
use Rattle.scan_step.specs.Effect.{applied, effect, is_straight}
use Rattle.scan_step.proofs.Applied.{applied_there}
use Rattle.scan_step.proofs.instruction.exec_at.Goals as goal

pub applied-requires : goal.applied-requires
applied-requires c =
    let r = rows c.args.numbers.now c.args.flags.now in
    let f = c.in-Apply-Some.function in
    let left = c.in-Apply-Some.left in
    let some = subst (λ x. IsSome (effect x r c.args.base c.args.before)) c.in-Apply-Some.is-0 (c.requires (ap is_straight c.in-Apply-Some.is-0)) in
    let there = applied_there f r c.args.base left c.in-Apply-Some.operands (subst (λ x. IsSome (effect (Apply f c.in-Apply-Some.operands) r c.args.base x)) c.in-Apply-Some.is-1 some) in
    subst (λ os. IsSome (applied f r c.args.base left os)) (sym c.as_slice.ensures) there
