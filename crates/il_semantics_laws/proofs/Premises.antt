-- Premises of the laws, from the rules that no accepted configuration breaks.
use Rattle.std.proofs.Common.{◌≡◌, ◌<◌, ◌≤◌, ℕ, refl, Some, None, Option, slice_get, ◌⊎◌, inl, inr}
use Rattle.std.proofs.lemmas.Bool.{cases_lt}
use Rattle.il_syntax.specs.declared.tree.Config.{Config}
use Rattle.il_syntax.specs.declared.tree.Unit.{Unit as ProgramUnit}
use Rattle.il_syntax.specs.declared.tree.Step.{Step as BodyStep}
use Rattle.il_syntax.specs.declared.tree.Instruction.TheVariants.{Jump}
use Rattle.il_statics.specs.Types.{backward}
use Rattle.il_statics.specs.Faults.{backward_jump, HasNoFault, Broken, Typing}
use Rattle.il_semantics.specs.Step.{instruction_or_return}
use Rattle.il_semantics_laws.specs.Soundness.{JumpsForward, IsInOrder}
use Rattle.il_semantics_laws.specs.Accepted.{IsAccepted}
use Rattle.il_semantics_laws.proofs.Named.{found_unit}
use Rattle.il_semantics_laws.proofs.Meant.{program_is, has_blocks, instances_apart, inputs_seen, has_words, has_block_words, blocks_see, time_is_seen}
use Rattle.il_semantics_laws.proofs.Stacks.{is_acyclic, is_shallow}
use Rattle.il_semantics_laws.proofs.Used.{calls_are_uses}
use Rattle.il_semantics_laws.proofs.Fresh.{begins_fresh}

forward_of : {at to : ℕ} → (at < to) ⊎ (to ≤ at) → ¬ (to ≤ at) → at < to
forward_of (inl high) never = high
forward_of (inr low) never = absurd (never low)

-- no jump goes backward (35)
pub jumps_forward : (c : Config) → HasNoFault (Broken Typing c) → JumpsForward c
jumps_forward c unbroken u at to condition label among is lands = by_step (slice_get u.body.steps at) refl is
  where
    by_step : (o : Option BodyStep) → slice_get u.body.steps at ≡ o → instruction_or_return o ≡ Jump condition label → at < to
    by_step None stands e = cc
    by_step (Some s) stands e =
        forward_of (cases_lt at to) (λ low. unbroken 35 s.place (backward_jump refl (backward u at to s label (record { written = among; jumps = record { stands = stands; condition = condition; jumps = e } }) lands low refl)))

-- all of them
pub in_order : (c : Config) (p : ProgramUnit) → IsAccepted c p → IsInOrder c p
in_order c p accepted =
    let declaring = accepted.declared in
    let program = program_is c p.name.name p accepted.program in
    let among = found_unit c p.name.name p program.0 in
    record {
      named = program.0;
      words = has_words c accepted.written;
      block_words = has_block_words c accepted.written declaring;
      forward = jumps_forward c (accepted.typed);
      uses = calls_are_uses c declaring;
      shallow = is_shallow c p among declaring (accepted.ordered);
      blocks = has_blocks c declaring;
      own = blocks_see c accepted.written declaring;
      acyclic = is_acyclic c p among declaring (accepted.ordered);
      instances = instances_apart c declaring;
      inputs = inputs_seen c declaring;
      fresh = begins_fresh c declaring;
      time = time_is_seen c declaring p among program.1;
    }
