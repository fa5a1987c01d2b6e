-- A scan that goes on.
use Rattle.std.proofs.Common.{◌≡◌, false, List, [], ◌∷◌, refl, sym, ap, ◌∙◌}
use Rattle.il_syntax.specs.declared.tree.Config.{Config}
use Rattle.il_semantics.specs.State.{Frame, State}
use Rattle.il_semantics.specs.Step.{Next, Stuck, step, step_of}
use Rattle.il_semantics.specs.Scan.{has_ended}

-- a state with a next one has not ended
pub unended : (c : Config) (s m : State) → step c s ≡ Next m → has_ended s ≡ false
unfolding step
unended c s m e = by s.frames refl
  where
    by : (fs : List Frame) → s.frames ≡ fs → has_ended s ≡ false
    by [] is = let bad : Stuck ≡ Next m = sym (ap (step_of c s.values s.result) is) ∙ e in cc
    by (f ∷ fs) is = ap (λ gs. has_ended (record { values = s.values; frames = gs; result = s.result })) is
