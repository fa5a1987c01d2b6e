-- The calls that a refresh entered, as a set (own rules).
use Rattle.std.specs.Prelude.{List, [], ◌∷◌, map}
use Rattle.group_spec.specs.declared.calls.Call.{Call}
use Rattle.group_spec.specs.declared.report.EnteredCall.{EnteredCall}
use Rattle.group_spec.specs.Hands.{HasWord}

-- the calls
abbrev pub calls : List EnteredCall → List Call
calls done = map (λ (d : EnteredCall). d.call) done

-- each call has a word and a bit
abbrev pub AllHaveWords : List EnteredCall → Type 0
AllHaveWords [] = Unit {0}
AllHaveWords (d ∷ done) = (HasWord d.call.from × HasWord d.call.to) × AllHaveWords done
