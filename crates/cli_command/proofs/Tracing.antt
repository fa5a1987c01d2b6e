-- The trace of a group.
use Rattle.std.proofs.Common.{◌≡◌, ℕ, Bool, true, false, List, ◌++◌, Option, Some, None, Result, Ok, Err, refl}
use Rattle.std.specs.Prelude.{is_err, is_ok, if◌then◌else◌}
use Rattle.cli_host.specs.declared.serving.Tracing.{Tracing}
use Rattle.cli_host.specs.Files.{Made}
use Rattle.serve_blackbox.specs.Keeping.{IsNew, Turns}
use Rattle.cli_command.specs.Servings.{IsCreated, held_trace}

-- a trace that is wanted is created
pub is_created : (tracing : Option Tracing) (before created after : Option (List ℕ)) (was here is : Made) → (tracing ≡ None → (created ≡ before) × (here ≡ was))
    → ((wanted : Tracing) → tracing ≡ Some wanted → (here.is wanted.name.now wanted.sync ≡ true) × IsNew created) → (created ≡ None → after ≡ None) → IsCreated tracing (held_trace before after was is) created here
is_created None before created after was here is none made silent = none refl
is_created (Some wanted) before created after was here is none made silent =
    let one = made wanted refl in
    record { named = one.0; empty = one.1; told = silent }

-- one in memory that was created goes on in another
pub memory_turns : (name head last old new : List ℕ) (created : Bool) → created ≡ true → new ≡ head
    → Turns name head last true (if created then Some old else None) (if created then Some new else None) (record { is = λ name sync. created; ended = None; missed = None }) (record { is = λ name sync. created; ended = None; missed = None })
memory_turns name head last old new true so is = (Some (old ++ last), refl, tt, is, refl, λ n sync was. (was, was))
memory_turns name head last old new false so is = absurd (cc)

-- what a list has where it could grow
pub grown : {X E : Type 0} (r : Result X E) (all before after : List ℕ) → is_err r ≡ false → all ≡ (if is_ok r then after else before) → all ≡ after
grown (Ok x) all before after so is = is
grown (Err e) all before after so is = absurd (cc)
