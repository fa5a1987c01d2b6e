-- From where a group begins to the end.
use Rattle.std.proofs.Common.{◌≡◌, ℕ, Bool, List, [], Option, Some, None, refl, subst}
use Rattle.std.specs.Io.KnownBytes.{Appends, Consumes}
use Rattle.group_world.specs.Worlds.{WorldOf}
use Rattle.cli_host.specs.Files.{Made}
use Rattle.serve_lines.specs.Answers.{stop_line}
use Rattle.serve_blackbox.specs.declared.group.Halt.{Halt}
use Rattle.serve_blackbox.specs.declared.group.Halt.TheVariants as halt
use Rattle.serve_blackbox.specs.Ending.{Final, IsEnded, IsEndedFrom, IsHalted, IsHaltedFrom, IsHaltedBehind, StopsAs, before_stop, is_output}
use Rattle.serve_blackbox.specs.Keeping.{Spot}

pub consumes_none : (a : Option (List ℕ)) → Consumes a a []
consumes_none None = tt
consumes_none (Some xs) = refl

-- where a group begins, by its world, how many events are in its trace, and as which files that was made
abbrev begins_at : Option (List ℕ) → Option (List ℕ) → Option (List ℕ) → WorldOf → ℕ → Made → Spot
begins_at left out trace x count made = record { world = x.world; count = count; heard = 0; left = left; out = out; trace = trace; made = made }

module _ (p q : WorldOf) (a count : ℕ) (made made0 : Made) (source head : List ℕ) (left out t0 headed : Option (List ℕ)) (f : Final) (opened : (q ≡ p) × (a ≡ count)) (same : made ≡ made0) (grown : Appends t0 headed head) where
  -- what holds of the one beginning holds of the other
  moved : (P : WorldOf → ℕ → Made → Type 0) → P q a made → P p count made0
  moved P is = subst (λ m. P p count m) same (subst (λ n. P p n made) opened.1 (subst (λ x. P x a made) opened.0 is))

  pub ended_behind : IsEndedFrom q.program.config source (begins_at left out headed q a made) f → IsEnded p.program.config source head (begins_at left out t0 p count made0) f
  ended_behind is = (headed, grown, moved (λ x n m. IsEndedFrom x.program.config source (begins_at left out headed x n m) f) is)

  module _ (o : Option (List ℕ)) (failed : Bool) (text : List ℕ) (line : text ≡ stop_line p.program.config) where
    behind : (why : Halt) → IsHaltedFrom q.program.config source (begins_at left out headed q a made) (before_stop f o failed) why → StopsAs o failed f.out f.out_failed text (is_output why) → IsHaltedBehind p.program.config source head (begins_at left out t0 p count made0) f why
    behind why is written = (headed, o, failed, grown, moved (λ x n m. IsHaltedFrom x.program.config source (begins_at left out headed x n m) (before_stop f o failed) why) is, subst (λ l. StopsAs o failed f.out f.out_failed l (is_output why)) line written)

    pub halted_behind : (why : Halt) → IsHaltedFrom q.program.config source (begins_at left out headed q a made) (before_stop f o failed) why → StopsAs o failed f.out f.out_failed text (is_output why) → IsHalted p.program.config source head (begins_at left out t0 p count made0) f why
    halted_behind halt.Memory is written = absurd is
    halted_behind halt.Head is written = absurd is
    halted_behind (halt.Stop h) is written = behind (halt.Stop h) is written
    halted_behind (halt.Keep k) is written = behind (halt.Keep k) is written
