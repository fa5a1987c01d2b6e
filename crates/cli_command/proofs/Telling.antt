-- What is written whole, or in part.
use Rattle.std.proofs.Common.{◌≡◌, ℕ, List, Bool, true, false, Option, Result, Ok, Err, OnOk, OnErr, [], append-nil, sym, ◌∙◌}
use Rattle.std.specs.Io.KnownBytes.{Appends}
use Rattle.cli_host.specs.Writes.{AppendsFront, Writes}

-- what was put into a sink was written, in whole or by a front
pub writes : {X E : Type 0} (r : Result X E) (a b : Option (List ℕ)) (failed : Bool) (bytes : List ℕ) → OnOk r (Appends a b bytes) → OnErr r (failed ≡ true) → OnErr r (AppendsFront a b bytes) → Writes a b failed bytes
writes (Ok x) a b failed bytes whole lost front = (λ _. whole, (bytes, [], whole, append-nil bytes))
writes (Err e) a b failed bytes whole lost front = (λ good. absurd (let never : true ≡ false = sym lost ∙ good in cc), front)
