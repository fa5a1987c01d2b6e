-- Fronts of what is written piece by piece.
use Rattle.std.proofs.Common.{ℕ, List, ◌++◌, append_assoc, ap, sym, ◌∙◌}
use Rattle.std.specs.Prelude.{Option, Result, Ok, Err, OnErr}
use Rattle.std.specs.Io.KnownBytes.{Appends}
use Rattle.std.proofs.KnownBytes.{Appends-trans}
use Rattle.cli_host.specs.Writes.{AppendsFront}

-- a front of the bytes is one of longer ones
pub front_of : (a b : Option (List ℕ)) (x y : List ℕ) → AppendsFront a b x → AppendsFront a b (x ++ y)
front_of a b x y f = (f.0, f.1 ++ y, f.2, sym (append_assoc f.0 f.1 y) ∙ ap (λ (t : List ℕ). t ++ y) f.3)

-- a front of the bytes after others
pub front_behind : (a b c : Option (List ℕ)) (x y : List ℕ) → Appends a b x → AppendsFront b c y → AppendsFront a c (x ++ y)
front_behind a b c x y p f = (x ++ f.0, f.1, Appends-trans a b c x f.0 p f.2, append_assoc x f.0 f.1 ∙ ap (λ (t : List ℕ). x ++ t) f.3)

-- the same, where the later piece failed
pub fails_behind : {A E : Type 0} (r : Result A E) (a b c : Option (List ℕ)) (x y : List ℕ) → Appends a b x → OnErr r (AppendsFront b c y) → OnErr r (AppendsFront a c (x ++ y))
fails_behind (Ok v) a b c x y p f = tt
fails_behind (Err e) a b c x y p f = front_behind a b c x y p f

-- what holds, holds where a piece failed
pub on_err : {A E P : Type 0} (r : Result A E) → P → OnErr r P
on_err (Ok v) p = tt
on_err (Err e) p = p
