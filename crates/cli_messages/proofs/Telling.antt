-- A text below another, on a sink that may fail.
use Rattle.std.proofs.Common.{◌≡◌, ℕ, Bool, true, false, List, [], ◌++◌, append-nil}
use Rattle.std.specs.Prelude.{Option, Result, Ok, Err, OnOk, OnErr, is_ok}
use Rattle.std.specs.Io.KnownBytes.{Appends}
use Rattle.std.proofs.KnownBytes.{Appends-trans}
use Rattle.cli_host.specs.Writes.{Writes, AppendsFront}
use Rattle.cli_host.proofs.Fronts.{front_of, front_behind}

-- the first failed, and nothing was written below it
pub writes_first : {A E : Type 0} (r : Result A E) (a b : Option (List ℕ)) (fails : Bool) (x y : List ℕ) → is_ok r ≡ false → OnErr r (fails ≡ true) → OnErr r (AppendsFront a b x) → Writes a b fails (x ++ y)
writes_first (Ok v) a b fails x y is failed front = absurd (cc)
writes_first (Err e) a b fails x y is failed front = (λ not. absurd (cc), front_of a b x y front)

-- the first was written, and what is below it, or a front of this
pub writes_both : {A B E F : Type 0} (r : Result A E) (s : Result B F) (a b c : Option (List ℕ)) (fails : Bool) (x y : List ℕ) → is_ok r ≡ true → OnOk r (Appends a b x) → OnOk s (Appends b c y)
    → OnErr s (fails ≡ true) → OnErr s (AppendsFront b c y) → Writes a c fails (x ++ y)
writes_both (Ok v) (Ok w) a b c fails x y is first second failed front =
    let all = Appends-trans a b c x y first second in
    (λ _. all, (x ++ y, [], all, append-nil (x ++ y)))
writes_both (Ok v) (Err e) a b c fails x y is first second failed front = (λ not. absurd (cc), front_behind a b c x y first front)
writes_both (Err e) s a b c fails x y is first second failed front = absurd (cc)
