-- Bytes at the front of a room.
use Rattle.std.proofs.Common.{◌≡◌, ◌≤◌, ◌++◌, ℕ, List, length, take, drop, ap, sym, ◌∙◌, subst}
use Rattle.std.proofs.Math.Seq.{take-append_seam, drop-append_seam}
use Rattle.liftplc_c.specs.States.{StandsIn}

pub stands_in : (old new bytes : List ℕ) (count : ℕ) → count ≡ length bytes → length bytes ≤ length old → new ≡ bytes ++ drop (length bytes) old → StandsIn old new count bytes
stands_in old new bytes count many fits is =
    record {
      many = many;
      fits = subst (λ n. n ≤ length old) (sym many) fits;
      front = ap (λ n. take n new) many ∙ ap (take (length bytes)) is ∙ take-append_seam bytes (drop (length bytes) old);
      behind = ap (λ n. drop n new) many ∙ ap (drop (length bytes)) is ∙ drop-append_seam bytes (drop (length bytes) old) ∙ ap (λ n. drop n old) (sym many);
    }
