-- The name of a path.
use Rattle.std.proofs.Common.{◌≡◌, ◌<◌, ◌+◌, ◌||◌, ℕ, suc, Bool, true, false, is_some, List, [], ◌∷◌, ◌++◌, Option, Some, None, flat_map, take, length, get_or, refl, ap, sym, ◌∙◌, arith, bytes_eq}
use Rattle.std.specs.Prelude.{◌≢◌, if◌then◌else◌, MatchOption}
use Rattle.std.proofs.lemmas.Bool.{ne_eqb}
use Rattle.std.proofs.lemmas.Str.Pattern.{IsSplitOnceResult, split_parts}
use denote.Ref.{Bor}
use Rattle.base_maps.specs.NameMap.{Text}
use Rattle.scan_task.specs.Sharing.{base_name}

-- PATHS

base_before : (xs ys : Text) → ((i : ℕ) → i < length xs → get_or xs i 0 ≢ 91) → base_name (xs ++ 91 ∷ ys) ≡ xs
base_before [] ys never = refl
base_before (b ∷ bs) ys never =
    ap (λ t. if t then [] else b ∷ base_name (bs ++ 91 ∷ ys)) (ne_eqb b 91 (never 0 (omega arith))) ∙ ap (λ l. b ∷ l) (base_before bs ys (λ i low. never (suc i) (omega (arith, low))))

base_whole : (xs : Text) → ((i : ℕ) → i < length xs → get_or xs i 0 ≢ 91) → base_name xs ≡ xs
base_whole [] never = refl
base_whole (b ∷ bs) never = ap (λ t. if t then [] else b ∷ base_name bs) (ne_eqb b 91 (never 0 (omega arith))) ∙ ap (λ l. b ∷ l) (base_whole bs (λ i low. never (suc i) (omega (arith, low))))

-- what comes before an index, or all
pub base_cut : (path : Text) (r : Option (Bor Text × Bor Text)) → IsSplitOnceResult 91 path r → MatchOption r (path ≡ base_name path) (λ x. x.0.now ≡ base_name path)
base_cut path r is = by r (split_parts 91 path r is (omega arith))
  where
    by : (o : Option (Bor Text × Bor Text)) → MatchOption o ((i : ℕ) → i < length path → get_or path i 0 ≢ 91) (λ x. (path ≡ x.0.now ++ (91 ∷ x.1.now)) × ((i : ℕ) → i < length x.0.now → get_or x.0.now i 0 ≢ 91))
        → MatchOption o (path ≡ base_name path) (λ x. x.0.now ≡ base_name path)
    by None never = sym (base_whole path never)
    by (Some x) parts = sym (ap base_name parts.0 ∙ base_before x.0.now x.1.now parts.1)
