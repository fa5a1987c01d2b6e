-- The table of costs, place by place.
use Rattle.std.proofs.Common.{◌≡◌, ℕ, ◌+◌, ◌-◌, ◌<◌, List, [], ◌∷◌, ◌++◌, drop, length, get_or, refl, sym, ap, ◌∙◌, arith, slice_get, Option, Some, None, map, suc, append_assoc, ap₂}
use Rattle.std.proofs.lemmas.Option.{slice_get-get_or, get_or_from_slice_get}
use Rattle.std.proofs.lemmas.List.{at_drop_more}
use Rattle.load_budgets.specs.Tables.{rest_up, rests_above, way_rest}
use Rattle.load_budgets.specs.Rounds.{followed}
use Rattle.load_budgets.specs.declared.ways.Way.{Way}
use Rattle.load_budgets.specs.declared.ways.Way.TheVariants.{Next}
use Rattle.load_budgets.specs.declared.table.Rest.{Rest}

-- one place more
one_back_by : (costs : List ℕ) (ways : List Way) (passed at : ℕ) (w : Way) (rests more : List Rest) → passed < length ways → at ≡ length ways - 1 - passed → w ≡ get_or ways at w
    → rests ≡ rests_above costs (length ways - passed) (drop (length ways - passed) ways) → more ≡ rests ++ way_rest costs rests (at + 1) w ∷ []
    → more ≡ rests_above costs (length ways - (passed + 1)) (drop (length ways - (passed + 1)) ways)
one_back_by costs ways passed at w rests more low is_at is_w before is =
    let place : length ways - (passed + 1) ≡ at = omega (arith, low, is_at) in
    let behind : length ways - passed ≡ at + 1 = omega (arith, low, is_at) in
    let same : rests ≡ rests_above costs (at + 1) (drop (at + 1) ways) = before ∙ ap (λ k. rests_above costs k (drop k ways)) behind in
    is ∙ ap (λ rs. rs ++ way_rest costs rs (at + 1) w ∷ []) same
    ∙ ap (λ v. rests_above costs (at + 1) (drop (at + 1) ways) ++ way_rest costs (rests_above costs (at + 1) (drop (at + 1) ways)) (at + 1) v ∷ []) is_w
    ∙ sym (at_drop_more (rests_above costs at) ways at w (omega (arith, low, is_at)))
    ∙ ap (λ k. rests_above costs k (drop k ways)) (sym place)

pub one_back : (costs : List ℕ) (ways : List Way) (passed : ℕ) (rests more : List Rest) → passed < length ways
    → rests ≡ rests_above costs (length ways - passed) (drop (length ways - passed) ways)
    → ((w : Way) → slice_get ways (length ways - 1 - passed) ≡ Some w → more ≡ rests ++ way_rest costs rests (length ways - 1 - passed + 1) w ∷ [])
    → more ≡ rests_above costs (length ways - (passed + 1)) (drop (length ways - (passed + 1)) ways)
one_back costs ways passed rests more low before is =
    let at : ℕ = length ways - 1 - passed in
    let some : Way = Next None in
    let w : Way = get_or ways at some in
    let stands : slice_get ways at ≡ Some w = slice_get-get_or ways at some (omega (arith, low)) in
    one_back_by costs ways passed at w rests more low refl (sym (get_or_from_slice_get ways at w w stands)) before (is w stands)

-- one item more of a list
pub item_more : {X Y : Type 0} (f : X → Y) (xs : List X) (i : ℕ) (x : X) (done more : List Y) → i < length xs → x ≡ get_or xs i x → done ++ map f (drop i xs) ≡ map f xs → more ≡ done ++ f x ∷ [] → more ++ map f (drop (i + 1) xs) ≡ map f xs
item_more f xs i x done more low is before made =
    ap (λ l. l ++ map f (drop (i + 1) xs)) made ∙ append_assoc done (f x ∷ []) (map f (drop (i + 1) xs))
    ∙ ap (λ y. done ++ f y ∷ map f (drop (i + 1) xs)) is
    ∙ ap (λ l. done ++ l) (sym (at_drop_more (map f) xs i x low)) ∙ before

-- one place more of a path
pub place_more : (f : ℕ → ℕ) (rests : List Rest) (n k place : ℕ) (lines more whole : List ℕ) (at : Option ℕ) → at ≡ Some place → k ≡ suc n → lines ++ map f (followed k rests at) ≡ whole → more ≡ lines ++ f place ∷ []
    → more ++ map f (followed n rests (rest_up rests place).next) ≡ whole
place_more f rests n k place lines more whole at is_at is_k before made =
    ap (λ l. l ++ map f (followed n rests (rest_up rests place).next)) made ∙ append_assoc lines (f place ∷ []) (map f (followed n rests (rest_up rests place).next))
    ∙ sym (ap₂ (λ j a. lines ++ map f (followed j rests a)) is_k is_at) ∙ before
