-- The places of a path, and what it runs, one more at a time.
use Rattle.std.proofs.Common.{◌≡◌, ℕ, zero, suc, ◌<◌, List, [], ◌∷◌, ◌++◌, map, length, get_or, Option, Some, None, slice_get, if◌then◌else◌, refl, sym, ap, ap₂, ◌∙◌, append_assoc}
use Rattle.std.specs.Prelude.{◌==◌}
use Rattle.std.proofs.lemmas.Option.{slice_get_read, slice_get_within}
use Rattle.il_syntax.specs.declared.tree.Config.{Config}
use Rattle.il_syntax.specs.declared.tree.Unit.{Unit as ProgramUnit}
use Rattle.load_budgets.specs.declared.table.Rest.{Rest}
use Rattle.load_budgets.specs.declared.ways.Way.{Way}
use Rattle.load_budgets.specs.Rounds.{unit_ways, followed}
use Rattle.load_budgets.specs.Tables.{rest_up}
use Rattle.reasons_faults.specs.CostReasons.{costs_of, most_lines, heading_lines}

-- one place more of a path
pub place_more : (rests : List Rest) (n k place : ℕ) (places more whole : List ℕ) (at : Option ℕ) → at ≡ Some place → k ≡ suc n → places ++ followed k rests at ≡ whole → more ≡ places ++ place ∷ []
    → more ++ followed n rests (rest_up rests place).next ≡ whole
place_more rests n k place places more whole at is_at is_k before made =
    ap (λ l. l ++ followed n rests (rest_up rests place).next) made ∙ append_assoc places (place ∷ []) (followed n rests (rest_up rests place).next)
    ∙ sym (ap₂ (λ j a. places ++ followed j rests a) is_k is_at) ∙ before

-- what a list has at a place, of another list made of it
mapped_at : {X Y : Type 0} (f : X → Y) (xs : List X) (i : ℕ) (x : X) → slice_get xs i ≡ Some x → slice_get (map f xs) i ≡ Some (f x)
mapped_at f [] i x e = let bad : None ≡ Some x = e in cc
mapped_at f (y ∷ xs) zero x e = let same : y ≡ x = cc in ap (λ z. Some (f z)) same
mapped_at f (y ∷ xs) (suc i) x e = mapped_at f xs i x e

-- the ways of a unit are where it does
ways_are : (c : Config) (all : List (List Way)) (i : ℕ) (u : ProgramUnit) (ways : List Way) → all ≡ map (unit_ways c) c.units → slice_get c.units i ≡ Some u → ways ≡ get_or all i ways → ways ≡ unit_ways c u
ways_are c all i u ways are stands read =
    let there : slice_get all i ≡ Some (unit_ways c u) = ap (λ l. slice_get l i) are ∙ mapped_at (unit_ways c) c.units i u stands in
    let low : i < length all = slice_get_within all i (unit_ways c u) there in
    let found : Some ways ≡ Some (unit_ways c u) = sym (slice_get_read all (length all) i ways refl low read) ∙ there in
    cc

-- what is reported of a unit is what the definition says
pub heading_is : (c : Config) (offset : ℕ) (units : List ProgramUnit) (costs : List ℕ) (all : List (List Way)) (i : ℕ) (u : ProgramUnit) (ways : List Way) (old new : List ℕ)
    → units ≡ c.units → costs ≡ costs_of c → all ≡ map (unit_ways c) c.units → slice_get c.units i ≡ Some u → ways ≡ get_or all i ways
    → new ≡ old ++ (if u.place.offset == offset then most_lines units costs u ways else []) → new ≡ old ++ heading_lines c offset u
heading_is c offset units costs all i u ways old new listed costed are stands read is =
    is ∙ ap (λ us. old ++ (if u.place.offset == offset then most_lines us costs u ways else [])) listed
    ∙ ap (λ cs. old ++ (if u.place.offset == offset then most_lines c.units cs u ways else [])) costed
    ∙ ap (λ ws. old ++ (if u.place.offset == offset then most_lines c.units (costs_of c) u ws else [])) (ways_are c all i u ways are stands read)
