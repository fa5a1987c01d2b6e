-- Lists of names with places.
use Rattle.std.proofs.Common.{◌≡◌, Bool, true, false, List, [], ◌∷◌, ◌++◌, refl, sym, ap, ◌∙◌, Some, option_map, if◌then◌else◌}
use Rattle.std.specs.Prelude.{find}
use Rattle.std.proofs.lemmas.Grind.{flat_map-append}
use Rattle.il_syntax.specs.declared.tree.Named.{Named}
use Rattle.il_syntax.specs.declared.tree.Declaration.{Declaration}
use Rattle.il_statics.specs.Declarations.{names_in}
use Rattle.reasons_names.specs.declared.names_spots.Spot.{Spot}
use Rattle.reasons_names.specs.NameSpots.{spot_shown, shown}

-- what is found among names with places is what is found among the names of the tree
pub spot_found : (p : Named → Bool) (spots : List Spot) → option_map spot_shown (find (λ s. p (spot_shown s)) spots) ≡ find p (shown spots)
spot_found p [] = refl
spot_found p (s ∷ spots) = by_test (p (spot_shown s)) (spot_found p spots)
  where
    by_test : (b : Bool) → option_map spot_shown (find (λ s. p (spot_shown s)) spots) ≡ find p (shown spots) → option_map spot_shown (if b then Some s else find (λ s. p (spot_shown s)) spots) ≡ (if b then Some (spot_shown s) else find p (shown spots))
    by_test true rest = refl
    by_test false rest = rest

-- the names of four lists, one after the other
pub unit_names_of_lists : (a b c d : List Declaration) → ((names_in a ++ names_in b) ++ names_in c) ++ names_in d ≡ names_in (a ++ b ++ c ++ d)
unit_names_of_lists a b c d =
    sym (flat_map-append (λ (x : Declaration). x.names) ((a ++ b) ++ c) d
    ∙ ap (λ l. l ++ names_in d) (flat_map-append (λ (x : Declaration). x.names) (a ++ b) c ∙ ap (λ l. l ++ names_in c) (flat_map-append (λ (x : Declaration). x.names) a b)))
