-- Where a list of pieces is there.
use Rattle.std.proofs.Common.{◌≡◌, ℕ, Bool, true, false, ◌||◌, ◌&&◌, if◌then◌else◌, List, [], ◌∷◌, ◌++◌, flat_map, map, length, not, ◌==◌, refl, ap, ◌∙◌, arith}
use Rattle.std.proofs.lemmas.Bool.Decides.{nat_tests}
use Rattle.std.specs.List.{list_any}
use Rattle.il_syntax.specs.declared.tree.Step.{Step}
use Rattle.il_syntax.specs.declared.tree.Unit.{Unit as ProgramUnit}
use Rattle.il_statics.specs.Names.{Spelling}
use Rattle.show_names.specs.Names.{is_declared}
use Rattle.show_names.specs.Uses.{uses, is_use, is_used}
use Rattle.show_names.specs.Xref.{is_there, placed, use_line, use_lines, uses_global, unit_places, global_places}
use Rattle.show_names.specs.declared.uses.Manner.{Manner}

is_there-append : {T : Type 0} (a b : List T) → is_there (a ++ b) ≡ (is_there a || is_there b)
is_there-append [] b = refl
is_there-append (x ∷ a) b = refl

-- a list of pieces is there where one of them is
is_there-flat_map : {X T : Type 0} (tell : X → List T) (test : X → Bool) → ((x : X) → is_there (tell x) ≡ test x) → (xs : List X) → is_there (flat_map tell xs) ≡ list_any test xs
is_there-flat_map tell test h [] = refl
is_there-flat_map tell test h (x ∷ xs) =
    rw (is_there-append (tell x) (flat_map tell xs), h x, is_there-flat_map tell test h xs) refl

is_there-if : (b : Bool) (x : ℕ) → is_there (if b then (x ∷ []) else []) ≡ b
is_there-if true x = refl
is_there-if false x = refl

is_there-placed : (unit : Spelling) (lines : List ℕ) → is_there (placed unit lines) ≡ is_there lines
is_there-placed unit [] = refl
is_there-placed unit (line ∷ lines) = refl

is_there-if_placed : (b : Bool) (unit : Spelling) (lines : List ℕ) → is_there (if b then placed unit lines else []) ≡ (b && is_there lines)
is_there-if_placed true unit lines = is_there-placed unit lines
is_there-if_placed false unit lines = refl

-- there are lines where the name is used
pub is_there-use_lines : (steps : List Step) (name : Spelling) (manner : Manner) → is_there (use_lines steps name manner) ≡ is_used manner name steps
is_there-use_lines steps name manner = is_there-flat_map (use_line manner name) (is_use manner name) (λ u. is_there-if (is_use manner name u) u.line) (uses steps)

is_there-unit_places : (manner : Manner) (name : Spelling) (unit : ProgramUnit) → is_there (unit_places manner name unit) ≡ uses_global manner name unit
is_there-unit_places manner name unit =
    is_there-if_placed (is_declared unit.externals name) unit.name.name (use_lines unit.body.steps name manner)
    ∙ ap (λ b. is_declared unit.externals name && b) (is_there-use_lines unit.body.steps name manner)

-- there are places where a unit uses the global
pub is_there-global_places : (units : List ProgramUnit) (name : Spelling) (manner : Manner) → is_there (global_places units name manner) ≡ list_any (uses_global manner name) units
is_there-global_places units name manner = is_there-flat_map (unit_places manner name) (uses_global manner name) (is_there-unit_places manner name) units

-- a list that is not empty is there
pub not_empty : {T : Type 0} (b : Bool) (list : List T) → b ≡ (length list == 0) → not b ≡ is_there list
not_empty b [] h = ap not h
not_empty b (x ∷ list) h = ap not (h ∙ never)
  where
    never : (length (x ∷ list) == 0) ≡ false
    never = grind (arith, nat_tests)

pub is_there-map : {X Y : Type 0} (f : X → Y) (xs : List X) → is_there (map f xs) ≡ is_there xs
is_there-map f [] = refl
is_there-map f (x ∷ xs) = refl
