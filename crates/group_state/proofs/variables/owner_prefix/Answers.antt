use Rattle.std.proofs.Common.{◌≡◌, ℕ, List, [], ◌∷◌, Some, refl, sym, ap, ◌∙◌, subst, arith}
use Rattle.std.specs.Fmt.{digits}
use Rattle.group_state.specs.Parts.{owner_prefix, IsOwner}
use Rattle.group_state.proofs.variables.owner_prefix.Goals as goal

car1 : ◌≡◌ {A = List ℕ} (67 ∷ 65 ∷ 82 ∷ 49 ∷ 46 ∷ []) (owner_prefix (Some 1))
unfolding digits
car1 = refl

car2 : ◌≡◌ {A = List ℕ} (67 ∷ 65 ∷ 82 ∷ 50 ∷ 46 ∷ []) (owner_prefix (Some 2))
unfolding digits
car2 = refl

car3 : ◌≡◌ {A = List ℕ} (67 ∷ 65 ∷ 82 ∷ 51 ∷ 46 ∷ []) (owner_prefix (Some 3))
unfolding digits
car3 = refl

car4 : ◌≡◌ {A = List ℕ} (67 ∷ 65 ∷ 82 ∷ 52 ∷ 46 ∷ []) (owner_prefix (Some 4))
unfolding digits
car4 = refl

car5 : ◌≡◌ {A = List ℕ} (67 ∷ 65 ∷ 82 ∷ 53 ∷ 46 ∷ []) (owner_prefix (Some 5))
unfolding digits
car5 = refl

car6 : ◌≡◌ {A = List ℕ} (67 ∷ 65 ∷ 82 ∷ 54 ∷ 46 ∷ []) (owner_prefix (Some 6))
unfolding digits
car6 = refl

car7 : ◌≡◌ {A = List ℕ} (67 ∷ 65 ∷ 82 ∷ 55 ∷ 46 ∷ []) (owner_prefix (Some 7))
unfolding digits
car7 = refl

car8 : ◌≡◌ {A = List ℕ} (67 ∷ 65 ∷ 82 ∷ 56 ∷ 46 ∷ []) (owner_prefix (Some 8))
unfolding digits
car8 = refl

pub returns-in_default : goal.returns-in_default
returns-in_default c = ap owner_prefix (sym c.in_default.is)

pub returns-in-0 : goal.returns-in-0
returns-in-0 c = ap owner_prefix (sym (c.in-Some.is ∙ ap Some c.in-0.is))

pub returns-in-1 : goal.returns-in-1
returns-in-1 c = car1 ∙ ap owner_prefix (sym (c.in-Some.is ∙ ap Some c.in-1.is))

pub returns-in-2 : goal.returns-in-2
returns-in-2 c = car2 ∙ ap owner_prefix (sym (c.in-Some.is ∙ ap Some c.in-2.is))

pub returns-in-3 : goal.returns-in-3
returns-in-3 c = car3 ∙ ap owner_prefix (sym (c.in-Some.is ∙ ap Some c.in-3.is))

pub returns-in-4 : goal.returns-in-4
returns-in-4 c = car4 ∙ ap owner_prefix (sym (c.in-Some.is ∙ ap Some c.in-4.is))

pub returns-in-5 : goal.returns-in-5
returns-in-5 c = car5 ∙ ap owner_prefix (sym (c.in-Some.is ∙ ap Some c.in-5.is))

pub returns-in-6 : goal.returns-in-6
returns-in-6 c = car6 ∙ ap owner_prefix (sym (c.in-Some.is ∙ ap Some c.in-6.is))

pub returns-in-7 : goal.returns-in-7
returns-in-7 c = car7 ∙ ap owner_prefix (sym (c.in-Some.is ∙ ap Some c.in-7.is))

pub returns-in_default-task : goal.returns-in_default-task
returns-in_default-task c =
    let low : IsOwner (Some c.in-Some.task) = subst IsOwner c.in-Some.is c.requires in
    let eight : 8 ≡ c.in-Some.task = omega arith in
    car8 ∙ ap owner_prefix (sym (c.in-Some.is ∙ ap Some (sym eight)))
