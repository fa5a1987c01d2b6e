-- Tasks of a group, by the test of their numbers.
use Rattle.std.proofs.Common.{◌≡◌, ℕ, ◌≤◌, Bool, true, false, List, [], ◌∷◌, ◌++◌, map, refl, sym, ap, ◌∙◌, arith}
use Rattle.std.specs.Prelude.{nat_le, ◌&&◌, filter}
use Rattle.std.proofs.lemmas.Bool.Decides.{nat_tests}
use Rattle.il_syntax.specs.declared.tree.Config.{Config}
use Rattle.scan_task.specs.Scanning.{HasTask}
use Rattle.group_spec.specs.Image.{sizes_of}
use Rattle.group_spec.specs.Snapshot.{has_task}
use Rattle.group_world.proofs.Opens.{task_there}
use Rattle.threads_station.specs.Passes.{is_task}
use Rattle.group_spec.proofs.Laws.{both_true as both}

low_by : (a b : ℕ) → nat_le a b ≡ true → a ≤ b
low_by a b e = grind (arith, nat_tests)

pub task_is : (c : Config) (t : ℕ) → is_task c t ≡ true → HasTask c t
task_is c t e =
    let p = both (nat_le t (sizes_of c).cars) (has_task c t) e in
    task_there c t (low_by t (sizes_of c).cars p.0) p.1

-- one task more, where it is one of the group
pub filter_more : {A : Type 0} (f : ℕ → Bool) (g : A → ℕ) (xs : List A) (x : A) → filter f (map g (xs ++ x ∷ [])) ≡ filter f (map g xs) ++ filter f (g x ∷ [])
filter_more f g [] x = refl
filter_more f g (y ∷ xs) x = by (f (g y)) refl (filter_more f g xs x)
  where
    by : (b : Bool) → f (g y) ≡ b → filter f (map g (xs ++ x ∷ [])) ≡ filter f (map g xs) ++ filter f (g x ∷ []) → filter f (map g ((y ∷ xs) ++ x ∷ [])) ≡ filter f (map g (y ∷ xs)) ++ filter f (g x ∷ [])
    by true e rest = rw e (ap (λ l. g y ∷ l) rest)
    by false e rest = rw e rest

pub filter_none : (f : ℕ → Bool) (t : ℕ) (xs : List ℕ) → f t ≡ false → xs ≡ xs ++ filter f (t ∷ [])
filter_none f t xs e = rw e (sym (append_nil xs))
  where
    append_nil : (xs : List ℕ) → xs ++ [] ≡ xs
    append_nil [] = refl
    append_nil (x ∷ xs) = ap (λ l. x ∷ l) (append_nil xs)

pub filter_one : (f : ℕ → Bool) (t : ℕ) (xs ys : List ℕ) (u : ℕ) → f t ≡ true → u ≡ t → ys ≡ xs ++ u ∷ [] → ys ≡ xs ++ filter f (t ∷ [])
filter_one f t xs ys u e same is = rw e (is ∙ ap (λ n. xs ++ n ∷ []) same)

pub map_more : {A : Type 0} (g : A → ℕ) (xs : List A) (x : A) → map g (xs ++ x ∷ []) ≡ map g xs ++ g x ∷ []
map_more g [] x = refl
map_more g (y ∷ xs) x = ap (λ l. g y ∷ l) (map_more g xs x)
