-- The paths of bodies that run or have called.
use Rattle.std.proofs.Common.{◌≡◌, ◌<◌, ◌≤◌, ◌+◌, ◌-◌, ℕ, zero, suc, List, [], ◌∷◌, drop, length, min, slice_get, refl, sym, ap, ◌∙◌, subst, Option, Some, None, arith}
use Rattle.std.specs.Prelude.{option_map}
use Rattle.il_syntax.specs.declared.tree.Config.{Config}
use Rattle.base_maps.specs.NameMap.{Text}
use Rattle.il_semantics.specs.State.{Frame}
use Rattle.scan_loop.specs.Framing.{path_in, path_over, instruction_in}
use Rattle.scan_task.specs.Looking.{AreStacked, stand_of}
use Rattle.show_scan.specs.Stands.{StandOf, of_frame}

same_frame : (f g : Frame) → Some f ≡ Some g → f ≡ g
same_frame f g is = cc

no_frame : (f : Frame) → None ≡ Some f → ⊥
no_frame f is = cc

-- a body has the path of what those below it run
pub path_is : (c : Config) (fs : List Frame) (k : ℕ) (f : Frame) → AreStacked c fs → slice_get fs k ≡ Some f → f.path ≡ path_over c (drop (suc k) fs)
path_is c [] k f stacks is = absurd (no_frame f is)
path_is c (g ∷ fs) zero f stacks is = subst (λ (x : Frame). x.path ≡ path_over c fs) (same_frame g f is) stacks.0
path_is c (g ∷ fs) (suc k) f stacks is = path_is c fs k f stacks.1 is

-- the path of what it runs
pub path_above : (c : Config) (fs : List Frame) (k : ℕ) (f : Frame) → AreStacked c fs → slice_get fs k ≡ Some f → path_over c (drop k fs) ≡ path_in (path_over c (drop (suc k) fs)) (instruction_in c f)
path_above c [] k f stacks is = absurd (no_frame f is)
path_above c (g ∷ fs) zero f stacks is =
    subst (λ (x : Frame). path_over c (g ∷ fs) ≡ path_in (path_over c fs) (instruction_in c x)) (same_frame g f is) (ap (λ p. path_in p (instruction_in c g)) stacks.0)
path_above c (g ∷ fs) (suc k) f stacks is = path_above c fs k f stacks.1 is

frame_there : (fs : List Frame) (k : ℕ) → k < length fs → (f : Frame) × (slice_get fs k ≡ Some f)
frame_there [] k below = absurd (omega (arith, below))
frame_there (f ∷ fs) zero below = (f, refl)
frame_there (f ∷ fs) (suc k) below = frame_there fs k (omega (arith, below))

-- one caller further up
pub one_up : (c : Config) (fs : List Frame) → AreStacked c fs → (left level : ℕ) (p q : Text) → level < left - 1 → left ≤ length fs → p ≡ path_over c (drop left fs)
    → ((f : Frame) → slice_get fs (left - 1) ≡ Some f → q ≡ path_in p (instruction_in c f))
    → (q ≡ path_over c (drop (left - 1) fs)) × (left - 1 ≤ length fs) × (min (level + 1) (length fs) ≤ left - 1)
one_up c fs stacks left level p q above within is next =
    let k : ℕ = left - 1 in
    let behind : left ≡ suc k = omega (arith, above) in
    let there = frame_there fs k (omega (arith, within, above)) in (
      next there.0 there.1 ∙ ap (λ x. path_in x (instruction_in c there.0)) (is ∙ ap (λ n. path_over c (drop n fs)) behind) ∙ sym (path_above c fs k there.0 stacks there.1),
      omega (arith, within, above),
      omega (arith, above),
    )

same_pair : (x y : Text × ℕ) → Some x ≡ Some y → x ≡ y
same_pair x y is = cc

same_stand : (unit other : Text) (a b : ℕ) → ◌≡◌ {A = Option (Text × ℕ)} (Some (unit, a)) (Some (other, b)) → (unit ≡ other) × (a ≡ b)
same_stand unit other a b is = let same = same_pair (unit, a) (other, b) is in (ap (λ (x : Text × ℕ). x.0) same, ap (λ (x : Text × ℕ). x.1) same)

stand_by : Text → Text → ℕ → Option StandOf
stand_by unit path place = Some (record { unit = unit; path = path; place = place })

-- a body by what is seen of it
pub stand_is : (c : Config) (fs : List Frame) → AreStacked c fs → (k : ℕ) (unit u path : Text) (place : ℕ) → ◌≡◌ {A = Option (Text × ℕ)} (Some (unit, place)) (option_map stand_of (slice_get fs k)) → u ≡ unit → path ≡ path_over c (drop (k + 1) fs)
    → ◌≡◌ {A = Option StandOf} (Some (record { unit = u; path = path; place = place })) (option_map of_frame (slice_get fs k))
unfolding stand_by
stand_is c fs stacks k unit u path place seen named over = by (slice_get fs k) refl
  where
    by : (o : Option Frame) → slice_get fs k ≡ o → stand_by u path place ≡ option_map of_frame (slice_get fs k)
    by None is = let wrong : ◌≡◌ {A = Option (Text × ℕ)} (Some (unit, place)) None = seen ∙ ap (option_map stand_of) is in cc
    by (Some f) is =
        let same = same_stand unit f.unit place f.place (seen ∙ ap (option_map stand_of) is) in
        let behind : k + 1 ≡ suc k = omega arith in
        ap (λ x. stand_by x path place) (named ∙ same.0)
        ∙ ap (λ x. stand_by f.unit x place) (over ∙ ap (λ n. path_over c (drop n fs)) behind ∙ sym (path_is c fs k f stacks is))
        ∙ ap (stand_by f.unit f.path) same.1
        ∙ sym (ap (option_map of_frame) is)
