-- The variables of a task as the group opens.
use Rattle.std.proofs.Common.{◌≡◌, refl, sym, ap, ◌∙◌, Some, subst, ℕ, List, All, length, replicate, arith}
use Rattle.std.proofs.lemmas.Int.{ints}
use Rattle.std.proofs.lemmas.List.{length-replicate}
use Rattle.std.proofs.lemmas.List.Elements.{All-replicate}
use Rattle.std.proofs.lemmas.Option.{same_Some}
use Rattle.il_syntax.specs.declared.tree.Config.{Config}
use Rattle.il_syntax.specs.declared.tree.Unit.{Unit as ProgramUnit}
use Rattle.il_semantics.specs.Ranges.{HoldsTask}
use Rattle.il_semantics.specs.State.{Values}
use Rattle.il_semantics.specs.Scan.{opening_variables, opening_globals}
use Rattle.il_semantics_laws.specs.Accepted.{IsAccepted}
use Rattle.il_semantics_laws.proofs.Opening.{variables_open}
use Rattle.load_slots.specs.Layout.{Rows, Fits, view}
use Rattle.load_slots.specs.Program.{own_cells, own_values}
use Rattle.load_slots.specs.Whole.{first_rows}
use Rattle.load_slots.proofs.Openings.{own_opening}
use Rattle.group_spec.specs.declared.image.Sizes.{Sizes}
use Rattle.group_spec.specs.declared.image.CarFields.{CarFields}
use Rattle.group_spec.specs.declared.image.Image.{Image}
use Rattle.group_spec.specs.declared.calls.Slot.{Slot}
use Rattle.group_spec.specs.declared.calls.Slot.TheVariants.{Free}
use Rattle.group_spec.specs.Image.{sizes_of, IsFloor, FieldsInRange, opening_car, opening_outputs, opening_image}
use Rattle.group_spec.specs.Calls.{SlotInRange}
use Rattle.group_spec.specs.Snapshot.{Beginning, program_of}
use Rattle.group_laws.specs.Tasks.{IsTaskOf}
use Rattle.scan_task.specs.Scanning.{IsRunnable, HasTask, FitsOwn, OwnsDeclared, own_view, variables_in}
use Rattle.scan_task.specs.Standing.{opening_beginning}
use Rattle.scan_task.proofs.Owned.{fits_of, own_of}
use Rattle.scan_task.proofs.Scans.{accepted}
use Rattle.scan_task.proofs.Sizes.{floors_within}

module _ (c : Config) (runs : IsRunnable c) (task : ℕ) (there : HasTask c task) (r : Rows) (first : (u : ProgramUnit) → program_of c task ≡ Some u → r ≡ first_rows (own_values c u)) where
  abbrev p : ProgramUnit
  p = there.0

  abbrev is : IsTaskOf c task p
  is = there.1

  well : IsAccepted c p
  well = accepted c runs task p is

  pub opens_fit : FitsOwn c task r
  opens_fit = (p, is, subst (Fits (own_cells c p)) (sym (first p is.program)) (fits_of (own_cells c p) (own_values c p) (own_of c p well)))

  opens : variables_in c task r ≡ opening_variables c p
  unfolding own_view
  opens = ap (λ o. own_view c o r) is.program ∙ ap (view (own_cells c p)) (first p is.program) ∙ own_opening c p well

  -- they are those of the definitions
  pub opens_as : (u : ProgramUnit) → program_of c task ≡ Some u → variables_in c task r ≡ opening_variables c u
  opens_as u named = opens ∙ ap (opening_variables c) (same_Some p u (sym is.program ∙ named))

  -- each with a value of its declared set
  pub opens_declared : OwnsDeclared c task (variables_in c task r)
  opens_declared u named = subst (λ w. HoldsTask c w (variables_in c task r)) (same_Some p u (sym is.program ∙ named)) (subst (HoldsTask c p) (sym opens) (variables_open c p well))

-- THE OPENING WORLD

-- the fields of the opening image are in their ranges
pub opening_in : (c : Config) → IsRunnable c → (image : Image) (z : Sizes) → z ≡ sizes_of c → image ≡ opening_image z → FieldsInRange (sizes_of c) image.fields × (length image.outputs ≡ (sizes_of c).cars)
opening_in c runs image z sizes is =
    subst (λ (i : Image). FieldsInRange (sizes_of c) i.fields × (length i.outputs ≡ (sizes_of c).cars)) (sym (is ∙ ap opening_image sizes))
    (let floors = floors_within c runs.declared in
    let first : IsFloor (sizes_of c) 1 = (omega arith, omega (arith, ints, floors.0)) in (
      record { cars = length-replicate (sizes_of c).cars opening_car; positions = All-replicate (λ (car : CarFields). IsFloor (sizes_of c) car.pos) (sizes_of c).cars opening_car first; time = omega arith; run_limit = omega arith },
      length-replicate (sizes_of c).cars opening_outputs,
    ))

-- free slots are in their ranges
pub free_in : (c : Config) (slots : List Slot) → slots ≡ replicate (sizes_of c).slots Free → (length slots ≡ (sizes_of c).slots) × ((last : ℕ) × All (SlotInRange (sizes_of c) last) slots)
free_in c slots is =
    (ap length is ∙ length-replicate (sizes_of c).slots Free, (0, subst (All (SlotInRange (sizes_of c) 0)) (sym is) (All-replicate (SlotInRange (sizes_of c) 0) (sizes_of c).slots Free tt)))

-- what a task's first scan begins with
pub opens_in_group : (c : Config) (task : ℕ) (u : ProgramUnit) → program_of c task ≡ Some u → (v g : Values) (slots : List Slot) → v ≡ opening_variables c u → g ≡ opening_globals c → slots ≡ replicate (sizes_of c).slots Free
    → ◌≡◌ {A = Beginning} (record { variables = v; snapshot = record { image = opening_image (sizes_of c); slots = slots; globals = g } }) (opening_beginning c task)
opens_in_group c task u is v g slots v_is g_is slots_is = rw (v_is, g_is, slots_is, is) refl
