-- What comes of giving a variable a value (own rules).
use Rattle.std.specs.Prelude.{◌≡◌, ℕ, ◌<◌, ◌≤◌, true, false, List, map, slice_get, Contains, Some, Result, Ok, Err}
use Rattle.il_syntax.specs.declared.tree.Config.{Config}
use Rattle.il_syntax.specs.declared.tree.Scalar.{Scalar}
use Rattle.il_syntax.specs.declared.tree.Unit.{Unit as ProgramUnit}
use Rattle.base_maps.specs.NameMap.{Text, insert}
use Rattle.il_semantics.specs.declared.value.Value.{Value}
use Rattle.il_semantics.specs.State.{Values}
use Rattle.il_semantics.specs.Values.{IsOf, is_of}
use Rattle.il_semantics.specs.Ranges.{task_scalars, global_scalars}
use Rattle.load_slots.specs.declared.flat.Cell.{Cell}
use Rattle.load_slots.specs.Layout.{Rows}
use Rattle.load_slots.specs.Paths.{slot_at}
use Rattle.scan_image.specs.Image.{with_slot}
use Rattle.group_laws.specs.Tasks.{IsTaskOf}
use Rattle.scan_task.specs.declared.setting.Unset.{Unset}
use Rattle.scan_task.specs.declared.setting.Unset.TheVariants.{Unknown, Outside}
use Rattle.scan_task.specs.Scanning.{variables_in}
use Rattle.scan_task.specs.Sharing.{globals_in}

-- what comes of giving a variable a value: it is one of these, the value is of its declared set, and nothing else changes; or why not (own rule)
abbrev pub Sets : List (Text × Scalar) → Values → Text → Value → Result Values Unset → Type 0
Sets scalars before path value (Ok after) = (s : Scalar) × Contains scalars (path, s) × IsOf s value × (after ≡ insert before path value)
Sets scalars before path value (Err Unknown) = ¬ Contains (map (λ p. p.0) scalars) path
Sets scalars before path value (Err Outside) = (s : Scalar) × Contains scalars (path, s) × ¬ IsOf s value

-- the same of a call, of the values that rows hold; where the variable isn't given the value, the rows stay (own rule)
abbrev pub SetsRows : {A : Type 0} → List (Text × Scalar) → (Rows → Values) → Rows → Text → Value → Result A Unset → Rows → Type 0
SetsRows scalars named before path value (Ok done) after = Sets scalars (named before) path value (Ok (named after))
SetsRows scalars named before path value (Err why) after = Sets scalars (named before) path value (Err why) × (after ≡ before)

-- the same of a task's variables (own rule)
abbrev pub SetsOwn : {A : Type 0} → Config → ℕ → Rows → Text → Value → Result A Unset → Rows → Type 0
SetsOwn c task before path value result after = (u : ProgramUnit) → IsTaskOf c task u → SetsRows (task_scalars c u) (variables_in c task) before path value result after

-- and of the globals (own rule)
abbrev pub SetsGlobals : {A : Type 0} → Config → Rows → Text → Value → Result A Unset → Rows → Type 0
SetsGlobals c before path value result after = SetsRows (global_scalars c) (globals_in c) before path value result after

-- SLOTS

-- a path has one of the first slots (own rule)
pub record HasSlot (cells : List Cell) (count : ℕ) (path : Text) : Type 0 where
  pub slot : ℕ
  pub cell : Cell
  pub at : slot_at cells path ≡ Some slot
  pub low : slot < count
  pub here : slice_get cells slot ≡ Some cell

-- what comes of giving one of the first slots a value, by its path (own rule)
abbrev pub SetsSlot : {A : Type 0} → List Cell → ℕ → Rows → Text → Value → Result A Unset → Rows → Type 0
SetsSlot cells count before path value (Ok done) after = (s : HasSlot cells count path) × (is_of s.cell.scalar value ≡ true) × (after ≡ with_slot before s.slot value)
SetsSlot cells count before path value (Err Unknown) after = ((k : ℕ) → slot_at cells path ≡ Some k → count ≤ k) × (after ≡ before)
SetsSlot cells count before path value (Err Outside) after = (s : HasSlot cells count path) × (is_of s.cell.scalar value ≡ false) × (after ≡ before)
