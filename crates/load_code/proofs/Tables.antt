-- Units with the tables of their names.
use Rattle.std.proofs.Common.{◌≡◌, ℕ, zero, suc, ◌<◌, List, [], ◌∷◌, length, get_or, slice_get, refl, sym, ap, ap₂, ◌∙◌, Some, arith}
use Rattle.std.specs.Prelude.{Result, Ok, Err, IfOk}
use Rattle.std.proofs.lemmas.Option.{same_Some, slice_get_read}
use Rattle.il_syntax.specs.declared.tree.Unit.{Unit as ProgramUnit}
use Rattle.il_syntax.specs.declared.tree.Config.{Config}
use Rattle.il_statics.specs.Names.{unit_named}
use Rattle.base_maps.specs.NameMap.{NameMap}
use Rattle.load_slots.specs.declared.flat.UnitCode.{UnitCode}
use Rattle.load_slots.specs.Making.{unit_offsets, all_offsets, IsChecked}
use Rattle.load_slots.specs.Program.{program_names}
use Rattle.load_slots.specs.Whole.{unit_code}
use Rattle.load_slots.proofs.Counted.{one_there, unit_at}
use Rattle.load_slots.proofs.Tasks.{at_contains}
use Rattle.load_slots.proofs.Uses.{unit_found}
use Rattle.load_code.proofs.Resolve.{table_there}

below : {A : Type 0} (xs : List A) (k : ℕ) (x : A) → slice_get xs k ≡ Some x → k < length xs
below [] k x is = cc
below (y ∷ ys) zero x is = omega arith
below (y ∷ ys) (suc k) x is = let h : k < length ys = below ys k x is in omega (arith, h)

-- there are as many tables as units, and more
pub tables_many : (c : Config) (at : ℕ) (tables : List (NameMap ℕ)) → tables ≡ all_offsets c → at < length c.units → at < length tables
tables_many c at tables are low = let r = one_there c.units at low in below tables at (unit_offsets c r.0) (table_there c r.0 at tables are r.1)

-- and the table that is read there is the unit's
pub table_read : (c : Config) (u : ProgramUnit) (at : ℕ) (tables : List (NameMap ℕ)) (t : NameMap ℕ) → tables ≡ all_offsets c → slice_get c.units at ≡ Some u → t ≡ get_or tables at t → t ≡ unit_offsets c u
table_read c u at tables t are there is =
    let stands : slice_get tables at ≡ Some (unit_offsets c u) = table_there c u at tables are there in
    same_Some t (unit_offsets c u) (sym (slice_get_read tables (length tables) at t refl (below tables at (unit_offsets c u) stands) is) ∙ stands)

-- and the unit that is read is that of its name, also in a scope of it
pub unit_read : (c d : Config) (at : ℕ) (units : List ProgramUnit) (u v : ProgramUnit) → IsChecked c → units ≡ c.units → at < length c.units → u ≡ get_or units at u → d ≡ c → v ≡ u → unit_named d v.name.name ≡ Some v
unit_read c d at units u v checked same low is e f =
    ap₂ (λ (x : Config) (w : ProgramUnit). unit_named x w.name.name) e f ∙ unit_found c checked.declared u (at_contains c.units at u (unit_at c units at u same low is)) ∙ ap Some (sym f)

-- its code is that of the unit of the number
pub code_read : {E : Type 0} (c d : Config) (at : ℕ) (v w : ProgramUnit) (r : Result UnitCode E) → d ≡ c → w ≡ v → slice_get c.units at ≡ Some v → IfOk r (λ code. code ≡ unit_code (program_names d) d w)
    → IfOk r (λ code. (u : ProgramUnit) → slice_get c.units at ≡ Some u → code ≡ unit_code (program_names c) c u)
code_read c d at v w (Ok code) e f there made = λ u found. made ∙ ap₂ (λ (x : Config) (y : ProgramUnit). unit_code (program_names x) x y) e (f ∙ same_Some v u (sym there ∙ found))
code_read c d at v w (Err x) e f there made = tt
