-- Which fault is answered.
use Rattle.std.proofs.Common.{◌≡◌, ℕ, ◌==◌, Bool, true, false, length, Option, Some, None, refl, sym, ap, ◌∙◌, if◌then◌else◌, eq-eqb, ne_eqb}
use Rattle.std.specs.Prelude.{is_some}
use Rattle.group_spec.specs.declared.image.Fields.{Fields}
use Rattle.group_spec.specs.Image.{sizes_of, fields_in_range}
use Rattle.group_spec.specs.World.{scan_at}
use Rattle.group_journal.specs.declared.fault.StationFault.{StationFault}
use Rattle.group_journal.specs.declared.fault.StationFault.TheVariants.{FieldOutOfRange, JournalFull, AlreadyOpen}
use Rattle.group_journal.specs.Pages.{Page}
use Rattle.threads_book.specs.Ledgers.{full_fault, start_fault, refresh_fault}

pub full_so : (b : Page) → length b.journal ≡ b.capacity → full_fault b ≡ Some JournalFull
full_so b e = ap (λ (x : Bool). if x then Some JournalFull else None) (eq-eqb (length b.journal) b.capacity e)

pub full_not : (b : Page) → (length b.journal ≡ b.capacity → ⊥) → full_fault b ≡ None
full_not b e = ap (λ (x : Bool). if x then Some JournalFull else None) (ne_eqb (length b.journal) b.capacity e)

pub start_open : (b : Page) (t : ℕ) → is_some (scan_at b.world t) ≡ true → start_fault b t ≡ Some AlreadyOpen
start_open b t e = ap (λ (x : Bool). if x then Some AlreadyOpen else full_fault b) e

pub start_idle : (b : Page) (t : ℕ) → is_some (scan_at b.world t) ≡ false → start_fault b t ≡ full_fault b
start_idle b t e = ap (λ (x : Bool). if x then Some AlreadyOpen else full_fault b) e

pub refresh_inside : (b : Page) (fields : Fields) → fields_in_range (sizes_of b.config) fields ≡ true → refresh_fault b fields ≡ full_fault b
refresh_inside b fields e = ap (λ (x : Bool). if x then full_fault b else Some FieldOutOfRange) e

pub refresh_outside : (b : Page) (fields : Fields) → fields_in_range (sizes_of b.config) fields ≡ false → refresh_fault b fields ≡ Some FieldOutOfRange
refresh_outside b fields e = ap (λ (x : Bool). if x then full_fault b else Some FieldOutOfRange) e

-- a test that says yes does not say no
pub not_so : {A : Type 0} (b : Bool) → b ≡ true → b ≡ false → A
not_so true so not = cc
not_so false so not = cc
