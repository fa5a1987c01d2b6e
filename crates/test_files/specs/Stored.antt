-- What a shelf gives of its files.
use Rattle.std.specs.Prelude.{◌≡◌, ℕ, List, take, Option, Some, None, string_bytes, bytes_eq}
use Rattle.std.specs.List.{find}
use Rattle.cli_host.specs.declared.files.ReadFault.{ReadFault}
use Rattle.cli_host.specs.declared.files.ReadFault.TheVariants.{CannotRead, NoMemory}
use Rattle.cli_host.specs.declared.files.Cause.TheVariants.{Missing}
use Rattle.test_files.specs.declared.shelf.Stored.{Stored}

-- the first file of a name
abbrev pub file_named : List Stored → List ℕ → Option Stored
file_named files name = find (λ f. bytes_eq (string_bytes f.name) name) files

-- a file that is there gives its bytes up to the limit
abbrev pub GivesBytes : Option Stored → ℕ → List ℕ → Type 0
GivesBytes None limit text = ⊥
GivesBytes (Some file) limit text = text ≡ take limit file.bytes.items

-- one that isn't there is missing; memory may be missing for any
abbrev pub FailsFor : Option Stored → ReadFault → Type 0
FailsFor None (CannotRead cause) = cause ≡ Missing
FailsFor (Some file) (CannotRead cause) = ⊥
FailsFor file NoMemory = Unit {0}
