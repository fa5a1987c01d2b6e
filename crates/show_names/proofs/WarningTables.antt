-- Tables of the names that something calls or declares.
use Rattle.std.proofs.Common.{◌≡◌, Bool, true, false, ◌||◌, ◌&&◌, refl, sym, ap, ◌∙◌}
use Rattle.std.specs.Prelude.{bytes_eq, is_some}
use Rattle.il_syntax.specs.declared.tree.Form.{Form}
use Rattle.il_syntax.specs.declared.tree.Form.TheVariants.{Block as OfBlock}
use Rattle.base_maps.specs.NameMap.{NameMap, get, insert}
use Rattle.il_statics.specs.Names.{Spelling}
use Rattle.show_names.specs.Uses.{is_manner, is_use, use_shown}
use Rattle.show_names.specs.declared.uses.Use.{Use}
use Rattle.show_names.specs.declared.uses.Manner.{Manner}
use Rattle.show_names.specs.declared.uses.Manner.TheVariants.{Called as IsCalled}
use Rattle.show_names.proofs.Seen.{has_after}
use Rattle.show_names.specs.Warnings.{is_block_of}

or_swap : (a b : Bool) → (a || b) ≡ (b || a)
or_swap true true = refl
or_swap true false = refl
or_swap false true = refl
or_swap false false = refl

-- the table has one more name
abbrev pub HasMore : NameMap Bool → NameMap Bool → (Spelling → Bool) → Type 0
HasMore before after test = (name : Spelling) → is_some (get after name) ≡ (is_some (get before name) || test name)

pub more_put : (m now : NameMap Bool) (put : Spelling) → now ≡ insert m put true → HasMore m now (bytes_eq put)
more_put m now put is name = ap (λ t. is_some (get t name)) is ∙ has_after m put true name ∙ or_swap (bytes_eq put name) (is_some (get m name))

-- a use that is called
pub called_put : (m now : NameMap Bool) (u : Use) → u.manner ≡ IsCalled → now ≡ insert m u.name.now true → HasMore m now (λ name. is_use IsCalled name (use_shown u))
called_put m now u called is name =
    more_put m now u.name.now is name ∙ ap (λ (k : Manner). is_some (get m name) || (is_manner IsCalled k && bytes_eq u.name.now name)) (sym called)

-- a type that is a function block
pub block_put : (m now : NameMap Bool) (form : Form) (block : Spelling) → form ≡ OfBlock block → now ≡ insert m block true → HasMore m now (λ name. is_block_of name form)
block_put m now form block of is name = more_put m now block is name ∙ ap (λ (f : Form). is_some (get m name) || is_block_of name f) (sym of)
