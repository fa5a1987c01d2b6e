-- Who writes globals, one item after another.
use Rattle.std.proofs.Common.{◌≡◌, ℕ, ◌+◌, ◌<◌, List, [], ◌∷◌, ◌++◌, take, length, get_or, refl, sym, ap, ◌∙◌}
use Rattle.std.specs.Prelude.{flat_map}
use Rattle.il_syntax.specs.declared.tree.Unit.{Unit as ProgramUnit}
use Rattle.il_syntax.specs.declared.tree.ProgramLine.{ProgramLine}
use Rattle.base_maps.specs.NameMap.{NameMap}
use Rattle.il_statics.specs.Names.{Spelling}
use Rattle.load_scope.proofs.Owned.{flat_more}
use Rattle.load_types.specs.declared.writers.Writer.{Writer}
use Rattle.load_types.specs.Writers.{note, noted}

module _ (lines : List ProgramLine) (line : ℕ) (unit : ProgramUnit) where
  -- names after others
  noted_append : (table : NameMap Writer) (xs ys : List Spelling) → noted lines line unit table (xs ++ ys) ≡ noted lines line unit (noted lines line unit table xs) ys
  noted_append table [] ys = refl
  noted_append table (x ∷ xs) ys = noted_append (note lines line unit table x) xs ys

  -- one item more
  pub noted_next : {A : Type 0} (f : A → List Spelling) (xs : List A) (i : ℕ) (x : A) (old table new : NameMap Writer) → i < length xs → x ≡ get_or xs i x → new ≡ noted lines line unit table (f x) → table ≡ noted lines line unit old (flat_map f (take i xs)) → new ≡ noted lines line unit old (flat_map f (take (i + 1) xs))
  noted_next f xs i x old table new low there is before =
      is ∙ ap (λ t. noted lines line unit t (f x)) before ∙ sym (noted_append old (flat_map f (take i xs)) (f x)) ∙ ap (noted lines line unit old) (sym (flat_more f xs i x low there))
