-- The lines of uses are those of calls and of declarations.
use Rattle.std.proofs.Common.{◌≡◌, ℕ, suc, ◌≤◌, length, Bool, true, false, if◌then◌else◌, List, [], ◌∷◌, ◌++◌, slice_get, Option, Some, None, option_and_then, refl, sym, ap, ◌∙◌, subst, arith}
use Rattle.std.specs.Prelude.{◌≢◌, not, All, Contains, nat_eq, bytes_eq, codes}
use Rattle.std.proofs.lemmas.Slice.Eq.{bytes_eq-Decides}
use Rattle.std.proofs.lemmas.List.Elements.{All-cons, All-nil}
use Rattle.std.proofs.lemmas.List.Kept.{AllPairs-cons}
use Rattle.il_statics.specs.Order.{NamesNoneTwice}
use Rattle.std.proofs.lemmas.List.{append_assoc}
use Rattle.std.proofs.lemmas.Bool.Decides.{nat_tests}
use Rattle.il_syntax.specs.declared.tree.Config.{Config}
use Rattle.il_syntax.specs.declared.tree.Unit.{Unit as ProgramUnit}
use Rattle.il_syntax.specs.declared.tree.Step.{Step}
use Rattle.il_syntax.specs.declared.tree.Declaration.{Declaration}
use Rattle.il_syntax.specs.declared.tree.Form.{Form}
use Rattle.il_syntax.specs.declared.tree.Form.TheVariants.{Scalar as OfScalar, Array as OfArray, Block as OfBlock}
use Rattle.il_syntax.specs.declared.tree.Instruction.{Instruction}
use Rattle.il_syntax.specs.declared.tree.Instruction.TheVariants.{Load, Store, Not, Operate, Defer, Evaluate, Jump, Return, Call, Invoke}
use Rattle.il_statics.specs.Names.{Spelling, or_else}
use Rattle.load_scope.specs.declared.entry.BlockType.{BlockType}
use Rattle.load_scope.specs.declared.entry.BlockType.TheVariants.{Standard as StandardType, Own}
use Rattle.load_scope.specs.Views.{function_number, block_type}
use Rattle.load_scope.proofs.Laws.{function_found, function_block_found}
use Rattle.load_declarations.proofs.Members.{in_rest}
use Rattle.load_order.proofs.Tabled.{in_place}
use Rattle.load_order.proofs.Using.{own_of_type}
use Rattle.il_syntax.specs.declared.tree.Place.{Place}
use Rattle.reasons_faults.specs.ChainReasons.{UsesIn, calls, declares, use_text, AreUsesTold, has_name, is_named, is_apart, AreUnitsOf, AreToldBetween, AreAdded, IsRecursionTold, around, IsLongChainTold, along, IsUnitAt, is_number, is_own, is_call_of, is_type_of, call_line, instance_line, use_line}

number_is : (to : ℕ) (o : Option ℕ) → is_number to o ≡ true → o ≡ Some to
number_is to None e = let bad : false ≡ true = e in cc
number_is to (Some k) e = ap Some (same k to e)
  where
    same : (a b : ℕ) → nat_eq a b ≡ true → a ≡ b
    same a b e = grind (arith, nat_tests)

own_is : (to : ℕ) (o : Option BlockType) → is_own to o ≡ true → o ≡ Some (Own to)
own_is to None e = let bad : false ≡ true = e in cc
own_is to (Some (StandardType b)) e = let bad : false ≡ true = e in cc
own_is to (Some (Own k)) e = ap (λ x. Some (Own x)) (same k to e)
  where
    same : (a b : ℕ) → nat_eq a b ≡ true → a ≡ b
    same a b e = grind (arith, nat_tests)

abbrev or_one : ProgramUnit → Option ProgramUnit → ProgramUnit
or_one a None = a
or_one a (Some b) = b

module _ (c : Config) (to : ℕ) where
  -- a line is that of a call
  abbrev IsCallAt : List Step → ℕ → Type 0
  IsCallAt steps line = (s : Step) × Contains steps s × (is_call_of c to s.instruction ≡ true) × (line ≡ s.place.line)

  call_at : (steps : List Step) (line : ℕ) → call_line c to steps ≡ Some line → IsCallAt steps line
  call_at [] line e = let bad : None ≡ Some line = e in cc
  call_at (s ∷ steps) line e = by_test (is_call_of c to s.instruction) refl e (call_at steps line)
    where
      by_test : (b : Bool) → is_call_of c to s.instruction ≡ b → (if b then Some s.place.line else call_line c to steps) ≡ Some line → (call_line c to steps ≡ Some line → IsCallAt steps line) → IsCallAt (s ∷ steps) line
      by_test true is h more = let same : Some s.place.line ≡ Some line = h in (s, (0, omega arith, refl), is, cc)
      by_test false is h more = let r = more h in (r.0, in_rest s steps r.0 r.1, r.2, r.3)

  -- or of a declaration
  abbrev IsInstanceAt : List Declaration → ℕ → Type 0
  IsInstanceAt ds line = (d : Declaration) × Contains ds d × (is_type_of c to d.declared.form ≡ true) × (line ≡ d.declared.place.line)

  instance_at : (ds : List Declaration) (line : ℕ) → instance_line c to ds ≡ Some line → IsInstanceAt ds line
  instance_at [] line e = let bad : None ≡ Some line = e in cc
  instance_at (d ∷ ds) line e = by_test (is_type_of c to d.declared.form) refl e (instance_at ds line)
    where
      by_test : (b : Bool) → is_type_of c to d.declared.form ≡ b → (if b then Some d.declared.place.line else instance_line c to ds) ≡ Some line → (instance_line c to ds ≡ Some line → IsInstanceAt ds line) → IsInstanceAt (d ∷ ds) line
      by_test true is h more = let same : Some d.declared.place.line ≡ Some line = h in (d, (0, omega arith, refl), is, cc)
      by_test false is h more = let r = more h in (r.0, in_rest d ds r.0 r.1, r.2, r.3)

  module _ (u v : ProgramUnit) (there : slice_get c.units to ≡ Some v) where
    by_call : (s : Step) (line : ℕ) → Contains u.body.steps s → is_call_of c to s.instruction ≡ true → line ≡ s.place.line → UsesIn c u v line
    by_call s line among is at = by_instruction s.instruction refl is
      where
        by_instruction : (i : Instruction) → s.instruction ≡ i → is_call_of c to i ≡ true → UsesIn c u v line
        by_instruction (Load negated operand) e h = let bad : false ≡ true = h in cc
        by_instruction (Store store target) e h = let bad : false ≡ true = h in cc
        by_instruction Not e h = let bad : false ≡ true = h in cc
        by_instruction (Operate operator operand) e h = let bad : false ≡ true = h in cc
        by_instruction (Defer operator first) e h = let bad : false ≡ true = h in cc
        by_instruction Evaluate e h = let bad : false ≡ true = h in cc
        by_instruction (Jump condition label) e h = let bad : false ≡ true = h in cc
        by_instruction (Return condition) e h = let bad : false ≡ true = h in cc
        by_instruction (Call condition instance arguments) e h = let bad : false ≡ true = h in cc
        by_instruction (Invoke function operands) e h =
            calls s function operands among e (sym (function_found c function.name) ∙ ap (option_and_then (slice_get c.units)) (number_is to (function_number c function.name) h) ∙ there) at

    by_instance : (d : Declaration) (line : ℕ) → Contains u.variables d → is_type_of c to d.declared.form ≡ true → line ≡ d.declared.place.line → UsesIn c u v line
    by_instance d line among is at = by_form d.declared.form refl is
      where
        by_form : (f : Form) → d.declared.form ≡ f → is_type_of c to f ≡ true → UsesIn c u v line
        by_form (OfScalar scalar) e h = let bad : false ≡ true = h in cc
        by_form (OfArray bounds element) e h = let bad : false ≡ true = h in cc
        by_form (OfBlock name) e h =
            declares d name among e (sym (function_block_found c name) ∙ ap (option_and_then (slice_get c.units)) (own_of_type c name to (own_is to (block_type c name) h)) ∙ there) at

    -- the line of a use is that of one
    pub used_in : (line : ℕ) → use_line c u to ≡ Some line → UsesIn c u v line
    used_in line e = by_line (call_line c to u.body.steps) refl e
      where
        by_line : (o : Option ℕ) → call_line c to u.body.steps ≡ o → or_else o (instance_line c to u.variables) ≡ Some line → UsesIn c u v line
        by_line (Some found) is h = let same : Some found ≡ Some line = h in let r = call_at u.body.steps line (is ∙ same) in by_call r.0 line r.1 r.2 r.3
        by_line None is h = let r = instance_at u.variables line h in by_instance r.0 line r.1 r.2 r.3

-- NAMES

-- a name that is not another's
unlike : (a b : List ℕ) → bytes_eq b a ≡ false → a ≢ b
unlike a b e same = let yes : bytes_eq b a ≡ true = (bytes_eq-Decides b a).1 (sym same) in let bad : false ≡ true = sym e ∙ yes in cc

-- of units that don't have a name, none has it
pub all_apart : (c : Config) (name : Spelling) (between : List ℕ) (other : ℕ) (units : List ProgramUnit) (last : ProgramUnit) → AreUnitsOf c between units → slice_get c.units other ≡ Some last → is_apart c name between other ≡ true → All (λ (v : ProgramUnit). name ≢ v.name.name) (units ++ last ∷ [])
all_apart c name [] other [] last are there e = All-cons (λ (v : ProgramUnit). name ≢ v.name.name) last [] (unlike name last.name.name (by_not (bytes_eq last.name.name name) (ap (λ o. not (has_name name o)) (sym there) ∙ e))) (All-nil (λ (v : ProgramUnit). name ≢ v.name.name))
  where
    by_not : (b : Bool) → not b ≡ true → b ≡ false
    by_not true n = let bad : false ≡ true = n in cc
    by_not false n = refl
all_apart c name [] other (u ∷ units) last are there e = absurd are
all_apart c name (n ∷ between) other [] last are there e = absurd are
all_apart c name (n ∷ between) other (u ∷ units) last (here, are) there e =
    let r = by_test (is_named c name n) (is_apart c name between other) e in
    All-cons (λ (v : ProgramUnit). name ≢ v.name.name) u (units ++ last ∷ []) (unlike name u.name.name (ap (has_name name) (sym here) ∙ r.0)) (all_apart c name between other units last are there r.1)
  where
    by_test : (b r : Bool) → (if b then false else r) ≡ true → (b ≡ false) × (r ≡ true)
    by_test true r t = let bad : false ≡ true = t in cc
    by_test false r t = (refl, t)

-- one more unit before units of which none is named twice
pub one_apart : (c : Config) (unit : ProgramUnit) (between : List ℕ) (other : ℕ) (units : List ProgramUnit) (last : ProgramUnit) → AreUnitsOf c between units → slice_get c.units other ≡ Some last → is_apart c unit.name.name between other ≡ true → NamesNoneTwice (units ++ last ∷ []) → NamesNoneTwice (unit ∷ units ++ last ∷ [])
one_apart c unit between other units last are there e apart = AllPairs-cons (λ (a b : ProgramUnit). a.name.name ≢ b.name.name) unit (units ++ last ∷ []) (all_apart c unit.name.name between other units last are there e) apart

only_one : (last : ProgramUnit) → NamesNoneTwice (last ∷ [])
only_one last = AllPairs-cons (λ (a b : ProgramUnit). a.name.name ≢ b.name.name) last [] (All-nil (λ (v : ProgramUnit). last.name.name ≢ v.name.name)) (λ i j d low high. absurd (omega (arith, high)))

-- WHAT IS TOLD

-- the last use
pub last_added : (c : Config) (u v : ProgramUnit) (other line : ℕ) (old mid new : List ℕ) → slice_get c.units other ≡ Some v → UsesIn c u v line → mid ≡ old ++ use_text u v line → new ≡ mid ++ codes "\n" → AreAdded c u [] other old new
last_added c u v other line old mid new there uses first second = (
  use_text u v line ++ codes "\n",
  second ∙ ap (λ l. l ++ codes "\n") first ∙ append_assoc old (use_text u v line) (codes "\n"),
  record { units = []; last = v; many = refl; are_units = tt; is_last = there; apart = only_one v; are = (line, uses, refl) },
)

-- a use before others
pub next_added : (c : Config) (u v : ProgramUnit) (next : ℕ) (between : List ℕ) (other line : ℕ) (old first mid new : List ℕ) → slice_get c.units next ≡ Some v → UsesIn c u v line → is_apart c v.name.name between other ≡ true → first ≡ old ++ use_text u v line → mid ≡ first ++ codes ", " → AreAdded c v between other mid new → AreAdded c u (next ∷ between) other old new
next_added c u v next between other line old first mid new there uses apart one two (rest, is, told) = (
  use_text u v line ++ (codes ", " ++ rest),
  is ∙ ap (λ l. l ++ rest) (two ∙ ap (λ l. l ++ codes ", ") one) ∙ append_assoc (old ++ use_text u v line) (codes ", ") rest ∙ append_assoc old (use_text u v line) (codes ", " ++ rest),
  record {
    units = v ∷ told.units;
    last = told.last;
    many = ap suc told.many;
    are_units = (there, told.are_units);
    is_last = told.is_last;
    apart = one_apart c v between other told.units told.last told.are_units told.is_last apart told.apart;
    are = (line, rest, uses, told.are, refl);
  },
)

-- what is reported of a unit that uses itself
pub around_told : (c : Config) (u : ProgramUnit) (between : List ℕ) (at : ℕ) (text lines : List ℕ) → slice_get c.units at ≡ Some u → AreToldBetween c u between at text → lines ≡ text → IsRecursionTold c u lines
around_told c u between at text lines there told is =
    let same : Some told.last ≡ Some u = sym told.is_last ∙ there in
    around told.units (subst (AreUsesTold c u told.units u) (sym is) (subst (λ v. AreUsesTold c u told.units v text) (some_is told.last u same) told.are))
  where
    some_is : (a b : ProgramUnit) → Some a ≡ Some b → a ≡ b
    some_is a b h = ap (λ o. or_one a o) h

-- what is reported of a chain that is too long
pub along_told : (c : Config) (u : ProgramUnit) (between : List ℕ) (other : ℕ) (text lines : List ℕ) → 15 ≤ length between → is_apart c u.name.name between other ≡ true → AreToldBetween c u between other text → lines ≡ text → IsLongChainTold c u lines
along_told c u between other text lines many apart told is =
    along told.units told.last (omega (arith, many, told.many)) (one_apart c u between other told.units told.last told.are_units told.is_last apart told.apart) (subst (AreUsesTold c u told.units told.last) (sym is) told.are)

-- a unit that is at its place
pub unit_is_at : (c : Config) (units : List ProgramUnit) (u : ProgramUnit) (at : ℕ) (p : Place) → units ≡ c.units → slice_get units at ≡ Some u → u.place.offset ≡ p.offset → IsUnitAt c p u
unit_is_at c units u at p same there stands = record { among = in_place c.units at u (ap (λ us. slice_get us at) (sym same) ∙ there); stands = stands }
