-- Arguments of blocks, one after another.
use Rattle.std.proofs.Common.{◌≡◌, ℕ, zero, suc, ◌+◌, Bool, true, false, ◌&&◌, List, [], ◌∷◌, length, drop, Option, Some, None, slice_get, refl, sym, ap, ◌∙◌, add-one, arith}
use Rattle.ranges_interval.specs.declared.Interval.{Interval}
use Rattle.il_syntax.specs.declared.tree.Scalar.{Scalar}
use Rattle.il_syntax.specs.declared.tree.Reference.TheVariants.{Variable}
use Rattle.il_syntax.specs.declared.tree.Form.{Form}
use Rattle.il_syntax.specs.declared.tree.Form.TheVariants.{Scalar as ScalarForm, Array as ArrayForm, Block as BlockForm}
use Rattle.il_syntax.specs.declared.tree.Argument.{Argument}
use Rattle.il_syntax.specs.declared.tree.Argument.TheVariants.{Input, Output}
use Rattle.il_syntax.specs.declared.tree.Condition.{Condition}
use Rattle.base_maps.specs.NameMap.{Text, get}
use Rattle.il_semantics.specs.Meaning.{Denotation, Constant, Direct, Numbered, Indexed, Inside, Unknown}
use Rattle.il_semantics.specs.declared.known.Known.{Known}
use Rattle.il_semantics.specs.declared.known.Known.TheVariants.{Flag, Ranged}
use Rattle.il_semantics.specs.Annotation.{declared_known}
use Rattle.ranges_laws.specs.declared.facts.Facts.{Facts}
use Rattle.ranges_laws.specs.Facts.{Names, put_by, facts}
use Rattle.ranges_laws.specs.Found.{provided}
use Rattle.ranges_laws.specs.Steps.{to_next, stored_row, output_row, fit_arguments, outputs_row, called, moves_of_call}
use Rattle.ranges_laws.proofs.Rows.{set_length}
use Rattle.ranges_transfer.specs.declared.meant.Meant.{Meant}
use Rattle.ranges_transfer.specs.Meant.{resolved, stored_in}
use Rattle.ranges_transfer.proofs.Resolved.{stored_is}
use Rattle.load_scope.specs.Units.{scalar_of, is_block}
use Rattle.ranges_transfer.specs.Scopes.{named, form_in, argument_fits, argument_row, IsInstance}

module _ (n : Names) where
  -- ARGUMENTS THAT FIT

  fit_next : (row : List Interval) (block : Text) (args : List Argument) (i : ℕ) (a : Argument) → slice_get args i ≡ Some a
      → fit_arguments n row n.config n.unit block (drop i args) ≡ (argument_fits n row block a && fit_arguments n row n.config n.unit block (drop (suc i) args))
  fit_next row block [] i a e = absurd (let bad : ◌≡◌ {A = Option Argument} None (Some a) = e in cc)
  fit_next row block (x ∷ args) zero a e = by_kind x ∙ ap (λ y. argument_fits n row block y && fit_arguments n row n.config n.unit block args) (same x a e)
    where
      same : (x a : Argument) → Some x ≡ Some a → x ≡ a
      same x a e = cc

      by_kind : (x : Argument) → fit_arguments n row n.config n.unit block (x ∷ args) ≡ (argument_fits n row block x && fit_arguments n row n.config n.unit block args)
      by_kind (Input word o) = refl
      by_kind (Output word to) = refl
  fit_next row block (x ∷ args) (suc i) a e = fit_next row block args i a e

  fit_end : (row : List Interval) (block : Text) (args : List Argument) (i : ℕ) → i ≡ length args → fit_arguments n row n.config n.unit block (drop i args) ≡ true
  fit_end row block [] zero e = refl
  fit_end row block [] (suc i) e = absurd (omega arith)
  fit_end row block (x ∷ args) zero e = absurd (omega arith)
  fit_end row block (x ∷ args) (suc i) e = fit_end row block args i (omega arith)

  -- what is left says what all say
  abbrev pub FitOn : List Interval → Text → List Argument → ℕ → Type 0
  FitOn row instance args i = (block : Text) → form_in n instance ≡ Some (BlockForm block) → fit_arguments n row n.config n.unit block args ≡ fit_arguments n row n.config n.unit block (drop i args)

  pub misfits : (row : List Interval) (instance : Text) (args : List Argument) (i : ℕ) (a : Argument) (b : Bool) → FitOn row instance args i → slice_get args i ≡ Some a → ((block : Text) → form_in n instance ≡ Some (BlockForm block) → b ≡ argument_fits n row block a) → b ≡ false
      → (block : Text) → form_in n instance ≡ Some (BlockForm block) → false ≡ fit_arguments n row n.config n.unit block args
  misfits row instance args i a b on at fits is block form =
      sym (on block form ∙ fit_next row block args i a at ∙ ap (λ x. x && fit_arguments n row n.config n.unit block (drop (suc i) args)) (sym (fits block form) ∙ is))

  pub fits_next : (row : List Interval) (instance : Text) (args : List Argument) (i : ℕ) (a : Argument) (b : Bool) → FitOn row instance args i → slice_get args i ≡ Some a → ((block : Text) → form_in n instance ≡ Some (BlockForm block) → b ≡ argument_fits n row block a) → b ≡ true → FitOn row instance args (i + 1)
  fits_next row instance args i a b on at fits is block form =
      on block form ∙ fit_next row block args i a at ∙ ap (λ x. x && fit_arguments n row n.config n.unit block (drop (suc i) args)) (sym (fits block form) ∙ is) ∙ ap (λ k. fit_arguments n row n.config n.unit block (drop k args)) (sym (add-one i))

  pub fits_all : (row : List Interval) (instance : Text) (args : List Argument) (i : ℕ) → FitOn row instance args i → i ≡ length args → (block : Text) → form_in n instance ≡ Some (BlockForm block) → true ≡ fit_arguments n row n.config n.unit block args
  fits_all row instance args i on e block form = sym (on block form ∙ fit_end row block args i e)

  -- OUTPUTS

  row_next : (block : Text) (args : List Argument) (i : ℕ) (a : Argument) (row : List Interval) → slice_get args i ≡ Some a → outputs_row n n.config n.unit block (drop i args) row ≡ outputs_row n n.config n.unit block (drop (suc i) args) (argument_row n block a row)
  row_next block [] i a row e = absurd (let bad : ◌≡◌ {A = Option Argument} None (Some a) = e in cc)
  row_next block (x ∷ args) zero a row e = by_kind x ∙ ap (λ y. outputs_row n n.config n.unit block args (argument_row n block y row)) (same x a e)
    where
      same : (x a : Argument) → Some x ≡ Some a → x ≡ a
      same x a e = cc

      by_kind : (x : Argument) → outputs_row n n.config n.unit block (x ∷ args) row ≡ outputs_row n n.config n.unit block args (argument_row n block x row)
      by_kind (Input word o) = refl
      by_kind (Output word to) = refl
  row_next block (x ∷ args) (suc i) a row e = row_next block args i a row e

  row_end : (block : Text) (args : List Argument) (i : ℕ) (row : List Interval) → i ≡ length args → outputs_row n n.config n.unit block (drop i args) row ≡ row
  row_end block [] zero row e = refl
  row_end block [] (suc i) row e = absurd (omega arith)
  row_end block (x ∷ args) zero row e = absurd (omega arith)
  row_end block (x ∷ args) (suc i) row e = row_end block args i row (omega arith)

  -- what is left leads to what all leads to
  abbrev pub RowOn : Text → List Argument → ℕ → List Interval → List Interval → Type 0
  RowOn instance args i first row = (block : Text) → form_in n instance ≡ Some (BlockForm block) → outputs_row n n.config n.unit block args first ≡ outputs_row n n.config n.unit block (drop i args) row

  pub copied_next : (instance : Text) (args : List Argument) (i : ℕ) (a : Argument) (first row new : List Interval) → RowOn instance args i first row → slice_get args i ≡ Some a → ((block : Text) → form_in n instance ≡ Some (BlockForm block) → new ≡ argument_row n block a row) → RowOn instance args (i + 1) first new
  copied_next instance args i a first row new on at is block form =
      on block form ∙ row_next block args i a row at ∙ ap (outputs_row n n.config n.unit block (drop (suc i) args)) (sym (is block form)) ∙ ap (λ k. outputs_row n n.config n.unit block (drop k args) new) (sym (add-one i))

  pub copied_all : (instance : Text) (args : List Argument) (i : ℕ) (first row : List Interval) → RowOn instance args i first row → i ≡ length args → (block : Text) → form_in n instance ≡ Some (BlockForm block) → row ≡ outputs_row n n.config n.unit block args first
  copied_all instance args i first row on e block form = sym (on block form ∙ row_end block args i row e)

  -- an output that is copied, and one that isn't scalar
  pub output_is : (target : Text) (s : Scalar) (m : Meant) (k : Known) (row new : List Interval) → m ≡ resolved n (named n target) → k ≡ declared_known s → new ≡ stored_in m k row → (form : Option Form) → Some s ≡ scalar_of form → new ≡ output_row n form (named n target) row
  output_is target s m k row new m_is k_is new_is None e = let bad : Some s ≡ None = e in cc
  output_is target s m k row new m_is k_is new_is (Some (ArrayForm bounds element)) e = let bad : Some s ≡ None = e in cc
  output_is target s m k row new m_is k_is new_is (Some (BlockForm block)) e = let bad : Some s ≡ None = e in cc
  output_is target s m k row new m_is k_is new_is (Some (ScalarForm t)) e =
      let same : s ≡ t = cc in
      new_is ∙ ap (λ x. stored_in x k row) m_is ∙ ap (λ x. stored_in (resolved n (named n target)) x row) (k_is ∙ ap declared_known same) ∙ stored_is n row (Variable target) (declared_known t)

  pub no_output : (d : Denotation) (row : List Interval) (form : Option Form) → None ≡ scalar_of form → row ≡ output_row n form d row
  no_output d row None e = refl
  no_output d row (Some (ArrayForm bounds element)) e = refl
  no_output d row (Some (BlockForm block)) e = refl
  no_output d row (Some (ScalarForm s)) e = let bad : None ≡ Some s = e in cc

  -- outputs keep a row's length
  put_length : (row : List Interval) (o : Option ℕ) (j : Interval) → length (put_by row o j) ≡ length row
  put_length row None j = refl
  put_length row (Some k) j = set_length row k j

  stored_length : (d : Denotation) (k : Known) (row : List Interval) → length (stored_row n d k row) ≡ length row
  stored_length (Direct name s) (Ranged e i) row = put_length row (get n.numbers name) i
  stored_length (Direct name s) Flag row = refl
  stored_length (Constant l) k row = refl
  stored_length (Numbered name bounds element z) k row = refl
  stored_length (Indexed name bounds element variable s) k row = refl
  stored_length (Inside instance word s) k row = refl
  stored_length Unknown k row = refl

  output_length : (form : Option Form) (d : Denotation) (row : List Interval) → length (output_row n form d row) ≡ length row
  output_length (Some (ScalarForm s)) d row = stored_length d (declared_known s) row
  output_length None d row = refl
  output_length (Some (ArrayForm bounds element)) d row = refl
  output_length (Some (BlockForm block)) d row = refl

  outputs_length : (block : Text) (args : List Argument) (row : List Interval) → length (outputs_row n n.config n.unit block args row) ≡ length row
  outputs_length block [] row = refl
  outputs_length block (Input word o ∷ args) row = outputs_length block args row
  outputs_length block (Output word to ∷ args) row = outputs_length block args _ ∙ output_length _ _ row

  -- the form of an instance
  pub block_there : (o : Option Form) → is_block o ≡ true → (block : Text) × (o ≡ Some (BlockForm block))
  block_there None e = let bad : false ≡ true = e in cc
  block_there (Some (ScalarForm s)) e = let bad : false ≡ true = e in cc
  block_there (Some (ArrayForm bounds element)) e = let bad : false ≡ true = e in cc
  block_there (Some (BlockForm block)) e = (block, refl)

  pub same_length : (instance : Text) (args : List Argument) (row new : List Interval) → IsInstance n instance → ((block : Text) → form_in n instance ≡ Some (BlockForm block) → new ≡ outputs_row n n.config n.unit block args row) → length new ≡ length row
  same_length instance args row new is new_is = let b = block_there (form_in n instance) is in ap length (new_is b.0 b.1) ∙ outputs_length b.0 args row

  -- CALLS

  pub no_instance : (f : Facts) (condition : Condition) (args : List Argument) (o : Option Form) → is_block o ≡ false → moves_of_call n n.config n.unit f condition args o ≡ None
  no_instance f condition args None e = refl
  no_instance f condition args (Some (ScalarForm s)) e = refl
  no_instance f condition args (Some (ArrayForm bounds element)) e = refl
  no_instance f condition args (Some (BlockForm block)) e = let bad : true ≡ false = e in cc

  pub no_fit : (f : Facts) (condition : Condition) (instance : Text) (args : List Argument) (b : Bool) → IsInstance n instance → ((block : Text) → form_in n instance ≡ Some (BlockForm block) → b ≡ fit_arguments n f.row n.config n.unit block args) → b ≡ false → moves_of_call n n.config n.unit f condition args (form_in n instance) ≡ None
  no_fit f condition instance args b is fits no_ =
      let x = block_there (form_in n instance) is in
      ap (moves_of_call n n.config n.unit f condition args) x.1 ∙ ap (λ t. provided t (Some (to_next (called n n.config n.unit f condition x.0 args)))) (sym (fits x.0 x.1) ∙ no_)

  pub call_fits : (f : Facts) (condition : Condition) (instance : Text) (args : List Argument) (b : Bool) (row : List Interval) → IsInstance n instance → ((block : Text) → form_in n instance ≡ Some (BlockForm block) → b ≡ fit_arguments n f.row n.config n.unit block args) → b ≡ true
      → ((block : Text) → form_in n instance ≡ Some (BlockForm block) → row ≡ (called n n.config n.unit f condition block args).row) → moves_of_call n n.config n.unit f condition args (form_in n instance) ≡ Some (to_next (facts row None f.deferred))
  call_fits f condition instance args b row is fits yes_ row_is =
      let x = block_there (form_in n instance) is in
      ap (moves_of_call n n.config n.unit f condition args) x.1 ∙ ap (λ t. provided t (Some (to_next (called n n.config n.unit f condition x.0 args)))) (sym (fits x.0 x.1) ∙ yes_)
      ∙ ap (λ r. Some (to_next (facts r None f.deferred))) (sym (row_is x.0 x.1))
