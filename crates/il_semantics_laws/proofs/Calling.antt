-- The arguments of a call, and what a call leaves of the frame that calls.
use Rattle.std.proofs.Common.{◌≡◌, ℕ, suc, List, [], ◌∷◌, ◌++◌, refl, ◌∙◌, Some, None, Option, arith}
use Rattle.std.proofs.lemmas.List.Elements.{Contains-append_left, Contains-append_right}
use Rattle.std.specs.Prelude.{Contains}
use Rattle.il_syntax.specs.declared.tree.Config.{Config}
use Rattle.il_syntax.specs.declared.tree.Unit.{Unit as ProgramUnit}
use Rattle.il_syntax.specs.declared.tree.Scalar.{Scalar}
use Rattle.il_syntax.specs.declared.tree.Form.{Form}
use Rattle.il_syntax.specs.declared.tree.Form.TheVariants.{Scalar as ScalarForm, Array as ArrayForm, Block as BlockForm}
use Rattle.il_syntax.specs.declared.tree.Reference.TheVariants.{Variable as OfVariable}
use Rattle.il_syntax.specs.declared.tree.Argument.{Argument}
use Rattle.il_syntax.specs.declared.tree.Argument.TheVariants.{Input, Output}
use Rattle.ranges_interval.specs.declared.Interval.{Interval}
use Rattle.il_statics.specs.Names.{entry_of, BlockVariables, block_variables, form_named}
use Rattle.il_semantics.specs.declared.value.Value.{Value}
use Rattle.il_semantics.specs.declared.value.Content.{Content}
use Rattle.base_maps.specs.NameMap.{NameMap, Text, insert}
use Rattle.il_semantics.specs.State.{Values, Frame}
use Rattle.il_semantics.specs.Values.{IsOf}
use Rattle.il_semantics.specs.Meaning.{under, member_path, inputs_of, outputs_of, Denotation, Inside, direct, denotation}
use Rattle.il_semantics.specs.Step.{Outcome, Scene, Location, at, content, with_scalar, with_operand, with_kept, with_location, stored, assigned, copied, with_members}
use Rattle.il_semantics.specs.declared.known.Known.{Known}
use Rattle.il_semantics.specs.Annotation.{Knowledge, Fits, declared_known, WithScalarForm, WithOperand, WithTarget, after_store, after_output, after_outputs, FitArguments}
use Rattle.il_semantics_laws.specs.Agreement.{HasVariable, itself, member, IsKept, Holds, IsKnown, KnowsVariables, FrameAgrees, CallersAgree}
use Rattle.il_semantics_laws.specs.Soundness.{IsInOrder}
use Rattle.il_semantics_laws.proofs.Reading.{IsMeant, is_meant, Aims, found_entry, value_ok, location_ok, operand_ok, declared_is_known}
use Rattle.il_semantics_laws.proofs.Storing.{stored_ok, holds_after, knows_after, knows_aside, Confined, confined_store}
use Rattle.il_semantics_laws.proofs.Texts.{no_member}
use Rattle.il_semantics_laws.proofs.Once.{paths_once}
use Rattle.il_semantics_laws.proofs.Moving.{scene, spot, Q}

-- WORDS OF A BLOCK

-- what a table of a block's inputs or outputs has is a variable of the block
pub input_of : (c : Config) (block word : Text) (f : Form) → entry_of (inputs_of (block_variables c block)) word ≡ Some f → HasVariable c block word f
input_of c block word f e = by_block (block_variables c block) refl e
  where
    by_block : (o : Option BlockVariables) → block_variables c block ≡ o → entry_of (inputs_of o) word ≡ Some f → HasVariable c block word f
    by_block None is e = cc
    by_block (Some b) is e = (b, is, Contains-append_left (b.inputs ++ b.outputs) b.inner _ (Contains-append_left b.inputs b.outputs _ (found_entry b.inputs word f e)))

pub output_of : (c : Config) (block word : Text) (f : Form) → entry_of (outputs_of (block_variables c block)) word ≡ Some f → HasVariable c block word f
output_of c block word f e = by_block (block_variables c block) refl e
  where
    by_block : (o : Option BlockVariables) → block_variables c block ≡ o → entry_of (outputs_of o) word ≡ Some f → HasVariable c block word f
    by_block None is e = cc
    by_block (Some b) is e = (b, is, Contains-append_left (b.inputs ++ b.outputs) b.inner _ (Contains-append_right b.inputs b.outputs _ (found_entry b.outputs word f e)))

module _ (c : Config) (p : ProgramUnit) (order : IsInOrder c p) (bound : ℕ) (values : Values) (f : Frame) (below : List Frame) (u : ProgramUnit) (k : Knowledge) (a : FrameAgrees c p values f u k) (callers : CallersAgree c p values u f.unit f.path below) where
  abbrev pub here : Values → Option Content → Scene
  here = scene c p order bound values f below u k a callers

  abbrev pub good : Outcome → Type 0
  good = Q c p order bound values f below u k a callers

  -- values within an instruction: all declared sets, changes of this frame alone, and what is known by now
  pub record Midway (vs : NameMap Interval) (now : Values) : Type 0 where
    pub holds : Holds c p now
    pub confined : Confined f.path values now
    pub knows : KnowsVariables c u f.path vs now

  -- a store goes from the one to the next
  pub stores_on : (vs : NameMap Interval) (now : Values) → Midway vs now → (m : Denotation) (l : Location) (x : Content) (known : Known) → IsMeant c u m → Aims f.path m l → IsKept c p l.path l.scalar → Fits l.scalar known → IsKnown known x → IsOf l.scalar x.value
      → Midway (after_store m known vs) (insert now l.path x.value)
  stores_on vs now mid m l x known means aims kept fits h of_it = record {
    holds = holds_after c p now l.path l.scalar x.value mid.holds (paths_once c p order) kept of_it;
    confined = λ some q outside. confined_store f.path now m l x.value aims some q outside ∙ mid.confined some q outside;
    knows = knows_after c p u f.path now mid.holds a.kept (order.words u a.among) vs mid.knows m l known x means aims fits h;
  }

  -- the inputs of a call
  pub assigned_ok : (instance block : Text) (arguments : List Argument) (s : Option Content) (was now : Values) (go : Values → Outcome) → form_named c u instance ≡ Some (BlockForm block) → Midway k.variables now → FitArguments (spot c p order bound values f below u k a callers) block arguments
      → ((after : Values) → Midway k.variables after → good (go after)) → good (assigned (here was s) (under f.path instance) (inputs_of (block_variables c block)) arguments now go)
  assigned_ok instance block [] s was now go form mid w g = g now mid
  assigned_ok instance block (Output word to ∷ more) s was now go form mid w g = assigned_ok instance block more s was now go form mid w.1 g
  assigned_ok instance block (Input word operand ∷ more) s was now go form mid w g =
      by_entry (entry_of (inputs_of (block_variables c block)) word.name) refl w.0 (λ after next. assigned_ok instance block more s was after go form next w.1 g)
    where
      by_entry : (o : Option Form) → entry_of (inputs_of (block_variables c block)) word.name ≡ o → WithScalarForm o (λ scalar. WithOperand k.variables scalar.elementary (denotation c u operand.reference) (λ m. Fits scalar m))
          → ((after : Values) → Midway k.variables after → good (assigned (here was s) (under f.path instance) (inputs_of (block_variables c block)) more after go))
          → good (with_scalar o (λ scalar. with_operand scalar.elementary f.path now (denotation c u operand.reference) (λ x.
          stored now (at (member_path (under f.path instance) word.name) scalar) x (λ after. assigned (here was s) (under f.path instance) (inputs_of (block_variables c block)) more after go))))
      by_entry None is w rest = absurd w
      by_entry (Some (ArrayForm bounds e)) is w rest = absurd w
      by_entry (Some (BlockForm b)) is w rest = absurd w
      by_entry (Some (ScalarForm scalar)) is w rest =
          let means : IsMeant c u (Inside instance word.name scalar) = (block, form, input_of c block word.name (ScalarForm scalar) is) in
          let kept = a.kept _ scalar (instance, BlockForm block, form, member _ _ block word.name (ScalarForm scalar) refl means.2 (itself _ _ refl refl)) in
          operand_ok good c p u f.path now mid.holds a.kept k.variables mid.knows scalar.elementary scalar.elementary (denotation c u operand.reference) (is_meant c u operand.reference) (λ m. Fits scalar m) _ (λ i h. refl) w (λ m x h fits.
          stored_ok good now (at (member_path (under f.path instance) word.name) scalar) m x (λ after. assigned (here was s) (under f.path instance) (inputs_of (block_variables c block)) more after go) h fits (λ of_it.
          rest _ (stores_on k.variables now mid (Inside instance word.name scalar) (at (member_path (under f.path instance) word.name) scalar) x m means refl kept fits h of_it)))

  -- a name alone is a target whatever is known
  target_by : (name : Text) (o : Option Form) (vs ws : NameMap Interval) (P : Scalar → Type 0) → WithTarget vs (direct name o) P → WithTarget ws (direct name o) P
  target_by name None vs ws P w = w
  target_by name (Some (ScalarForm s)) vs ws P w = w
  target_by name (Some (ArrayForm bounds e)) vs ws P w = w
  target_by name (Some (BlockForm b)) vs ws P w = w

  -- the target of an output, and what is known after some outputs
  abbrev aim : Text → Denotation
  aim name = denotation c u (OfVariable name)

  abbrev onward : Text → List Argument → NameMap Interval → NameMap Interval
  onward block more ws = after_outputs (spot c p order bound values f below u k a callers) block more ws

  -- the outputs of a call
  pub copied_ok : (instance block : Text) (arguments : List Argument) (s : Option Content) (was now : Values) (vs : NameMap Interval) (go : Values → Outcome) → form_named c u instance ≡ Some (BlockForm block) → Midway vs now
      → FitArguments (spot c p order bound values f below u k a callers) block arguments
      → ((after : Values) → Midway (after_outputs (spot c p order bound values f below u k a callers) block arguments vs) after → good (go after)) → good (copied (here was s) (under f.path instance) (outputs_of (block_variables c block)) arguments now go)
  copied_ok instance block [] s was now vs go form mid w g = g now mid
  copied_ok instance block (Input word operand ∷ more) s was now vs go form mid w g = copied_ok instance block more s was now vs go form mid w.1 g
  copied_ok instance block (Output word to ∷ more) s was now vs go form mid w g =
      by_entry (entry_of (outputs_of (block_variables c block)) word.name) refl w.0 (λ ws after next. copied_ok instance block more s was after ws go form next w.1) g
    where
      by_entry : (o : Option Form) → entry_of (outputs_of (block_variables c block)) word.name ≡ o → WithScalarForm o (λ scalar. WithTarget k.variables (aim to.name) (λ t. Fits t (declared_known scalar)))
          → ((ws : NameMap Interval) (after : Values) → Midway ws after → ((last : Values) → Midway (onward block more ws) last → good (go last)) → good (copied (here was s) (under f.path instance) (outputs_of (block_variables c block)) more after go))
          → ((last : Values) → Midway (onward block more (after_output o (aim to.name) vs)) last → good (go last))
          → good (with_scalar o (λ scalar. with_kept now (at (member_path (under f.path instance) word.name) scalar) (λ x. with_location f.path now (aim to.name) (λ l.
          stored now l x (λ after. copied (here was s) (under f.path instance) (outputs_of (block_variables c block)) more after go)))))
      by_entry None is w rest g = absurd w
      by_entry (Some (ArrayForm bounds e)) is w rest g = absurd w
      by_entry (Some (BlockForm b)) is w rest g = absurd w
      by_entry (Some (ScalarForm scalar)) is w rest g =
          let inner : IsKept c p (member_path (under f.path instance) word.name) scalar =
          a.kept _ scalar (instance, BlockForm block, form, member _ _ block word.name (ScalarForm scalar) refl (output_of c block word.name (ScalarForm scalar) is) (itself _ _ refl refl)) in
          value_ok good c p u f.path now mid.holds a.kept vs mid.knows (member_path (under f.path instance) word.name) scalar _ inner (λ v there of_v.
          location_ok good c p u f.path now mid.holds a.kept vs mid.knows (aim to.name) (is_meant c u (OfVariable to.name)) (λ t. Fits t (declared_known scalar)) _ (target_by to.name (form_named c u to.name) k.variables vs (λ t. Fits t (declared_known scalar)) w) (λ l aims kept fits.
          stored_ok good now l (declared_known scalar) (content scalar.elementary v) (λ after. copied (here was s) (under f.path instance) (outputs_of (block_variables c block)) more after go) (declared_is_known scalar v of_v) fits (λ of_it.
          rest _ _ (stores_on vs now mid (aim to.name) l (content scalar.elementary v) (declared_known scalar) (is_meant c u (OfVariable to.name)) aims kept fits (declared_is_known scalar v of_v) of_it) g)))

  -- what a call of a standard block leaves of its instance
  pub members_ok : (instance block : Text) (es : List (Text × Value)) (vs : NameMap Interval) (now : Values) → form_named c u instance ≡ Some (BlockForm block) → ((e : Text × Value) → Contains es e → (t : Scalar) × HasVariable c block e.0 (ScalarForm t) × IsOf t e.1)
      → Midway vs now → Midway vs (with_members (under f.path instance) es now)
  members_ok instance block [] vs now form each mid = mid
  members_ok instance block (e ∷ es) vs now form each mid =
      let t = each e (0, omega arith, refl) in
      let kept = a.kept _ t.0 (instance, BlockForm block, form, member _ _ block e.0 (ScalarForm t.0) refl t.1 (itself _ _ refl refl)) in
      members_ok instance block es vs _ form (λ d among. each d (suc among.0, omega (arith, among.1), among.2)) (record {
        holds = holds_after c p now (member_path (under f.path instance) e.0) t.0 e.1 mid.holds (paths_once c p order) kept t.2;
        confined = λ some q outside. confined_store f.path now (Inside instance e.0 t.0) (at (member_path (under f.path instance) e.0) t.0) e.1 refl some q outside ∙ mid.confined some q outside;
        knows = knows_aside c p u f.path now mid.holds a.kept (order.words u a.among) vs mid.knows (member_path (under f.path instance) e.0) e.1 (λ other is_word. no_member f.path other instance e.0 is_word);
      })
