-- The units of an accepted configuration cost what the table says: jumps go forward, and units use one another at most so deep.
use Rattle.std.proofs.Common.{◌≡◌, ◌<◌, ◌≤◌, ◌+◌, ℕ, zero, suc, List, [], ◌∷◌, Some, None, Option, length, refl, subst, Contains, arith, ◌⊎◌, inl, inr}
use Rattle.std.proofs.lemmas.Bool.{cases_lt}
use Rattle.il_syntax.specs.declared.tree.Config.{Config}
use Rattle.il_syntax.specs.declared.tree.Unit.{Unit as ProgramUnit}
use Rattle.il_syntax.specs.declared.tree.Step.{Step as BodyStep}
use Rattle.il_syntax.specs.declared.tree.Named.{Named}
use Rattle.il_syntax.specs.declared.tree.Form.{Form}
use Rattle.il_syntax.specs.declared.tree.Form.TheVariants.{Scalar as ScalarForm, Array as ArrayForm, Block as BlockForm}
use Rattle.il_syntax.specs.declared.tree.Instruction.{Instruction}
use Rattle.il_syntax.specs.declared.tree.Instruction.TheVariants.{Load, Store, Not, Operate, Defer, Evaluate, Jump, Return, Call, Invoke}
use Rattle.il_statics.specs.Names.{form_named}
use Rattle.il_statics.specs.Types.{label_place, JumpsAt, unknown_label, backward}
use Rattle.il_statics.specs.Faults.{HasNoFault, Broken, Declaring, Typing, unknown_label as of_unknown_label, backward_jump}
use Rattle.il_semantics.specs.Meaning.{depth}
use Rattle.il_semantics.specs.Step.{instruction_at}
use Rattle.il_semantics.specs.Paths.{IsLongest, callee, block_unit, longest_within, longest, longest_path}
use Rattle.il_semantics_laws.specs.Agreement.{CallsBy, HasUse, IsStack}
use Rattle.il_semantics_laws.specs.Accepted.{IsOrdered}
use Rattle.il_semantics_laws.proofs.Named.{function_is_unit}
use Rattle.il_semantics_laws.proofs.Used.{calls_are_uses, no_standard}
use Rattle.il_semantics_laws.proofs.Stacks.{top_among, is_shallow}
use Rattle.il_semantics_laws.specs.Forward.{IsForward, IsPathAt, HasLongest}
use Rattle.il_semantics_laws.proofs.Longest.{is_longest, is_path}

module _ (c : Config) (declaring : HasNoFault (Broken Declaring c)) (typing : HasNoFault (Broken Typing c)) (ordering : IsOrdered c) where
  -- jumps go forward to labels that are there (34, 35)
  pub forward : (u : ProgramUnit) → Contains c.units u → IsForward u
  forward u among = record { ahead = ahead }
    where
      by_way : (at to : ℕ) (s : BodyStep) (label : Named) → JumpsAt u.body at s label → label_place u.body label.name ≡ Some to → (at < to) ⊎ (to ≤ at) → at < to
      by_way at to s label jumps there (inl on) = on
      by_way at to s label jumps there (inr back) = absurd (typing 35 s.place (backward_jump refl (backward u at to s label (record { written = among; jumps = jumps }) there back refl)))

      by_label : (at : ℕ) (s : BodyStep) (label : Named) → JumpsAt u.body at s label → (o : Option ℕ) → label_place u.body label.name ≡ o → (to : ℕ) × (label_place u.body label.name ≡ Some to) × (at < to)
      by_label at s label jumps None is = absurd (typing 34 s.place (of_unknown_label refl (unknown_label u at s label (record { written = among; jumps = jumps }) is refl)))
      by_label at s label jumps (Some to) is = (to, is, by_way at to s label jumps is (cases_lt at to))

      ahead : (at : ℕ) (s : BodyStep) (label : Named) → JumpsAt u.body at s label → (to : ℕ) × (label_place u.body label.name ≡ Some to) × (at < to)
      ahead at s label jumps = by_label at s label jumps (label_place u.body label.name) refl

  -- an instruction that runs a unit's body calls it
  runs_calls : (u v : ProgramUnit) (i : Instruction) → callee c u i ≡ Some v → CallsBy c u v i
  runs_calls u v (Call condition instance arguments) e = by_form (form_named c u instance.name) refl e
    where
      by_form : (o : Option Form) → form_named c u instance.name ≡ o → block_unit c o ≡ Some v → CallsBy c u v (Call condition instance arguments)
      by_form None is e = cc
      by_form (Some (ScalarForm s)) is e = cc
      by_form (Some (ArrayForm bounds s)) is e = cc
      by_form (Some (BlockForm block)) is e = (block, is, e)
  runs_calls u v (Invoke function operands) e = (no_standard c declaring function.name v (function_is_unit c function.name v e).0, e)
  runs_calls u v (Load negated o) e = cc
  runs_calls u v (Store kind to) e = cc
  runs_calls u v Not e = cc
  runs_calls u v (Operate operator o) e = cc
  runs_calls u v (Defer operator first) e = cc
  runs_calls u v Evaluate e = cc
  runs_calls u v (Jump condition label) e = cc
  runs_calls u v (Return condition) e = cc

  runs_used : (u v : ProgramUnit) (place : ℕ) → Contains c.units u → callee c u (instruction_at u.body place) ≡ Some v → HasUse c u v
  runs_used u v place among e = calls_are_uses c declaring u v place among (runs_calls u v (instruction_at u.body place) e)

  module _ (u : ProgramUnit) (among : Contains c.units u) where
    -- a unit in use has units below it, so that what is left of the depth is enough
    longest_at : (n : ℕ) (v : ProgramUnit) (us : List ProgramUnit) → IsStack c u v us → 16 ≤ n + length us → IsLongest c v (longest_within n c v)
    longest_at zero v us stack room = let low = is_shallow c u among declaring ordering v us stack in absurd (omega arith)
    longest_at (suc n) v us stack room =
        let here = top_among c u among declaring ordering v us stack in
        is_longest (longest_within n c) c v (forward v here) (λ place w e. longest_at n w (v ∷ us) (runs_used v w place here e, stack) (omega arith))

    at_depth : IsLongest c u (longest_within depth c u)
    at_depth = longest_at depth u [] refl (omega arith)

    deeper : IsLongest c u (longest_within (suc depth) c u)
    deeper = longest_at (suc depth) u [] refl (omega arith)

    pub same : longest_within (suc depth) c u ≡ longest_within depth c u
    same = let a = at_depth.greatest deeper.attained.0 (longest_within (suc depth) c u) deeper.attained.1 in let b = deeper.greatest at_depth.attained.0 (longest_within depth c u) at_depth.attained.1 in omega (arith, a, b)

    pub has_longest : HasLongest c u
    unfolding longest longest_path
    has_longest = record {
      greatest = at_depth;
      path = subst (λ n. IsPathAt c u n (longest_path c u)) same (is_path (longest_within depth c) c u (forward u among) (λ place w e. longest_at depth w (u ∷ []) (runs_used u w place among e, refl) (omega arith)));
    }
