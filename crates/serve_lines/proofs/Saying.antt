-- What lines say.
use Rattle.std.proofs.Common.{◌≡◌, ℕ, List, Bool, sym, ap, ◌∙◌, subst, arith}
use Rattle.std.specs.Prelude.{codes, IsTrue}
use Rattle.il_syntax.specs.declared.tree.Config.{Config}
use Rattle.group_spec.specs.declared.calls.Call.{Call}
use Rattle.group_spec.specs.declared.image.Fields.{Fields}
use Rattle.group_spec.specs.declared.image.Sizes.{Sizes}
use Rattle.group_spec.specs.declared.trace.TraceEvent.{TraceEvent}
use Rattle.group_spec.specs.declared.trace.TraceEvent.TheVariants as traced
use Rattle.group_spec.specs.Image.{sizes_of, FieldsInRange, fields_in_range}
use Rattle.group_spec.proofs.Laws.{range_test}
use Rattle.trace_text.specs.declared.format.Format.TheVariants.{Two}
use Rattle.trace_text.specs.Text.{line_of, IsTraced}
use Rattle.trace_text.proofs.Bytes.{same_first}
use Rattle.trace_text.proofs.Lines.{line_once}
use Rattle.serve_lines.specs.declared.said.Said.{Said}
use Rattle.serve_lines.specs.declared.said.Said.TheVariants.{Round, Press, End}
use Rattle.serve_lines.specs.Saying.{IsSpelled, IsTaken, said_line}

no_end : (e : TraceEvent) → line_of Two e ≡ codes "E" → ⊥
unfolding line_of
no_end (traced.Start t) e = let l : ◌≡◌ {A = ℕ} 83 69 = same_first _ _ _ _ e in absurd (omega arith)
no_end (traced.Commit t) e = let l : ◌≡◌ {A = ℕ} 67 69 = same_first _ _ _ _ e in absurd (omega arith)
no_end (traced.Press call) e = let l : ◌≡◌ {A = ℕ} 80 69 = same_first _ _ _ _ e in absurd (omega arith)
no_end (traced.Gather floor) e = let l : ◌≡◌ {A = ℕ} 71 69 = same_first _ _ _ _ e in absurd (omega arith)
no_end (traced.Refresh fields) e = let l : ◌≡◌ {A = ℕ} 82 69 = same_first _ _ _ _ e in absurd (omega arith)

-- whether the fields of a round are in range
pub round_test : (c : Config) (said : Said) (fields : Fields) (sizes : Sizes) (b : Bool) → said ≡ Round fields → sizes ≡ sizes_of c → b ≡ fields_in_range sizes fields → (IsTrue b → IsTaken c said) × (IsTaken c said → IsTrue b)
round_test c said fields sizes b is of tests =
    let test = range_test (sizes_of c) fields in
    let same : b ≡ fields_in_range (sizes_of c) fields = tests ∙ ap (λ (s : Sizes). fields_in_range s fields) of in
    (λ yes. subst (IsTaken c) (sym is) (test.0 (subst IsTrue same yes)), λ taken. subst IsTrue (sym same) (test.1 (subst (IsTaken c) is taken)))

-- what is said that is not taken is a round, whose fields are out of range
pub out_of_range : (c : Config) (line : List ℕ) (said : Said) → IsSpelled c said → line ≡ said_line said → (IsTaken c said → ⊥) → (fields : Fields) × IsSpelled c (Round fields) × (line ≡ said_line (Round fields)) × (FieldsInRange (sizes_of c) fields → ⊥)
out_of_range c line (Round fields) numbers spelled out = (fields, numbers, spelled, out)
out_of_range c line (Press call) numbers spelled out = absurd (out tt)
out_of_range c line End numbers spelled out = absurd (out tt)

module _ (c : Config) (cars : ℕ) (as_many : cars ≡ (sizes_of c).cars) (line : List ℕ) where
  traced_of : (e : TraceEvent) → IsTraced Two (sizes_of c).cars e → IsTraced Two cars e
  traced_of e is = subst (λ n. IsTraced Two n e) (sym as_many) is

  -- a line of no event and of no end says nothing
  pub none_said : (line ≡ codes "E" → ⊥) → ((e : TraceEvent) → IsTraced Two cars e → line ≡ line_of Two e → ⊥) → (other : Said) → IsSpelled c other → line ≡ said_line other → ⊥
  none_said no_end none (Round fields) numbers same = none (traced.Refresh fields) (traced_of (traced.Refresh fields) numbers) same
  none_said no_end none (Press call) numbers same = none (traced.Press call) (traced_of (traced.Press call) numbers) same
  none_said no_end none End numbers same = no_end same

  module _ (e : TraceEvent) (is : IsTraced Two cars e) (spelled : line ≡ line_of Two e) where
    pub round_said : (fields : Fields) → e ≡ traced.Refresh fields → IsSpelled c (Round fields) × (line ≡ said_line (Round fields))
    round_said fields here = (subst (IsTraced Two (sizes_of c).cars) here (subst (λ n. IsTraced Two n e) as_many is), spelled ∙ ap (line_of Two) here)

    pub press_said : (call : Call) → e ≡ traced.Press call → IsSpelled c (Press call) × (line ≡ said_line (Press call))
    press_said call here = (subst (IsTraced Two (sizes_of c).cars) here (subst (λ n. IsTraced Two n e) as_many is), spelled ∙ ap (line_of Two) here)

    -- a line of another event says nothing
    pub other_said : ((fields : Fields) → e ≡ traced.Refresh fields → ⊥) → ((call : Call) → e ≡ traced.Press call → ⊥) → (other : Said) → IsSpelled c other → line ≡ said_line other → ⊥
    other_said no_round no_press (Round fields) numbers same = no_round fields (line_once Two cars e (traced.Refresh fields) is (traced_of (traced.Refresh fields) numbers) (sym spelled ∙ same))
    other_said no_round no_press (Press call) numbers same = no_press call (line_once Two cars e (traced.Press call) is (traced_of (traced.Press call) numbers) (sym spelled ∙ same))
    other_said no_round no_press End numbers same = no_end e (sym spelled ∙ same)
