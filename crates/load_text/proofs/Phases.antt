-- What the phases say of a text.
use Rattle.std.proofs.Common.{◌≡◌, ℕ, ◌≤◌, List, [], length, subst, sym, Result, Ok, Err}
use Rattle.std.specs.Prelude.{IsErrAnd, IfErr, IfOk}
use Rattle.il_syntax.specs.declared.tree.Config.{Config}
use Rattle.il_syntax.specs.declared.token.Token.{Token}
use Rattle.il_syntax.specs.declared.fault.Refusal.{Refusal}
use Rattle.il_syntax.specs.declared.fault.Refusal.TheVariants.{Fault, Memory}
use Rattle.il_syntax.specs.Text.{AreTokens}
use Rattle.il_syntax.specs.Grammar.{AfterLines, SpellsConfig, Spells, IsWithinLimits}
use Rattle.il_statics.specs.Faults.{HasNoFault, IsRefusedBy, BreaksDeclarations, Broken, Typing, Ordering}
use Rattle.il_statics.specs.Written.{IsWritten, IsNested}
use Rattle.load_tree.specs.Refused.{IsFault}
use Rattle.ranges_pass.specs.Lacking.{BreaksRanges}
use Rattle.load_budgets.specs.Costs.{IsTooLong}
use Rattle.il_semantics.specs.Annotation.{Annotated}
use Rattle.scan_task.specs.Scanning.{Program}
use Rattle.group_laws.specs.Runs.{RunsWell}
use Rattle.load_text.specs.Loading.{IsSpelled, SpellsOnly, IsAccepted, IsRefusedFor, by_declarations, by_types, by_order, IsUnbroken, by_ranges, by_budgets, IsExplained}
use Rattle.load_text.proofs.Explaining.{explained_by_tree}
use Rattle.load_text.proofs.Accepting.{same_spelled, names_broken, accepted_is}
use Rattle.group_laws.proofs.Accepted.{accepted_runs_well}
use Rattle.scan_task.proofs.Scans.{sound_of}
use Rattle.il_work_laws.specs.Work.{ScansDoNoMore}
use Rattle.il_work_laws.proofs.Working.{scans_do_no_more}

-- what the parser gives is all that a text spells
pub spells_only : (text : List ℕ) (tokens : List Token) (c : Config) → ((ts : List Token) → AreTokens text 0 ts → ts ≡ tokens) → length text ≤ 262144 → Spells text c → (length text ≤ 262144 → IsWithinLimits text c)
    → ((d : Config) → AfterLines (SpellsConfig text d) tokens [] → d ≡ c) → SpellsOnly text c
spells_only text tokens c cut short spelled limits unique = record {
  spelled = record { spelled = spelled; limits = limits short };
  only = same_spelled text tokens c cut unique;
}

-- WHAT IS VERIFIED, OR NOT

module _ (text : List ℕ) (c : Config) (s : SpellsOnly text c) where
  pub found_by : (r : Result Program Refusal) → IfOk r (λ v. v.config ≡ c) → IfOk r (λ _. IsUnbroken c) → IfOk r (λ _. Annotated c) → IfOk r (λ _. HasNoFault (IsTooLong c)) → IfOk r (λ v. IsAccepted text v.config)
  found_by (Ok v) same unbroken annotated affordable = subst (IsAccepted text) (sym same) (accepted_is text c s.spelled unbroken annotated affordable)
  found_by (Err e) same unbroken annotated affordable = tt

  pub found_unbroken : (r : Result Config Refusal) → IfOk r (λ o. o ≡ c) → IfOk r (λ _. IsUnbroken c) → IfOk r (λ o. IsSpelled text o × IsUnbroken o)
  found_unbroken (Ok o) same unbroken = (subst (IsSpelled text) (sym same) s.spelled, subst IsUnbroken (sym same) unbroken)
  found_unbroken (Err e) same unbroken = tt

  -- no accepted configuration is spelled where one is refused
  pub refused_by : {X : Type 0} (r : Result X Refusal) → IfErr r (IsRefusedFor c) → IsFault r → (d : Config) → IsAccepted text d → ⊥
  refused_by (Ok x) refused fault d a = absurd fault
  refused_by (Err (Fault number place)) refused fault d a = names_broken c number place refused (subst (IsAccepted text) (s.only d a.spelled) a)
  refused_by (Err Memory) refused fault d a = absurd fault

  -- the fault is that of whatever is spelled
  pub named_by : {X : Type 0} (r : Result X Refusal) → IfErr r (IsRefusedFor c) → IsFault r → (d : Config) → IsSpelled text d → IsErrAnd r (IsRefusedFor d)
  named_by (Ok x) refused fault d a = absurd fault
  named_by (Err e) refused fault d a = subst (λ b. IsRefusedFor b e) (sym (s.only d a)) refused

  -- and it is explained
  pub explained_by : {X : Type 0} (r : Result X Refusal) → IfErr r (IsRefusedFor c) → IfErr r (IsExplained text)
  explained_by (Ok x) refused = tt
  explained_by (Err e) refused = explained_by_tree text c e s.spelled refused

-- what is verified runs well
pub runs_by : (c : Config) (r : Result Program Refusal) → IsWritten c → IsNested c → IfOk r (λ v. v.config ≡ c) → IfOk r (λ _. IsUnbroken c) → IfOk r (λ _. Annotated c) → IfOk r (λ v. RunsWell v.config)
runs_by c (Ok v) written nested same unbroken annotated =
    subst RunsWell (sym same) (accepted_runs_well c (sound_of c (record { written = written; declared = unbroken.declared; typed = unbroken.typed; ordered = unbroken.ordered; annotated = annotated; nested = nested })))
runs_by c (Err e) written nested same unbroken annotated = tt

-- and no scan of it does more work than is counted
pub works_by : (c : Config) (r : Result Program Refusal) → IsWritten c → IsNested c → IfOk r (λ v. v.config ≡ c) → IfOk r (λ _. IsUnbroken c) → IfOk r (λ _. Annotated c) → IfOk r (λ v. ScansDoNoMore v.config)
works_by c (Ok v) written nested same unbroken annotated =
    let sound = sound_of c (record { written = written; declared = unbroken.declared; typed = unbroken.typed; ordered = unbroken.ordered; annotated = annotated; nested = nested }) in
    subst ScansDoNoMore (sym same) (scans_do_no_more c sound.written sound.declared sound.typed sound.ordered sound.annotated)
works_by c (Err e) written nested same unbroken annotated = tt

-- THE PHASES

-- a refusal that is handed on, of a configuration that is the same
pub at_types : (c declared : Config) (e : Refusal) → declared ≡ c → HasNoFault (BreaksDeclarations c) → IsRefusedBy (Broken Typing declared) e → IsRefusedFor c e
at_types c declared e is fine refused = by_types fine (subst (λ d. IsRefusedBy (Broken Typing d) e) is refused)

pub at_order : (c typed : Config) (e : Refusal) → typed ≡ c → HasNoFault (BreaksDeclarations c) → HasNoFault (Broken Typing c) → IsRefusedBy (Broken Ordering typed) e → IsRefusedFor c e
at_order c typed e is fine well_typed refused = by_order fine well_typed (subst (λ d. IsRefusedBy (Broken Ordering d) e) is refused)

-- what went through the phases up to order
pub unbroken_by : (c typed : Config) → typed ≡ c → HasNoFault (BreaksDeclarations c) → HasNoFault (Broken Typing c) → HasNoFault (Broken Ordering typed) → IsUnbroken c
unbroken_by c typed is fine well_typed in_order = record { declared = fine; typed = well_typed; ordered = subst (λ d. HasNoFault (Broken Ordering d)) is in_order }

pub at_ranges : (c code : Config) (e : Refusal) → code ≡ c → IsUnbroken c → IsRefusedBy (BreaksRanges code) e → IsRefusedFor c e
at_ranges c code e is unbroken refused = by_ranges unbroken (subst (λ d. IsRefusedBy (BreaksRanges d) e) is refused)

pub at_budgets : (c names : Config) (e : Refusal) → names ≡ c → IsUnbroken c → Annotated c → IsRefusedBy (IsTooLong names) e → IsRefusedFor c e
at_budgets c names e is unbroken annotated refused = by_budgets unbroken annotated (subst (λ d. IsRefusedBy (IsTooLong d) e) is refused)

-- out of memory says nothing
pub at_memory : (c : Config) (e : Refusal) → e ≡ Memory → IsRefusedFor c e
at_memory c e is = subst (IsRefusedFor c) (sym is) (by_declarations tt)
