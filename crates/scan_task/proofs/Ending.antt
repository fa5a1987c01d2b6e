-- A scan runs to its end.
use Rattle.std.proofs.Common.{◌≡◌, ◌≢◌, ◌≤◌, ◌↔◌, ℕ, zero, suc, Bool, true, false, not, [], refl, sym, ap, ◌∙◌, Some, None, Option, subst, arith}
use Rattle.std.specs.Prelude.{IsSome, is_some}
use Rattle.il_syntax.specs.declared.tree.Config.{Config}
use Rattle.il_syntax.specs.declared.tree.Unit.{Unit as ProgramUnit}
use Rattle.il_semantics.specs.State.{State}
use Rattle.il_semantics.specs.Step.{Next, step}
use Rattle.il_semantics.specs.Scan.{Reaches}
use Rattle.il_semantics.specs.Paths.{longest}
use Rattle.il_semantics_laws.specs.Agreement.{left}
use Rattle.load_slots.specs.Coded.{Code}
use Rattle.load_slots.specs.Program.{program_code}
use Rattle.scan_loop.specs.declared.frames.Frame.{Frame as FlatFrame}
use Rattle.scan_step.specs.Effect.{with_some}
use Rattle.scan_loop.specs.Going.{Stored, Runs, runs_in, after_one, ended_or, to_end}
use Rattle.scan_loop.specs.Framing.{state_by, Goes}
use Rattle.scan_loop.proofs.Framed.{Stepped}
use Rattle.scan_loop.proofs.Steps.{steps}
use Rattle.group_spec.specs.Snapshot.{program_of}
use Rattle.group_laws.specs.Tasks.{IsTaskOf}
use Rattle.scan_task.specs.Scanning.{IsRunnable, kept_of, state_of, IsScanState, IsScanOf}
use Rattle.scan_task.proofs.Scans.{goes, scan_after, fewer, state_is, frames_are, ended, ends}

module _ (c : Config) (runs : IsRunnable c) (task : ℕ) (u : ProgramUnit) (is : IsTaskOf c task u) where
  abbrev p : Code
  p = program_code c u

  -- where the scan ends, and in how many steps
  pub record Ends (n : ℕ) (s : Stored) : Type 0 where
    pub count : ℕ
    pub after : Stored
    pub to_end_is : to_end (runs_in p) n s ≡ Some (count, after)
    pub scan : IsScanState c u after
    pub over : after.running ≡ None
    pub some : 1 ≤ count
    pub reaches : Reaches c count (state_by p s) (state_by p after)

  going_on : (s : Stored) → s.running ≢ None → (kept_of c task s).frames ≢ []
  going_on s runs_so none = runs_so (ended c p.units s.running s.pairs s.callers (sym (frames_are c runs task u is s) ∙ none))

  pub runs_out : (n : ℕ) (s : Stored) → IsScanState c u s → s.running ≢ None → left c (state_by p s).frames ≤ n → Ends n s
  runs_out zero s scan running low =
      let less = fewer c runs task u is s scan (going_on s running) in
      let no : ⊥ = omega (arith, less, low) in absurd no
  runs_out (suc n) s scan running low = by_end t.after.running refl (λ more. runs_out n t.after after_scan more few)
    where
      on : (kept_of c task s).frames ≢ []
      on = going_on s running

      g : Goes p s
      g = goes c runs task u is s scan on

      t : Stepped p s g.after
      t = steps p s scan.framed g

      leads : step c (state_by p s) ≡ Next (state_by p t.after)
      leads = g.steps ∙ ap Next (sym t.state_is)

      after_scan : IsScanState c u t.after
      after_scan = scan_after c runs task u is s scan on t.after leads t.scan

      few : left c (state_by p t.after).frames ≤ n
      few = let less = fewer c runs task u is s scan on in let same = ap (λ (x : State). left c x.frames) t.state_is in omega (arith, less, low, same)

      begins : to_end (runs_in p) (suc n) s ≡ ended_or (to_end (runs_in p) n t.after) t.after t.after.running
      begins = ap (λ o. with_some o (λ k. ended_or (to_end (runs_in p) n k) k k.running)) t.next_is

      by_end : (o : Option FlatFrame) → t.after.running ≡ o → (t.after.running ≢ None → Ends n t.after) → Ends (suc n) s
      by_end None over more = record {
        count = 1;
        after = t.after;
        to_end_is = begins ∙ ap (ended_or (to_end (runs_in p) n t.after) t.after) over;
        scan = after_scan;
        over = over;
        some = omega arith;
        reaches = (state_by p t.after, leads, refl);
      }
      by_end (Some f) over more =
          let rest = more (λ none. let no : None ≡ Some f = sym none ∙ over in cc) in
          record {
            count = suc rest.count;
            after = rest.after;
            to_end_is = begins ∙ ap (ended_or (to_end (runs_in p) n t.after) t.after) over ∙ ap after_one rest.to_end_is;
            scan = rest.scan;
            over = rest.over;
            some = omega arith;
            reaches = (state_by p t.after, leads, rest.reaches);
          }

-- WHAT A RUN LEAVES

-- the store that a run leaves, by what is kept
pub record RunOut (c : Config) (task : ℕ) (s after : Stored) (n : ℕ) : Type 0 where
  pub scan : IsScanOf c task after
  pub over : (kept_of c task after).frames ≡ []
  pub some : 1 ≤ n
  pub reaches : Reaches c n (state_of (kept_of c task s)) (state_of (kept_of c task after))

same_end : (o : Option (ℕ × Stored)) (a b : ℕ × Stored) → o ≡ Some a → o ≡ Some b → a ≡ b
same_end o a b e g = cc

not_none : (c : Config) (runs : IsRunnable c) (task : ℕ) (u : ProgramUnit) (is : IsTaskOf c task u) (s : Stored) → (kept_of c task s).frames ≢ [] → s.running ≢ None
not_none c runs task u is s going none = going (frames_are c runs task u is s ∙ ends c (program_code c u).units s.running s.pairs s.callers none)

-- there is an end within the budget
pub end_there : (c : Config) → IsRunnable c → (task : ℕ) (s inside : Stored) → inside ≡ s → IsScanOf c task s → (kept_of c task s).frames ≢ [] → (r : Runs) → ((u : ProgramUnit) → program_of c task ≡ Some u → r ≡ runs_in (program_code c u))
    → (most : ℕ) → ((u : ProgramUnit) → program_of c task ≡ Some u → most ≡ longest c u) → IsSome (to_end r most inside)
end_there c runs task s inside same (u, is, scan) going r runs_so most most_is =
    let e = runs_out c runs task u is (longest c u) s scan (not_none c runs task u is s going) scan.budget in
    subst (λ k. IsSome (to_end r most k)) (sym same) (subst (λ t. IsSome (to_end t most s)) (sym (runs_so u is.program)) (subst (λ n. IsSome (to_end (runs_in (program_code c u)) n s)) (sym (most_is u is.program)) (ap is_some e.to_end_is)))

pub run_out : (c : Config) → IsRunnable c → (task : ℕ) (s inside after : Stored) (n : ℕ) → inside ≡ s → IsScanOf c task s → (kept_of c task s).frames ≢ [] → (r : Runs) → ((u : ProgramUnit) → program_of c task ≡ Some u → r ≡ runs_in (program_code c u))
    → (most : ℕ) → ((u : ProgramUnit) → program_of c task ≡ Some u → most ≡ longest c u) → to_end r most inside ≡ Some (n, after) → RunOut c task s after n
run_out c runs task s inside after n same (u, is, scan) going r runs_so most most_is ran =
    let e = runs_out c runs task u is (longest c u) s scan (not_none c runs task u is s going) scan.budget in
    let here : to_end (runs_in (program_code c u)) (longest c u) s ≡ Some (n, after) =
    ap (λ k. to_end (runs_in (program_code c u)) k s) (sym (most_is u is.program)) ∙ ap (λ t. to_end t most s) (sym (runs_so u is.program)) ∙ ap (to_end r most) (sym same) ∙ ran in
    let end : ◌≡◌ {A = ℕ × Stored} (e.count, e.after) (n, after) = same_end (to_end (runs_in (program_code c u)) (longest c u) s) (e.count, e.after) (n, after) e.to_end_is here in
    let count : e.count ≡ n = ap (λ (x : ℕ × Stored). x.0) end in
    let store : e.after ≡ after = ap (λ (x : ℕ × Stored). x.1) end in
    let scan_after : IsScanState c u after = subst (IsScanState c u) store e.scan in
    record {
      scan = (u, is, scan_after);
      over = frames_are c runs task u is after ∙ ends c (program_code c u).units after.running after.pairs after.callers (ap (λ (k : Stored). k.running) (sym store) ∙ e.over);
      some = subst (λ k. 1 ≤ k) count e.some;
      reaches =
          subst (λ x. Reaches c n x (state_of (kept_of c task after))) (state_is c runs task u is s scan.framed.fits)
          (subst (λ x. Reaches c n (state_by (program_code c u) s) x) (state_is c runs task u is after scan_after.framed.fits)
          (subst (λ k. Reaches c k (state_by (program_code c u) s) (state_by (program_code c u) after)) count (subst (λ k. Reaches c e.count (state_by (program_code c u) s) (state_by (program_code c u) k)) store e.reaches)));
    }

-- WHERE A SCAN HAS ENDED

none_there : (o : Option FlatFrame) (b : Bool) → is_some o ≡ not b → b ≡ true → o ≡ None
none_there None b test so = refl
none_there (Some f) b test so = let bad : true ≡ false = test ∙ ap not so in cc

is_true : (b : Bool) → false ≡ not b → b ≡ true
is_true true test = refl
is_true false test = cc

-- there is no frame exactly where none runs
pub ended_by : (c : Config) → IsRunnable c → (task : ℕ) (s : Stored) → IsScanOf c task s → (b : Bool) → is_some s.running ≡ not b → (b ≡ true) ↔ ((kept_of c task s).frames ≡ [])
ended_by c runs task s (u, is, scan) b test = (
  λ so. frames_are c runs task u is s ∙ ends c (program_code c u).units s.running s.pairs s.callers (none_there s.running b test so),
  λ over. is_true b (ap (λ (o : Option FlatFrame). is_some o) (sym (ended c (program_code c u).units s.running s.pairs s.callers (sym (frames_are c runs task u is s) ∙ over))) ∙ test),
)
