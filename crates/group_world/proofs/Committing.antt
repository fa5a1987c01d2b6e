-- Commits and refreshes, by the parts of a group.
use Rattle.std.proofs.Common.{◌≡◌, refl, ℕ, zero, suc, ◌+◌, ◌-◌, ◌≤◌, List, [], length, Option, Some, None, sym, ap, ap₂, ◌∙◌, arith}
use Rattle.std.specs.Prelude.{slice_set}
use Rattle.il_syntax.specs.declared.tree.Config.{Config}
use Rattle.il_semantics.specs.State.{Values}
use Rattle.il_semantics.specs.Scan.{restricted}
use Rattle.load_slots.specs.Layout.{Rows}
use Rattle.scan_task.specs.Scanning.{variables_in}
use Rattle.scan_task.specs.Sharing.{globals_in}
use Rattle.group_spec.specs.declared.image.Image.{Image}
use Rattle.group_spec.specs.declared.image.Fields.{Fields}
use Rattle.group_spec.specs.declared.image.CarOutputs.{CarOutputs}
use Rattle.group_spec.specs.declared.image.Wishes.{Wishes}
use Rattle.group_spec.specs.declared.calls.Call.{Call}
use Rattle.group_spec.specs.declared.report.Answered.{Answered}
use Rattle.group_spec.specs.declared.report.EnteredCall.{EnteredCall}
use Rattle.group_spec.specs.declared.report.Report.{Report}
use Rattle.group_spec.specs.Calls.{Calls, Entered, enter_all}
use Rattle.group_spec.specs.Settle.{Settled, AllSettled, settled_car, settled_all, with_outputs, denials_of}
use Rattle.group_spec.specs.Snapshot.{program_of, wishes_of, assigned, assigned_from, written_globals}
use Rattle.group_spec.specs.World.{Group, committed_group, car_commits, refreshed_group, refreshed_as, tell_all, serve_wish}
use Rattle.group_world.specs.declared.shared.TaskMemory.{TaskMemory}
use Rattle.group_world.specs.declared.shared.Shared.{Shared}
use Rattle.group_world.specs.Running.{task_in, tasks_in, group_by, group_in, HasOpenScan, Commits, CommitsUnder, wished_ticket, serve_under}
use Rattle.group_world.proofs.Views.{task_put, the_memory}

-- a refresh, by what it settles and what enters
pub refresh_group : (c : Config) (i : Image) (k : Calls) (g : Values) (memories : List (Option TaskMemory)) (fields : Fields) (hand : List Call) (settled : AllSettled) (entered : Entered)
    → settled ≡ settled_all i.outputs fields → enter_all k [] hand ≡ entered
    → refreshed_group (group_by c i k g memories) fields hand ≡ (group_by c (record { fields = fields; outputs = settled.outputs }) entered.calls g memories, record { outputs = settled.outputs; denials = settled.denials; answers = []; entered = entered.done })
unfolding refreshed_group
refresh_group c i k g memories fields hand settled entered settles enters = ap₂ (refreshed_as (group_by c i k g memories) fields) (sym settles) enters

-- and by the parts that it leaves
pub refreshes : (c : Config) (k : Shared) (fields : Fields) (hand : List Call) (image : Image) (calls : Calls) (left : List Call) (report : Report) (old done : List EnteredCall) → image ≡ record { fields = fields; outputs = (settled_all k.image.outputs fields).outputs }
    → report ≡ record { outputs = (settled_all k.image.outputs fields).outputs; denials = (settled_all k.image.outputs fields).denials; answers = []; entered = old }
    → enter_all k.calls [] hand ≡ record { calls = calls; hand = left; done = done }
    → refreshed_group (group_in c k) fields hand ≡ (group_in c (record k { image = image; calls = calls }), record report { entered = done })
refreshes c k fields hand image calls left report old done image_is report_is enters =
    refresh_group c k.image k.calls (globals_in c k.globals) k.memories.items fields hand (settled_all k.image.outputs fields) (record { calls = calls; hand = left; done = done }) refl enters
    ∙ ap₂ (λ (i : Image) (r : Report). (group_in c (record k { image = i; calls = calls }), record r { entered = done })) (sym image_is) (sym report_is)

pub refreshes_alone : (c : Config) (k : Shared) (fields : Fields) (image : Image) (report : Report) (old none : List EnteredCall) → image ≡ record { fields = fields; outputs = (settled_all k.image.outputs fields).outputs }
    → report ≡ record { outputs = (settled_all k.image.outputs fields).outputs; denials = (settled_all k.image.outputs fields).denials; answers = []; entered = old }
    → none ≡ [] → refreshed_group (group_in c k) fields [] ≡ (group_in c (record k { image = image }), record report { entered = none })
refreshes_alone c k fields image report old none image_is report_is blank = refreshes c k fields [] image k.calls [] report old none image_is report_is (ap (λ done. record { calls = k.calls; hand = []; done = done }) (sym blank))

module _ (c : Config) (i : Image) (k : Calls) (g : Values) (memories : List (Option TaskMemory)) (s : TaskMemory) (tickets : List (Option ℕ)) (values : Values) (v : Rows) (calls : Calls) (after : Values) (answers : List Answered) where
  -- the tasks once one is between scans
  abbrev closed : ℕ → List (Option TaskMemory)
  closed t = slice_set memories t (Some (record { variables = v; tickets = None }))

  -- GROUP's commit, by what it tells
  pub commit_group : (cars : List ℕ) → cars ≡ assigned (length tickets) values → tell_all k [] 1 tickets cars ≡ (calls, answers)
      → variables_in c 0 v ≡ restricted (variables_in c 0 s.variables) values → after ≡ written_globals (program_of c 0) g values
      → committed_group c (group_by c i k g memories) 0 (task_in c 0 s) tickets values ≡ (group_by c i calls after (closed 0), record { outputs = i.outputs; denials = []; answers = answers; entered = [] })
  unfolding committed_group
  commit_group cars asked tells keeps writes =
      ap (λ l. left (tell_all k [] 1 tickets l) (written_globals (program_of c 0) g values) (restricted (variables_in c 0 s.variables) values)) (sym asked)
      ∙ ap (λ x. left x (written_globals (program_of c 0) g values) (restricted (variables_in c 0 s.variables) values)) tells
      ∙ ap (λ x. left (calls, answers) x (restricted (variables_in c 0 s.variables) values)) (sym writes) ∙ ap (left (calls, answers) after) (sym keeps)
      ∙ ap (λ ts. (record { image = i; calls = calls; globals = after; tasks = ts }, record { outputs = i.outputs; denials = []; answers = answers; entered = [] })) (sym (task_put c memories 0 (record { variables = v; tickets = None })))
    where
      left : Calls × List Answered → Values → Values → Group × Report
      left told globals variables = (
        record { image = i; calls = told.0; globals = globals; tasks = slice_set (tasks_in c 0 memories) 0 (Some (record { variables = variables; tickets = None })) },
        record { outputs = i.outputs; denials = []; answers = told.1; entered = [] },
      )

  -- a car's commit, by what it settles and what it serves
  pub commit_car : (t : ℕ) (wishes : Wishes) → 1 ≤ t → wishes ≡ wishes_of values → serve_wish k t tickets wishes.serve ≡ (calls, answers)
      → variables_in c t v ≡ restricted (variables_in c t s.variables) values → after ≡ written_globals (program_of c t) g values
      → committed_group c (group_by c i k g memories) t (task_in c t s) tickets values
      ≡ (group_by c (record { fields = i.fields; outputs = with_outputs i.outputs t (settled_car i t wishes.motor wishes.opens).outputs }) calls after (closed t), record { outputs = with_outputs i.outputs t (settled_car i t wishes.motor wishes.opens).outputs; denials = denials_of t (settled_car i t wishes.motor wishes.opens).denials; answers = answers; entered = [] })
  unfolding committed_group
  commit_car zero wishes least asked serves keeps writes = absurd (omega (arith, least))
  commit_car (suc n) wishes least asked serves keeps writes =
      ap (car_commits c (group_by c i k g memories) (suc n) (task_in c (suc n) s) tickets values) (sym asked)
      ∙ ap (λ x. left x (written_globals (program_of c (suc n)) g values) (restricted (variables_in c (suc n) s.variables) values)) serves
      ∙ ap (λ x. left (calls, answers) x (restricted (variables_in c (suc n) s.variables) values)) (sym writes) ∙ ap (left (calls, answers) after) (sym keeps)
      ∙ ap (λ ts. (record { image = record { fields = i.fields; outputs = outputs }; calls = calls; globals = after; tasks = ts }, record { outputs = outputs; denials = denials_of (suc n) settled.denials; answers = answers; entered = [] })) (sym (task_put c memories (suc n) (record { variables = v; tickets = None })))
    where
      settled : Settled
      settled = settled_car i (suc n) wishes.motor wishes.opens

      outputs : List CarOutputs
      outputs = with_outputs i.outputs (suc n) settled.outputs

      left : Calls × List Answered → Values → Values → Group × Report
      left served globals variables = (
        record { image = record { fields = i.fields; outputs = outputs }; calls = served.0; globals = globals; tasks = slice_set (tasks_in c 0 memories) (suc n) (Some (record { variables = variables; tickets = None })) },
        record { outputs = outputs; denials = denials_of (suc n) settled.denials; answers = served.1; entered = [] },
      )

-- the outputs of a car, which counts from 1
pub put_outputs : (outputs : List CarOutputs) (t : ℕ) (one : CarOutputs) → 1 ≤ t → slice_set outputs (t - 1) one ≡ with_outputs outputs t one
put_outputs outputs zero one least = absurd (omega (arith, least))
put_outputs outputs (suc k) one least = let e : suc k - 1 ≡ k = omega arith in ap (λ n. slice_set outputs n one) e

-- a car or none for each slot
assigned_many : (n slot : ℕ) (values : Values) → length (assigned_from n slot values) ≡ n
assigned_many zero slot values = refl
assigned_many (suc n) slot values = ap suc (assigned_many n (slot + 1) values)

pub assigned_each : (n : ℕ) (values : Values) → length (assigned n values) ≡ n
unfolding assigned
assigned_each n values = assigned_many n 1 values

-- what a car serves, by the ticket of the slot of its wish
pub serves : (calls : Calls) (car : ℕ) (tickets : List (Option ℕ)) (slot : ℕ) (ticket : Option ℕ) → ticket ≡ wished_ticket tickets slot → serve_wish calls car tickets slot ≡ serve_under calls car slot ticket
serves calls car tickets zero ticket is = refl
serves calls car tickets (suc slot) ticket is = ap (serve_under calls car (suc slot)) (sym is)

-- a commit under the tickets that the open scan saw
pub commits_open : (c : Config) (t : ℕ) (k after : Shared) (values : Values) (report : Report) (o : HasOpenScan c k t) → CommitsUnder c t k o.tickets values after report → Commits c t k values after report
commits_open c t k after values report o under = record {
  group = λ s tickets there saw.
      let same : o.tickets ≡ tickets = the_memory o.memory.tickets o.tickets tickets o.saw (ap (λ (x : TaskMemory). x.tickets) (the_memory _ o.memory s o.there there) ∙ saw) in
      ap (λ ts. committed_group c (group_in c k) t (task_in c t s) ts values) (sym same) ∙ under.group s there;
  closed = under.closed;
  fits = under.fits;
}
