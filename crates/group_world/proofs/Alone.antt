-- The instructions of a task leave the group and all other scans as they were.
use Rattle.std.proofs.Common.{◌≡◌, ◌≤◌, ℕ, zero, suc, List, [], ◌∷◌, ◌++◌, Result, Ok, Err, refl, sym, ap, ◌∙◌, subst}
use Rattle.std.specs.Prelude.{IfOk, IfErr}
use Rattle.il_syntax.specs.declared.tree.Config.{Config}
use Rattle.group_spec.specs.declared.event.Event.TheVariants.{Instruction}
use Rattle.group_spec.specs.declared.event.EventFault.{EventFault}
use Rattle.group_spec.specs.Replies.{Reply, Refused}
use Rattle.group_spec.specs.World.{World, Halt, ChangesScanOnly, happens, run, and_then}
use Rattle.group_spec.proofs.Laws.{instruction_leaves}
use Rattle.group_world.specs.Running.{instructions, up_to_end}

pub stays_alone : (t : ℕ) (w : World) → ChangesScanOnly t w w
stays_alone t w = record { group = refl; desk = refl; hand = refl; others = λ other apart. refl }

then_alone : (t : ℕ) (w m v : World) → ChangesScanOnly t w m → ChangesScanOnly t m v → ChangesScanOnly t w v
then_alone t w m v a b = record { group = b.group ∙ a.group; desk = b.desk ∙ a.desk; hand = b.hand ∙ a.hand; others = λ other apart. b.others other apart ∙ a.others other apart }

same_world : (w v : World) (a b : List Reply) → ◌≡◌ {A = Result (World × List Reply) Halt} (Ok (w, a)) (Ok (v, b)) → w ≡ v
same_world w v a b e = let both : ◌≡◌ {A = World × List Reply} (w, a) (v, b) = cc in ap (λ (p : World × List Reply). p.0) both

pub run_alone : (c : Config) (t n : ℕ) (w v : World) (earlier replies : List Reply) → run c w earlier (instructions t n) ≡ Ok (v, replies) → ChangesScanOnly t w v
run_alone c t zero w v earlier replies e = subst (ChangesScanOnly t w) (same_world w v earlier replies e) (stays_alone t w)
run_alone c t (suc n) w v earlier replies e = by (happens c w (Instruction t)) refl e (λ m more. run_alone c t n m.0 v (earlier ++ m.1 ∷ []) replies more)
  where
    by : (r : Result (World × Reply) Halt) → happens c w (Instruction t) ≡ r → and_then r (λ m. run c m.0 (earlier ++ m.1 ∷ []) (instructions t n)) ≡ Ok (v, replies)
        → ((m : World × Reply) → run c m.0 (earlier ++ m.1 ∷ []) (instructions t n) ≡ Ok (v, replies) → ChangesScanOnly t m.0 v) → ChangesScanOnly t w v
    by (Err halt) is f more = let bad : ◌≡◌ {A = Result (World × List Reply) Halt} (Err halt) (Ok (v, replies)) = f in cc
    by (Ok m) is f more = then_alone t w m.0 v (instruction_leaves c w t m.0 m.1 is) (more m f)

-- and so does a run of them, or none
pub finish_alone : (c : Config) (t : ℕ) (w v : World) (r : Result ℕ EventFault) → IfOk r (λ n. (1 ≤ n) × (run c w [] (instructions t n) ≡ Ok (v, up_to_end n)))
    → IfErr r (λ fault. (v ≡ w) × (happens c w (Instruction t) ≡ Ok (w, Refused fault))) → ChangesScanOnly t w v
finish_alone c t w v (Ok n) model refused = run_alone c t n w v [] (up_to_end n) model.1
finish_alone c t w v (Err fault) model refused = subst (ChangesScanOnly t w) (sym refused.0) (stays_alone t w)
