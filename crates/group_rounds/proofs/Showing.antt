-- What an observer writes, step by step.
use Rattle.std.proofs.Common.{◌≡◌, ℕ, suc, ◌+◌, List, [], ◌∷◌, ◌++◌, take, Some, refl, sym, ap, ap₂, ◌∙◌, subst, arith}
use Rattle.std.specs.Prelude.{slice_get}
use Rattle.std.proofs.lemmas.Grind.{flat_map-append}
use Rattle.std.proofs.lemmas.List.{append_assoc, append-nil}
use Rattle.il_syntax.specs.declared.tree.Config.{Config}
use Rattle.scan_task.specs.Scanning.{Program}
use Rattle.group_plant.specs.declared.switches.Switches.{Switches}
use Rattle.group_spec.specs.declared.calls.Call.{Call}
use Rattle.group_spec.specs.declared.journal.Entry.{Entry}
use Rattle.group_spec.specs.declared.report.Report.{Report}
use Rattle.group_spec.specs.Plant.{PlantState}
use Rattle.group_spec.specs.World.{World}
use Rattle.group_rounds.specs.Shown.{Commit, Shows, ScansReporting, ScansCommit, RoundShown, RoundsShown, behind, behind_all, commits_of, commits_text, sight_text}
use Rattle.group_rounds.proofs.Fronts.{take_next}

pub nil : (xs : List ℕ) → xs ++ [] ≡ xs
nil [] = refl
nil (x ∷ xs) = ap (λ l. x ∷ l) (nil xs)

-- a commit alone
abbrev pub one : ℕ → Report → List Commit
one t report = record { task = t; report = report } ∷ []

-- SCANS

scans_more : (c : Config) (tasks : List ℕ) (t : ℕ) (w m v : World) (commits : List Commit) (report : Report) → ScansCommit c tasks w m commits → ScansReporting c t m v report → ScansCommit c (tasks ++ t ∷ []) w v (commits ++ one t report)
scans_more c [] t w m v commits report (same, is) scan =
    let here = subst (λ x. ScansReporting c t x v report) (sym same) scan in
    ((v, here.0, refl), ap (λ l. l ++ one t report) is ∙ ap (one t) (sym here.1))
scans_more c (x ∷ tasks) t w m v commits report ((u, first, rest), is) scan =
    let more = scans_more c tasks t u m v (commits_of c tasks u m rest) report (rest, refl) scan in
    ((u, first, more.0), ap (λ l. l ++ one t report) is ∙ ap (λ l. record { task = x; report = first.rest.report } ∷ l) more.1)

-- one scan more
pub scans_next : (c : Config) (tasks : List ℕ) (i t : ℕ) (w m v : World) (commits : List Commit) (report : Report) → slice_get tasks i ≡ Some t → ScansCommit c (take i tasks) w m commits → ScansReporting c t m v report
    → ScansCommit c (take (i + 1) tasks) w v (commits ++ one t report)
scans_next c tasks i t w m v commits report at before scan = subst (λ l. ScansCommit c l w v (commits ++ one t report)) (sym (take_next tasks i t at)) (scans_more c (take i tasks) t w m v commits report before scan)

-- BEHIND COMMITS

-- what is written of a commit stays the same after others
commit_behind : (commits : List Commit) (s : Shows) → (behind_all commits s).of_commit ≡ s.of_commit
commit_behind [] s = refl
commit_behind (c ∷ commits) s = commit_behind commits (behind c s)

-- of a round these come first
round_behind : (commits more : List Commit) (s : Shows) (n : ℕ) (w : World) → (behind_all commits s).of_round n more w ≡ s.of_round n (commits ++ more) w
round_behind [] more s n w = refl
round_behind (c ∷ commits) more s n w = round_behind commits more (behind c s) n w

-- one commit more
behind_more : (commits : List Commit) (c : Commit) (s : Shows) → behind_all (commits ++ c ∷ []) s ≡ behind c (behind_all commits s)
behind_more [] c s = refl
behind_more (x ∷ commits) c s = behind_more commits c (behind x s)

-- and more of them
pub behind_both : (commits more : List Commit) (s : Shows) → behind_all (commits ++ more) s ≡ behind_all more (behind_all commits s)
behind_both [] more s = refl
behind_both (c ∷ commits) more s = behind_both commits more (behind c s)

-- what is written of one commit more
text_more : (s : Shows) (n : ℕ) (commits : List Commit) (t : ℕ) (report : Report) → commits_text s n (commits ++ one t report) ≡ commits_text s n commits ++ s.of_commit n t report
text_more s n commits t report =
    flat_map-append (λ (c : Commit). s.of_commit n c.task c.report) commits (one t report) ∙ ap (λ l. commits_text s n commits ++ l) (nil (s.of_commit n t report))

-- so of an observer that has seen these, at one commit more
pub text_next : (s now : Shows) (n : ℕ) (commits : List Commit) (t : ℕ) (report : Report) (old before after : List ℕ) → now ≡ behind_all commits s → before ≡ old ++ commits_text s n commits → after ≡ before ++ now.of_commit n t report
    → after ≡ old ++ commits_text s n (commits ++ one t report)
text_next s now n commits t report old before after same is more =
    let of_commit : now.of_commit n t report ≡ s.of_commit n t report = ap (λ (x : Shows). x.of_commit n t report) same ∙ ap (λ (f : ℕ → ℕ → Report → List ℕ). f n t report) (commit_behind commits s) in
    more ∙ ap₂ (λ (a b : List ℕ). a ++ b) is of_commit ∙ append_assoc old (commits_text s n commits) (s.of_commit n t report) ∙ ap (λ l. old ++ l) (sym (text_more s n commits t report))

pub shows_next : (s now next : Shows) (commits : List Commit) (c : Commit) → now ≡ behind_all commits s → next ≡ behind c now → next ≡ behind_all (commits ++ c ∷ []) s
shows_next s now next commits c same more = more ∙ ap (behind c) same ∙ sym (behind_more commits c s)

-- a round after earlier commits
pub sight_behind : (earlier : List Commit) (s : Shows) (n : ℕ) (refresh : Report) (commits : List Commit) (v : World) → sight_text (behind_all earlier s) n [] refresh commits v ≡ sight_text s n earlier refresh commits v
sight_behind [] s n refresh commits v = refl
sight_behind (c ∷ earlier) s n refresh commits v = sight_behind earlier (behind c s) n refresh commits v

-- ROUNDS

-- one round more
pub rounds_next :
    (s : Shows) (p q : Program) → q ≡ p → (calls : ℕ → List Call) (switches : ℕ → Switches) (n : ℕ) (before plant : PlantState) (u w : World) (earlier now last : List Entry) (commits these : List Commit) (text more : List ℕ)
    → RoundsShown s p.config calls switches n before u earlier commits text → now ≡ earlier ++ last → RoundShown (behind_all commits s) (n + 1) q.config (calls (n + 1)) (switches (n + 1)) before plant u w last these more
    → RoundsShown s p.config calls switches (n + 1) plant w now (commits ++ these) (text ++ more)
rounds_next s p q same calls switches n before plant u w earlier now last commits these text more rounds is round =
    let number : n + 1 ≡ suc n = omega arith in
    let after = behind_all commits s in
    let here : RoundShown after (suc n) p.config (calls (suc n)) (switches (suc n)) before plant u w last these more =
    subst (λ k. RoundShown after k p.config (calls k) (switches k) before plant u w last these more) number (subst (λ (x : Program). RoundShown after (n + 1) x.config (calls (n + 1)) (switches (n + 1)) before plant u w last these more) same round)
    in
    subst (λ k. RoundsShown s p.config calls switches k plant w now (commits ++ these) (text ++ more)) (sym number) (
      (before, u, earlier, last, rounds.0, here.0, is),
      ap₂ (λ (a b : List Commit). a ++ b) rounds.1 here.1,
      ap₂ (λ (a b : List ℕ). a ++ b) rounds.2
          (here.2 ∙ sight_behind commits s (suc n) here.0.report these w ∙ ap₂ (λ (a b : List Commit). sight_text s (suc n) a here.0.report b w) rounds.1 here.1),
    )

-- the texts of a round, one after the other
pub texts_joined : (old refresh scans round : List ℕ) → ((old ++ refresh) ++ scans) ++ round ≡ old ++ (refresh ++ (scans ++ round))
texts_joined old refresh scans round = append_assoc (old ++ refresh) scans round ∙ append_assoc old refresh (scans ++ round)

-- what an observer has written of a round, step by step
pub sight_next : (s seen all : Shows) (n : ℕ) (refresh : Report) (commits : List Commit) (v : World) (old refreshed scanned last : List ℕ) → refreshed ≡ old ++ s.of_refresh n refresh → seen ≡ s → scanned ≡ refreshed ++ commits_text seen n commits
    → all ≡ behind_all commits seen → last ≡ scanned ++ all.of_round n [] v → last ≡ old ++ sight_text s n [] refresh commits v
sight_next s seen all n refresh commits v old refreshed scanned last first same scans behind world =
    let of_scans : scanned ≡ (old ++ s.of_refresh n refresh) ++ commits_text s n commits = scans ∙ ap₂ (λ (l : List ℕ) (x : Shows). l ++ commits_text x n commits) first same in
    let of_world : all.of_round n [] v ≡ s.of_round n commits v =
    ap (λ (x : Shows). x.of_round n [] v) (behind ∙ ap (behind_all commits) same) ∙ round_behind commits [] s n v ∙ ap (λ l. s.of_round n l v) (append-nil commits)
    in
    world ∙ ap₂ (λ (a b : List ℕ). a ++ b) of_scans of_world ∙ texts_joined old (s.of_refresh n refresh) (commits_text s n commits) (s.of_round n commits v)
