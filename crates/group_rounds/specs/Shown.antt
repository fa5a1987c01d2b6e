-- What an observer writes of a simulation that goes by (own rules).
use Rattle.std.specs.Prelude.{◌≡◌, ℕ, zero, suc, List, [], ◌∷◌, ◌++◌, flat_map}
use Rattle.il_syntax.specs.declared.tree.Config.{Config}
use Rattle.cli_host.specs.declared.press.Press.{Press}
use Rattle.cli_host.specs.declared.press.Setting.{Setting}
use Rattle.group_plant.specs.declared.switches.Switches.{Switches}
use Rattle.group_spec.specs.declared.calls.Call.{Call}
use Rattle.group_spec.specs.declared.journal.Entry.{Entry}
use Rattle.group_spec.specs.declared.report.Report.{Report}
use Rattle.group_spec.specs.Image.{sizes_of}
use Rattle.group_spec.specs.Plant.{PlantState}
use Rattle.group_spec.specs.World.{World}
use Rattle.group_journal.specs.Rounds.{FinishesAndCommits, Scans, ScanEach, IsRound, Rounds, tasks_in_order}
use Rattle.group_rounds.specs.Driven.{IsSimulated, calls_in, switches_in}

-- a commit: its task, 0 for GROUP and k for CARk, and what it reports
pub record Commit : Type 0 where
  pub task : ℕ
  pub report : Report

-- what an observer writes, by the number of the round: of the report of its refresh, of that of a task's commit, and of the world after it and
-- of all commits so far, in their order
pub record Shows : Type 0 where
  pub of_refresh : ℕ → Report → List ℕ
  pub of_commit : ℕ → ℕ → Report → List ℕ
  pub of_round : ℕ → List Commit → World → List ℕ

-- nothing at all
abbrev pub nothing : Shows
nothing = record { of_refresh = λ n report. []; of_commit = λ n t report. []; of_round = λ n commits w. [] }

-- what is written from a commit on: it comes before all later ones
abbrev pub behind : Commit → Shows → Shows
behind c s = record { of_refresh = s.of_refresh; of_commit = s.of_commit; of_round = λ n commits w. s.of_round n (c ∷ commits) w }

-- and from the last of some commits on
abbrev pub behind_all : List Commit → Shows → Shows
behind_all [] s = s
behind_all (c ∷ commits) s = behind_all commits (behind c s)

-- the commits of a scan of each of some tasks
abbrev pub commits_of : (c : Config) (tasks : List ℕ) (w v : World) → ScanEach c tasks w v → List Commit
commits_of c [] w v scans = []
commits_of c (t ∷ tasks) w v (m, scan, scans) = record { task = t; report = scan.rest.report } ∷ commits_of c tasks m v scans

-- those of a round
abbrev pub round_commits : (c : Config) (calls : List Call) (switches : Switches) (plant next : PlantState) (w v : World) (entries : List Entry) → IsRound c calls switches plant next w v entries → List Commit
round_commits c calls switches plant next w v entries round = commits_of c (tasks_in_order c) round.refreshed v round.scans

-- those of so many rounds from the opening
abbrev pub rounds_commits : (c : Config) (calls : ℕ → List Call) (switches : ℕ → Switches) (n : ℕ) (plant : PlantState) (w : World) (entries : List Entry) → Rounds c calls switches n plant w entries → List Commit
rounds_commits c calls switches zero plant w entries rounds = []
rounds_commits c calls switches (suc n) plant w entries (before, u, earlier, last, rounds, round, is) =
    rounds_commits c calls switches n before u earlier rounds ++ round_commits c (calls (suc n)) (switches (suc n)) before plant u w last round

-- what it writes of commits in a round
abbrev pub commits_text : Shows → ℕ → List Commit → List ℕ
commits_text s n commits = flat_map (λ (c : Commit). s.of_commit n c.task c.report) commits

-- what it writes of a round after earlier commits: of its refresh, of its commits, and of the world after it
abbrev pub sight_text : Shows → ℕ → List Commit → Report → List Commit → World → List ℕ
sight_text s n earlier refresh commits v = s.of_refresh n refresh ++ (commits_text s n commits ++ s.of_round n (earlier ++ commits) v)

-- what it writes of so many rounds from the opening
abbrev pub rounds_text : (s : Shows) (c : Config) (calls : ℕ → List Call) (switches : ℕ → Switches) (n : ℕ) (plant : PlantState) (w : World) (entries : List Entry) → Rounds c calls switches n plant w entries → List ℕ
rounds_text s c calls switches zero plant w entries rounds = []
rounds_text s c calls switches (suc n) plant w entries (before, u, earlier, last, rounds, round, is) =
    rounds_text s c calls switches n before u earlier rounds
    ++ sight_text s (suc n) (rounds_commits c calls switches n before u earlier rounds) round.report (round_commits c (calls (suc n)) (switches (suc n)) before plant u w last round) w

-- The text is what it writes of a simulation: so many rounds of the group with these presses and settings.
pub record IsShown (s : Shows) (c : Config) (presses : List Press) (settings : List Setting) (rounds : ℕ) (entries : List Entry) (text : List ℕ) : Type 0 where
  pub simulated : IsSimulated c presses settings rounds entries
  pub is : text ≡ rounds_text s c (calls_in presses) (switches_in (sizes_of c).cars settings) rounds simulated.plant simulated.world entries simulated.driven

-- PARTS

-- the rest of a task's scan and its commit, which reports this
abbrev pub FinishesReporting : Config → ℕ → World → World → Report → Type 0
FinishesReporting c t w v report = (rest : FinishesAndCommits c t w v) × (rest.report ≡ report)

-- a whole scan of a task, whose commit reports this
abbrev pub ScansReporting : Config → ℕ → World → World → Report → Type 0
ScansReporting c t w v report = (scan : Scans c t w v) × (scan.rest.report ≡ report)

-- a scan of each of some tasks, with these commits
abbrev pub ScansCommit : Config → List ℕ → World → World → List Commit → Type 0
ScansCommit c tasks w v commits = (scans : ScanEach c tasks w v) × (commits ≡ commits_of c tasks w v scans)

-- a round with these commits, of which is written so
abbrev pub RoundShown : Shows → ℕ → Config → List Call → Switches → PlantState → PlantState → World → World → List Entry → List Commit → List ℕ → Type 0
RoundShown s n c calls switches plant next w v entries commits text =
    (round : IsRound c calls switches plant next w v entries) × (commits ≡ round_commits c calls switches plant next w v entries round) × (text ≡ sight_text s n [] round.report commits v)

-- so many rounds with these commits, of which is written so
abbrev pub RoundsShown : Shows → Config → (ℕ → List Call) → (ℕ → Switches) → ℕ → PlantState → World → List Entry → List Commit → List ℕ → Type 0
RoundsShown s c calls switches n plant w entries commits text =
    (rounds : Rounds c calls switches n plant w entries) × (commits ≡ rounds_commits c calls switches n plant w entries rounds) × (text ≡ rounds_text s c calls switches n plant w entries rounds)
