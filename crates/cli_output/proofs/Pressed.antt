-- Presses and settings that words and a file spell are those of the group.
use Rattle.std.proofs.Common.{◌≡◌, ◌≤◌, ℕ, suc, List, [], ◌∷◌, ◌++◌, length, Option, Some, None, refl, sym, subst, arith}
use Rattle.std.specs.List.{AllByRecursion}
use Rattle.std.specs.Prelude.{slice_get, All}
use Rattle.std.proofs.lemmas.List.Elements.{All-cons, All-nil, All-append}
use borrow.Author.Tests.{ne_eqb}
use Rattle.cli_host.specs.declared.files.Reading.{Reading}
use Rattle.cli_host.specs.declared.files.Reading.TheVariants.{Text, Failed}
use Rattle.cli_host.specs.declared.press.Press.{Press}
use Rattle.cli_host.specs.declared.press.Set.{Set}
use Rattle.cli_host.specs.declared.press.Set.TheVariants.{Fire, RunLimit}
use Rattle.cli_host.specs.declared.press.Setting.{Setting}
use Rattle.cli_host.specs.declared.request.Rounds.{Rounds}
use Rattle.cli_host.specs.CallsFile.{AreCallsOf, IsSetting}
use Rattle.cli_host.proofs.Lines.{all_presses, all_at_panels, all_settings}
use Rattle.cli_host.specs.Presses.{IsPressOf, IsPress, plain, at_panel, ArePresses}
use Rattle.cli_host.specs.Requests.{words_of}
use Rattle.group_spec.specs.declared.image.Sizes.{Sizes}
use Rattle.group_spec.specs.Calls.{IsCall}
use Rattle.group_rounds.specs.Driven.{call_of, ArePressed, AreSettings, IsSettable}
use Rattle.cli_output.specs.Outcomes.{AreDriven, AreOfFile, IsFire, calls_word, fire_word, fire_settings}
use Rattle.threads_workers.specs.Panels.{IsPressAt}

-- CALLS OF THE GROUP

call_is : (sizes : Sizes) (rounds : ℕ) (a b d : List ℕ) (p : Press) → IsPressOf rounds sizes.floors a b d p → IsCall sizes (call_of p)
call_is sizes rounds a b d p is = record { from = (is.from.least, is.from.most); to = (is.to.least, is.to.most); differs = ne_eqb p.from p.to is.differ }

press_is : (sizes : Sizes) (rounds : ℕ) (word : List ℕ) (p : Press) → IsPress rounds sizes.floors word p → IsCall sizes (call_of p)
press_is sizes rounds word p (plain a b d parts is panel) = call_is sizes rounds a b d p is
press_is sizes rounds word p (at_panel a b d e parts is panel) = call_is sizes rounds a b d p is

each_is : (sizes : Sizes) (rounds : ℕ) (words : List (List ℕ)) (presses : List Press) → length presses ≡ length words
    → ((k : ℕ) (word : List ℕ) (p : Press) → slice_get words k ≡ Some word → slice_get presses k ≡ Some p → IsPress rounds sizes.floors word p) → ArePressed sizes presses
each_is sizes rounds words [] long each = tt
each_is sizes rounds [] (p ∷ presses) long each = absurd (omega (arith, long))
each_is sizes rounds (word ∷ words) (p ∷ presses) long each =
    (press_is sizes rounds word p (each 0 word p refl refl), each_is sizes rounds words presses (omega (arith, long)) (λ k other q at there. each (suc k) other q at there))

presses_are : (sizes : Sizes) (rounds : ℕ) (words : List (List ℕ)) (presses : List Press) → ArePresses rounds sizes.floors words presses → ArePressed sizes presses
presses_are sizes rounds words presses are = each_is sizes rounds words presses are.of_words.long are.of_words.each

by_each : (sizes : Sizes) (presses : List Press) → AllByRecursion (λ (p : Press). IsCall sizes (call_of p)) presses → ArePressed sizes presses
by_each sizes [] all = tt
by_each sizes (p ∷ presses) all = (all.0, by_each sizes presses all.1)

calls_are : (sizes : Sizes) (rounds : ℕ) (text : List ℕ) (presses : List Press) (settings : List Setting) → AreCallsOf rounds sizes.floors sizes.cars text presses settings → ArePressed sizes presses
calls_are sizes rounds text presses settings are = by_each sizes presses (all_presses rounds sizes.floors sizes.cars (λ (p : Press). IsCall sizes (call_of p)) (λ a b d p is. call_is sizes rounds a b d p is) text presses settings are)

file_pressed : (sizes : Sizes) (rounds : ℕ) (word : Option (List ℕ)) (calls : Reading) (presses : List Press) (settings : List Setting) → AreOfFile sizes rounds word calls presses settings → ArePressed sizes presses
file_pressed sizes rounds None calls presses settings is = subst (ArePressed sizes) (sym is.0) tt
file_pressed sizes rounds (Some name) (Text text) presses settings is = calls_are sizes rounds text.items presses settings is
file_pressed sizes rounds (Some name) (Failed why) presses settings is = absurd is

both_pressed : (sizes : Sizes) (xs ys : List Press) → ArePressed sizes xs → ArePressed sizes ys → ArePressed sizes (xs ++ ys)
both_pressed sizes [] ys front back = back
both_pressed sizes (x ∷ xs) ys front back = (front.0, both_pressed sizes xs ys front.1 back)

-- AT THEIR PANELS

-- each is at one of the four panels of a floor
placed : (floors rounds : ℕ) (a b d : List ℕ) (p : Press) → IsPressOf rounds floors a b d p → 1 ≤ p.panel → p.panel ≤ 4 → IsPressAt floors p
placed floors rounds a b d p is least most = ((is.from.least, is.from.most), (is.to.least, is.to.most), is.differ, least, most)

press_at : (floors rounds : ℕ) (word : List ℕ) (p : Press) → IsPress rounds floors word p → IsPressAt floors p
press_at floors rounds word p (plain a b d parts is panel) = placed floors rounds a b d p is (omega (arith, panel)) (omega (arith, panel))
press_at floors rounds word p (at_panel a b d e parts is panel) = placed floors rounds a b d p is panel.least panel.most

each_at : (floors rounds : ℕ) (words : List (List ℕ)) (presses : List Press) → length presses ≡ length words
    → ((k : ℕ) (word : List ℕ) (p : Press) → slice_get words k ≡ Some word → slice_get presses k ≡ Some p → IsPress rounds floors word p) → All (λ (p : Press). IsPressAt floors p) presses
each_at floors rounds words [] long each = All-nil (λ (p : Press). IsPressAt floors p)
each_at floors rounds [] (p ∷ presses) long each = absurd (omega (arith, long))
each_at floors rounds (word ∷ words) (p ∷ presses) long each =
    All-cons (λ (q : Press). IsPressAt floors q) p presses (press_at floors rounds word p (each 0 word p refl refl)) (each_at floors rounds words presses (omega (arith, long)) (λ k other q at there. each (suc k) other q at there))

presses_at : (floors rounds : ℕ) (words : List (List ℕ)) (presses : List Press) → ArePresses rounds floors words presses → All (λ (p : Press). IsPressAt floors p) presses
presses_at floors rounds words presses are = each_at floors rounds words presses are.of_words.long are.of_words.each

at_each : (floors : ℕ) (presses : List Press) → AllByRecursion (λ (p : Press). IsPressAt floors p) presses → All (λ (p : Press). IsPressAt floors p) presses
at_each floors [] all = All-nil (λ (p : Press). IsPressAt floors p)
at_each floors (p ∷ presses) all = All-cons (λ (q : Press). IsPressAt floors q) p presses all.0 (at_each floors presses all.1)

file_at : (sizes : Sizes) (rounds : ℕ) (word : Option (List ℕ)) (calls : Reading) (presses : List Press) (settings : List Setting) → AreOfFile sizes rounds word calls presses settings → All (λ (p : Press). IsPressAt sizes.floors p) presses
file_at sizes rounds None calls presses settings is = subst (λ (l : List Press). All (λ (p : Press). IsPressAt sizes.floors p) l) (sym is.0) (All-nil (λ (p : Press). IsPressAt sizes.floors p))
file_at sizes rounds (Some name) (Text text) presses settings is =
    at_each sizes.floors presses (all_at_panels rounds sizes.floors sizes.cars (λ (p : Press). IsPressAt sizes.floors p) (λ a b d p of least most. placed sizes.floors rounds a b d p of least most) text.items presses settings is)
file_at sizes rounds (Some name) (Failed why) presses settings is = absurd is

both_at : (floors : ℕ) (xs ys : List Press) → All (λ (p : Press). IsPressAt floors p) xs → All (λ (p : Press). IsPressAt floors p) ys → All (λ (p : Press). IsPressAt floors p) (xs ++ ys)
both_at floors xs ys front back = All-append (λ (p : Press). IsPressAt floors p) xs ys front back

-- SETTINGS

settable : (cars : ℕ) (name value : List ℕ) (set : Set) → IsSetting cars name value set → IsSettable cars set
settable cars name value (Fire on) is = tt
settable cars name value (RunLimit n) is = is.1.most

set_each : (cars : ℕ) (settings : List Setting) → AllByRecursion (λ (s : Setting). IsSettable cars s.set) settings → AreSettings cars settings
set_each cars [] all = tt
set_each cars (s ∷ settings) all = (all.0, set_each cars settings all.1)

file_set : (sizes : Sizes) (rounds : ℕ) (word : Option (List ℕ)) (calls : Reading) (presses : List Press) (settings : List Setting) → AreOfFile sizes rounds word calls presses settings → AreSettings sizes.cars settings
file_set sizes rounds None calls presses settings is = subst (AreSettings sizes.cars) (sym is.1) tt
file_set sizes rounds (Some name) (Text text) presses settings is =
    set_each sizes.cars settings (all_settings rounds sizes.floors sizes.cars (λ (s : Setting). IsSettable sizes.cars s.set) (λ first name value s round set. settable sizes.cars name value s.set set) text.items presses settings is)
file_set sizes rounds (Some name) (Failed why) presses settings is = absurd is

behind_fire : (cars : ℕ) (first : Option ℕ) (settings : List Setting) → AreSettings cars settings → AreSettings cars (fire_settings first ++ settings)
behind_fire cars None settings are = are
behind_fire cars (Some round) settings are = (tt, are)

-- WHAT DRIVES ROUNDS

module _ (sizes : Sizes) (asked : Rounds) (calls : Reading) (presses : List Press) (settings : List Setting) (driven : AreDriven sizes asked calls presses settings) where
  pub driven_pressed : ArePressed sizes presses
  driven_pressed =
      subst (ArePressed sizes) (sym driven.presses_are)
      (both_pressed sizes driven.words driven.later (presses_are sizes asked.rounds (words_of asked.presses) driven.words driven.of_words.spelled)
      (file_pressed sizes asked.rounds (calls_word asked) calls driven.later driven.set driven.of_file))

  pub driven_at : All (λ (p : Press). IsPressAt sizes.floors p) presses
  driven_at =
      subst (λ (l : List Press). All (λ (p : Press). IsPressAt sizes.floors p) l) (sym driven.presses_are)
      (both_at sizes.floors driven.words driven.later (presses_at sizes.floors asked.rounds (words_of asked.presses) driven.words driven.of_words.spelled)
      (file_at sizes asked.rounds (calls_word asked) calls driven.later driven.set driven.of_file))

  pub driven_settings : AreSettings sizes.cars settings
  driven_settings = subst (AreSettings sizes.cars) (sym driven.settings_are) (behind_fire sizes.cars driven.first driven.set (file_set sizes asked.rounds (calls_word asked) calls driven.later driven.set driven.of_file))

-- by its parts, of which the presses of the words are spelled for so many floors
pub from_parts : (sizes : Sizes) (asked : Rounds) (calls : Reading) (words later presses : List Press) (first : Option ℕ) (set settings : List Setting) (n : ℕ) → n ≡ sizes.floors → ArePresses asked.rounds n (words_of asked.presses) words
    → IsFire asked.rounds (fire_word asked) first → AreOfFile sizes asked.rounds (calls_word asked) calls later set → presses ≡ words ++ later → settings ≡ fire_settings first ++ set → AreDriven sizes asked calls presses settings
from_parts sizes asked calls words later presses first set settings n e spelled from_round of_file presses_is settings_is = record {
  words = words;
  first = first;
  of_words = record { spelled = subst (λ k. ArePresses asked.rounds k (words_of asked.presses) words) e spelled; from_round = from_round };
  later = later;
  set = set;
  of_file = of_file;
  presses_are = presses_is;
  settings_are = settings_is;
}
