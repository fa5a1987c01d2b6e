-- Runs that follow one another.
use Rattle.std.proofs.Common.{◌≡◌, List, [], ◌∷◌, ◌++◌, refl, sym, ap, ◌∙◌, Result, Ok, Err, append_assoc, append-nil}
use Rattle.il_syntax.specs.declared.tree.Config.{Config}
use Rattle.group_spec.specs.declared.event.Event.{Event}
use Rattle.group_spec.specs.Replies.{Reply}
use Rattle.group_spec.specs.World.{World, Halt, Next, happens, run, and_then}
use Rattle.group_laws.specs.Runs.{RunAppends, RepliesFollow, ReachedGoesOn}

abbrev pub Runs : Type 0
Runs = Result (World × List Reply) Halt

pub appends : RunAppends
appends c w replies [] fs = refl
appends c w replies (e ∷ es) fs = by (happens c w e) (λ v rs. appends c v rs es fs)
  where
    by : (n : Next) → ((v : World) (rs : List Reply) → run c v rs (es ++ fs) ≡ and_then (run c v rs es) (λ m. run c m.0 m.1 fs))
        → and_then n (λ m. run c m.0 (replies ++ m.1 ∷ []) (es ++ fs)) ≡ and_then (and_then n (λ m. run c m.0 (replies ++ m.1 ∷ []) es)) (λ m. run c m.0 m.1 fs)
    by (Err halt) rest = refl
    by (Ok m) rest = rest m.0 (replies ++ m.1 ∷ [])

-- the same replies before those of a run that has gone on
abbrev pub before : List Reply → Runs → Runs
before earlier (Err halt) = Err halt
before earlier (Ok n) = Ok (n.0, earlier ++ n.1)

before_both : (a b : List Reply) (r : Runs) → before a (before b r) ≡ before (a ++ b) r
before_both a b (Err halt) = refl
before_both a b (Ok n) = ap (λ l. let all : Runs = Ok (n.0, l) in all) (sym (append_assoc a b n.1))

pub follow : (c : Config) (w : World) (replies : List Reply) (es : List Event) → run c w replies es ≡ before replies (run c w [] es)
follow c w replies [] = ap (λ l. let all : Runs = Ok (w, l) in all) (sym (append-nil replies))
follow c w replies (e ∷ es) = by (happens c w e) (λ v rs. follow c v rs es)
  where
    by : (n : Next) → ((v : World) (rs : List Reply) → run c v rs es ≡ before rs (run c v [] es)) → and_then n (λ m. run c m.0 (replies ++ m.1 ∷ []) es) ≡ before replies (and_then n (λ m. run c m.0 (m.1 ∷ []) es))
    by (Err halt) rest = refl
    by (Ok m) rest = rest m.0 (replies ++ m.1 ∷ []) ∙ sym (before_both replies (m.1 ∷ []) (run c m.0 [] es)) ∙ ap (before replies) (sym (rest m.0 (m.1 ∷ [])))

before_is : (replies : List Reply) (r : Runs) → before replies r ≡ and_then r (λ n. Ok (n.0, replies ++ n.1))
before_is replies (Err halt) = refl
before_is replies (Ok n) = refl

pub replies_are_before : RepliesFollow
replies_are_before c w replies es = follow c w replies es ∙ before_is replies (run c w [] es)

-- where a run ends there is one world, with one list of replies
pub same_end : (a b : World) (xs ys : List Reply) → ◌≡◌ {A = Runs} (Ok (a, xs)) (Ok (b, ys)) → ◌≡◌ {A = World × List Reply} (a, xs) (b, ys)
same_end a b xs ys e = cc

-- what a run that ends gives from other earlier replies
pub ended : (c : Config) (w v : World) (earlier replies : List Reply) (r : Runs) → before earlier r ≡ Ok (v, replies) → (more : List Reply) × (r ≡ Ok (v, more))
ended c w v earlier replies (Err halt) is = cc
ended c w v earlier replies (Ok n) is =
    let both : ◌≡◌ {A = World × List Reply} (n.0, earlier ++ n.1) (v, replies) = same_end n.0 v (earlier ++ n.1) replies is in
    (n.1, ap (λ x. let all : Runs = Ok (x, n.1) in all) (ap (λ p. p.0) both))

pub goes_on : ReachedGoesOn
goes_on c w v earlier replies es reached is =
    let more = ended c w v earlier replies (run c w [] es) (sym (follow c w earlier es) ∙ is) in
    record {
      base = reached.base;
      begins = reached.begins;
      events = reached.events ++ es;
      replies = reached.replies ++ more.0;
      is =
          appends c reached.base [] reached.events es ∙ ap (λ r. and_then r (λ n. run c n.0 n.1 es)) reached.is ∙ follow c w reached.replies es ∙ ap (before reached.replies) more.1;
    }
