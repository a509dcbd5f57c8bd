-- What asking leaves of a host as it was: for the answers for a host that its applications ask by a trait.
use Rattle.std.proofs.Common.{◌≡◌, ℕ, zero, suc, ◌+◌, ◌<◌, ◌==◌, inl, inr, Bool, true, false, List, [], ◌∷◌, refl}
use Rattle.std.proofs.Common.{sym, ap, ◌∙◌, subst, arith}
use Rattle.std.proofs.lemmas.Bool.Decides.{nat_tests}
use Rattle.std.specs.List.{AllZip}
use Rattle.std.specs.Option.{option_map}
use Rattle.std.specs.Prelude.{Option, Some, None, IsSome, position, remove}
use Rattle.host_rounds.specs.Hosts.{Host, Starts}
use Rattle.host_rounds.specs.Lists.{Each}
use Rattle.core_phase.specs.declared.lane.AppLane.{AppLane}
use Rattle.core_phase.specs.declared.lane.Lane.{Lane}
use Rattle.core_phase.specs.declared.lane.Lane.TheVariants as lanes
use Rattle.local_host.specs.declared.host.Connecting.{Connecting}
use Rattle.local_host.specs.declared.host.Connecting.TheVariants.{Opened, NoSlot, NoPort}
use Rattle.slow_rounds.proofs.Slots.{position_here, position_past}
use Rattle.asked_host.specs.Asking as in_run
use Rattle.core_host.specs.Asked.{IsAskedOf, IsAskedLess, stays_itself}
use Rattle.core_host.specs.Asking.{IsAsked, IsAccepting, IsSameBut}
use Rattle.core_host.specs.Connecting.{IsConnecting}
use Rattle.core_host.specs.Kills.{IsKilled}
use Rattle.core_host.specs.Sound.{AreStaff, IsClear, IsResting, IsStaffSound, IsUnasked}
use Rattle.core_host.specs.Steps.{IsStep}
use Rattle.core_host.specs.Views.{Staffed, seen_by}
use Rattle.core_host.proofs.FiledSteps.{KeepsFiled, accept_filed, connect_filed, kill_filed}
use Rattle.core_host.proofs.Lanes.{all_self}

-- ----- lanes of which one application's is another
clear_by : (app : ℕ) (vs ws : List Lane) → AllZip (IsSameBut app) vs ws → Each IsClear vs → Each IsClear ws
clear_by app [] [] same each = tt
clear_by app [] (w ∷ ws) same each = absurd same
clear_by app (v ∷ vs) [] same each = absurd same
clear_by app (lanes.Core v ∷ vs) (w ∷ ws) same each =
    (subst IsClear (sym same.0) each.0, clear_by app vs ws same.1 each.1)
clear_by app (lanes.App v ∷ vs) (lanes.Core w ∷ ws) same each = absurd same.0
clear_by app (lanes.App v ∷ vs) (lanes.App w ∷ ws) same each = (tt, clear_by app vs ws same.1 each.1)

one_unasked : (app : ℕ) (v w : AppLane) → IsSameBut app (lanes.App v) (lanes.App w) → IsUnasked (lanes.App v)
    → IsUnasked (lanes.App w)
one_unasked app v w (inl same) is = subst (λ (x : AppLane). IsUnasked (lanes.App x)) (sym same) is
one_unasked app v w (inr (old, new, same)) is =
    (ap (λ (x : AppLane). x.attempt) same ∙ is.0, ap (λ (x : AppLane). x.answer) same ∙ is.1)

unasked_by : (app : ℕ) (vs ws : List Lane) → AllZip (IsSameBut app) vs ws → Each IsUnasked vs → Each IsUnasked ws
unasked_by app [] [] same each = tt
unasked_by app [] (w ∷ ws) same each = absurd same
unasked_by app (v ∷ vs) [] same each = absurd same
unasked_by app (lanes.Core v ∷ vs) (w ∷ ws) same each =
    (subst IsUnasked (sym same.0) each.0, unasked_by app vs ws same.1 each.1)
unasked_by app (lanes.App v ∷ vs) (lanes.Core w ∷ ws) same each = absurd same.0
unasked_by app (lanes.App v ∷ vs) (lanes.App w ∷ ws) same each =
    (one_unasked app v w same.0 each.0, unasked_by app vs ws same.1 each.1)

-- the first core looks at checksums as the slow path does
checks_by : (app n : ℕ) (names : List ℕ) (c d : Bool) (vs ws : List Lane) → 0 < n → AreStaff n 0 names vs
    → AllZip (IsSameBut app) vs ws → Each (IsResting c) vs → Each (IsResting d) ws → d ≡ c
checks_by app zero names c d vs ws some staff same first later = absurd (omega (arith, some))
checks_by app (suc n) names c d [] ws some staff same first later = absurd staff
checks_by app (suc n) names c d (lanes.App v ∷ vs) ws some staff same first later = absurd staff
checks_by app (suc n) names c d (lanes.Core v ∷ vs) [] some staff same first later = absurd same
checks_by app (suc n) names c d (lanes.Core v ∷ vs) (w ∷ ws) some staff same first later =
    sym (subst (IsResting d) same.0 later.0) ∙ first.0

pub asks_stay : (app : ℕ) (f : Host → Host) (before after : Staffed) → IsStaffSound before → KeepsFiled before after
    → IsAsked app f before after → IsAskedOf before after
asks_stay app f before after sound kept asked = record {
  asked =
      record {
        sound = asked.sound;
        cores = ap (λ (x : Staffed). x.cores) asked.same;
        checks = checks_by app before.cores before.names before.host.slow.check_sums after.host.slow.check_sums
            before.lanes after.lanes sound.some.0 sound.staff asked.lanes sound.resting asked.sound.resting;
        clear = clear_by app before.lanes after.lanes asked.lanes;
        unasked = unasked_by app before.lanes after.lanes asked.lanes;
        filed = kept;
      };
  names = ap (λ (x : Staffed). x.names) asked.same;
  shared = ap (λ (x : Staffed). x.shared) asked.same;
  steer = ap (λ (x : Staffed). x.steer) asked.same;
  room = ap (λ (x : Staffed). x.room) asked.same;
  time = asked.time;
  filed = asked.filed;
}

-- so it is after an accept, by its answer
pub accept_stays : (app t port : ℕ) (before after : Staffed) (answer : Option ℕ) → IsStaffSound before
    → IsAccepting app t port before after answer → IsAskedOf before after
accept_stays app t port before after None sound accepted =
    subst (IsAskedOf before) (sym accepted.1) (stays_itself before sound)
accept_stays app t port before after (Some n) sound accepted =
    asks_stay app _ before after sound (accept_filed before after sound app t port (Some n) accepted) accepted.1

-- an accept, as the host of a run sees it
pub accepts_by : (app t port : ℕ) (before after : Staffed) (answer : Option ℕ)
    → IsAccepting app t port before after answer
    → in_run.IsAccepting app t port (seen_by before) (seen_by after) answer
accepts_by app t port before after None accepted = (accepted.0, ap seen_by accepted.1)
accepts_by app t port before after (Some n) accepted = (accepted.0, accepted.1.made)

-- and after a connect
pub connect_stays : (starts : Starts) (t app raddr rport : ℕ) (before after : Staffed) (answer : Connecting)
    → IsStaffSound before → IsConnecting starts t app raddr rport before after answer → IsAskedOf before after
connect_stays starts t app raddr rport before after NoSlot sound made =
    subst (IsAskedOf before) (sym made.1) (stays_itself before sound)
connect_stays starts t app raddr rport before after NoPort sound made =
    subst (IsAskedOf before) (sym made.2) (stays_itself before sound)
connect_stays starts t app raddr rport before after (Opened place) sound made =
    asks_stay app _ before after sound
    (connect_filed before after sound app t starts raddr rport (Opened place) made) made.4

-- ----- a step that lets its workers be
pub step_stays : (f : Host → Host) (before after : Staffed) → IsStaffSound before → KeepsFiled before after
    → IsStep f before after → IsAskedOf before after
step_stays f before after sound kept made =
    let same : after.lanes ≡ before.lanes = ap (λ (x : Staffed). x.lanes) made.same in
    record {
      asked =
          record {
            sound = made.sound;
            cores = ap (λ (x : Staffed). x.cores) made.same;
            checks = checks_by 0 before.cores before.names before.host.slow.check_sums after.host.slow.check_sums
                before.lanes before.lanes sound.some.0 sound.staff (all_self 0 before.lanes) sound.resting
                (subst (Each (IsResting after.host.slow.check_sums)) same made.sound.resting);
            clear = λ each. subst (Each IsClear) (sym same) each;
            unasked = λ each. subst (Each IsUnasked) (sym same) each;
            filed = kept;
          };
      names = ap (λ (x : Staffed). x.names) made.same;
      shared = ap (λ (x : Staffed). x.shared) made.same;
      steer = ap (λ (x : Staffed). x.steer) made.same;
      room = ap (λ (x : Staffed). x.room) made.same;
      time = made.time;
      filed = made.filed;
    }

-- ----- a kill
each_but : (P : Lane → Type 0) (ls : List Lane) (k : ℕ) → Each P ls → Each P (remove ls k)
each_but P [] zero each = tt
each_but P [] (suc k) each = tt
each_but P (l ∷ ls) zero each = each.1
each_but P (l ∷ ls) (suc k) each = (each.0, each_but P ls k each.1)

checks_less : (n k : ℕ) (names : List ℕ) (c d : Bool) (ls : List Lane) → 0 < n → AreStaff n 0 names ls
    → Each (IsResting c) ls → Each (IsResting d) (remove ls (n + k)) → d ≡ c
checks_less zero k names c d ls some staff first later = absurd (omega (arith, some))
checks_less (suc n) k names c d [] some staff first later = absurd staff
checks_less (suc n) k names c d (lanes.App l ∷ ls) some staff first later = absurd staff
checks_less (suc n) k names c d (lanes.Core l ∷ ls) some staff first later =
    let same : suc n + k ≡ suc (n + k) = omega arith in
    sym (subst (λ (j : ℕ). Each (IsResting d) (remove (lanes.Core l ∷ ls) j)) same later).0 ∙ first.0

none_some : (k : ℕ) → ◌≡◌ {A = Option ℕ} None (Some k) → ⊥
none_some k e = absurd (cc (e))

some_is : (j k : ℕ) → ◌≡◌ {A = Option ℕ} (Some j) (Some k) → j ≡ k
some_is j k e = cc (e)

next_is : (j k : ℕ) → ◌≡◌ {A = Option ℕ} (Some (1 + j)) (Some k) → suc j ≡ k
next_is j k e = let one : 1 + j ≡ k = some_is (1 + j) k e in omega (arith, one)

abbrev is_name : ℕ → ℕ → Bool
is_name app n = n == app

some_past : (o : Option ℕ) → IsSome o → IsSome (option_map (λ i. 1 + i) o)
some_past None is = is
some_past (Some j) is = refl

past_some : (o : Option ℕ) → IsSome (option_map (λ i. 1 + i) o) → IsSome o
past_some None is = is
past_some (Some j) is = refl

-- another name than the one that is taken out is still there
still_there : (app other : ℕ) (names : List ℕ) (k : ℕ) → ¬ (other ≡ app) → position (is_name app) names ≡ Some k
    → IsSome (position (is_name other) names) → IsSome (position (is_name other) (remove names k))
still_there app other [] k apart at has = absurd (none_some k at)
still_there app other (n ∷ ns) k apart at has =
    by (n == app) refl (λ j there. still_there app other ns j apart there)
  where
    same : (x y : ℕ) → (x == y) ≡ true → x ≡ y
    same x y q = grind (arith, nat_tests, q)

    other_is : (t : Bool) → (n == other) ≡ t → n ≡ app → IsSome (position (is_name other) ns)
    other_is true q is = absurd (apart (sym (same n other q) ∙ is))
    other_is false q is =
        past_some (position (is_name other) ns) (subst IsSome (position_past (is_name other) n ns q) has)

    behind : ((j : ℕ) → position (is_name app) ns ≡ Some j → IsSome (position (is_name other) ns)
        → IsSome (position (is_name other) (remove ns j))) → (o : Option ℕ) → position (is_name app) ns ≡ o
        → option_map (λ i. 1 + i) o ≡ Some k → (t : Bool) → (n == other) ≡ t
        → IsSome (position (is_name other) (remove (n ∷ ns) k))
    behind rest None there e t q = absurd (none_some k e)
    behind rest (Some j) there e true q =
        subst (λ (i : ℕ). IsSome (position (is_name other) (remove (n ∷ ns) i))) (next_is j k e)
        (subst IsSome (sym (position_here (is_name other) n (remove ns j) q)) refl)
    behind rest (Some j) there e false q =
        subst (λ (i : ℕ). IsSome (position (is_name other) (remove (n ∷ ns) i))) (next_is j k e)
        (subst IsSome (sym (position_past (is_name other) n (remove ns j) q))
        (some_past (position (is_name other) (remove ns j)) (rest j there
        (past_some (position (is_name other) ns) (subst IsSome (position_past (is_name other) n ns q) has)))))

    by : (t : Bool) → (n == app) ≡ t → ((j : ℕ) → position (is_name app) ns ≡ Some j
        → IsSome (position (is_name other) ns) → IsSome (position (is_name other) (remove ns j)))
        → IsSome (position (is_name other) (remove (n ∷ ns) k))
    by true q rest =
        subst (λ (i : ℕ). IsSome (position (is_name other) (remove (n ∷ ns) i)))
        (some_is 0 k (sym (position_here (is_name app) n ns q) ∙ at)) (other_is (n == other) refl (same n app q))
    by false q rest =
        behind rest (position (is_name app) ns) refl (sym (position_past (is_name app) n ns q) ∙ at) (n == other) refl

pub kill_stays : (app t : ℕ) (before after : Staffed) → IsStaffSound before → IsKilled app t before after
    → IsAskedLess app before after
kill_stays app t before after sound killed = record {
  asked =
      record {
        sound = killed.sound;
        cores = ap (λ (x : Staffed). x.cores) killed.same;
        checks = checks_less before.cores killed.place before.names before.host.slow.check_sums
            after.host.slow.check_sums before.lanes sound.some.0 sound.staff sound.resting
            (subst (Each (IsResting after.host.slow.check_sums)) killed.lanes killed.sound.resting);
        clear = λ each. subst (Each IsClear) (sym killed.lanes)
            (each_but IsClear before.lanes (before.cores + killed.place) each);
        unasked = λ each. subst (Each IsUnasked) (sym killed.lanes)
            (each_but IsUnasked before.lanes (before.cores + killed.place) each);
        filed = kill_filed before after app t sound killed;
      };
  place = killed.place;
  runs = killed.runs;
  names = killed.names;
  others = λ other apart has. subst (λ (ns : List ℕ). IsSome (position (is_name other) ns)) (sym killed.names)
      (still_there app other before.names killed.place apart killed.runs has);
  shared = ap (λ (x : Staffed). x.shared) killed.same;
  steer = ap (λ (x : Staffed). x.steer) killed.same;
  room = ap (λ (x : Staffed). x.room) killed.same;
  time = killed.time;
  filed = killed.filed;
}
