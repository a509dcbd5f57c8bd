-- A tick that was begun, went on and was ended is a tick of the host: for the laws of a tick.
use Rattle.std.proofs.Common.{◌≡◌, ℕ, zero, suc, ◌<◌, ◌≤◌, Bool, true, false, List, [], ◌∷◌, map, refl, sym}
use Rattle.std.proofs.Common.{ap, subst, ◌∙◌, arith, count_by, true≢false}
use Rattle.std.specs.Prelude.{◌==◌, Option, Some, None, IfSome, IsSome, position, length, slice_get}
use Rattle.std.proofs.Common.{inl, inr}
use Rattle.tas_model.specs.declared.entry.HostParams.{HostParams}
use Rattle.tas_model.specs.declared.entry.Reply.{Reply}
use Rattle.core_phase.specs.declared.lane.Lane.{Lane}
use Rattle.core_phase.specs.declared.lane.Lane.TheVariants as lanes
use Rattle.core_rounds.specs.Shares.{AreDistinct}
use Rattle.core_worker.specs.declared.frames.Frame.{Frame}
use Rattle.flow_lock.specs.Orders.{same_flow}
use Rattle.flow_lock.specs.declared.view.Held.{Held}
use Rattle.host_books.specs.Books.{Book, Setting, live_in}
use Rattle.host_books.specs.Leavings.{Leaving, books_after, scripts_after}
use Rattle.host_books.specs.Words.{ArePairs}
use Rattle.host_rounds.specs.Hosts.{Host, Application}
use Rattle.host_rounds.specs.Lists.{Each}
use Rattle.host_rounds.specs.SerialOrder.{ask_phase}
use Rattle.lane_orders.specs.Ticks.{AreTried}
use Rattle.libtas_sockets.specs.Apps as libtas
use Rattle.phase_orders.specs.Collecting.{all_broken}
use Rattle.phase_orders.specs.CoreTurns.{arrivals_of, lines_of}
use Rattle.phase_orders.specs.Lanes.{LanePhase, AreLeavings, IsAsk, IsApart, AreAllApart, all_asked}
use Rattle.phase_orders.proofs.Collecting.{lines_collected}
use Rattle.scenario_text.specs.declared.scenario.Scenario.{Scenario}
use Rattle.scenario_runs.specs.Applications.{Bound, AListener, ASocket, Script}
use Rattle.scenario_runs.specs.Worlds.{scripts_of}
use Rattle.scenario_laws.specs.Names.{holder_at, IsHeld}
use Rattle.scenario_host.specs.Sound.{IsFit}
use Rattle.scenario_host.specs.Tries.{IsAtStep}
use Rattle.scenario_host.proofs.Fit.{StaysFit}
use Rattle.script_tries.specs.Names.{AreRising, AreOwnIn, IsHeldIn, HaveOwnSockets, holder_by, holder_in}
use Rattle.script_tries.proofs.Lists.{each_at}
use Rattle.script_tries.proofs.Together.{tries_as, found_has, own_holder, flows_differ}
use Rattle.script_tries.specs.Replies.{leavings_of, answered_of, gone_on, later_of}
use Rattle.script_tries.specs.Tries.{ScriptTry, IsTriedBy, AreTriedBy, AreAsks, MayStandTogether}
use Rattle.script_tries.specs.Tries.{AreAllIndependent}
use Rattle.slow_worker.specs.Clocks.{has_passed_in, last_tick}
use Rattle.slow_worker.specs.declared.clock.Clock.{Clock}
use Rattle.slow_worker.specs.declared.clock.Clock.TheVariants.{Passed}
use Rattle.sound_hosts.specs.Hosts.{CoreHost, host_of, setting_of}
use Rattle.sound_hosts.proofs.Leaving as leaving
use Rattle.sound_phases.specs.Phased as phased
use Rattle.sound_phases.specs.Phased.{apps_in}
use Rattle.core_host.specs.Asking.{HasApp}
use Rattle.core_host.specs.Emission.{AreTriesSet}
use Rattle.core_host.specs.Handing as handing
use Rattle.core_host.specs.Serving.{AreLeft, IsServed, IsServedOf}
use Rattle.core_host.specs.Sharing.{all_in_tick, view_of, IsPlayed}
use Rattle.core_host.specs.Sound.{AreStaff, IsStaffSound, IsClear, IsUnasked, IsResting}
use Rattle.core_host.specs.Ticks.{IsBetweenTicks, IsTick, site_in}
use Rattle.core_host.specs.Views.{Staffed, seen_by}
use Rattle.core_host.proofs.TickLanes as tick_lanes
use Rattle.core_host.proofs.TickLanes.{set_out, same_checks, lines_still, no_lines, quiet_books}
use Rattle.shared_scripts.specs.Answers.{goes_by, answer_for, answer_unless, answer_to, answers_in, heard_by, later_by}
use Rattle.shared_scripts.specs.Begun.{IsBegun, tries_of}
use Rattle.shared_scripts.specs.Ended.{IsEnded}
use Rattle.shared_scripts.specs.Going.{CanGoOn, IsGoneOn, numbers_of}
use Rattle.shared_scripts.specs.Turns.{numbers_in}
use Rattle.shared_scripts.specs.Playing.{IsPlayable, IsGone, RunsOn, Owns}
use Rattle.shared_scripts.proofs.Holders.{all_own_still, slow_holders, emit_holders, same_books}
use Rattle.shared_scripts.proofs.LaneTries.{AreOnce, lanes_tried}
use Rattle.shared_scripts.proofs.LaneTries.{rising_pairs, flows_apart}
use Rattle.shared_scripts.proofs.Left.{IsHeldAs, IsOwnTry, DifferInFlow, left_books}
use Rattle.shared_scripts.proofs.Replied.{AreKin, kin_staff, HasReplies, replied, leavings_there, all_heard}
use Rattle.shared_scripts.proofs.Replied.{all_later, all_within, all_fit, AllStayFit}
use Rattle.shared_scripts.proofs.Rising.{each_more, rising_by, same_number}
use Rattle.shared_scripts.proofs.Turning.{fit_by}

-- ----- the laws of tries
abbrev pub StandLaw : Type 0
StandLaw = (sc : Scenario) (p : HostParams) (t : ℕ) (s : Setting) (scripts : List Script)
    (tries : List (Option ScriptTry)) → AreTriedBy t s.books scripts tries
    → AreAsks (scripts_of sc p) t s scripts tries

abbrev pub ApartLaw : Type 0
ApartLaw = (sc : Scenario) (p : HostParams) (t : ℕ) (books : List Book) (scripts : List Script)
    (tries : List (Option ScriptTry)) → HaveOwnSockets books scripts → AreTriedBy t books scripts tries
    → AreAllIndependent (scripts_of sc p) t tries

abbrev pub GoLaw : Type 0
GoLaw = (t : ℕ) (books : List Book) (scripts : List Script) (tries : List (Option ScriptTry))
    (replies : List (Option Reply)) → AreRising scripts → AreTriedBy t books scripts tries
    → scripts_after (leavings_of tries replies) scripts ≡ gone_on tries replies scripts

abbrev pub AskLaw : Type 0
AskLaw = (sc : Scenario) (p : HostParams) (t : ℕ) (books : List Book) (scripts : List Script)
    (tries : List (Option ScriptTry)) (replies : List (Option Reply)) → AreRising scripts
    → AreTriedBy t books scripts tries
    → AreTried (scripts_of sc p) (map (λ (s : Script). s.number) scripts) (answered_of tries replies)
    (later_of tries replies (map (λ (s : Script). s.number) scripts))

abbrev pub KeepLaw : Type 0
KeepLaw = (t : ℕ) (books : List Book) (scripts : List Script) (tries : List (Option ScriptTry))
    (replies : List (Option Reply)) → HaveOwnSockets books scripts → AreTriedBy t books scripts tries
    → HaveOwnSockets (books_after (leavings_of tries replies) books)
    (scripts_after (leavings_of tries replies) scripts)

pub record TryLaws : Type 0 where
  pub stand : StandLaw
  pub apart : ApartLaw
  pub go : GoLaw
  pub ask : AskLaw
  pub keep : KeepLaw

-- ----- by the books
holders_same : (known : List Held) (bs : List Book) (k : ℕ) → holder_at (map (live_in known) bs) k ≡ holder_in bs k
holders_same known [] k = refl
holders_same known (b ∷ bs) zero = refl
holders_same known (b ∷ bs) (suc k) = holders_same known bs k

pub own_in : (known : List Held) (bs : List Book) (x : Script) → Owns (map (live_in known) bs) x
    → AreOwnIn bs x.number x.names
own_in known bs x own = record {
  held = each_more (λ (b : List ℕ × Bound). IsHeld (map (live_in known) bs) x.number b.1)
      (λ (b : List ℕ × Bound). IsHeldIn bs x.number b.1) (λ b held. one b.1 held) x.names own.held;
  apart = own.apart;
} where
  one : (c : Bound) → IsHeld (map (live_in known) bs) x.number c → IsHeldIn bs x.number c
  one (AListener port) held = tt
  one (ASocket k) held = sym (holders_same known bs k) ∙ held

own_out : (known : List Held) (bs : List Book) (x : Script) → AreOwnIn bs x.number x.names
    → Owns (map (live_in known) bs) x
own_out known bs x own = record {
  held = each_more (λ (b : List ℕ × Bound). IsHeldIn bs x.number b.1)
      (λ (b : List ℕ × Bound). IsHeld (map (live_in known) bs) x.number b.1) (λ b held. one b.1 held) x.names own.held;
  apart = own.apart;
} where
  one : (c : Bound) → IsHeldIn bs x.number c → IsHeld (map (live_in known) bs) x.number c
  one (AListener port) held = tt
  one (ASocket k) held = holders_same known bs k ∙ held

-- ----- what scripts ask
asks_stand : (sc : Scenario) (p : HostParams) (t : ℕ) (s : Setting) (scripts : List Script)
    (os : List (Option ScriptTry)) → AreAsks (scripts_of sc p) t s scripts os
    → Each (IsAsk (scripts_of sc p) t s scripts) os
asks_stand sc p t s scripts [] each = tt
asks_stand sc p t s scripts (None ∷ os) each = (tt, asks_stand sc p t s scripts os each.1)
asks_stand sc p t s scripts (Some x ∷ os) each = (each.0, asks_stand sc p t s scripts os each.1)

module _ (sc : Scenario) (p : HostParams) (t : ℕ) where
  one_apart : (o q : Option ScriptTry) → MayStandTogether (scripts_of sc p) t o q → IsApart (scripts_of sc p) t o q
  one_apart None q may = tt
  one_apart (Some x) None may = tt
  one_apart (Some x) (Some y) may =
      record { first = may.first; second = may.second; flow = may.flow; next = may.next }

  all_apart : (os : List (Option ScriptTry)) → AreAllIndependent (scripts_of sc p) t os
      → AreAllApart (scripts_of sc p) t os
  all_apart [] pairs = tt
  all_apart (o ∷ os) pairs = (
    each_more (MayStandTogether (scripts_of sc p) t o) (IsApart (scripts_of sc p) t o) (one_apart o) os pairs.0,
    all_apart os pairs.1,
  )

  one_flow : (o q : Option ScriptTry) → MayStandTogether (scripts_of sc p) t o q → DifferInFlow o q
  one_flow None q may = tt
  one_flow (Some x) None may = tt
  one_flow (Some x) (Some y) may = may.flow

  all_flows : (os : List (Option ScriptTry)) → AreAllIndependent (scripts_of sc p) t os → ArePairs DifferInFlow os
  all_flows [] pairs = tt
  all_flows (o ∷ os) pairs = (
    each_more (MayStandTogether (scripts_of sc p) t o) (DifferInFlow o) (one_flow o) os pairs.0,
    all_flows os pairs.1,
  )

-- ----- lanes that were left empty
same_empty : (l : Lane) → handing.IsEmpty l → tick_lanes.IsEmpty l
same_empty (lanes.Core l) e = e
same_empty (lanes.App l) e = e

-- the checksums are looked at as before, where the staff is the same
checks_are : (h k : Staffed) → IsStaffSound h → IsStaffSound k → k.lanes ≡ h.lanes
    → k.host.slow.check_sums ≡ h.host.slow.check_sums
checks_are h k sound still lanes =
    same_checks k.host.slow.check_sums h.host.slow.check_sums h.cores h.names h.lanes sound.some.0 sound.staff
    (subst (Each (IsResting k.host.slow.check_sums)) lanes still.resting) sound.resting

-- ----- scripts that go on
numbers_stay : (n : ℕ) (xs ys : List Script) → AllStayFit n xs ys → numbers_in ys ≡ numbers_in xs
numbers_stay n [] ys stay = ap numbers_in stay
numbers_stay n (x ∷ xs) [] stay = absurd stay
numbers_stay n (x ∷ xs) (y ∷ ys) stay = λ i. stay.0.number i ∷ numbers_stay n xs ys stay.1 i

steps_stay : (n : ℕ) (xs ys : List Script) → AllStayFit n xs ys → Each IsAtStep ys
steps_stay n [] ys stay = subst (Each IsAtStep) (sym stay) tt
steps_stay n (x ∷ xs) [] stay = absurd stay
steps_stay n (x ∷ xs) (y ∷ ys) stay =
    (record { steps = stay.0.fit.steps; part = stay.0.fit.part }, steps_stay n xs ys stay.1)

-- who is gone goes on by nothing
gone_stays : (t : ℕ) (h : Staffed) (ls : List Lane) (x : Script) → IsGone t x → RunsOn t h (goes_by (answer_to ls x) x)
gone_stays t h ls x gone =
    subst (RunsOn t h)
    (sym (ap (λ left. goes_by (answer_unless (elim left [ [] ↦ true | z ∷ zs ↦ false ]) (answer_for x.number ls)) x)
    gone.left)) (inr gone)

runs_one : (t : ℕ) (h : Staffed) (ls : List Lane) (n : ℕ) (x : Script) → RunsOn t h x
    → StaysFit n x (goes_by (answer_to ls x) x) → RunsOn t h (goes_by (answer_to ls x) x)
runs_one t h ls n x (inl has) stays = inl (subst (λ (k : ℕ). HasApp k h) (sym stays.number) has)
runs_one t h ls n x (inr gone) stays = gone_stays t h ls x gone

runs_stay : (t : ℕ) (h : Staffed) (ls : List Lane) (n : ℕ) (xs : List Script) → Each (RunsOn t h) xs
    → AllStayFit n xs (heard_by (answers_in ls xs) xs) → Each (RunsOn t h) (heard_by (answers_in ls xs) xs)
runs_stay t h ls n [] runs stay = tt
runs_stay t h ls n (x ∷ xs) runs stay =
    (runs_one t h ls n x runs.0 stay.0, runs_stay t h ls n xs runs.1 stay.1)

-- it runs where the same applications do
abbrev IsAmong : (app : ℕ) → List ℕ → Type 0
IsAmong n names = IsSome (position (λ (m : ℕ). m == n) names)

runs_as : (t : ℕ) (h k : Staffed) → k.names ≡ h.names → (x : Script) → RunsOn t h x → RunsOn t k x
runs_as t h k same x (inl has) = inl (subst (IsAmong x.number) (sym same) has)
runs_as t h k same x (inr gone) = inr gone

pub runs_by : (t : ℕ) (h k : Staffed) (xs : List Script) → k.names ≡ h.names → Each (RunsOn t h) xs
    → Each (RunsOn t k) xs
runs_by t h k xs same runs = each_more (RunsOn t h) (RunsOn t k) (runs_as t h k same) xs runs

-- ----- each try has its flow
-- of books of different flows, who has one has all of its flow
held_alone : (n k : ℕ) (b : Book) (bs : List Book) → leaving.AreApart bs → slice_get bs k ≡ Some b
    → b.holder ≡ Application n → Each (IsHeldAs b.id n) bs
held_alone n k b [] apart there held = absurd (cc (there))
held_alone n zero b (c ∷ bs) apart there held =
    let same : c ≡ b = cc (there) in (
      λ its. ap (λ (x : Book). x.holder) same ∙ held,
      each_more (λ (d : Book). same_flow c.id d.id ≡ false) (IsHeldAs b.id n)
          (λ d other its. absurd (true≢false (sym its ∙ (ap (λ (x : Book). same_flow x.id d.id) (sym same) ∙ other))))
          bs apart.0,
    )
held_alone n (suc k) b (c ∷ bs) apart there held =
    let other : same_flow c.id b.id ≡ false =
    each_at (λ (d : Book). same_flow c.id d.id ≡ false) bs k b apart.0 there in (
      λ its. absurd (true≢false (sym its ∙ flows_differ c.id b.id other)),
      held_alone n k b bs apart.1 there held,
    )

own_tries : (t : ℕ) (books : List Book) (scripts : List Script) → HaveOwnSockets books scripts
    → leaving.AreApart books → (os : List (Option ScriptTry)) → AreTriedBy t books scripts os
    → Each (IsOwnTry books) os
own_tries t books scripts have apart os tried =
    each_more (λ (o : Option ScriptTry). IfSome o (IsTriedBy t books scripts)) (IsOwnTry books) one os tried.each
  where
    one : (o : Option ScriptTry) → IfSome o (IsTriedBy t books scripts) → IsOwnTry books o
    one None is = tt
    one (Some x) is =
        let at = tries_as t books is.script x is.tries in
        let own = found_has (λ (y : Script). AreOwnIn books y.number y.names)
        (λ (y : Script). y.number == x.ask) scripts is.script is.found have.own in
        let held = own_holder books at.step is.script at.place own at.named in
        subst (λ (y : ScriptTry). Each (IsHeldAs y.flow y.app) books) (sym at.is)
        (held_alone is.script.number at.place at.book books apart at.there
        (sym (ap holder_by at.there) ∙ held))

-- ----- scripts that fit the flows of a host
abbrev length_of : Staffed → ℕ
length_of h = length (seen_by h).flows

all_fits : (host : Host) (xs : List Script) → Each IsAtStep xs → Each (Owns host.flows) xs
    → Each (IsFit (length host.flows)) xs
all_fits host [] at own = tt
all_fits host (x ∷ xs) at own = (fit_by host x at.0 own.0, all_fits host xs at.1 own.1)

abbrev AreStaffIn : (cores : ℕ) → List ℕ → List Lane → Type 0
AreStaffIn n names ls = AreStaff n 0 names ls

-- ----- a host whose lanes played
module _ (sc : Scenario) (t : ℕ) (name : List ℕ) (frames : List Frame) (scripts : List Script)
    (before trying played : Staffed) (laws : TryLaws) (playable : IsPlayable t before scripts)
    (begun : IsBegun sc t name frames scripts before trying) (phase : IsPlayed t trying played) where
  abbrev p : HostParams
  p = (seen_by before).params

  abbrev books : List Book
  books = trying.host.books

  abbrev tries : List (Option ScriptTry)
  tries = tries_of t scripts trying

  -- ----- the host as its lanes began
  handed_host : begun.handed.host ≡ begun.passed.host
  handed_host = ap (λ (x : Staffed). x.host) begun.dealt.same

  trying_host : trying.host ≡ begun.passed.host
  trying_host = ap (λ (x : Staffed). x.host) begun.tries.same ∙ handed_host

  passed_lanes : begun.passed.lanes ≡ before.lanes
  passed_lanes = ap (λ (x : Staffed). x.lanes) begun.time.same

  trying_cores : trying.cores ≡ begun.handed.cores
  trying_cores = ap (λ (x : Staffed). x.cores) begun.tries.same

  trying_names : trying.names ≡ before.names
  trying_names =
      ap (λ (x : Staffed). x.names) begun.tries.same
      ∙ (ap (λ (x : Staffed). x.names) begun.dealt.same ∙ ap (λ (x : Staffed). x.names) begun.time.same)

  trying_seen : seen_by trying ≡ seen_by begun.passed
  trying_seen = ap host_of trying_host

  trying_params : (seen_by trying).params ≡ p
  trying_params = ap (λ (x : Host). x.params) (trying_seen ∙ begun.time.made)

  trying_checks : trying.host.slow.check_sums ≡ true
  trying_checks =
      ap (λ (x : CoreHost). x.slow.check_sums) trying_host
      ∙ (checks_are before begun.passed playable.between.sound begun.time.sound passed_lanes ∙ playable.checks)

  trying_own : Each (Owns (seen_by trying).flows) scripts
  trying_own =
      subst (λ (x : Host). Each (Owns x.flows) scripts) (sym (trying_seen ∙ begun.time.made))
      (all_own_still (seen_by before).flows _ (slow_holders t (seen_by before)) scripts playable.own)

  sound_trying : IsStaffSound trying
  sound_trying = begun.tries.sound

  once : AreOnce trying.lanes
  once = λ n. subst (λ xs. count_by (λ (a : libtas.Application). a.number == n) xs ≤ 1) sound_trying.apps
      (sound_trying.host.numbers n)

  apart : leaving.AreApart books
  apart = leaving.apart_of _ [] books sound_trying.host.numbered

  own_books : Each (λ (x : Script). AreOwnIn books x.number x.names) scripts
  own_books =
      each_more (Owns (seen_by trying).flows) (λ (x : Script). AreOwnIn books x.number x.names)
      (own_in trying.host.slow.pass.view.base books) scripts trying_own

  up : AreRising scripts
  up = rising_pairs scripts playable.numbers

  have : HaveOwnSockets books scripts
  have = record { rising = up; flows = flows_apart books apart; own = own_books }

  tried : AreTriedBy t books scripts tries
  tried = lanes_tried t books scripts trying.lanes once

  independent : AreAllIndependent (scripts_of sc p) t tries
  independent = laws.apart sc p t books scripts tries have tried

  stand : Each (IsAsk (scripts_of sc p) t (setting_of trying.host) scripts) tries
  stand =
      asks_stand sc p t (setting_of trying.host) scripts tries
      (laws.stand sc p t (setting_of trying.host) scripts tries tried)

  together : AreAllApart (scripts_of sc p) t tries
  together = all_apart sc p t tries independent

  empty : Each tick_lanes.IsEmpty begun.handed.lanes
  empty = each_more handing.IsEmpty tick_lanes.IsEmpty same_empty begun.handed.lanes begun.dealt.empty

  handed_checks : begun.handed.host.slow.check_sums ≡ true
  handed_checks = ap (λ (x : CoreHost). x.slow.check_sums) (handed_host ∙ sym trying_host) ∙ trying_checks

  abbrev first : LanePhase (scripts_of sc p) true trying.cores t
  first = record {
    setting = setting_of trying.host;
    state = scripts;
    asks = tries;
    before = all_in_tick t trying.lanes;
    after = played.lanes;
    view = view_of trying;
    next = view_of played;
    phase = phase.phase;
    indexed = sound_trying.host.indexed;
    set_out = set_out true trying.cores t begun.handed.cores 0 begun.handed.names tries begun.handed.lanes trying.lanes
        (omega (arith, trying_cores)) begun.dealt.sound.staff
        (subst (λ c. Each (IsResting c) begun.handed.lanes) handed_checks begun.dealt.sound.resting) empty
        begun.tries.tries begun.set;
    stand = stand;
    apart = together;
  }

  -- ----- and then they played
  played_host : played.host ≡ phased.after_phase (all_in_tick t trying.lanes) played.lanes (view_of played) trying.host
  played_host = phase.host

  played_checks : played.host.slow.check_sums ≡ true
  played_checks = ap (λ (x : CoreHost). x.slow.check_sums) played_host ∙ trying_checks

  played_time : played.host.slow.time ≡ Passed t
  played_time =
      ap (λ (x : CoreHost). x.slow.time) played_host
      ∙ (ap (λ (x : CoreHost). x.slow.time) trying_host ∙ begun.time.time)

  pub played_params : (seen_by played).params ≡ p
  played_params = ap (λ (x : CoreHost). x.slow.path.params) played_host ∙ trying_params

  played_names : played.names ≡ before.names
  played_names = ap (λ (x : Staffed). x.names) phase.same ∙ trying_names

  kin : AreKin trying.lanes played.lanes
  kin =
      kin_staff trying.cores 0 trying.names trying.lanes played.lanes sound_trying.staff
      (subst (λ (x : Staffed). AreStaffIn x.cores x.names played.lanes) phase.same phase.sound.staff)

  left_so : (told : Staffed) → AreTriesSet played told → AreLeft t first.before told
  left_so told set =
      let host : told.host ≡ played.host = ap (λ (x : Staffed). x.host) set.same in
      lines_still played.lanes told.lanes set.tries
      ∙ (lines_collected (scripts_of sc p) true trying.cores t first
      (no_lines t begun.handed.lanes trying.lanes begun.tries.tries empty)
      ∙ ap (λ (c : Bool). lines_of c t (all_broken c first.before))
      (sym (ap (λ (x : CoreHost). x.slow.check_sums) host ∙ played_checks)))

  has_replies : (gs : List (Leaving (List Script))) → AreLeavings t tries first.before played.lanes gs
      → HasReplies tries played.lanes gs
  has_replies gs left =
      replied t books scripts phase.phase.order 0 trying.lanes played.lanes gs phase.phase.parts begun.set left

  -- what they left, whatever it is said by
  abbrev some_left : (gs : List (Leaving (List Script))) × AreLeavings t tries first.before played.lanes gs
  some_left = leavings_there t books scripts phase.phase.order 0 trying.lanes played.lanes phase.phase.parts begun.set

  abbrev there : HasReplies tries played.lanes some_left.0
  there = has_replies some_left.0 some_left.1

  abbrev heard : List Script
  heard = heard_by (answers_in played.lanes scripts) scripts

  heard_so : (gs : List (Leaving (List Script))) → AreLeavings t tries first.before played.lanes gs
      → scripts_after gs scripts ≡ heard
  heard_so gs left =
      let r = has_replies gs left in
      ap (λ (ls : List (Leaving (List Script))). scripts_after ls scripts) r.leave
      ∙ (laws.go t books scripts tries r.replies up tried
      ∙ all_heard t books scripts trying.lanes played.lanes r.replies once kin r.are playable.numbers playable.steps)

  books_so : (gs : List (Leaving (List Script))) → AreLeavings t tries first.before played.lanes gs
      → books_after gs books ≡ played.host.books
  books_so gs left =
      left_books t books scripts phase.phase.order 0 trying.lanes played.lanes gs books phase.phase.parts begun.set left
      apart (all_flows sc p t tries independent) (own_tries t books scripts have apart tries tried)
      ∙ sym (ap (λ (x : CoreHost). x.books) played_host)

  -- ----- the scripts then
  heard_own : Each (Owns (seen_by played).flows) heard
  heard_own =
      let kept = laws.keep t books scripts tries there.replies have tried in
      let left = ap (λ (ls : List (Leaving (List Script))). books_after ls books) (sym there.leave)
      ∙ books_so some_left.0 some_left.1 in
      let goes = ap (λ (ls : List (Leaving (List Script))). scripts_after ls scripts) (sym there.leave)
      ∙ heard_so some_left.0 some_left.1 in
      let own : Each (λ (x : Script). AreOwnIn played.host.books x.number x.names) heard =
      subst (λ (bs : List Book). Each (λ (x : Script). AreOwnIn bs x.number x.names) heard) left
      (subst (λ (xs : List Script). Each
      (λ (x : Script). AreOwnIn (books_after (leavings_of tries there.replies) books) x.number x.names) xs)
      goes kept.own) in
      each_more (λ (x : Script). AreOwnIn played.host.books x.number x.names) (Owns (seen_by played).flows)
      (own_out played.host.slow.pass.view.base played.host.books) heard own

  fit : Each (IsFit (length_of trying)) scripts
  fit = all_fits (seen_by trying) scripts playable.steps trying_own

  stay : AllStayFit (length_of trying) scripts heard
  stay =
      all_fit t books scripts trying.lanes played.lanes there.replies once kin there.are playable.numbers playable.steps
      (length_of trying) fit

  pub can_go_on : CanGoOn t scripts played
  can_go_on = record {
    sound = phase.sound;
    later = ap (has_passed_in t) played_time ∙ same_number t t refl;
    listens = ap (λ (x : HostParams). x.fixed) played_params ∙ playable.listens;
    numbers = playable.numbers;
    runs = runs_by t before played scripts played_names playable.runs;
    within = all_within t books scripts trying.lanes played.lanes there.replies once kin there.are playable.numbers
        playable.steps;
    ready = record {
      numbers = rising_by scripts heard (sym (numbers_stay (length_of trying) scripts heard stay)) playable.numbers;
      steps = steps_stay (length_of trying) scripts heard stay;
      own = heard_own;
      runs = runs_stay t played played.lanes (length_of trying) scripts
          (runs_by t before played scripts played_names playable.runs) stay;
    };
    lanes = first.before;
    left = left_so;
  }

  -- ----- the rest of the tick
  module _ (next : List Script) (kicked sent after : Staffed) (gone : IsGoneOn sc t scripts next played kicked)
      (again : IsPlayed t kicked sent) (ended : IsEnded t sent after) where
    told_host : gone.told.host ≡ played.host
    told_host = ap (λ (x : Staffed). x.host) gone.answers.same

    served : IsServedOf (numbers_of (seen_by played).params) t first.before gone.told gone.served
    served = gone.serves first.before (left_so gone.told gone.answers)

    pub tick_made : AreDistinct (arrivals_of true frames)
        → IsTick (scripts_of sc p) t (record { frames = arrivals_of true frames; asks = numbers_in scripts }) before
        after scripts next
    tick_made distinct = record {
      passed = begun.passed;
      time = begun.time;
      frames = frames;
      come = ap (λ (c : Bool). arrivals_of c frames) playable.checks;
      distinct = distinct;
      moves = _;
      handed = begun.handed;
      dealt = begun.dealt;
      trying = trying;
      tries = begun.tries;
      asks = tries;
      set = begun.set;
      stand = stand;
      apart = together;
      played = played;
      first = phase;
      later = later_by (answers_in played.lanes scripts) (numbers_in scripts);
      tried = subst (λ (ns : List ℕ). AreTried (scripts_of sc p) (numbers_in scripts) (all_asked tries played.lanes) ns)
          (all_later t books scripts trying.lanes played.lanes there.replies once kin there.are playable.numbers
          playable.steps)
          (subst (λ (ns : List ℕ). AreTried (scripts_of sc p) (numbers_in scripts) ns
          (later_of tries there.replies (numbers_in scripts))) (sym there.asked)
          (laws.ask sc p t books scripts tries there.replies up tried));
      heard = heard;
      left = λ gs left. (books_so gs left, heard_so gs left);
      told = gone.told;
      answers = gone.answers;
      none = gone.none;
      numbers = numbers_of p;
      starts = refl;
      served = gone.served;
      serves = subst (λ (q : HostParams). IsServed (numbers_of q) t gone.told gone.served) played_params gone.serves;
      asked = gone.asked;
      alone = subst (λ (q : HostParams). ask_phase (scripts_of sc q) t (site_in gone.served heard)
          (later_by (answers_in played.lanes scripts) (numbers_in scripts)) ≡ site_in gone.asked next) played_params
          gone.alone;
      stays = gone.stays;
      kicked = kicked;
      kicks = gone.kicks;
      sent = sent;
      second = again;
      quiet = ended.quiet;
      forgot = ended.forgot;
      silent = ended.silent;
      rest = ended.rest;
    }

    quiet_host : ended.quiet.host ≡ sent.host
    quiet_host = ap (λ (x : Staffed). x.host) ended.forgot.same

    sent_host : sent.host ≡ phased.after_phase (all_in_tick t kicked.lanes) sent.lanes (view_of sent) kicked.host
    sent_host = again.host

    after_params : (seen_by after).params ≡ p
    after_params =
        ap (λ (x : Host). x.params) ended.rest.0.made
        ∙ (ap (λ (x : CoreHost). x.slow.path.params) (quiet_host ∙ sent_host)
        ∙ (ap (λ (x : Host). x.params) gone.kicks.0.made ∙ (gone.params ∙ played_params)))

    after_checks : after.host.slow.check_sums ≡ true
    after_checks =
        ended.rest.1.checks
        ∙ (ap (λ (x : CoreHost). x.slow.check_sums) (quiet_host ∙ sent_host)
        ∙ (gone.kicks.1.checks
        ∙ (gone.stays.checks
        ∙ (served.still.checks
        ∙ (ap (λ (x : CoreHost). x.slow.check_sums) told_host ∙ played_checks)))))

    after_time : after.host.slow.time ≡ Passed t
    after_time =
        ended.rest.1.time
        ∙ (ap (λ (x : CoreHost). x.slow.time) (quiet_host ∙ sent_host)
        ∙ (gone.kicks.1.time ∙ (gone.time ∙ played_time)))

    after_names : after.names ≡ gone.asked.names
    after_names =
        ap (λ (x : Staffed). x.names) ended.rest.0.same
        ∙ (ap (λ (x : Staffed). x.names) ended.forgot.same
        ∙ (ap (λ (x : Staffed). x.names) again.same ∙ ap (λ (x : Staffed). x.names) gone.kicks.0.same))

    kicked_lanes : kicked.lanes ≡ gone.asked.lanes
    kicked_lanes = ap (λ (x : Staffed). x.lanes) gone.kicks.0.same

    served_none : Each IsUnasked gone.served.lanes
    served_none =
        subst (Each IsUnasked) (sym served.lanes) (tick_lanes.served_unasked gone.told.lanes gone.none)

    kicked_none : Each IsUnasked kicked.lanes
    kicked_none = subst (Each IsUnasked) (sym kicked_lanes) (gone.stays.unasked served_none)

    sent_books : sent.host.books ≡ kicked.host.books
    sent_books =
        ap (λ (x : CoreHost). x.books) sent_host ∙ quiet_books t kicked.lanes sent.lanes kicked.host.books kicked_none

    after_own : Each (Owns (seen_by after).flows) next
    after_own =
        subst (λ (x : Host). Each (Owns x.flows) next) (sym (ended.rest.0.made))
        (all_own_still (seen_by ended.quiet).flows _ (emit_holders t (seen_by ended.quiet)) next
        (subst (λ (x : CoreHost). Each (Owns (host_of x).flows) next) (sym quiet_host)
        (all_own_still (seen_by kicked).flows (seen_by sent).flows
        (same_books kicked.host.slow.pass.view.base sent.host.slow.pass.view.base kicked.host.books sent.host.books
        sent_books) next
        (subst (λ (x : Host). Each (Owns x.flows) next) (sym gone.kicks.0.made) gone.ready.own))))

    -- nothing is left to do then
    kicked_clear : Each IsClear kicked.lanes
    kicked_clear =
        subst (Each IsClear) (sym kicked_lanes)
        (gone.stays.clear (subst (Each IsClear) (sym served.lanes)
        (tick_lanes.served_clear gone.told.lanes
        (tick_lanes.tried_emptied played.lanes gone.told.lanes gone.answers.tries phase.taken))))

    after_lanes : after.lanes ≡ ended.quiet.lanes
    after_lanes = ap (λ (x : Staffed). x.lanes) ended.rest.0.same

    between_after : IsBetweenTicks after
    between_after = record {
      sound = ended.rest.0.sound;
      clear = subst (Each IsClear) (sym after_lanes)
          (tick_lanes.tried_clear sent.lanes ended.quiet.lanes ended.forgot.tries
          (tick_lanes.phase_clear again.phase.order 0 t kicked.lanes sent.lanes again.phase.parts kicked_clear));
      unasked = subst (Each IsUnasked) (sym after_lanes) ended.silent;
    }

    pub playable_after : IsPlayable (suc t) after next
    playable_after = record {
      between = between_after;
      risen = subst (λ (c : Clock). IfSome (last_tick c) (λ last. last < suc t)) (sym after_time) (omega arith);
      checks = after_checks;
      listens = ap (λ (x : HostParams). x.fixed) after_params ∙ playable.listens;
      numbers = gone.ready.numbers;
      steps = gone.ready.steps;
      own = after_own;
      runs = runs_by (suc t) gone.asked after next after_names gone.ready.runs;
    }
