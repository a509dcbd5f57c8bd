-- A tick of a world: what its hosts keep, and the frames that they sent.
use Rattle.std.proofs.Common.{◌≡◌, ℕ, ◌+◌, ◌<◌, ◌≤◌, Bool, false, eqb, List, [], ◌∷◌, ◌++◌}
use Rattle.std.proofs.Common.{refl, sym, ap, ◌∙◌, arith}
use Rattle.std.proofs.lemmas.List.Elements.{filter-append}
use Rattle.tas_model.specs.declared.entry.HostParams.{HostParams}
use Rattle.tas_model.specs.declared.entry.Entry.{Entry}
use Rattle.tas_model.specs.LegalHistory.{last_tick}
use Rattle.host_rounds.specs.Lists.{Each}
use Rattle.host_rounds.specs.Hosts.{Live, Host}
use Rattle.host_rounds.specs.Scripts.{Site}
use Rattle.host_rounds.specs.Rounds.{Round, Due}
use Rattle.host_rounds.specs.Passing.{Went, IsUpTo}
use Rattle.host_rounds.specs.Histories.{HasHistory}
use Rattle.host_rounds.proofs.AllLegal.{round_kept}
use Rattle.host_rounds.proofs.AllGrown.{round_went}
use Rattle.host_rounds.proofs.SerialRounds.{serial_round}
use Rattle.link_script.specs.declared.frames.Sent.{Sent}
use Rattle.scenario_text.specs.declared.scenario.Scenario.{Scenario}
use Rattle.scenario_runs.specs.Applications.{Script}
use Rattle.scenario_runs.specs.Worlds.{World, scripts_of, due_at, frames_of_flows, frames_of_log, frames_of_hosts}
use Rattle.scenario_runs.specs.Worlds.{sent_in, host_at}
use Rattle.scenario_runs.specs.Runs.{AreRounds, IsTick, serial_sites, serial_world}
use Rattle.scenario_runs.proofs.ByMoves.{scenarios_by_moves}
use Rattle.sent_frames.specs.declared.frames.Origin.{Origin}
use Rattle.sent_frames.specs.Sending.{addresses_of, of_tick, EntriesBefore}
use Rattle.sent_frames.proofs.Ticks.{none_of_tick, no_answers}
use Rattle.sent_frames.proofs.Addresses.{frames_go_by}
use Rattle.scenario_world.specs.Playing.{IsEarly, AreEarly}
use Rattle.scenario_world.proofs.Kept.{Kept, round_keeps}
use Rattle.scenario_world.proofs.Grown.{AllEntriesBefore, grown_flows, grown_log, flows_before, log_before}
use Rattle.scenario_world.proofs.ByTick.{SameBut}

-- ----- a host
-- a tick of it
pub record Ticked (t : ℕ) (before after : Host) : Type 0 where
  pub went : Went t before after
  pub kept : Kept before after
  pub histories : Each HasHistory after.flows

up_to_before : (t n : ℕ) (h : List Entry) → n ≤ t → EntriesBefore t h → last_tick n h ≤ t
up_to_before t n [] le before = le
up_to_before t n (x ∷ xs) le before = up_to_before t x.tick xs (let here : x.tick < t = before.0 in
    omega arith) before.1

all_up_to : (t : ℕ) (ls : List Live) → AllEntriesBefore t ls → Each (IsUpTo t) ls
all_up_to t [] before = tt
all_up_to t (l ∷ ls) before = (up_to_before t 0 l.flow.entries (omega arith) before.0, all_up_to t ls before.1)

pub round_ticked : (s : Scenario) (params : HostParams) (t : ℕ) (due : Due ℕ) (before after : Site (List Script))
    → IsEarly t before.host → Round (scripts_of s params) t due before after → Ticked t before.host after.host
round_ticked s params t due before after early round =
    let moves = scenarios_by_moves s params in
    record {
      went =
          round_went (scripts_of s params) t due before after moves early.histories
          (all_up_to t before.host.flows early.entries) round;
      kept = round_keeps (scripts_of s params) t due before after moves early.histories round;
      histories = round_kept (scripts_of s params) t due before after moves round early.histories;
    }

next_early : (t : ℕ) (before after : Host) → IsEarly t before → Ticked t before after → IsEarly (t + 1) after
next_early t before after early tick =
    record {
      histories = tick.histories;
      entries = flows_before t before.flows after.flows early.entries tick.went.flows;
      lines = log_before t before.log after.log early.lines tick.went.log;
    }

-- ----- all hosts
abbrev pub AreTicked : (t : ℕ) → (before after : World) → Type 0
AreTicked t [] [] = Unit {0}
AreTicked t [] (a ∷ az) = ⊥
AreTicked t (b ∷ bs) [] = ⊥
AreTicked t (b ∷ bs) (a ∷ az) = Ticked t b.host a.host × AreTicked t bs az

rounds_ticked : (s : Scenario) (whole : World) (t h : ℕ) (before after : World) → AreEarly t before
    → AreRounds s whole t h before after → AreTicked t before after
rounds_ticked s whole t h [] [] early rounds = tt
rounds_ticked s whole t h [] (a ∷ az) early rounds = absurd rounds
rounds_ticked s whole t h (b ∷ bs) [] early rounds = absurd rounds
rounds_ticked s whole t h (b ∷ bs) (a ∷ az) early rounds = (
  round_ticked s b.host.params t (due_at s whole t h b.scripts) b a early.0 rounds.0,
  rounds_ticked s whole t (h + 1) bs az early.1 rounds.1,
)

pub world_ticked : (s : Scenario) (t : ℕ) (before after : World) → AreEarly t before → IsTick s t before after
    → AreTicked t before after
world_ticked s t before after early tick = rounds_ticked s before t 0 before after early tick

-- the tick in serial order is a right one
serial_rounds : (s : Scenario) (whole : World) (t h : ℕ) (sites : World) → AreEarly t sites
    → AreRounds s whole t h sites (serial_sites s whole t h sites)
serial_rounds s whole t h [] early = tt
serial_rounds s whole t h (site ∷ sites) early = (
  serial_round (scripts_of s site.host.params) t (due_at s whole t h site.scripts) site
      (scenarios_by_moves s site.host.params) (early.0).histories,
  serial_rounds s whole t (h + 1) sites early.1,
)

pub serial_is_tick : (s : Scenario) (t : ℕ) (world : World) → AreEarly t world
    → IsTick s t world (serial_world s t world)
unfolding serial_world
serial_is_tick s t world early = serial_rounds s world t 0 world early

pub next_are_early : (t : ℕ) (before after : World) → AreEarly t before → AreTicked t before after
    → AreEarly (t + 1) after
next_are_early t [] [] early ticked = tt
next_are_early t [] (a ∷ az) early ticked = absurd ticked
next_are_early t (b ∷ bs) [] early ticked = absurd ticked
next_are_early t (b ∷ bs) (a ∷ az) early ticked =
    (next_early t b.host a.host early.0 ticked.0, next_are_early t bs az early.1 ticked.1)

pub same_addresses : (t : ℕ) (before after : World) → AreTicked t before after
    → addresses_of after ≡ addresses_of before
same_addresses t [] [] ticked = refl
same_addresses t [] (a ∷ az) ticked = absurd ticked
same_addresses t (b ∷ bs) [] ticked = absurd ticked
same_addresses t (b ∷ bs) (a ∷ az) ticked =
    ap (λ (p : HostParams). p.addr ∷ addresses_of az) (ticked.0).kept.params
    ∙ ap (λ all. b.host.params.addr ∷ all) (same_addresses t bs az ticked.1)

-- ----- what they sent
-- the frames of one host
abbrev pub host_frames : World → (host : ℕ) → Host → List Sent
host_frames w h host = frames_of_flows w h 0 host.flows ++ frames_of_log w h 0 host.log

host_but : (w : World) (h t k : ℕ) (before after : Host) → eqb t k ≡ false → Ticked t before after
    → of_tick k (host_frames w h after) ≡ of_tick k (host_frames w h before)
host_but w h t k before after e tick =
    let p : Sent → Bool = λ (f : Sent). eqb f.tick k in
    filter-append p (frames_of_flows w h 0 after.flows) (frames_of_log w h 0 after.log)
    ∙ (ap (λ fs. fs ++ of_tick k (frames_of_log w h 0 after.log))
    (grown_flows w h 0 t k before.flows after.flows tick.kept.more e tick.kept.openings tick.went.flows)
    ∙ (ap (λ fs. of_tick k (frames_of_flows w h 0 before.flows) ++ fs)
    (grown_log w h 0 t k before.log after.log e tick.went.log)
    ∙ sym (filter-append p (frames_of_flows w h 0 before.flows) (frames_of_log w h 0 before.log))))

hosts_but : (w : World) (h t k : ℕ) (before after : World) → eqb t k ≡ false → AreTicked t before after
    → of_tick k (frames_of_hosts w h after) ≡ of_tick k (frames_of_hosts w h before)
hosts_but w h t k [] [] e ticked = refl
hosts_but w h t k [] (a ∷ az) e ticked = absurd ticked
hosts_but w h t k (b ∷ bs) [] e ticked = absurd ticked
hosts_but w h t k (b ∷ bs) (a ∷ az) e ticked =
    let p : Sent → Bool = λ (f : Sent). eqb f.tick k in
    filter-append p (host_frames w h a.host) (frames_of_hosts w (h + 1) az)
    ∙ (ap (λ fs. fs ++ of_tick k (frames_of_hosts w (h + 1) az)) (host_but w h t k b.host a.host e ticked.0)
    ∙ (ap (λ fs. of_tick k (host_frames w h b.host) ++ fs) (hosts_but w (h + 1) t k bs az e ticked.1)
    ∙ sym (filter-append p (host_frames w h b.host) (frames_of_hosts w (h + 1) bs))))

-- All frames but the tick's are as they were.
pub sent_but : (t : ℕ) (before after : World) → AreTicked t before after → SameBut t (sent_in before) (sent_in after)
sent_but t before after ticked k e =
    ap (of_tick k) (frames_go_by after before 0 after (same_addresses t before after ticked))
    ∙ hosts_but before 0 t k before after e ticked

flows_none : (w : World) (h n t : ℕ) (ls : List Live) → AllEntriesBefore t ls
    → of_tick t (frames_of_flows w h n ls) ≡ []
flows_none w h n t [] before = refl
flows_none w h n t (l ∷ ls) before =
    let o : Origin = record { host = h; flow = n; to = host_at w l.flow.tuple.raddr; tuple = l.flow.tuple } in
    filter-append (λ (f : Sent). eqb f.tick t) _ (frames_of_flows w h (n + 1) ls)
    ∙ (ap (λ fs. fs ++ of_tick t (frames_of_flows w h (n + 1) ls)) (none_of_tick o 0 t l.flow.entries before.0)
    ∙ flows_none w h (n + 1) t ls before.1)

hosts_none : (w : World) (h t : ℕ) (sites : World) → AreEarly t sites → of_tick t (frames_of_hosts w h sites) ≡ []
hosts_none w h t [] early = refl
hosts_none w h t (site ∷ sites) early =
    let p : Sent → Bool = λ (f : Sent). eqb f.tick t in
    filter-append p (host_frames w h site.host) (frames_of_hosts w (h + 1) sites)
    ∙ (ap (λ fs. fs ++ of_tick t (frames_of_hosts w (h + 1) sites))
    (filter-append p (frames_of_flows w h 0 site.host.flows) (frames_of_log w h 0 site.host.log)
    ∙ (ap (λ fs. fs ++ of_tick t (frames_of_log w h 0 site.host.log))
    (flows_none w h 0 t site.host.flows (early.0).entries)
    ∙ no_answers w h 0 t site.host.log (early.0).lines))
    ∙ hosts_none w (h + 1) t sites early.1)

-- Before a tick nothing was sent in it.
pub sent_none : (t : ℕ) (world : World) → AreEarly t world → of_tick t (sent_in world) ≡ []
sent_none t world early = hosts_none world 0 t world early
