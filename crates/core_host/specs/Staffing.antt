-- A host that is being put together: its slow path, its cores and its applications, before they have lanes.
use Rattle.std.specs.Prelude.{◌≡◌, ℕ, zero, suc, ◌<◌, ◌+◌, true, false, List, [], ◌∷◌, ◌++◌, length, replicate, map, ⊤}
use Rattle.std.specs.Arc.{arc_value}
use Rattle.atomic_table.specs.Seated.{TableId}
use Rattle.tas_model.specs.declared.entry.HostParams.{HostParams}
use Rattle.host_rounds.specs.Hosts.{Host}
use Rattle.host_rounds.specs.Lists.{Each}
use Rattle.flow_lock.specs.Passes.{new_turn, peeled}
use Rattle.flow_lock.specs.Steps.{IsAlone, mark}
use Rattle.flow_lock.specs.declared.view.Turn.{Turn}
use Rattle.flow_lock.specs.declared.view.View.{View}
use Rattle.slow_handshake.specs.Openings.{no_openings}
use Rattle.core_worker.specs.Telling.{app_with}
use Rattle.core_worker.specs.Workers as cores
use Rattle.core_worker.specs.Workers.{Common}
use Rattle.shared_host.specs.Cores.{AreNumbered, AreTurned}
use Rattle.slow_worker.specs.Kicking.{CanKick}
use Rattle.slow_worker.specs.Workers.{Worker, HasSenders, waiting}
use Rattle.slow_worker.specs.declared.clock.Clock.TheVariants.{New}
use Rattle.libtas_sockets.specs.Apps.{Application}
use Rattle.core_phase.specs.Lanes.{IsIdle, IsIdleCore}
use Rattle.core_phase.specs.declared.attempt.Answered.TheVariants as answers
use Rattle.core_phase.specs.declared.attempt.Attempt.TheVariants as attempts
use Rattle.core_phase.specs.declared.lane.Lane.{Lane}
use Rattle.core_phase.specs.declared.lane.Lane.TheVariants as lanes
use Rattle.sound_phases.specs.Phased.{apps_in}
use Rattle.core_host.specs.Sound.{AreStaff, IsResting, IsUnasked, IsClear}

-- ----- numbers
-- Applications are numbered upward.
abbrev pub AreRising : List ℕ → Type 0
AreRising [] = ⊤
AreRising (n ∷ ns) = Each (λ (later : ℕ). n < later) ns × AreRising ns

-- ----- a host
-- it opened no flow, and nobody listens
abbrev pub new_host : HostParams → Host
new_host params = record { params = params; listeners = []; log = []; flows = [] }

-- ----- the slow path
-- The view is the slow path's, with so many passes split off. No flow was opened.
pub record IsUnused (slots passes : ℕ) (v : View) : Type 0 where
  pub slow : v.slow ≡ true
  pub baton : v.baton ≡ true
  pub pins : v.pins ≡ []
  pub held : v.held ≡ []
  pub marks : v.marks ≡ replicate slots (mark 0 false false)
  pub opened : v.opened ≡ 0
  pub base : v.base ≡ []
  pub wide : length v.words ≡ slots
  pub parts : v.parts + passes ≡ 4097

-- The worker knows no flow, and no time has passed.
pub record IsNewWorker (params : HostParams) (c : Common) (passes : ℕ) (w : Worker) : Type 0 where
  pub path : w.path ≡ no_openings params
  pub slots : params.slots ≡ c.table.slots
  pub table : w.pass.table ≡ c.table
  pub unused : IsUnused c.table.slots passes w.pass.view
  pub pins : w.pins ≡ []
  pub doomed : w.doomed ≡ []
  pub filed : w.filed ≡ []
  pub flows : w.flows ≡ []
  pub waiting : waiting w ≡ []
  pub pending : w.index.pending ≡ []
  pub published : w.index.published ≡ []
  pub log : w.log ≡ []
  pub time : w.time ≡ New
  pub check_sums : w.check_sums ≡ true
  pub senders : HasSenders c w
  pub kickers : CanKick c w.kickers

-- ----- turns
-- so many in which nothing was done, numbered from this one on
abbrev pub new_turns : (first count : ℕ) → List Turn
new_turns first zero = []
new_turns first (suc n) = new_turn first ∷ new_turns (suc first) n

-- what these workers did in their turns
abbrev pub turns_of : List cores.Worker → List Turn
turns_of [] = []
turns_of (w ∷ ws) = w.pass.view.turns ++ turns_of ws

-- ----- cores
-- it was given nothing to do
abbrev pub IsNewCore : cores.Worker → Type 0
IsNewCore w = (w.frames ≡ []) × (w.exceptions ≡ []) × (w.deferred ≡ []) × (w.log ≡ []) × (w.check_sums ≡ true)

-- the workers of the cores from this one on, of which none has a turn
abbrev pub AreIdleCores : Common → (first : ℕ) → List cores.Worker → Type 0
AreIdleCores c first [] = ⊤
AreIdleCores c first (w ∷ ws) = (w.core ≡ first) × IsIdleCore c w × IsNewCore w × AreIdleCores c (suc first) ws

-- a worker whose turn was taken back
abbrev pub idle_as : cores.Worker → cores.Worker
idle_as w = cores.with_pass (record (w.pass) { view = peeled w.pass.view }) w

-- ----- a host of so many cores that was just assembled
pub record IsAssembled (params : HostParams) (n : ℕ) (c : Common) (v : Worker) (ws : List cores.Worker) : Type 0 where
  pub slow : IsNewWorker params c n v
  pub turns : v.pass.view.turns ≡ new_turn 0 ∷ []
  pub made : v.pass.view.made ≡ 1 + n
  pub count : length ws ≡ n
  pub numbers : AreNumbered 0 ws
  pub turned : AreTurned 1 ws
  pub new : Each IsNewCore ws
  pub free : Each (cores.IsFree c) ws
  pub queues : Each (cores.HasQueue c) ws
  pub senders : Each (cores.HasSenders c) ws

-- ----- applications
-- it has no turn and no socket
pub record IsNewApp (t : TableId) (n : ℕ) (a : Application) : Type 0 where
  pub number : a.number ≡ n
  pub table : a.pass.table ≡ t
  pub turns : a.pass.view.turns ≡ []
  pub slow : a.pass.view.slow ≡ false
  pub baton : a.pass.view.baton ≡ false
  pub begun : a.begun ≡ []
  pub sockets : a.sockets ≡ []

abbrev pub AreNewApps : TableId → (numbers : List ℕ) → List Application → Type 0
AreNewApps t [] xs = xs ≡ []
AreNewApps t (n ∷ ns) [] = ⊥
AreNewApps t (n ∷ ns) (a ∷ xs) = IsNewApp t n a × AreNewApps t ns xs

-- ----- lanes
-- the lane is this core's, or this application's
abbrev pub IsLaneOf : Common → cores.Worker → Lane → Type 0
IsLaneOf c w (lanes.Core l) = (arc_value l.shared ≡ c) × (l.worker ≡ w)
IsLaneOf c w (lanes.App l) = ⊥

abbrev pub IsLaneFor : Common → Application → Lane → Type 0
IsLaneFor c a (lanes.Core l) = ⊥
IsLaneFor c a (lanes.App l) =
    (arc_value l.shared ≡ c) × (l.app ≡ a) × (l.host < 67108863) × (l.attempt ≡ attempts.Nothing)
    × (l.answer ≡ answers.Nothing)

abbrev pub AreLanesOf : Common → List cores.Worker → List Lane → Type 0
AreLanesOf c [] ls = ls ≡ []
AreLanesOf c (w ∷ ws) [] = ⊥
AreLanesOf c (w ∷ ws) (l ∷ ls) = IsLaneOf c w l × AreLanesOf c ws ls

abbrev pub AreLanesFor : Common → List Application → List Lane → Type 0
AreLanesFor c [] ls = ls ≡ []
AreLanesFor c (a ∷ xs) [] = ⊥
AreLanesFor c (a ∷ xs) (l ∷ ls) = IsLaneFor c a l × AreLanesFor c xs ls

-- ----- while applications are added
-- The slow path is alone, with so many passes split off, and no core has a turn.
pub record IsManned (params : HostParams) (n passes : ℕ) (c : Common) (v : Worker) (ws : List cores.Worker) : Type 0
  where
    pub slow : IsNewWorker params c passes v
    pub alone : IsAlone v.pass.view
    pub cores : AreIdleCores c 0 ws
    pub count : length ws ≡ n

-- the applications with these numbers were added, and no others
pub record AreAdded (params : HostParams) (n : ℕ) (numbers : List ℕ) (c : Common) (v : Worker) (ws : List cores.Worker)
    (xs : List Application) : Type 0 where
  pub manned : IsManned params n (n + length numbers) c v ws
  pub queues : map app_with c.queues ≡ numbers
  pub apps : AreNewApps c.table numbers xs

-- ----- a host that was put together
-- its slow path is alone, and its lanes are so many cores and the applications with these numbers, given nothing to do
pub record IsHired (params : HostParams) (n : ℕ) (numbers : List ℕ) (c : Common) (w : Worker) (ls : List Lane)
    : Type 0 where
  pub passes : ℕ
  pub slow : IsNewWorker params c passes w
  pub alone : IsAlone w.pass.view
  pub staff : AreStaff n 0 numbers ls
  pub idle : Each (IsIdle c) ls
  pub resting : Each (IsResting true) ls
  pub unasked : Each IsUnasked ls
  pub clear : Each IsClear ls
  pub apps : AreNewApps c.table numbers (apps_in ls)
