-- Which endpoint the compact record stands for: one equation a field.
use Rattle.std.specs.Prelude.{◌≡◌, ℕ, ◌+◌, ◌-◌, ◌^◌, ◌<◌, Bool, List, true, false, length, take, drop, min, Option}
use Rattle.std.specs.Prelude.{Some, None, ⊤}
use Rattle.payload_ring.specs.Window.{Holds}
use Rattle.tas_num.specs.declared.seq.Seq.{Seq}
use Rattle.tas_model.specs.Endpoint.{Endpoint, Scaling as ModelScaling, Sending, Island, phase}
use Rattle.tas_model.specs.Segments.{seq_of, ack_of}
use Rattle.tas_model.specs.OneStream.{IsSynchronized}
use Rattle.tas_model.specs.declared.entry.Reason.{Reason}
use Rattle.flow_state.specs.declared.parts.Parts.{Parts}
use Rattle.flow_state.specs.declared.scaling.Scaling.{Scaling}

-- how many bytes of the stream are acknowledged
abbrev pub acked_bytes : Sending → ℕ
acked_bytes tx = min (tx.una - 1) (length tx.out)

-- the peer's first number, and 0 before it is known
abbrev pub IsPeer : Seq → Option ℕ → Type 0
IsPeer irs None = irs.0 ≡ 0
IsPeer irs (Some first) = irs.0 ≡ first

-- The island by its distance from the end of what is in order and its length. Its bytes are those that stand there in
-- the cells ahead.
abbrev pub IsIsland : Option (ℕ × ℕ) → (ahead : List ℕ) → (end : ℕ) → Option Island → Type 0
IsIsland kept ahead end None = kept ≡ None
IsIsland kept ahead end (Some i) = (kept ≡ Some (i.at - end, length i.bytes))
    × (take (length i.bytes) (drop (i.at - end) ahead) ≡ i.bytes)

-- the scaling of windows, field by field
pub record IsScaling (s : Scaling) (m : ModelScaling) : Type 0 where
  pub agreed : s.agreed ≡ m.agreed
  pub ss : s.ss ≡ m.ss
  pub rs : s.rs ≡ m.rs

-- both rings have their memory, where there is no reason to be closed
abbrev pub AreReady : Option Reason → (tx rx : Bool) → Type 0
AreReady (Some why) tx rx = ⊤
AreReady None tx rx = (tx ≡ true) × (rx ≡ true)

-- The parts stand for the endpoint. Numbers are kept modulo 2^32; of the stream that is sent the bytes from the first
-- one not acknowledged on are kept, of the one received those from the first unread one on.
pub record Stands (p : Parts) (e : Endpoint) : Type 0 where
  pub params : p.params ≡ e.params
  pub phase : p.phase ≡ phase e
  pub reason : p.reason ≡ e.reason
  pub iss : p.iss.0 ≡ e.iss
  pub irs : IsPeer p.irs e.peer
  pub una : p.una ≡ seq_of e e.tx.una
  pub nxt : p.nxt ≡ seq_of e e.tx.nxt
  pub max : p.max ≡ seq_of e e.tx.max
  pub rcv : p.rcv ≡ ack_of e
  pub tx : Holds p.tx e.params.ring (acked_bytes e.tx) (drop (acked_bytes e.tx) e.tx.out)  -- whatever stands ahead
  pub rx : Holds p.rx e.params.ring e.rx.read (drop e.rx.read e.rx.got)
  pub rings : AreReady p.reason p.tx.ready p.rx.ready
  pub island : IsIsland p.island p.rx.ahead (length e.rx.got) e.rx.island
  pub window : p.window ≡ e.tx.window
  pub scaling : IsScaling p.scaling e.scaling
  pub wl1 : p.wl1 ≡ e.tx.wl1
  pub wl2 : p.wl2 ≡ e.tx.wl2
  pub dup : p.dup ≡ e.tx.dup
  pub acked : p.counters.acked ≡ e.rate.acked
  pub fast : p.counters.fast ≡ e.rate.fast
  pub timeouts : p.counters.timeouts ≡ e.rate.timeouts
  pub flight : p.counters.flight ≡ 0  -- the control fills it in while it runs
  pub cwnd : p.cwnd ≡ e.rate.cwnd
  pub ssthresh : p.ssthresh ≡ e.rate.ssthresh
  pub tokens : p.bucket.tokens ≡ e.rate.tokens
  pub depth : p.bucket.depth ≡ e.rate.depth
  pub fill : p.bucket.fill ≡ e.rate.fill
  pub smss : p.smss ≡ e.rate.mss
  pub age : p.age ≡ e.tx.age
  pub tries : p.tries ≡ e.tx.tries
  pub probe : p.probe ≡ e.tx.probe
  pub entered : p.entered ≡ e.entered
  -- not kept, but told: an end that was taken before the own one came first
  pub order : e.rx.ended ≡ true → e.tx.shut ≡ false → e.rx.ended_first ≡ true

-- The rings have their memory where bytes may be put into them: unless there is a reason to be closed, and where
-- segments are taken.
pub record HasRings (p : Parts) : Type 0 where
  pub going : AreReady p.reason p.tx.ready p.rx.ready
  pub taking : IsSynchronized p.phase → p.rx.ready ≡ true

-- every place of the parts is below 2^126, the last ones those of the two FINs
pub record IsNear (p : Parts) : Type 0 where
  pub tx : p.tx.base + length p.tx.bytes + 2 < 2 ^ 126
  pub rx : p.rx.base + length p.rx.bytes + 2 < 2 ^ 126
  pub wl1 : p.wl1 < 2 ^ 126
  pub wl2 : p.wl2 < 2 ^ 126
