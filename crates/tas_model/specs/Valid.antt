-- What holds of every endpoint that a history leads to.
use Rattle.std.specs.Prelude.{ℕ, ◌≡◌, ◌+◌, ◌<◌, ◌≤◌, true, false, length, Option, Some, None, IfSome, if◌then◌else◌, ⊤}
use Rattle.tas_model.specs.declared.entry.HostParams.{HostParams}
use Rattle.tas_model.specs.declared.entry.Reason.{Reason}
use Rattle.tas_model.specs.Segments.{Outcome}
use Rattle.tas_model.specs.Endpoint.{Endpoint, Scaling, Sending, Receiving, Rate, Island, unacked, next_place}
use Rattle.tas_model.specs.Endpoint.{unscaled}

-- ----- the parameters
-- Each lies in its range.
pub record InRange (p : HostParams) : Type 0 where
  pub ring : (256 ≤ p.ring) × (p.ring ≤ 1048576)
  pub mss : (64 ≤ p.mss) × (p.mss ≤ 8960)
  pub rto : (1 ≤ p.rto) × (p.rto ≤ 1000)
  pub slots : (1 ≤ p.slots) × (p.slots ≤ 1024)
  pub backlog : (1 ≤ p.backlog) × (p.backlog ≤ 1024)
  pub scale : IfSome p.scale (λ shift. shift ≤ 14)

-- ----- what is sent
-- SND.UNA =< SND.NXT =< the highest sent, which is at most the FIN's place and no FIN goes before the stream ended.
-- What is not acknowledged fits into the ring. No stream ends before the SYN is acknowledged.
pub record ValidSending (ring : ℕ) (tx : Sending) : Type 0 where
  pub una : tx.una ≤ tx.nxt
  pub nxt : tx.nxt ≤ tx.max
  pub max : tx.max ≤ length tx.out + 1 + (if tx.shut then 1 else 0)
  pub room : unacked tx ≤ ring
  pub dup : tx.dup ≤ 3
  pub opening : tx.una ≡ 0 → tx.shut ≡ false

-- nothing is acknowledged before the peer's SYN was taken
abbrev pub IsUnopened : (peer : Option ℕ) (una : ℕ) → Type 0
IsUnopened None una = una ≡ 0
IsUnopened (Some first) una = ⊤

-- the timer ran out eight times in a row at most, or the connection is closed
abbrev pub IsTrying : Option Reason → (tries : ℕ) → Type 0
IsTrying None tries = tries ≤ 8
IsTrying (Some why) tries = ⊤

-- ----- what is received
-- The island lies past a gap, and where there is room.
pub record PastGap (got limit : ℕ) (i : Island) : Type 0 where
  pub past : got < i.at
  pub within : i.at + length i.bytes ≤ limit
  pub some : 0 < length i.bytes

abbrev pub IsPastGap : (got limit : ℕ) → Option Island → Type 0
IsPastGap got limit None = ⊤
IsPastGap got limit (Some i) = PastGap got limit i

-- No more was read than received, and all that was not read fits into the ring, the island too.
pub record ValidReceiving (ring : ℕ) (rx : Receiving) : Type 0 where
  pub read : rx.read ≤ length rx.got
  pub room : length rx.got ≤ rx.read + ring
  pub island : IsPastGap (length rx.got) (rx.read + ring) rx.island

-- ----- the rate
pub record ValidRate (r : Rate) : Type 0 where
  pub tokens : r.tokens ≤ r.depth
  pub cwnd : r.cwnd ≤ 65535
  pub ssthresh : r.ssthresh ≤ 65535

-- Once the peer's SYN was taken segments have a size, and the congestion window is never closed.
pub record Paced (r : Rate) : Type 0 where
  pub mss : (64 ≤ r.mss) × (r.mss ≤ 8960)
  pub cwnd : 0 < r.cwnd

abbrev pub IsPaced : (peer : Option ℕ) → Rate → Type 0
IsPaced None r = ⊤
IsPaced (Some first) r = Paced r

-- ----- the scaling of windows
-- No shift is above 14 (RFC 7323, section 2.3). Windows are not scaled before the peer's SYN was taken, nor where
-- either SYN lacked the option; where they are, the own ones have the shift of the parameters.
pub record ValidScaling (p : HostParams) (peer : Option ℕ) (s : Scaling) : Type 0 where
  pub ss : s.ss ≤ 14
  pub rs : s.rs ≤ 14
  pub early : peer ≡ None → s ≡ unscaled
  pub alone : s.agreed ≡ false → s ≡ unscaled
  pub own : s.agreed ≡ true → p.scale ≡ Some s.rs

-- ----- all of it
pub record Valid (e : Endpoint) : Type 0 where
  pub fits : InRange e.params
  pub unopened : IsUnopened e.peer e.tx.una
  pub scaling : ValidScaling e.params e.peer e.scaling
  pub tx : ValidSending e.params.ring e.tx
  pub rx : ValidReceiving e.params.ring e.rx
  pub rate : ValidRate e.rate
  pub paced : IsPaced e.peer e.rate
  pub trying : IsTrying e.reason e.tx.tries

-- an outcome, where there is one, leaves a valid endpoint
abbrev pub LeavesValid : Option Outcome → Type 0
LeavesValid None = ⊤
LeavesValid (Some o) = Valid o.state

-- ----- how far places go
abbrev pub IslandWithin : (bound : ℕ) → Option Island → Type 0
IslandWithin bound None = ⊤
IslandWithin bound (Some i) = 1 + i.at + length i.bytes ≤ bound

-- No place of either direction is above the bound.
pub record PlacesWithin (bound : ℕ) (e : Endpoint) : Type 0 where
  pub una : e.tx.una ≤ bound
  pub nxt : e.tx.nxt ≤ bound
  pub max : e.tx.max ≤ bound
  pub out : 1 + length e.tx.out ≤ bound
  pub wl1 : e.tx.wl1 ≤ bound
  pub wl2 : e.tx.wl2 ≤ bound
  pub next : next_place e.rx ≤ bound
  pub read : e.rx.read ≤ bound
  pub island : IslandWithin bound e.rx.island
