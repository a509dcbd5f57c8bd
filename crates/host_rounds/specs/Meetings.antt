-- What a log and the histories beside it show of segments that came to no flow (RFC 9293, sections 3.10.7.1 and
-- 3.10.7.2).
use Rattle.std.specs.Prelude.{◌≡◌, true, false, Option, Some, None, ⊤}
use Rattle.tas_model.specs.declared.entry.Head.{Head}
use Rattle.tas_model.specs.declared.entry.Seg.{Seg}
use Rattle.tas_model.specs.declared.entry.Entry.{Entry}
use Rattle.tas_model.specs.declared.entry.Call.{Call}
use Rattle.tas_model.specs.declared.entry.Call.TheVariants as calls
use Rattle.tas_model.specs.Segments.{is_syn, is_rst, is_ack}
use Rattle.host_rounds.specs.declared.log.LogLine.{LogLine}
use Rattle.host_rounds.specs.declared.log.LogEvent.{LogEvent}
use Rattle.host_rounds.specs.declared.log.LogEvent.TheVariants as events
use Rattle.host_rounds.specs.Lists.{Each}
use Rattle.host_rounds.specs.Hosts.{Live, Host}

-- ----- what opens a flow
-- a SYN with neither RST nor ACK
pub record IsOpeningSyn (seg : Seg) : Type 0 where
  pub syn : is_syn seg ≡ true
  pub reset : is_rst seg ≡ false
  pub acknowledgement : is_ack seg ≡ false

-- an entry that opens a flow for a segment does so for such a SYN
abbrev pub OpensBySyn : Call → Type 0
OpensBySyn (calls.Passive frame iss seg) = IsOpeningSyn seg
OpensBySyn _ = ⊤

abbrev pub IsOpenedBySyn : Live → Type 0
IsOpenedBySyn l = Each (λ (x : Entry). OpensBySyn x.call) l.flow.entries

-- ----- what is answered
-- a reset that bears the number which the segment acknowledges
abbrev pub reset_for : Seg → Head
reset_for seg =
    record { flags = 4; seq = seg.head.ack; ack = record { 0 = 0 }; window = 0; mss = None; scale = None }

-- A reset gets no answer. An acknowledgement gets a reset, whether a listener is there or not.
pub record IsAnswered (seg : Seg) (answer : Option Head) : Type 0 where
  pub reset : is_rst seg ≡ true → answer ≡ None
  pub acknowledgement : is_rst seg ≡ false → is_ack seg ≡ true → answer ≡ Some (reset_for seg)

abbrev pub AnswersRightly : LogEvent → Type 0
AnswersRightly (events.Stray frame tuple seg answer) = IsAnswered seg answer
AnswersRightly _ = ⊤

abbrev pub IsAnsweredLine : LogLine → Type 0
IsAnsweredLine line = AnswersRightly line.event

-- ----- a host
-- Its log and its histories show so of all segments.
pub record IsMetRightly (host : Host) : Type 0 where
  pub answers : Each IsAnsweredLine host.log
  pub openings : Each IsOpenedBySyn host.flows
