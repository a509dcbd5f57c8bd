-- What an application's calls do (RFC 9293, section 3.10).
use Rattle.std.specs.Prelude.{ℕ, ◌+◌, ◌/◌, ◌==◌, ◌&&◌, not, Bool, true, false, List, ◌++◌, length, take, drop, nat_lt}
use Rattle.std.specs.Prelude.{◌^◌, nat_le, min, max, Option, Some, None, if◌then◌else◌}
use Rattle.tas_model.specs.declared.entry.Phase.{Phase}
use Rattle.tas_model.specs.declared.entry.Phase.TheVariants as phases
use Rattle.tas_model.specs.declared.entry.Reason.{Reason}
use Rattle.tas_model.specs.declared.entry.Reason.TheVariants as reasons
use Rattle.tas_model.specs.declared.entry.Head.{Head}
use Rattle.tas_model.specs.declared.entry.Reply.{Reply}
use Rattle.tas_model.specs.declared.entry.Reply.TheVariants as replies
use Rattle.tas_model.specs.Endpoint.{Endpoint, phase, free, unread, send_room}
use Rattle.tas_model.specs.Segments.{Outcome, unchanged, ack_head, bare, seq_of}

-- ----- which answer a call gets
-- The endpoint is in SYN-SENT or SYN-RECEIVED, or CLOSED, or in a phase between them.
pub data Column : Type 0 where
  Opening : Column
  Over : Reason → Column
  Running : Column

abbrev pub column_by : Option Reason → Option ℕ → (una : ℕ) → Column
column_by (Some why) peer una = Over why
column_by None None una = Opening
column_by None (Some first) una = if una == 0 then Opening else Running

abbrev pub column : Endpoint → Column
column e = column_by e.reason e.peer e.tx.una

-- ----- Accept and Ready
-- A listener gives away connections that stand: Accept is no step of another endpoint.
abbrev pub accept_in : Column → Endpoint → Option Outcome
accept_in Running e = Some (unchanged e replies.Ok)
accept_in Opening e = None
accept_in (Over why) e = None

abbrev pub ready_in : Column → Endpoint → Outcome
ready_in Opening e = unchanged e replies.NotYet
ready_in (Over why) e = unchanged e (replies.Closed why)
ready_in Running e = unchanged e replies.Ok

-- ----- Send (section 3.10.2)
-- Of the bytes offered the first that fit are taken: `bytes` are those, as the reply shows them. It is no step where
-- they are not so many.
abbrev pub send_in : Column → Endpoint → (offered : ℕ) → (bytes : List ℕ) → Option Outcome
send_in Opening e offered bytes = Some (unchanged e replies.NotOpen)
send_in (Over why) e offered bytes = Some (unchanged e (replies.Closed why))
send_in Running e offered bytes =
    let n : ℕ = min offered (send_room e) in
    if e.tx.shut then Some (unchanged e replies.Shut)
    else if n == 0 && not (offered == 0) then Some (unchanged e replies.NotYet)
    else if length bytes == n
    then Some (record {
      state = record e { tx = record (e.tx) { out = e.tx.out ++ bytes } };
      reply = replies.Took bytes;
    })
    else None

-- ----- Recv (section 3.10.3)
-- The room from which on the window is opened again (section 3.8.6.2.2): a segment or half the ring, whichever is less,
-- and never less than a window field can show.
abbrev pub least_update : Endpoint → ℕ
least_update e = max (2 ^ e.scaling.rs) (min e.params.mss (e.params.ring / 2))

-- The update that opens it: where free room grows past that.
abbrev pub update_of : (before after : Endpoint) → Option Head
update_of before after =
    let m : ℕ = least_update before in
    if not before.rx.ended && nat_lt (free before) m && nat_le m (free after) then Some (ack_head after) else None

abbrev pub after_recv : Endpoint → (n : ℕ) → Endpoint
after_recv e n = record e { rx = record (e.rx) { read = e.rx.read + n } }

-- none is unread: the peer's stream is over, or the endpoint is closed, or more may come
abbrev pub empty_reply : Option Reason → (ended : Bool) → Reply
empty_reply (Some why) true = replies.End
empty_reply (Some why) false = replies.Closed why
empty_reply None true = replies.End
empty_reply None false = replies.NotYet

-- the first unread bytes, at most so many
abbrev pub recv_given : Endpoint → (most : ℕ) → Outcome
recv_given e most =
    let n : ℕ = min most (unread e.rx) in
    record {
      state = after_recv e n;
      reply = replies.Got (take n (drop e.rx.read e.rx.got)) (update_of e (after_recv e n));
    }

abbrev pub recv_open : Endpoint → (most : ℕ) → Outcome
recv_open e most = if unread e.rx == 0 then unchanged e (empty_reply e.reason e.rx.ended) else recv_given e most

-- Bytes may still be read once both sides are done.
abbrev pub recv_in : Column → Endpoint → (most : ℕ) → Outcome
recv_in Opening e most = unchanged e replies.NotOpen
recv_in (Over reasons.Done) e most = recv_open e most
recv_in (Over why) e most = unchanged e (replies.Closed why)
recv_in Running e most = recv_open e most

-- ----- Shut and Close (section 3.10.4)
abbrev pub shutting : Endpoint → Endpoint
shutting e = record e { tx = record (e.tx) { shut = true } }

abbrev pub shut_in : Column → Endpoint → Outcome
shut_in Opening e = unchanged e replies.NotOpen
shut_in (Over why) e = unchanged e (replies.Closed why)
shut_in Running e = if e.tx.shut then unchanged e replies.Shut else record { state = shutting e; reply = replies.Ok }

abbrev pub ended_by : Endpoint → Reason → Endpoint
ended_by e why = record e { reason = Some why }

abbrev pub close_in : Column → Endpoint → Outcome
close_in Opening e = record { state = ended_by e reasons.Aborted; reply = replies.Ok }
close_in (Over why) e = unchanged e replies.Ok
close_in Running e = record { state = shutting e; reply = replies.Ok }

-- ----- Abort (section 3.10.5)
-- The peer of these phases is told by a reset.
abbrev pub tells_abort : Phase → Bool
tells_abort phases.SynReceived = true
tells_abort phases.Established = true
tells_abort phases.FinWait1 = true
tells_abort phases.FinWait2 = true
tells_abort phases.CloseWait = true
tells_abort _ = false

abbrev pub abort_reply : Endpoint → Reply
abort_reply e =
    if tells_abort (phase e)
    then replies.Sent
    (bare (record {
      flags = 4;
      seq = seq_of e e.tx.max;
      ack = record { 0 = 0 };
      window = 0;
      mss = None;
      scale = None;
    }))
    else replies.Nothing

abbrev pub abort_in : Column → Endpoint → Outcome
abort_in (Over why) e = unchanged e (replies.Closed why)
abort_in Opening e = record { state = ended_by e reasons.Aborted; reply = abort_reply e }
abort_in Running e = record { state = ended_by e reasons.Aborted; reply = abort_reply e }
