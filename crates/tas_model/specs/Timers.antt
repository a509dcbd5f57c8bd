-- What the passing of time does (RFC 9293, sections 3.8.1, 3.8.6.1 and 3.10.8; RFC 5681, section 3).
use Rattle.std.specs.Prelude.{ℕ, ◌+◌, ◌-◌, ◌*◌, ◌^◌, ◌==◌, ◌&&◌, ◌||◌, not, Bool, true, nat_lt, nat_le, min, Option}
use Rattle.std.specs.Prelude.{Some, None, if◌then◌else◌}
use Rattle.tas_num.specs.Control.{cwnd_after, ssthresh_after, refill}
use Rattle.tas_model.specs.declared.entry.Phase.{Phase}
use Rattle.tas_model.specs.declared.entry.Phase.TheVariants as phases
use Rattle.tas_model.specs.declared.entry.Reason.TheVariants as reasons
use Rattle.tas_model.specs.declared.entry.Reply.TheVariants as replies
use Rattle.tas_model.specs.Endpoint.{Endpoint, Sending, Rate, phase, counted, unacked, is_past_opening}
use Rattle.tas_model.specs.Segments.{Outcome, unchanged}
use Rattle.tas_model.specs.NextSegment.{waiting}

-- ----- a tick
-- the bucket gets its fill, up to its depth
abbrev pub filled : Rate → Rate
filled r = record r { tokens = min r.depth (r.tokens + r.fill) }

-- The timer runs while something sent is not acknowledged, or while data waits at a window of 0.
abbrev pub is_armed : Sending → Bool
is_armed tx = nat_lt tx.una tx.max || (nat_lt 0 (waiting tx) && tx.window == 0)

-- The ticks until it runs out: twice as many after each time in a row, up to 16 times the first (RFC 6298, section
-- 5.5).
abbrev pub patience : Endpoint → ℕ
patience e = e.params.rto * 2 ^ min e.tx.tries 4

-- It is the peer's window that bytes wait for, and not an acknowledgement.
abbrev pub probes : Endpoint → Bool
probes e = e.tx.window == 0 && is_past_opening e && nat_lt 0 (unacked e.tx)

-- The timer has run out. The ninth time in a row ends the connection; else sending goes back to the first place that is
-- not acknowledged, by a probe or by sending again.
abbrev pub expired : Endpoint → Outcome
expired e =
    let tries : ℕ = e.tx.tries + 1 in
    let back : Sending = record (e.tx) { tries = tries; age = 0; nxt = e.tx.una } in
    if tries == 9 then record {
      state = record e {
        tx = record (e.tx) { tries = tries; age = 0 };
        reason = Some reasons.TimedOut;
      };
      reply = replies.TimedOut;
    }
    else if probes e then record { state = record e { tx = record back { probe = true } }; reply = replies.Probe }
    else record {
      state = record e { tx = back; rate = record (e.rate) { timeouts = counted (e.rate.timeouts + 1) } };
      reply = replies.Resend;
    }

abbrev pub aged : Endpoint → (age : ℕ) → Endpoint
aged e age = record e { tx = record (e.tx) { age = age } }

-- the retransmission timer
abbrev pub ticked : Endpoint → Outcome
ticked e =
    if not (is_armed e.tx) then record { state = aged e 0; reply = replies.Quiet }
    else if nat_lt (e.tx.age + 1) (patience e) then record { state = aged e (e.tx.age + 1); reply = replies.Quiet }
    else expired e

-- TIME-WAIT ends four timeouts after it began.
abbrev pub waited : Endpoint → (tick : ℕ) → Outcome
waited e tick =
    if nat_le (4 * e.params.rto) (tick - e.entered)
    then record { state = record e { reason = Some reasons.Done }; reply = replies.Expired }
    else unchanged e replies.Quiet

abbrev pub tick_in : Phase → Endpoint → (tick : ℕ) → Option Outcome
tick_in phases.Closed e tick = None
tick_in phases.TimeWait e tick = Some (waited e tick)
tick_in _ e tick = Some (ticked e)

-- One tick: the bucket in every phase, then the timer of the phase. A closed endpoint has no ticks.
unfoldable pub ticks : Endpoint → (tick : ℕ) → Option Outcome
ticks e tick = tick_in (phase e) (record e { rate = filled e.rate }) tick

-- ----- the control of the rate
-- The windows after this interval's counters, with so many places in flight; the bucket is as deep as the congestion
-- window.
abbrev pub controlled : Rate → (flight : ℕ) → Rate
controlled r flight =
    let cwnd : ℕ = cwnd_after r.acked r.fast r.timeouts flight r.mss r.cwnd r.ssthresh in
    record {
      mss = r.mss;
      cwnd = cwnd;
      ssthresh = ssthresh_after r.fast r.timeouts flight r.mss r.ssthresh;
      tokens = min r.tokens cwnd;
      depth = cwnd;
      fill = refill r.mss cwnd;
      acked = 0;
      fast = 0;
      timeouts = 0;
    }

unfoldable pub control : Endpoint → Outcome
control e =
    let r : Rate = controlled e.rate (e.tx.max - e.tx.una) in
    record { state = record e { rate = r }; reply = replies.Window r.cwnd r.ssthresh }
