-- Each segment that a history sends has room in a packet.
use Rattle.std.proofs.Common.{◌≡◌, ℕ, ◌-◌, List, [], ◌∷◌, length, take, drop, Option, Some, None, ◌≤◌, arith}
use Rattle.std.proofs.Common.{length-take}
use Rattle.tas_model.specs.declared.entry.Reason.{Reason}
use Rattle.tas_model.specs.declared.entry.Seg.{Seg}
use Rattle.tas_model.specs.declared.entry.Entry.{Entry}
use Rattle.tas_model.specs.declared.entry.HostParams.{HostParams}
use Rattle.tas_model.specs.Endpoint.{Endpoint, Rate}
use Rattle.tas_model.specs.ApplicationCalls.{column_by, Running, column}
use Rattle.tas_model.specs.NextSegment.{data_len, data_seg}
use Rattle.tas_model.specs.LegalHistory.{Legal}
use Rattle.tas_model.specs.Outputs.{sent}
use Rattle.tas_model.specs.Valid.{Valid, InRange, IsPaced}
use Rattle.tas_model.proofs.EachSegment.{Shows, all_as, sent_shows}
use Rattle.host_rounds.specs.Logs.{Flow, HostRun}
use Rattle.host_rounds.specs.Lists.{Each}
use Rattle.run_texts.specs.Frames.{AreAllShort, AreFlowsShort, AreShort}

abbrev IsShort : Seg → Type 0
IsShort seg = length seg.bytes ≤ 65487

taken_short : (p : List ℕ) (at n : ℕ) → n ≤ 65487 → length (take n (drop at p)) ≤ 65487
taken_short p at n h = omega (arith, length-take n (drop at p), h)

-- once the connection runs, a segment has at most 8,960 bytes
paced_in : (reason : Option Reason) (peer : Option ℕ) (una : ℕ) (r : Rate) → column_by reason peer una ≡ Running
    → IsPaced peer r → r.mss ≤ 8960
paced_in (Some why) peer una r is p = absurd (cc (is))
paced_in None None una r is p = absurd (cc (is))
paced_in None (Some first) una r is p = p.mss.1

data_short : (e : Endpoint) → column e ≡ Running → Valid e → length (data_seg e (data_len e)).bytes ≤ 65487
data_short e is v =
    let limit : e.rate.mss ≤ 8960 = paced_in e.reason e.peer e.tx.una e.rate is v.paced in
    taken_short e.tx.out (e.tx.nxt - 1) (data_len e) (omega (arith, limit))

-- Each kind of segment has room in a packet, where the endpoint before it, `b`, is valid.
each_short : Shows (λ b e seg. Valid b → IsShort seg)
each_short = record {
  ack = λ b e v. omega arith;
  reset = λ b e head rst plain none v. omega arith;
  syn = λ e v. omega arith;
  payload = λ e is v. data_short e is v;
  probe = λ e is v. taken_short e.tx.out (e.tx.nxt - 1) 1 (omega arith);
  fin = λ e t v. omega arith;
}

-- Each segment that a legal history sent has room in a packet.
pub of_sent : (params : HostParams) (h : List Entry) → InRange params → Legal params h → AreAllShort (sent h)
of_sent params h fits legal =
    all_as IsShort AreAllShort tt (λ seg segs short rest. (short, rest)) (sent h)
    (sent_shows _ each_short (λ e seg. IsShort seg) params fits (λ b e seg v right. right v)
    (λ es x before may seg short. short) h legal)

-- So has each that a host's flows sent, where these have legal histories of parameters in their ranges.
pub of_flows : (flows : List Flow) → Each (λ (f : Flow). InRange f.params × Legal f.params f.entries) flows
    → AreFlowsShort flows
of_flows [] sound = tt
of_flows (f ∷ fs) sound = (of_sent f.params f.entries sound.0.0 sound.0.1, of_flows fs sound.1)

-- And each that all hosts' flows sent.
pub of_hosts : (hosts : List HostRun)
    → Each (λ (h : HostRun). Each (λ (f : Flow). InRange f.params × Legal f.params f.entries) h.flows) hosts
    → AreShort hosts
of_hosts [] sound = tt
of_hosts (h ∷ hs) sound = (of_flows h.flows sound.0, of_hosts hs sound.1)
