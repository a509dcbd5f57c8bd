-- Every step leaves an endpoint valid.
use Rattle.std.proofs.Common.{◌≡◌, ℕ, ◌+◌, ◌-◌, ◌*◌, ◌/◌, ◌<◌, ◌≤◌, Bool, true, false, cond, not, ◌&&◌, List, ◌++◌}
use Rattle.std.proofs.Common.{length, min, max, Option, Some, None, refl, sym, subst, arith, length-append, ltb, leb}
use Rattle.std.proofs.Common.{eqb, IfSome, true≢false}
use Rattle.std.proofs.lemmas.Bool.Decides.{nat_tests}
use Rattle.tas_model.proofs.Tests.{on_cond}
use Rattle.tas_model.proofs.ValidSteps.{data_keeps, sending_keeps}
use Rattle.tas_model.specs.declared.entry.Reason.{Reason}
use Rattle.tas_model.specs.declared.entry.Reason.TheVariants as reasons
use Rattle.tas_model.specs.declared.entry.Phase.{Phase}
use Rattle.tas_model.specs.declared.entry.Phase.TheVariants as phases
use Rattle.tas_model.specs.declared.entry.Seg.{Seg}
use Rattle.tas_model.specs.declared.entry.Entry.{Entry}
use Rattle.tas_model.specs.declared.entry.HostParams.{HostParams}
use Rattle.tas_model.specs.declared.entry.Call.{Call}
use Rattle.tas_model.specs.declared.entry.Call.TheVariants as calls
use Rattle.tas_model.specs.declared.entry.Reply.{Reply}
use Rattle.tas_model.specs.Endpoint.{Endpoint, Sending, Receiving, Rate, Island, phase, phase_by, next_place, wnd}
use Rattle.tas_model.specs.Endpoint.{unread, unacked, send_room, uncounted, first_rate, first_cwnd, send_mss, fresh}
use Rattle.tas_model.specs.Endpoint.{unscaled, agreed_scaling}
use Rattle.tas_model.specs.Segments.{Outcome, offered_window, seg_len, is_fin, is_ack, is_syn, is_rst}
use Rattle.tas_model.specs.Receive.{with_fin, takes_fin, rate_after, ack_verdict, AckVerdict, Stray, TooFar, Good}
use Rattle.tas_model.specs.Receive.{Verdict, Dropped, Answered, Reset, BareAck, Taken, after_ack, after_data, taken}
use Rattle.tas_model.specs.Receive.{bare_ack, by_verdict, verdict, rx_later, rx_syn_sent, connected, rx_in, rx}
use Rattle.tas_model.specs.Receive.{place_of_ack, closes, sending_after, after_duplicate, after_advance, with_window}
use Rattle.tas_model.specs.Receive.{is_duplicate, moves_window}
use Rattle.tas_model.specs.Reassembly.{with_data}
use Rattle.tas_model.specs.ApplicationCalls.{Column, Opening, Over, Running, column, column_by, accept_in, ready_in}
use Rattle.tas_model.specs.ApplicationCalls.{send_in, recv_in, recv_open, after_recv, shut_in, close_in, abort_in}
use Rattle.tas_model.specs.NextSegment.{Going, going, going_in, going_running, emitted, past, waiting, data_len}
use Rattle.tas_model.specs.Timers.{ticks, tick_in, ticked, waited, expired, aged, is_armed, patience, probes, filled}
use Rattle.tas_model.specs.Timers.{controlled, control}
use Rattle.tas_num.specs.Control.{cwnd_after, ssthresh_after}
use Rattle.tas_model.specs.LegalHistory.{step, control_in, opened, taken_bytes, Legal, Opens, replay, state_or}
use Rattle.tas_model.specs.Valid.{ValidSending, ValidReceiving, ValidRate, Valid, IsUnopened, IsPastGap, LeavesValid}
use Rattle.tas_model.specs.Valid.{InRange, IsPaced, Paced, IsTrying, ValidScaling}
use Rattle.tas_model.proofs.Histories.{legal_induction, replay_push, replay_first}

-- the peer's SYN was taken
abbrev Later : Endpoint → Type 0
Later e = (n : ℕ) → IsUnopened e.peer n

-- ----- what is received
rate_keeps : (r : Rate) (tx : Sending) (a len window : ℕ) → ValidRate r → ValidRate (rate_after r tx a len window)
rate_keeps r tx a len window v =
    on_cond ValidRate (eqb tx.una 0) (uncounted r) _
    (λ t. record { tokens = v.tokens; cwnd = v.cwnd; ssthresh = v.ssthresh })
    (λ f. record { tokens = v.tokens; cwnd = v.cwnd; ssthresh = v.ssthresh })

same_pace : (peer : Option ℕ) (r s : Rate) → s.mss ≡ r.mss → s.cwnd ≡ r.cwnd → IsPaced peer r → IsPaced peer s
same_pace None r s mss cwnd p = tt
same_pace (Some first) r s mss cwnd p = record {
  mss = (omega (arith, mss, p.mss), omega (arith, mss, p.mss));
  cwnd = omega (arith, cwnd, p.cwnd);
}

tries_fall : (tx : Sending) (a q len window : ℕ) → (sending_after tx a q len window).tries ≤ tx.tries
tries_fall tx a q len window =
    let duplicate : (after_duplicate tx a len window).tries ≤ tx.tries =
    on_cond (λ (x : Sending). x.tries ≤ tx.tries) (is_duplicate tx a len window) _ tx (λ t. omega arith)
    (λ f. omega arith) in
    let advance : (after_advance (after_duplicate tx a len window) a).tries ≤ tx.tries =
    on_cond (λ (x : Sending). x.tries ≤ tx.tries) (ltb (after_duplicate tx a len window).una a) _
    (after_duplicate tx a len window) (λ t. omega arith) (λ f. duplicate) in
    let window_at : (with_window (after_advance (after_duplicate tx a len window) a) a q window).tries ≤ tx.tries =
    on_cond (λ (n : ℕ). n ≤ tx.tries) (eqb window 0) 0 _ (λ t. omega arith) (λ f. advance) in
    on_cond (λ (x : Sending). x.tries ≤ tx.tries) (moves_window tx a q) _
    (after_advance (after_duplicate tx a len window) a) (λ t. window_at) (λ f. advance)

fewer_tries : (closing : Bool) (o : Option Reason) (n m : ℕ) → m ≤ n → IsTrying o n
    → IsTrying (cond closing (Some reasons.Done) o) m
fewer_tries true o n m le h = tt
fewer_tries false (Some why) n m le h = tt
fewer_tries false None n m le h = omega arith

ack_keeps : (e : Endpoint) (tick a q len window : ℕ) → Later e → ack_verdict e.tx a ≡ Good → Valid e
    → Valid (after_ack e tick a q len window)
ack_keeps e tick a q len window later good v =
    record {
      fits = v.fits;
      scaling = v.scaling;
      unopened = later (after_ack e tick a q len window).tx.una;
      tx = sending_keeps e.params.ring e.tx a q len window good v.tx;
      rx = v.rx;
      rate = rate_keeps e.rate e.tx a len window v.rate;
      paced = on_cond (IsPaced e.peer) (eqb e.tx.una 0) (uncounted e.rate) _
          (λ t. same_pace e.peer e.rate _ refl refl v.paced) (λ f. same_pace e.peer e.rate _ refl refl v.paced);
      trying = fewer_tries (closes (phase e) (sending_after e.tx a q len window)) e.reason e.tx.tries _
          (tries_fall e.tx a q len window) v.trying;
    }

fin_keeps : (ring : ℕ) (rx : Receiving) (shut : Bool) → ValidReceiving ring rx → ValidReceiving ring (with_fin rx shut)
fin_keeps ring rx shut v = record { read = v.read; room = v.room; island = tt }

after_data_keeps : (e : Endpoint) (tick window q : ℕ) (seg : Seg)
    → window ≤ e.params.ring - (length e.rx.got - e.rx.read) → Valid e → Valid (after_data e tick window q seg)
after_data_keeps e tick window q seg small v =
    let rx : ValidReceiving e.params.ring (with_data e.rx window q seg.bytes) =
    data_keeps e.params.ring e.rx window q seg.bytes small v.rx in
    on_cond Valid (takes_fin e.rx (with_data e.rx window q seg.bytes) window q (length seg.bytes) (is_fin seg)) _ _
    (λ t. record {
      fits = v.fits;
      scaling = v.scaling;
      unopened = v.unopened;
      tx = v.tx;
      rx = fin_keeps e.params.ring (with_data e.rx window q seg.bytes) e.tx.shut rx;
      rate = v.rate;
      paced = v.paced;
      trying = v.trying;
    })
    (λ f. record {
      fits = v.fits;
      scaling = v.scaling;
      unopened = v.unopened;
      tx = v.tx;
      rx = rx;
      rate = v.rate;
      paced = v.paced;
      trying = v.trying;
    })

taken_keeps : (e : Endpoint) (tick q : ℕ) (seg : Seg) (a : AckVerdict) → Later e
    → ack_verdict e.tx (place_of_ack e seg) ≡ a → Valid e → Valid (taken e tick q seg a).state
taken_keeps e tick q seg Stray later is v = v
taken_keeps e tick q seg TooFar later is v = v
taken_keeps e tick q seg Good later is v =
    after_data_keeps (after_ack e tick (place_of_ack e seg) q (seg_len seg) (offered_window e.scaling seg)) tick
    (wnd e) q seg (omega arith)
    (ack_keeps e tick (place_of_ack e seg) q (seg_len seg) (offered_window e.scaling seg) later is v)

bare_keeps : (e : Endpoint) (tick : ℕ) (seg : Seg) (a : AckVerdict) → Later e
    → ack_verdict e.tx (place_of_ack e seg) ≡ a → Valid e → Valid (bare_ack e tick seg a).state
bare_keeps e tick seg Stray later is v = v
bare_keeps e tick seg TooFar later is v = v
bare_keeps e tick seg Good later is v =
    ack_keeps e tick (place_of_ack e seg) (next_place e.rx) (seg_len seg) (offered_window e.scaling seg) later is v

with_reason : (e : Endpoint) (why : Reason) → Valid e → Valid (record e { reason = Some why })
with_reason e why v = record {
  fits = v.fits;
  scaling = v.scaling;
  unopened = v.unopened;
  tx = v.tx;
  rx = v.rx;
  rate = v.rate;
  paced = v.paced;
  trying = tt;
}

abbrev V : Outcome → Type 0
V o = Valid o.state

verdict_keeps : (e : Endpoint) (tick : ℕ) (seg : Seg) (d : Verdict) → Later e → Valid e → V (by_verdict e tick seg d)
verdict_keeps e tick seg Dropped later v = v
verdict_keeps e tick seg Answered later v = v
verdict_keeps e tick seg Reset later v = with_reason e reasons.Reset v
verdict_keeps e tick seg BareAck later v =
    on_cond V (is_ack seg) _ _ (λ t. bare_keeps e tick seg _ later refl v) (λ f. v)
verdict_keeps e tick seg (Taken q) later v = taken_keeps e tick q seg _ later refl v

first_rate_valid : (p : HostParams) (theirs : Option ℕ) → InRange p → ValidRate (first_rate p theirs)
first_rate_valid p theirs fits = record { tokens = omega arith; cwnd = small p.fixed; ssthresh = omega arith }
  where
    mss : send_mss p theirs ≤ 8960
    mss = omega (arith, fits.mss)

    small : (fixed : Bool) → first_cwnd fixed (send_mss p theirs) ≤ 65535
    small true = omega arith
    small false = grind (arith, nat_tests, mss)

first_rate_paced : (p : HostParams) (theirs : Option ℕ) → InRange p → Paced (first_rate p theirs)
first_rate_paced p theirs fits = record { mss = (omega arith, omega (arith, fits.mss)); cwnd = some p.fixed }
  where
    some : (fixed : Bool) → 0 < first_cwnd fixed (send_mss p theirs)
    some true = omega arith
    some false = grind (arith, nat_tests)

-- ----- the scaling of windows
fresh_scaling : (p : HostParams) → ValidScaling p None unscaled
fresh_scaling p = record {
  ss = omega arith;
  rs = omega arith;
  early = λ h. refl;
  alone = λ h. refl;
  own = λ h. absurd (true≢false (sym h));
}

taken_scaling : (p : HostParams) (first : ℕ) (own theirs : Option ℕ) → p.scale ≡ own
    → IfSome own (λ shift. shift ≤ 14) → ValidScaling p (Some first) (agreed_scaling own theirs)
taken_scaling p first (Some own) (Some theirs) is small = record {
  ss = omega arith;
  rs = small;
  early = λ h. absurd (cc (h));
  alone = λ h. absurd (true≢false h);
  own = λ h. is;
}
taken_scaling p first (Some own) None is small = record {
  ss = omega arith;
  rs = omega arith;
  early = λ h. refl;
  alone = λ h. refl;
  own = λ h. absurd (true≢false (sym h));
}
taken_scaling p first None theirs is small = record {
  ss = omega arith;
  rs = omega arith;
  early = λ h. refl;
  alone = λ h. refl;
  own = λ h. absurd (true≢false (sym h));
}

connected_keeps : (e : Endpoint) (seg : Seg) → InRange e.params → 1 ≤ e.tx.max → e.peer ≡ None → Valid e
    → Valid (connected e seg)
connected_keeps e seg fits sent none v =
    let una : e.tx.una ≡ 0 = subst (λ (o : Option ℕ). IsUnopened o e.tx.una) none v.unopened in
    record {
      fits = v.fits;
      scaling = taken_scaling e.params seg.head.seq.0 e.params.scale seg.head.scale refl fits.scale;
      unopened = tt;
      tx = record {
        una = omega arith;
        nxt = omega (arith, v.tx.nxt);
        max = v.tx.max;
        room = omega (arith, v.tx.room);
        dup = v.tx.dup;
        opening = λ h. absurd (omega (arith, h));
      };
      rx = v.rx;
      rate = first_rate_valid e.params seg.head.mss fits;
      paced = first_rate_paced e.params seg.head.mss fits;
      trying = no_tries e.reason;
    }
  where
    no_tries : (o : Option Reason) → IsTrying o 0
    no_tries None = omega arith
    no_tries (Some why) = tt

syn_sent_keeps : (e : Endpoint) (seg : Seg) → InRange e.params → e.peer ≡ None → Valid e → V (rx_syn_sent e seg)
unfolding rx_syn_sent
syn_sent_keeps e seg fits none v =
    on_cond V (is_ack seg && not (eqb (place_of_ack e seg) 1 && leb 1 e.tx.max)) _ _ (λ t. v)
    (λ f. on_cond V (is_rst seg) _ _
    (λ t. on_cond Valid (is_ack seg) (record e { reason = Some reasons.Refused }) e
    (λ u. with_reason e reasons.Refused v) (λ u. v))
    (λ u. on_cond V (is_syn seg && is_ack seg) _ _ (λ both. connected_keeps e seg fits (sent f both) none v) (λ w. v)))
  where
    sent : (is_ack seg && not (eqb (place_of_ack e seg) 1 && leb 1 e.tx.max)) ≡ false
        → (is_syn seg && is_ack seg) ≡ true → 1 ≤ e.tx.max
    sent f both = grind (arith, nat_tests)

-- phases past SYN-SENT and before CLOSED
abbrev IsLater : Phase → Type 0
IsLater phases.SynSent = ⊥
IsLater phases.Closed = ⊥
IsLater _ = Unit {0}

pub later_of : (reason : Option Reason) (peer : Option ℕ) (una : ℕ) (shut fin_acked ended ended_first : Bool)
    (ph : Phase)
    → phase_by reason peer una shut fin_acked ended ended_first ≡ ph → IsLater ph → (n : ℕ) → IsUnopened peer n
later_of (Some why) peer una shut fin_acked ended ended_first ph is later n = absurd (subst IsLater (sym is) later)
later_of None None una shut fin_acked ended ended_first ph is later n = absurd (subst IsLater (sym is) later)
later_of None (Some first) una shut fin_acked ended ended_first ph is later n = tt

pub unopened_peer : (reason : Option Reason) (peer : Option ℕ) (una : ℕ) (shut fin_acked ended ended_first : Bool)
    → phase_by reason peer una shut fin_acked ended ended_first ≡ phases.SynSent → peer ≡ None
unopened_peer (Some why) peer una shut fin_acked ended ended_first is = absurd (cc (is))
unopened_peer None None una shut fin_acked ended ended_first is = refl
unopened_peer None (Some first) una shut fin_acked ended ended_first is =
    absurd (never (eqb una 0) shut ended ended_first fin_acked is)
  where
    never : (z s d f a : Bool)
        → cond z phases.SynReceived
        (cond s (cond d (cond f phases.LastAck (cond a phases.TimeWait phases.Closing))
        (cond a phases.FinWait2 phases.FinWait1)) (cond d phases.CloseWait phases.Established)) ≡ phases.SynSent → ⊥
    never true s d f a h = cc (h)
    never false true true true a h = cc (h)
    never false true true false true h = cc (h)
    never false true true false false h = cc (h)
    never false true false f true h = cc (h)
    never false true false f false h = cc (h)
    never false false true f a h = cc (h)
    never false false false f a h = cc (h)

later_keeps : (e : Endpoint) (tick : ℕ) (seg : Seg) → Later e → Valid e → V (rx_later e tick seg)
unfolding rx_later
later_keeps e tick seg later v = verdict_keeps e tick seg (verdict e seg) later v

rx_in_keeps : (ph : Phase) (e : Endpoint) (tick : ℕ) (seg : Seg) → phase e ≡ ph → InRange e.params → Valid e
    → V (rx_in ph e tick seg)
rx_in_keeps phases.Closed e tick seg is fits v = v
rx_in_keeps phases.SynSent e tick seg is fits v =
    syn_sent_keeps e seg fits (unopened_peer e.reason e.peer e.tx.una e.tx.shut _ e.rx.ended e.rx.ended_first is) v
rx_in_keeps _ e tick seg is fits v =
    later_keeps e tick seg (later_of e.reason e.peer e.tx.una e.tx.shut _ e.rx.ended e.rx.ended_first _ is tt) v

pub rx_keeps : (e : Endpoint) (tick : ℕ) (seg : Seg) → InRange e.params → Valid e → V (rx e tick seg)
unfolding rx
rx_keeps e tick seg fits v = rx_in_keeps (phase e) e tick seg refl fits v

-- ----- the calls of an application
with_tx : (e : Endpoint) (tx : Sending) → tx.una ≡ e.tx.una → IsTrying e.reason tx.tries → ValidSending e.params.ring tx
    → Valid e → Valid (record e { tx = tx })
with_tx e tx una trying s v = record {
  fits = v.fits;
  scaling = v.scaling;
  unopened = subst (IsUnopened e.peer) (sym una) v.unopened;
  tx = s;
  rx = v.rx;
  rate = v.rate;
  paced = v.paced;
  trying = trying;
}

with_rx : (e : Endpoint) (rx : Receiving) → ValidReceiving e.params.ring rx → Valid e → Valid (record e { rx = rx })
with_rx e rx r v = record {
  fits = v.fits;
  scaling = v.scaling;
  unopened = v.unopened;
  tx = v.tx;
  rx = r;
  rate = v.rate;
  paced = v.paced;
  trying = v.trying;
}

-- where the connection stands, the SYN is acknowledged
running_una : (reason : Option Reason) (peer : Option ℕ) (una : ℕ) → column_by reason peer una ≡ Running → una ≡ 0 → ⊥
running_una (Some why) peer una is none = absurd (cc (is))
running_una None None una is none = absurd (cc (is))
running_una None (Some first) una is none =
    let opening : Opening ≡ Running = subst (λ (n : ℕ). cond (eqb n 0) Opening Running ≡ Running) none is in
    absurd (cc (opening))

shut_keeps : (ring : ℕ) (tx : Sending) → (tx.una ≡ 0 → ⊥) → ValidSending ring tx
    → ValidSending ring (record tx { shut = true })
shut_keeps ring tx began v = record {
  una = v.una;
  nxt = v.nxt;
  max = grow tx.shut v.max;
  room = v.room;
  dup = v.dup;
  opening = λ h. absurd (began h);
}
  where
    grow : (b : Bool) → tx.max ≤ length tx.out + 1 + cond b 1 0 → tx.max ≤ length tx.out + 1 + 1
    grow true h = h
    grow false h = omega arith

sent_keeps : (ring : ℕ) (tx : Sending) (bytes : List ℕ) → tx.shut ≡ false → length bytes ≤ ring - unacked tx
    → ValidSending ring tx → ValidSending ring (record tx { out = tx.out ++ bytes })
sent_keeps ring tx bytes going fits v =
    let len : length (tx.out ++ bytes) ≡ length tx.out + length bytes = length-append tx.out bytes in
    let most : tx.max ≤ length tx.out + 1 = grind (arith, v.max) in
    record {
      una = v.una;
      nxt = v.nxt;
      max = omega (arith, v.max);
      room = omega (arith, v.room, v.una, v.nxt);
      dup = v.dup;
      opening = v.opening;
    }

accept_keeps : (e : Endpoint) (c : Column) → Valid e → LeavesValid (accept_in c e)
accept_keeps e Running v = v
accept_keeps e Opening v = tt
accept_keeps e (Over why) v = tt

ready_keeps : (e : Endpoint) (c : Column) → Valid e → V (ready_in c e)
ready_keeps e Running v = v
ready_keeps e Opening v = v
ready_keeps e (Over why) v = v

send_keeps : (e : Endpoint) (c : Column) (offered : ℕ) (bytes : List ℕ) → Valid e
    → LeavesValid (send_in c e offered bytes)
send_keeps e Opening offered bytes v = v
send_keeps e (Over why) offered bytes v = v
send_keeps e Running offered bytes v =
    on_cond LeavesValid e.tx.shut _ _ (λ t. v)
    (λ f. on_cond LeavesValid (eqb (min offered (send_room e)) 0 && not (eqb offered 0)) _ _ (λ t. v)
    (λ g. on_cond LeavesValid (eqb (length bytes) (min offered (send_room e))) _ _
    (λ h. with_tx e (record (e.tx) { out = e.tx.out ++ bytes }) refl v.trying
    (sent_keeps e.params.ring e.tx bytes f (fits h) v.tx) v) (λ h. tt)))
  where
    fits : eqb (length bytes) (min offered (send_room e)) ≡ true → length bytes ≤ e.params.ring - unacked e.tx
    fits h = grind (arith, nat_tests)

pub read_keeps : (e : Endpoint) (n : ℕ) → n ≤ length e.rx.got - e.rx.read → Valid e → Valid (after_recv e n)
read_keeps e n fits v =
    with_rx e (record (e.rx) { read = e.rx.read + n })
    (record {
      read = omega (arith, v.rx.read);
      room = omega (arith, v.rx.room);
      island = gap e.rx.island v.rx.island;
    }) v
  where
    gap : (o : Option Island) → IsPastGap (length e.rx.got) (e.rx.read + e.params.ring) o
        → IsPastGap (length e.rx.got) (e.rx.read + n + e.params.ring) o
    gap None gone = tt
    gap (Some i) gone = record { past = gone.past; within = omega (arith, gone.within); some = gone.some }

recv_open_keeps : (e : Endpoint) (most : ℕ) → Valid e → V (recv_open e most)
recv_open_keeps e most v = on_cond V (eqb (unread e.rx) 0) _ _ (λ t. v)
    (λ f. read_keeps e (min most (unread e.rx)) (omega arith) v)

recv_keeps : (e : Endpoint) (c : Column) (most : ℕ) → Valid e → V (recv_in c e most)
recv_keeps e Opening most v = v
recv_keeps e Running most v = recv_open_keeps e most v
recv_keeps e (Over reasons.Done) most v = recv_open_keeps e most v
recv_keeps e (Over _) most v = v

shut_in_keeps : (e : Endpoint) (c : Column) → column e ≡ c → Valid e → V (shut_in c e)
shut_in_keeps e Opening is v = v
shut_in_keeps e (Over why) is v = v
shut_in_keeps e Running is v =
    on_cond V e.tx.shut _ _ (λ t. v) (λ f. with_tx e (record (e.tx) { shut = true }) refl v.trying
    (shut_keeps e.params.ring e.tx (running_una e.reason e.peer e.tx.una is) v.tx) v)

close_keeps : (e : Endpoint) (c : Column) → column e ≡ c → Valid e → V (close_in c e)
close_keeps e Opening is v = with_reason e reasons.Aborted v
close_keeps e (Over why) is v = v
close_keeps e Running is v = with_tx e (record (e.tx) { shut = true }) refl v.trying
    (shut_keeps e.params.ring e.tx (running_una e.reason e.peer e.tx.una is) v.tx) v

abort_keeps : (e : Endpoint) (c : Column) → Valid e → V (abort_in c e)
abort_keeps e Opening v = with_reason e reasons.Aborted v
abort_keeps e (Over why) v = v
abort_keeps e Running v = with_reason e reasons.Aborted v

-- ----- sending
past_keeps : (ring : ℕ) (tx : Sending) (n : ℕ) → tx.nxt + n ≤ length tx.out + 1 + cond tx.shut 1 0
    → ValidSending ring tx → ValidSending ring (past tx n)
past_keeps ring tx n fits v = record {
  una = omega (arith, v.una);
  nxt = omega arith;
  max = omega (arith, v.max, fits);
  room = v.room;
  dup = v.dup;
  opening = v.opening;
}

abbrev G : Option Going → Type 0
G None = Unit {0}
G (Some g) = Valid g.after

data_fits : (e : Endpoint) → Valid e → ltb 0 (data_len e) ≡ true
    → e.tx.nxt + data_len e ≤ length e.tx.out + 1 + cond e.tx.shut 1 0
data_fits e v some = let least : 0 < data_len e = grind (arith, nat_tests) in omega (arith, v.tx.nxt)

running_keeps : (e : Endpoint) → Valid e → G (going_running e)
running_keeps e v =
    on_cond G (ltb 0 (data_len e)) _ _
    (λ t. record {
      fits = v.fits;
      scaling = v.scaling;
      unopened = v.unopened;
      tx = past_keeps e.params.ring e.tx (data_len e) (data_fits e v t) v.tx;
      rx = v.rx;
      rate =
          record { tokens = omega (arith, v.rate.tokens); cwnd = v.rate.cwnd; ssthresh = v.rate.ssthresh };
      paced =
          same_pace e.peer e.rate _ refl refl v.paced;
      trying = v.trying;
    })
    (λ f. on_cond G (e.tx.probe && eqb e.tx.window 0 && eqb e.tx.nxt e.tx.una && ltb 0 (waiting e.tx)) _ _
    (λ t. with_tx e (record (e.tx) { probe = false; max = max e.tx.max (e.tx.nxt + 1) }) refl v.trying (probed t) v)
    (λ g. on_cond G (e.tx.shut && eqb e.tx.nxt (1 + length e.tx.out)) _ _
    (λ t. with_tx e (past e.tx 1) refl v.trying (past_keeps e.params.ring e.tx 1 (last t) v.tx) v) (λ h. tt)))
  where
    probed : (e.tx.probe && eqb e.tx.window 0 && eqb e.tx.nxt e.tx.una && ltb 0 (waiting e.tx)) ≡ true
        → ValidSending e.params.ring (record (e.tx) { probe = false; max = max e.tx.max (e.tx.nxt + 1) })
    probed t =
        let some : 0 < waiting e.tx = grind (arith, nat_tests) in
        record {
          una = v.tx.una;
          nxt = omega (arith, v.tx.nxt);
          max = omega (arith, v.tx.max);
          room = v.tx.room;
          dup = v.tx.dup;
          opening = v.tx.opening;
        }

    last : (e.tx.shut && eqb e.tx.nxt (1 + length e.tx.out)) ≡ true
        → e.tx.nxt + 1 ≤ length e.tx.out + 1 + cond e.tx.shut 1 0
    last t = grind (arith, nat_tests)

going_keeps : (e : Endpoint) (c : Column) → Valid e → G (going_in c e)
going_keeps e (Over why) v = tt
going_keeps e Running v = running_keeps e v
going_keeps e Opening v =
    on_cond G (eqb e.tx.nxt 0) _ _ (λ t. with_tx e (past e.tx 1) refl v.trying
    (past_keeps e.params.ring e.tx 1 (first t) v.tx) v) (λ f. tt)
  where
    first : eqb e.tx.nxt 0 ≡ true → e.tx.nxt + 1 ≤ length e.tx.out + 1 + cond e.tx.shut 1 0
    first t = grind (arith, nat_tests)

emit_keeps : (o : Option Going) → G o → LeavesValid (emitted o)
emit_keeps None g = tt
emit_keeps (Some x) g = g

-- ----- time
filled_keeps : (e : Endpoint) → Valid e → Valid (record e { rate = filled e.rate })
filled_keeps e v = record {
  fits = v.fits;
  scaling = v.scaling;
  unopened = v.unopened;
  tx = v.tx;
  rx = v.rx;
  rate = record { tokens = omega arith; cwnd = v.rate.cwnd; ssthresh = v.rate.ssthresh };
  paced =
      same_pace e.peer e.rate _ refl refl v.paced;
  trying = v.trying;
}

aged_keeps : (e : Endpoint) (age : ℕ) → Valid e → Valid (aged e age)
aged_keeps e age v = with_tx e (record (e.tx) { age = age }) refl v.trying
    (record {
      una = v.tx.una;
      nxt = v.tx.nxt;
      max = v.tx.max;
      room = v.tx.room;
      dup = v.tx.dup;
      opening = v.tx.opening;
    }) v

back_valid : (ring : ℕ) (tx : Sending) (tries nxt : ℕ) (probe : Bool) → tx.una ≤ nxt → nxt ≤ tx.max
    → ValidSending ring tx → ValidSending ring (record tx { tries = tries; age = 0; nxt = nxt; probe = probe })
back_valid ring tx tries nxt probe low high v =
    record { una = low; nxt = high; max = v.max; room = v.room; dup = v.dup; opening = v.opening }

one_try_more : (o : Option Reason) (n : ℕ) → eqb (n + 1) 9 ≡ false → IsTrying o n → IsTrying o (n + 1)
one_try_more (Some why) n f h = tt
one_try_more None n f h = grind (arith, nat_tests)

expired_keeps : (e : Endpoint) → Valid e → V (expired e)
expired_keeps e v =
    let high : e.tx.una ≤ e.tx.max = omega (arith, v.tx.una, v.tx.nxt) in
    on_cond V (eqb (e.tx.tries + 1) 9) _ _
    (λ t. record {
      fits = v.fits;
      scaling = v.scaling;
      unopened = v.unopened;
      tx = back_valid e.params.ring e.tx (e.tx.tries + 1) e.tx.nxt e.tx.probe v.tx.una v.tx.nxt v.tx;
      rx = v.rx;
      rate = v.rate;
      paced = v.paced;
      trying = tt;
    })
    (λ f. let trying : IsTrying e.reason (e.tx.tries + 1) = one_try_more e.reason e.tx.tries f v.trying in
    on_cond V (probes e) _ _
    (λ t. with_tx e (record (e.tx) { tries = e.tx.tries + 1; age = 0; nxt = e.tx.una; probe = true }) refl trying
    (back_valid e.params.ring e.tx (e.tx.tries + 1) e.tx.una true (omega arith) high v.tx) v)
    (λ g. record {
      fits = v.fits;
      scaling = v.scaling;
      unopened = v.unopened;
      tx = back_valid e.params.ring e.tx (e.tx.tries + 1) e.tx.una e.tx.probe (omega arith) high v.tx;
      rx = v.rx;
      rate = record { tokens = v.rate.tokens; cwnd = v.rate.cwnd; ssthresh = v.rate.ssthresh };
      paced = same_pace e.peer e.rate _ refl refl v.paced;
      trying = trying;
    }))

ticked_keeps : (e : Endpoint) → Valid e → V (ticked e)
ticked_keeps e v =
    on_cond V (not (is_armed e.tx)) _ _ (λ t. aged_keeps e 0 v)
    (λ f. on_cond V (ltb (e.tx.age + 1) (patience e)) _ _ (λ t. aged_keeps e (e.tx.age + 1) v) (λ g. expired_keeps e v))

waited_keeps : (e : Endpoint) (tick : ℕ) → Valid e → V (waited e tick)
waited_keeps e tick v = on_cond V (leb (4 * e.params.rto) (tick - e.entered)) _ _ (λ t. with_reason e reasons.Done v)
    (λ f. v)

tick_in_keeps : (ph : Phase) (e : Endpoint) (tick : ℕ) → Valid e → LeavesValid (tick_in ph e tick)
tick_in_keeps phases.Closed e tick v = tt
tick_in_keeps phases.TimeWait e tick v = waited_keeps e tick v
tick_in_keeps _ e tick v = ticked_keeps e v

ticks_keeps : (e : Endpoint) (tick : ℕ) → Valid e → LeavesValid (ticks e tick)
unfolding ticks
ticks_keeps e tick v = tick_in_keeps (phase e) (record e { rate = filled e.rate }) tick (filled_keeps e v)

ssthresh_small : (fast timeouts flight mss ssthresh : ℕ) → ssthresh ≤ 65535
    → ssthresh_after fast timeouts flight mss ssthresh ≤ 65535
ssthresh_small fast timeouts flight mss ssthresh small = grind (arith, nat_tests)

cwnd_some : (acked fast timeouts flight mss cwnd ssthresh : ℕ) → 0 < mss → 0 < cwnd
    → 0 < cwnd_after acked fast timeouts flight mss cwnd ssthresh
cwnd_some acked fast timeouts flight mss cwnd ssthresh m c =
    let some : 0 < cond (ltb 0 timeouts) mss
    (cond (ltb 0 fast) (max (flight / 2) (2 * mss))
    (cond (ltb cwnd ssthresh) (cwnd + min acked cwnd) (cwnd + min mss (mss * acked / cwnd)))) =
    on_cond (λ (n : ℕ). 0 < n) (ltb 0 timeouts) _ _ (λ t. m)
    (λ f. on_cond (λ (n : ℕ). 0 < n) (ltb 0 fast) _ _ (λ t. omega arith)
    (λ g. on_cond (λ (n : ℕ). 0 < n) (ltb cwnd ssthresh) _ _ (λ t. omega arith) (λ h. omega arith))) in
    omega arith

controlled_paced : (peer : Option ℕ) (r : Rate) (flight : ℕ) → IsPaced peer r → IsPaced peer (controlled r flight)
controlled_paced None r flight p = tt
controlled_paced (Some first) r flight p =
    record {
      mss = p.mss;
      cwnd = cwnd_some r.acked r.fast r.timeouts flight r.mss r.cwnd r.ssthresh
          (omega (arith, p.mss)) p.cwnd;
    }

control_keeps : (e : Endpoint) → Valid e → V (control e)
unfolding control
control_keeps e v = record {
  fits = v.fits;
  scaling = v.scaling;
  unopened = v.unopened;
  tx = v.tx;
  rx = v.rx;
  rate = record {
    tokens = omega arith;
    cwnd = omega arith;
    ssthresh = ssthresh_small e.rate.fast e.rate.timeouts
        (e.tx.max - e.tx.una) e.rate.mss e.rate.ssthresh v.rate.ssthresh;
  };
  paced = controlled_paced e.peer e.rate (e.tx.max - e.tx.una) v.paced;
  trying = v.trying;
}

control_in_keeps : (e : Endpoint) (c : Column) → Valid e → LeavesValid (control_in c e)
control_in_keeps e Running v = control_keeps e v
control_in_keeps e Opening v = tt
control_in_keeps e (Over why) v = tt

-- ----- every step
pub step_keeps : (e : Endpoint) (tick : ℕ) (call : Call) (reply : Reply) → InRange e.params → Valid e
    → LeavesValid (step e tick call reply)
unfolding step going
step_keeps e tick (calls.Connect iss) reply fits v = tt
step_keeps e tick (calls.Passive frame iss seg) reply fits v = tt
step_keeps e tick (calls.Rx frame seg) reply fits v = rx_keeps e tick seg fits v
step_keeps e tick calls.Emit reply fits v = emit_keeps (going_in (column e) e) (going_keeps e (column e) v)
step_keeps e tick calls.Tick reply fits v = ticks_keeps e tick v
step_keeps e tick calls.Control reply fits v = control_in_keeps e (column e) v
step_keeps e tick calls.Accept reply fits v = accept_keeps e (column e) v
step_keeps e tick calls.Ready reply fits v = ready_keeps e (column e) v
step_keeps e tick (calls.Send offered) reply fits v = send_keeps e (column e) offered (taken_bytes reply) v
step_keeps e tick (calls.Recv most) reply fits v = recv_keeps e (column e) most v
step_keeps e tick calls.Shut reply fits v = shut_in_keeps e (column e) refl v
step_keeps e tick calls.Close reply fits v = close_keeps e (column e) refl v
step_keeps e tick calls.Abort reply fits v = abort_keeps e (column e) v

-- ----- every history
fresh_valid : (p : HostParams) (iss : ℕ) → InRange p → Valid (fresh p iss)
fresh_valid p iss fits = record {
  fits = fits;
  scaling = fresh_scaling p;
  unopened = refl;
  tx = record {
    una = omega arith;
    nxt = omega arith;
    max = omega arith;
    room = omega arith;
    dup = omega arith;
    opening = λ h. refl;
  };
  rx = record { read = omega arith; room = omega arith; island = tt };
  rate = record { tokens = omega arith; cwnd = omega arith; ssthresh = omega arith };
  paced = tt;
  trying = omega arith;
}

opened_valid : (p : HostParams) (call : Call) → InRange p → Opens call → Valid (opened p call)
opened_valid p (calls.Connect iss) fits opens = fresh_valid p iss.0 fits
opened_valid p (calls.Passive frame iss seg) fits opens = record {
  fits = fits;
  scaling = taken_scaling p seg.head.seq.0 p.scale seg.head.scale refl fits.scale;
  unopened = tt;
  tx = record {
    una = omega arith;
    nxt = omega arith;
    max = omega arith;
    room = omega arith;
    dup = omega arith;
    opening = λ h. refl;
  };
  rx = record { read = omega arith; room = omega arith; island = tt };
  rate = first_rate_valid p seg.head.mss fits;
  paced = first_rate_paced p seg.head.mss fits;
  trying = omega arith;
}
opened_valid p _ fits opens = absurd opens

moved_valid : (e : Endpoint) (o : Option Outcome) → Valid e → LeavesValid o → Valid (state_or e o)
moved_valid e None v l = v
moved_valid e (Some o) v l = l

-- every history leads to a valid endpoint
pub valid_replay : (p : HostParams) (h : List Entry) → InRange p → Legal p h → Valid (replay p h)
valid_replay p h fits legal =
    legal_induction p (λ (es : List Entry). Valid (replay p es))
    (λ x first. subst Valid (sym (replay_first p x)) (opened_valid p x.call fits first.opens))
    (λ es x before v may. subst Valid (sym (replay_push p es x before))
    (moved_valid (replay p es) (step (replay p es) x.tick x.call x.reply) v
    (step_keeps (replay p es) x.tick x.call x.reply v.fits v)))
    h legal
