-- What most steps leave as it is: the highest place that was sent, the peer's first number, and a bucket as deep as the
-- congestion window is wide.
use Rattle.std.proofs.Common.{◌≡◌, ℕ, ◌+◌, ◌-◌, ◌*◌, ◌≤◌, Bool, true, false, cond, not, ◌&&◌, List, length, min, max}
use Rattle.std.proofs.Common.{Option, Some, None, refl, sym, subst, ap, ◌∙◌, arith, ltb, leb, eqb}
use Rattle.tas_model.proofs.Tests.{on_cond}
use Rattle.tas_model.specs.declared.entry.Reason.{Reason}
use Rattle.tas_model.specs.declared.entry.Reason.TheVariants as reasons
use Rattle.tas_model.specs.declared.entry.Phase.{Phase}
use Rattle.tas_model.specs.declared.entry.Phase.TheVariants as phases
use Rattle.tas_model.specs.declared.entry.Call.{Call}
use Rattle.tas_model.specs.declared.entry.Call.TheVariants as calls
use Rattle.tas_model.specs.declared.entry.Seg.{Seg}
use Rattle.tas_model.specs.declared.entry.Reply.{Reply}
use Rattle.tas_model.specs.Endpoint.{Endpoint, Sending, Rate, phase, unread, send_room, next_place, wnd, uncounted}
use Rattle.tas_model.specs.Endpoint.{first_rate}
use Rattle.tas_model.specs.Segments.{offered_window, Outcome, one_if, is_fin, is_ack, is_rst, is_syn, seg_len}
use Rattle.tas_model.specs.Reassembly.{with_data}
use Rattle.tas_model.specs.Receive.{rx, rx_in, rx_later, rx_syn_sent, connected, by_verdict, verdict, Verdict, Dropped}
use Rattle.tas_model.specs.Receive.{Answered, Reset, BareAck, Taken, AckVerdict, Stray, TooFar, Good, taken, bare_ack}
use Rattle.tas_model.specs.Receive.{after_ack, after_data, takes_fin, place_of_ack, ack_verdict, is_duplicate}
use Rattle.tas_model.specs.Receive.{after_duplicate, after_advance, moves_window, sending_after, rate_after}
use Rattle.tas_model.specs.ApplicationCalls.{Column, Opening, Over, Running, column, accept_in, ready_in, send_in}
use Rattle.tas_model.specs.ApplicationCalls.{recv_in, recv_open, shut_in, close_in, abort_in}
use Rattle.tas_model.specs.Timers.{ticks, tick_in, ticked, waited, is_armed, patience, probes, filled, control}
use Rattle.tas_model.specs.LegalHistory.{step, control_in, taken_bytes}

-- ----- facts
abbrev pub IsDeep : Rate → Type 0
IsDeep r = r.depth ≡ r.cwnd

-- no more was sent than before, and no probe is due that was not
pub record SendsNoMore (tx x : Sending) : Type 0 where
  pub max : x.max ≡ tx.max
  pub probe : one_if x.probe ≤ one_if tx.probe

pub record Stays (e f : Endpoint) : Type 0 where
  pub tx : SendsNoMore e.tx f.tx
  pub deep : IsDeep e.rate → IsDeep f.rate

-- And the peer's first number is the same.
pub record StaysWhole (e f : Endpoint) : Type 0 where
  pub stays : Stays e f
  pub peer : f.peer ≡ e.peer

same_tx : (tx : Sending) → SendsNoMore tx tx
same_tx tx = record { max = refl; probe = omega arith }

same : (e : Endpoint) → Stays e e
same e = record { tx = same_tx e.tx; deep = λ d. d }

whole : (e : Endpoint) → StaysWhole e e
whole e = record { stays = same e; peer = refl }

abbrev pub R : Endpoint → Outcome → Type 0
R e o = StaysWhole e o.state

abbrev pub L : Endpoint → Option Outcome → Type 0
L e None = Unit {0}
L e (Some o) = StaysWhole e o.state

-- ----- a received segment
less_probe : (b p : Bool) → one_if (cond b false p) ≤ one_if p
less_probe true true = omega arith
less_probe true false = omega arith
less_probe false p = omega arith

sending_same : (tx : Sending) (a q len window : ℕ) → SendsNoMore tx (sending_after tx a q len window)
sending_same tx a q len window =
    let duplicate : SendsNoMore tx (after_duplicate tx a len window) =
    on_cond (SendsNoMore tx) (is_duplicate tx a len window) _ tx (λ t. record { max = refl; probe = omega arith })
    (λ f. same_tx tx) in
    let advance : SendsNoMore tx (after_advance (after_duplicate tx a len window) a) =
    on_cond (SendsNoMore tx) (ltb (after_duplicate tx a len window).una a) _ (after_duplicate tx a len window)
    (λ t. record { max = duplicate.max; probe = duplicate.probe }) (λ f. duplicate) in
    let moved : Sending = after_advance (after_duplicate tx a len window) a in
    let less : one_if (cond (eqb moved.window 0 && ltb 0 window) false moved.probe) ≤ one_if moved.probe =
    less_probe (eqb moved.window 0 && ltb 0 window) moved.probe in
    on_cond (SendsNoMore tx) (moves_window tx a q) _ moved
    (λ t. record { max = advance.max; probe = omega (arith, less, advance.probe) }) (λ f. advance)

ack_same : (e : Endpoint) (tick a q len window : ℕ) → StaysWhole e (after_ack e tick a q len window)
ack_same e tick a q len window = record {
  stays = record {
    tx = sending_same e.tx a q len window;
    deep = λ d. on_cond IsDeep (eqb e.tx.una 0) (uncounted e.rate) _ (λ t. d) (λ f. d);
  };
  peer = refl;
}

data_same : (e x : Endpoint) (tick window q : ℕ) (seg : Seg) → StaysWhole e x
    → StaysWhole e (after_data x tick window q seg)
data_same e x tick window q seg s =
    on_cond (StaysWhole e)
    (takes_fin x.rx (with_data x.rx window q seg.bytes) window q (length seg.bytes) (is_fin seg)) _ _
    (λ t. record { stays = record { tx = s.stays.tx; deep = s.stays.deep }; peer = s.peer })
    (λ f. record { stays = record { tx = s.stays.tx; deep = s.stays.deep }; peer = s.peer })

taken_same : (e : Endpoint) (tick q : ℕ) (seg : Seg) (a : AckVerdict) → R e (taken e tick q seg a)
taken_same e tick q seg Stray = whole e
taken_same e tick q seg TooFar = whole e
taken_same e tick q seg Good =
    data_same e (after_ack e tick (place_of_ack e seg) q (seg_len seg) (offered_window e.scaling seg)) tick (wnd e) q
    seg (ack_same e tick (place_of_ack e seg) q (seg_len seg) (offered_window e.scaling seg))

bare_same : (e : Endpoint) (tick : ℕ) (seg : Seg) (a : AckVerdict) → R e (bare_ack e tick seg a)
bare_same e tick seg Stray = whole e
bare_same e tick seg TooFar = whole e
bare_same e tick seg Good =
    ack_same e tick (place_of_ack e seg) (next_place e.rx) (seg_len seg) (offered_window e.scaling seg)

verdict_same : (e : Endpoint) (tick : ℕ) (seg : Seg) (d : Verdict) → R e (by_verdict e tick seg d)
verdict_same e tick seg Dropped = whole e
verdict_same e tick seg Answered = whole e
verdict_same e tick seg Reset = record { stays = record { tx = same_tx e.tx; deep = λ d. d }; peer = refl }
verdict_same e tick seg BareAck = on_cond (R e) (is_ack seg) _ _ (λ t. bare_same e tick seg _) (λ f. whole e)
verdict_same e tick seg (Taken q) = taken_same e tick q seg _

-- What the endpoint knows of its peer: nothing, or a first number with this property.
abbrev pub Knows : (ℕ → Type 0) → Option ℕ → Type 0
Knows Q None = Unit {0}
Knows Q (Some n) = Q n

-- what the segment says of it, where it begins the peer's direction
abbrev pub Tells : (ℕ → Type 0) → Seg → Type 0
Tells Q seg = is_rst seg ≡ false → is_syn seg ≡ true → Q seg.head.seq.0

pub record Hears (Q : ℕ → Type 0) (e f : Endpoint) : Type 0 where
  pub stays : Stays e f
  pub peer : Knows Q e.peer → Knows Q f.peer

hears : (Q : ℕ → Type 0) (e f : Endpoint) → StaysWhole e f → Hears Q e f
hears Q e f s = record { stays = s.stays; peer = λ k. subst (Knows Q) (sym s.peer) k }

abbrev H : (ℕ → Type 0) → Endpoint → Outcome → Type 0
H Q e o = Hears Q e o.state

both_left : (a b : Bool) → (a && b) ≡ true → a ≡ true
both_left true b h = refl
both_left false b h = absurd (cc (h))

syn_sent_hears : (Q : ℕ → Type 0) (e : Endpoint) (seg : Seg) → Tells Q seg → H Q e (rx_syn_sent e seg)
unfolding rx_syn_sent
syn_sent_hears Q e seg tells =
    on_cond (H Q e) (is_ack seg && not (eqb (place_of_ack e seg) 1 && leb 1 e.tx.max)) _ _ (λ t. hears Q e e (whole e))
    (λ f. on_cond (H Q e) (is_rst seg) _ _
    (λ t. on_cond (Hears Q e) (is_ack seg) (record e { reason = Some reasons.Refused }) e
    (λ u. record { stays = record { tx = same_tx e.tx; deep = λ d. d }; peer = λ k. k }) (λ u. hears Q e e (whole e)))
    (λ r. on_cond (H Q e) (is_syn seg && is_ack seg) _ _
    (λ s. record {
      stays = record { tx = record { max = refl; probe = omega arith }; deep = λ d. refl };
      peer =
          λ k. tells r (both_left (is_syn seg) (is_ack seg) s);
    })
    (λ s. hears Q e e (whole e))))

rx_in_hears : (Q : ℕ → Type 0) (ph : Phase) (e : Endpoint) (tick : ℕ) (seg : Seg) → Tells Q seg
    → H Q e (rx_in ph e tick seg)
unfolding rx_later
rx_in_hears Q phases.Closed e tick seg tells = hears Q e e (whole e)
rx_in_hears Q phases.SynSent e tick seg tells = syn_sent_hears Q e seg tells
rx_in_hears Q _ e tick seg tells = hears Q e _ (verdict_same e tick seg (verdict e seg))

pub rx_hears : (Q : ℕ → Type 0) (e : Endpoint) (tick : ℕ) (seg : Seg) → Tells Q seg → Hears Q e (rx e tick seg).state
unfolding rx
rx_hears Q e tick seg tells = rx_in_hears Q (phase e) e tick seg tells

-- ----- the calls of an application
pub accept_same : (e : Endpoint) (c : Column) → L e (accept_in c e)
accept_same e Running = whole e
accept_same e Opening = tt
accept_same e (Over why) = tt

pub ready_same : (e : Endpoint) (c : Column) → R e (ready_in c e)
ready_same e Running = whole e
ready_same e Opening = whole e
ready_same e (Over why) = whole e

pub send_same : (e : Endpoint) (c : Column) (offered : ℕ) (bytes : List ℕ) → L e (send_in c e offered bytes)
send_same e Opening offered bytes = whole e
send_same e (Over why) offered bytes = whole e
send_same e Running offered bytes =
    on_cond (L e) e.tx.shut _ _ (λ t. whole e)
    (λ f. on_cond (L e) (eqb (min offered (send_room e)) 0 && not (eqb offered 0)) _ _ (λ t. whole e)
    (λ g. on_cond (L e) (eqb (length bytes) (min offered (send_room e))) _ _
    (λ t. record { stays = record { tx = record { max = refl; probe = omega arith }; deep = λ d. d }; peer = refl })
    (λ h. tt)))

open_same : (e : Endpoint) (most : ℕ) → R e (recv_open e most)
open_same e most =
    on_cond (R e) (eqb (unread e.rx) 0) _ _ (λ t. whole e)
    (λ f. record { stays = record { tx = same_tx e.tx; deep = λ d. d }; peer = refl })

pub recv_same : (e : Endpoint) (c : Column) (most : ℕ) → R e (recv_in c e most)
recv_same e Opening most = whole e
recv_same e Running most = open_same e most
recv_same e (Over reasons.Done) most = open_same e most
recv_same e (Over _) most = whole e

shut_stays : (e : Endpoint) → StaysWhole e (record e { tx = record (e.tx) { shut = true } })
shut_stays e = record { stays = record { tx = record { max = refl; probe = omega arith }; deep = λ d. d }; peer = refl }

ended_stays : (e : Endpoint) (why : Reason) → StaysWhole e (record e { reason = Some why })
ended_stays e why = record { stays = record { tx = same_tx e.tx; deep = λ d. d }; peer = refl }

pub shut_same : (e : Endpoint) (c : Column) → R e (shut_in c e)
shut_same e Opening = whole e
shut_same e (Over why) = whole e
shut_same e Running = on_cond (R e) e.tx.shut _ _ (λ t. whole e) (λ f. shut_stays e)

pub close_same : (e : Endpoint) (c : Column) → R e (close_in c e)
close_same e Opening = ended_stays e reasons.Aborted
close_same e (Over why) = whole e
close_same e Running = shut_stays e

pub abort_same : (e : Endpoint) (c : Column) → R e (abort_in c e)
abort_same e Opening = ended_stays e reasons.Aborted
abort_same e (Over why) = whole e
abort_same e Running = ended_stays e reasons.Aborted

pub control_same : (e : Endpoint) (c : Column) → L e (control_in c e)
unfolding control
control_same e Running = record { stays = record { tx = same_tx e.tx; deep = λ d. refl }; peer = refl }
control_same e Opening = tt
control_same e (Over why) = tt
