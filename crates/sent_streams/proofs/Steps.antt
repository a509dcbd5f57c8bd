-- What every step leaves of what the endpoint knows of its peer.
use Rattle.std.proofs.Common.{◌≡◌, ℕ, ◌+◌, ◌*◌, Bool, true, false, not, ◌&&◌, List, length, Option, Some, None, refl}
use Rattle.std.proofs.Common.{sym, subst, ltb, leb, eqb}
use Rattle.tas_model.proofs.Tests.{on_cond}
use Rattle.tas_model.specs.declared.entry.Phase.{Phase}
use Rattle.tas_model.specs.declared.entry.Phase.TheVariants as phases
use Rattle.tas_model.specs.declared.entry.Call.{Call}
use Rattle.tas_model.specs.declared.entry.Call.TheVariants as calls
use Rattle.tas_model.specs.declared.entry.Reply.{Reply}
use Rattle.tas_model.specs.Endpoint.{Endpoint, phase}
use Rattle.tas_model.specs.Segments.{Outcome}
use Rattle.tas_model.specs.ApplicationCalls.{Column, Opening, Over, Running, column}
use Rattle.tas_model.specs.NextSegment.{Going, going, going_in, emitted, waiting, data_len}
use Rattle.tas_model.specs.Timers.{ticks, tick_in, ticked, is_armed, patience, probes, filled}
use Rattle.tas_model.specs.LegalHistory.{step, state_or, taken_bytes}
use Rattle.sent_streams.proofs.Stays.{Knows, Tells, Hears, StaysWhole, L, rx_hears, accept_same, ready_same, send_same}
use Rattle.sent_streams.proofs.Stays.{recv_same, shut_same, close_same, abort_same, control_same}

-- what a call tells of the peer's first number: a segment that is taken does
abbrev pub ToldBy : (ℕ → Type 0) → Call → Type 0
ToldBy Q (calls.Rx frame seg) = Tells Q seg
ToldBy Q _ = Unit {0}

abbrev PeerStays : Endpoint → Option Outcome → Type 0
PeerStays e None = Unit {0}
PeerStays e (Some o) = o.state.peer ≡ e.peer

abbrev G : Endpoint → Option Going → Type 0
G e None = Unit {0}
G e (Some g) = g.after.peer ≡ e.peer

going_peer : (e : Endpoint) (c : Column) → G e (going_in c e)
going_peer e (Over why) = tt
going_peer e Opening = on_cond (G e) (eqb e.tx.nxt 0) _ _ (λ t. refl) (λ f. tt)
going_peer e Running =
    on_cond (G e) (ltb 0 (data_len e)) _ _ (λ t. refl)
    (λ f. on_cond (G e) (e.tx.probe && eqb e.tx.window 0 && eqb e.tx.nxt e.tx.una && ltb 0 (waiting e.tx)) _ _
    (λ t. refl)
    (λ g. on_cond (G e) (e.tx.shut && eqb e.tx.nxt (1 + length e.tx.out)) _ _ (λ t. refl) (λ h. tt)))

emit_peer : (e : Endpoint) (o : Option Going) → G e o → PeerStays e (emitted o)
emit_peer e None g = tt
emit_peer e (Some x) g = g

ticked_peer : (e : Endpoint) → (ticked e).state.peer ≡ e.peer
ticked_peer e =
    on_cond (λ (o : Outcome). o.state.peer ≡ e.peer) (not (is_armed e.tx)) _ _ (λ t. refl)
    (λ f. on_cond (λ (o : Outcome). o.state.peer ≡ e.peer) (ltb (e.tx.age + 1) (patience e)) _ _ (λ t. refl)
    (λ g. on_cond (λ (o : Outcome). o.state.peer ≡ e.peer) (eqb (e.tx.tries + 1) 9) _ _ (λ t. refl)
    (λ h. on_cond (λ (o : Outcome). o.state.peer ≡ e.peer) (probes e) _ _ (λ t. refl) (λ k. refl))))

tick_peer : (ph : Phase) (e : Endpoint) (tick : ℕ) → PeerStays e (tick_in ph e tick)
tick_peer phases.Closed e tick = tt
tick_peer phases.TimeWait e tick =
    on_cond (λ (o : Outcome). o.state.peer ≡ e.peer) (leb (4 * e.params.rto) _) _ _ (λ t. refl) (λ f. refl)
tick_peer _ e tick = ticked_peer e

peer_known : (Q : ℕ → Type 0) (e : Endpoint) (o : Option Outcome) → PeerStays e o → Knows Q e.peer
    → Knows Q (state_or e o).peer
peer_known Q e None s k = k
peer_known Q e (Some o) s k = subst (Knows Q) (sym s) k

whole_peer : (e : Endpoint) (o : Option Outcome) → L e o → PeerStays e o
whole_peer e None s = tt
whole_peer e (Some o) s = s.peer

pub step_knows : (Q : ℕ → Type 0) (e : Endpoint) (tick : ℕ) (call : Call) (reply : Reply) → ToldBy Q call
    → Knows Q e.peer
    → Knows Q (state_or e (step e tick call reply)).peer
unfolding step going ticks
step_knows Q e tick (calls.Connect iss) reply told k = k
step_knows Q e tick (calls.Passive frame iss seg) reply told k = k
step_knows Q e tick (calls.Rx frame seg) reply told k = (rx_hears Q e tick seg told).peer k
step_knows Q e tick calls.Emit reply told k =
    peer_known Q e (emitted (going_in (column e) e)) (emit_peer e (going_in (column e) e) (going_peer e (column e))) k
step_knows Q e tick calls.Tick reply told k =
    peer_known Q e (tick_in (phase e) (record e { rate = filled e.rate }) tick)
    (tick_peer (phase e) (record e { rate = filled e.rate }) tick) k
step_knows Q e tick calls.Control reply told k = peer_known Q e _ (whole_peer e _ (control_same e (column e))) k
step_knows Q e tick calls.Accept reply told k = peer_known Q e _ (whole_peer e _ (accept_same e (column e))) k
step_knows Q e tick calls.Ready reply told k = subst (Knows Q) (sym (ready_same e (column e)).peer) k
step_knows Q e tick (calls.Send offered) reply told k =
    peer_known Q e _ (whole_peer e _ (send_same e (column e) offered (taken_bytes reply))) k
step_knows Q e tick (calls.Recv most) reply told k = subst (Knows Q) (sym (recv_same e (column e) most).peer) k
step_knows Q e tick calls.Shut reply told k = subst (Knows Q) (sym (shut_same e (column e)).peer) k
step_knows Q e tick calls.Close reply told k = subst (Knows Q) (sym (close_same e (column e)).peer) k
step_knows Q e tick calls.Abort reply told k = subst (Knows Q) (sym (abort_same e (column e)).peer) k
