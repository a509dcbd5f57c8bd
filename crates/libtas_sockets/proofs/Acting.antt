-- What stays over a step of an application's pass: its right to act, its pins, and that it holds nothing.
use Rattle.std.proofs.Common.{◌≡◌, ℕ, ap, ◌∙◌, List, [], ◌∷◌, inl, inr}
use Rattle.tas_model.specs.declared.entry.FlowId.{FlowId}
use Rattle.tas_model.specs.declared.entry.Reply.{Reply}
use Rattle.std.specs.Prelude.{Option, Some, None}
use Rattle.flow_state.specs.declared.call.CallIn.{CallIn}
use Rattle.flow_state.specs.Flow.{Flow}
use Rattle.flow_lock.specs.Answers.{IsPinned}
use Rattle.flow_lock.specs.Steps.{MayAct, noted, unpinned}
use Rattle.flow_lock.specs.declared.view.Deed.{Deed}
use Rattle.flow_lock.specs.declared.view.History.{History}
use Rattle.flow_lock.specs.declared.view.View.{View}
use Rattle.flow_lock.proofs.Calling.{still_turn}
use Rattle.app_reaper.specs.OneCall.{IsUse, IsCallRefused}
use Rattle.app_reaper.specs.declared.one_call.CallFault.{CallFault}
use Rattle.app_reaper.specs.declared.one_call.CallFault.TheVariants as faults
use Rattle.libtas_sockets.specs.Apps.{Application}
use Rattle.libtas_sockets.specs.Calling.{HasCalled}
use Rattle.libtas_sockets.specs.declared.socket.Socket.{Socket}

pub may_still : (v w : View) (ds : List Deed) (won lost : List FlowId) → w.turns ≡ noted ds won lost v.turns
    → w.baton ≡ v.baton → w.made ≡ v.made → MayAct v → MayAct w
may_still v w ds won lost t b m (inl turn) = inl (still_turn v w ds won lost t turn)
may_still v w ds won lost t b m (inr alone) = inr (b ∙ alone.0, t ∙ ap (noted ds won lost) alone.1, m ∙ alone.2)

pub may_too : (v w : View) → w.turns ≡ v.turns → w.baton ≡ v.baton → w.made ≡ v.made → MayAct v → MayAct w
may_too v w t b m (inl turn) = inl (turn.0, turn.1, t ∙ turn.2)
may_too v w t b m (inr alone) = inr (b ∙ alone.0, t ∙ alone.1, m ∙ alone.2)

-- ----- one record is taken and given back
pub use_acts : (f : FlowId) (r : Flow) (h : History) (v w : View) → IsUse f r h v w → MayAct v → MayAct w
use_acts f r h v w u may = may_still v w _ [] [] (ap (λ (x : View). x.turns) u.3) (ap (λ (x : View). x.baton) u.3)
    (ap (λ (x : View). x.made) u.3) may

pub use_pins : (f : FlowId) (r : Flow) (h : History) (v w : View) → IsUse f r h v w → w.pins ≡ v.pins
use_pins f r h v w u = ap (λ (x : View). x.pins) u.3

pub use_idle : (f : FlowId) (r : Flow) (h : History) (v w : View) → IsUse f r h v w → w.held ≡ []
use_idle f r h v w u = ap (λ (x : View). x.held) u.3

-- ----- a call that wasn't made
pub fault_acts : (f : FlowId) (e : CallFault) (v w : View) → IsCallRefused f v w e → MayAct v → MayAct w
fault_acts f (faults.Busy x) v w r may =
    may_too v w (ap (λ (y : View). y.turns) r.0.1) (ap (λ (y : View). y.baton) r.0.1)
    (ap (λ (y : View). y.made) r.0.1) may
fault_acts f faults.OutOfMemory v w r may = use_acts f r.0 _ v w r.2 may

-- ----- a pin
pub pin_acts : (f : FlowId) (v w : View) → IsPinned f v w → MayAct v → MayAct w
pin_acts f v w p may = may_still v w [] (f ∷ []) [] (ap (λ (x : View). x.turns) p.3) (ap (λ (x : View). x.baton) p.3)
    (ap (λ (x : View). x.made) p.3) may

pub unpin_acts : (f : FlowId) (v w : View) → w ≡ unpinned f v → MayAct v → MayAct w
unpin_acts f v w e may = may_still v w [] [] (f ∷ []) (ap (λ (x : View). x.turns) e) (ap (λ (x : View). x.baton) e)
    (ap (λ (x : View). x.made) e) may

-- ----- a call on a socket
pub call_acts : (a b : Application) (s : Socket) (tick : ℕ) (call : CallIn) (o : Option CallFault)
    (told : Reply → Type 0) → HasCalled a b s tick call o told → MayAct a.pass.view → MayAct b.pass.view
call_acts a b s tick call None told h may = let i = h.0.1 in use_acts _ i.flow _ a.pass.view b.pass.view i.given may
call_acts a b s tick call (Some e) told h may = fault_acts _ e a.pass.view b.pass.view h.0 may
