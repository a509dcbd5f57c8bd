-- A frame that the slow path receives alone: for the law frames_alone_keep_it.
use Rattle.std.proofs.Common.{◌≡◌, sym, ap, ◌∙◌, subst}
use Rattle.segment_fields.specs.declared.segment.Segment.{Segment}
use Rattle.tas_model.specs.declared.entry.Caller.TheVariants.{Slow}
use Rattle.tas_model.specs.declared.entry.FlowId.{FlowId}
use Rattle.tas_model.specs.declared.entry.FrameId.{FrameId}
use Rattle.flow_state.specs.Calls.{call_of, offer_of}
use Rattle.flow_state.specs.declared.call.CallIn.TheVariants.{Rx}
use Rattle.flow_state.specs.Flow.{Flow}
use Rattle.flow_lock.specs.Orders.{known_of}
use Rattle.flow_lock.specs.declared.view.History.{History}
use Rattle.app_reaper.specs.OneCall.{history}
use Rattle.slow_worker.specs.Entering.{received, IsReceived}
use Rattle.slow_worker.specs.Workers.{Worker, Sight, Setting, IsSound, sight_of, with_sight}
use Rattle.sound_hosts.specs.Hosts.{CoreHost, known_in}
use Rattle.sound_hosts.specs.Leading.{LedOn}
use Rattle.sound_hosts.specs.Moving.{with_slow}
use Rattle.sound_hosts.specs.Sound.{IsHostSound}
use Rattle.sound_hosts.proofs.OneFlow.{used_leads, led_sound}
use Rattle.sound_hosts.proofs.Calls.{call_leads}

pub frame_sound : (h : CoreHost) (w : Worker) (at : Setting) (frame : FrameId) (seg : Segment) (id : FlowId)
    → IsHostSound h → IsReceived at frame seg id (sight_of h.slow) (sight_of w)
    → sight_of w ≡ record (sight_of h.slow) { path = w.path; pass = w.pass; senders = w.senders; kicks = w.kicks }
    → w ≡ with_sight (sight_of w) h.slow → IsSound h.table (sight_of w) → IsHostSound (with_slow w h)
frame_sound h w at frame seg id sound got after rest kept =
    let r : Flow = got.flow in
    let k : History = received at.tick frame seg r in
    let all : w ≡ record (h.slow) { path = w.path; pass = w.pass; senders = w.senders; kicks = w.kicks } =
    rest ∙ ap (λ (s : Sight). with_sight s h.slow) after in
    let log : h.slow.log ≡ w.log = sym (ap (λ (x : Worker). x.log) all) in
    let kickers : h.slow.kickers ≡ w.kickers = sym (ap (λ (x : Worker). x.kickers) all) in
    let own : history r ≡ known_of id (known_in h) = got.own.known sound.alone in
    led_sound h w id k sound
    (subst (λ (x : History). LedOn x k) own
    (call_leads (history r) Slow at.tick (call_of (Rx frame seg)) (offer_of (Rx frame seg)) got.own.legal))
    (record {
      view = used_leads id r k h.slow.pass.view w.pass.view sound.alone got.given;
      path = got.path;
      rest = all ∙ (λ i. record (h.slow) {
        path = w.path;
        pass = w.pass;
        log = log i;
        senders = w.senders;
        kicks = w.kicks;
        kickers = kickers i;
      });
    })
    kept
