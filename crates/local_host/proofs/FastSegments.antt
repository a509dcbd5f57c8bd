-- The fast path takes exactly the segments that the rules of a run call fast.
use Rattle.std.proofs.Common.{◌≡◌, ℕ, Bool, true, false, not, ◌&&◌, Option, Some, None, IsSome, is_some, refl, ap, ◌∙◌}
use Rattle.std.specs.Prelude.{◌↔◌, if◌then◌else◌}
use Rattle.segment_fields.specs.declared.segment.Segment.{Segment}
use Rattle.tas_model.specs.declared.entry.Caller.TheVariants.{Slow, Core}
use Rattle.tas_model.specs.declared.entry.FrameId.{FrameId}
use Rattle.tas_model.specs.declared.entry.Phase.{Phase}
use Rattle.tas_model.specs.declared.entry.Phase.TheVariants as phases
use Rattle.tas_model.specs.declared.entry.Seg.{Seg}
use Rattle.tas_model.specs.Endpoint.{Endpoint, phase}
use Rattle.flow_state.specs.Calls.{seg_of}
use Rattle.flow_state.specs.declared.call.Answer.{Answer}
use Rattle.fast_rx.specs.Exceptions.{exception, is_control, is_common}
use Rattle.fast_rx.specs.declared.fast.Why.{Why}
use Rattle.fast_rx.specs.declared.fast.Why.TheVariants as whys
use Rattle.host_rounds.specs.Hosts.{Live, endpoint}
use Rattle.host_rounds.specs.Deliveries.{received, is_open_phase, is_fast}
use Rattle.local_host.specs.Arriving.{taking_in}
use Rattle.local_host.specs.declared.arrival.Taking as code_taking
use Rattle.local_host.specs.declared.arrival.Taking.TheVariants as takings
use Rattle.segment_fields.specs.ControlBits.{ack, has}

same_phases : (p : Phase) → is_common p ≡ is_open_phase p
same_phases phases.SynSent = refl
same_phases phases.SynReceived = refl
same_phases phases.Established = refl
same_phases phases.FinWait1 = refl
same_phases phases.FinWait2 = refl
same_phases phases.CloseWait = refl
same_phases phases.Closing = refl
same_phases phases.LastAck = refl
same_phases phases.TimeWait = refl
same_phases phases.Closed = refl

-- an answer comes where no exception is found
by_tests : (o : Option Answer) (control acks common : Bool)
    → (IsSome o
    ↔ ◌≡◌ {A = Option Why}
    (if control then Some whys.Control
    else if not acks then Some whys.NoAck else if common then None else Some whys.Phase) None)
    → is_some o ≡ (not control && acks && common)
by_tests None true acks common h = refl
by_tests None false false common h = refl
by_tests None false true false h = refl
by_tests None false true true h = h.1 refl
by_tests (Some a) true acks common h = absurd (cc (h.0 refl))
by_tests (Some a) false false common h = absurd (cc (h.0 refl))
by_tests (Some a) false true false h = absurd (cc (h.0 refl))
by_tests (Some a) false true true h = refl

pub fast_answers : (o : Option Answer) (p : Phase) (e : Endpoint) (seg : Segment) → p ≡ phase e
    → (IsSome o ↔ exception p seg ≡ None) → is_some o ≡ is_fast e (seg_of seg)
fast_answers o p e seg same h =
    by_tests o (is_control seg) (has seg.flags.0 ack) (is_common p) h
    ∙ ap (λ (b : Bool). not (is_control seg) && has seg.flags.0 ack && b) (same_phases p ∙ ap is_open_phase same)

-- what was taken was received as in serial order
pub took_serially : (l m : Live) (t : ℕ) (frame : FrameId) (seg : Seg) (taking : code_taking.Taking) (taken : Bool)
    → taking ≡ takings.Serially → taken ≡ true → taken ≡ is_fast (endpoint l) seg
    → m ≡ (if taken then received (Core 0) t frame seg l else l)
    → m ≡ taking_in taking t frame seg l
took_serially l m t frame seg takings.Serially true serial took fast made =
    made ∙ ap (λ (b : Bool). received (if b then Core 0 else Slow) t frame seg l) fast
took_serially l m t frame seg takings.Serially false serial took fast made = absurd (cc (took))
took_serially l m t frame seg takings.Slowly taken serial took fast made = absurd (cc (serial))
