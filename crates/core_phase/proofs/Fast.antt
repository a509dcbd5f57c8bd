-- What the fast path's segments are: they have none of SYN, FIN, RST and URG, and come in a phase that is open.
use Rattle.std.proofs.Common.{◌≡◌, ◌||◌, not, Bool, true, false, refl, sym, ap, ◌∙◌, true≢false}
use Rattle.std.specs.Prelude.{Option, Some, None, is_some, if◌then◌else◌}
use Rattle.segment_fields.specs.declared.segment.Segment.{Segment}
use Rattle.segment_fields.specs.ControlBits.{fin, syn, rst, ack, urg, has}
use Rattle.tas_model.specs.declared.entry.Phase.{Phase}
use Rattle.tas_model.specs.declared.entry.Phase.TheVariants as phases
use Rattle.tas_model.specs.declared.entry.Reason.{Reason}
use Rattle.tas_model.specs.Endpoint.{Endpoint, phase, is_closed}
use Rattle.fast_rx.specs.Exceptions.{exception, is_control, is_common}
use Rattle.fast_rx.specs.declared.fast.Why.{Why}
use Rattle.fast_rx.specs.declared.fast.Why.TheVariants as whys

-- ----- by the reason why it isn't left to the slow path
pub no_control : (p : Phase) (seg : Segment) → exception p seg ≡ None → is_control seg ≡ false
no_control p seg e = by_control (is_control seg) refl e
  where
    by_control : (b : Bool) → is_control seg ≡ b
        → (if b then Some whys.Control
        else if not (has seg.flags.0 ack) then Some whys.NoAck else if is_common p then None else Some whys.Phase)
        ≡ None
        → is_control seg ≡ false
    by_control true is h = absurd (cc h)
    by_control false is h = is

pub common_at : (p : Phase) (seg : Segment) → exception p seg ≡ None → is_common p ≡ true
common_at p seg e = by_control (is_control seg) refl e
  where
    by_phase : (b : Bool) → is_common p ≡ b → (if b then None else Some whys.Phase) ≡ None → is_common p ≡ true
    by_phase true is h = is
    by_phase false is h = absurd (cc h)

    by_ack : (b : Bool) → not (has seg.flags.0 ack) ≡ b
        → (if b then Some whys.NoAck else if is_common p then None else Some whys.Phase) ≡ None
        → is_common p ≡ true
    by_ack true is h = absurd (cc h)
    by_ack false is h = by_phase (is_common p) refl h

    rest : Option Why
    rest = if not (has seg.flags.0 ack) then Some whys.NoAck else if is_common p then None else Some whys.Phase

    by_control : (b : Bool) → is_control seg ≡ b → (if b then Some whys.Control else rest) ≡ None → is_common p ≡ true
    by_control true is h = absurd (cc h)
    by_control false is h = by_ack (not (has seg.flags.0 ack)) refl h

-- ----- bits
no_third : (a b c d : Bool) → (a || b || c || d) ≡ false → c ≡ false
no_third true b c d h = absurd (true≢false h)
no_third false true c d h = absurd (true≢false h)
no_third false false true d h = absurd (true≢false h)
no_third false false false d h = refl

pub no_reset : (p : Phase) (seg : Segment) → exception p seg ≡ None → has seg.flags.0 rst ≡ false
no_reset p seg e =
    no_third (has seg.flags.0 syn) (has seg.flags.0 fin) (has seg.flags.0 rst) (has seg.flags.0 urg)
    (no_control p seg e)

-- ----- phases
by_reason : (o : Option Reason) (e : Endpoint) → e.reason ≡ o → is_common (phase e) ≡ true → is_closed e ≡ false
by_reason None e r h = ap is_some r
by_reason (Some why) e r h =
    let closed : phase e ≡ phases.Closed = rw r refl in
    absurd (true≢false (sym h ∙ ap is_common closed))

pub common_open : (e : Endpoint) → is_common (phase e) ≡ true → is_closed e ≡ false
common_open e h = by_reason e.reason e refl h
