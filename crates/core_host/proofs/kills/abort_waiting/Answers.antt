-- Answers of the proof of kills/abort_waiting.
use Rattle.std.proofs.Common.{◌≡◌, ◌<◌, not, length, sym, ap, ◌∙◌, subst}
use Rattle.std.specs.Prelude.{None, Some, slice_get}
use Rattle.std.specs.List.{filter}
use Rattle.atomic_table.specs.Seated.{TableId}
use Rattle.app_reaper.specs.Reaping.{IsAborted}
use Rattle.slow_handshake.specs.Openings.{Openings, is_named, waiting_for}
use Rattle.slow_handshake.specs.declared.openings.PassiveFlow.{PassiveFlow}
use Rattle.slow_worker.specs.Workers.{Worker}
use Rattle.sound_hosts.specs.Moving.{with_slow}
use Rattle.core_host.proofs.Waiting.{HasItsPin, end_part, fewer_wait, its_pin, walk_goes, walk_starts}
use Rattle.core_host.proofs.kills.abort_waiting.Goals as goal

pub loop-id-init : goal.loop-id-init
loop-id-init c = walk_starts c.args.app c.args.tick c.args.shared.now.table c.args.slow.now c.requires

pub abort_one-requires-clause-pass : goal.abort_one-requires-clause-pass
abort_one-requires-clause-pass c =
    let some = c.loop-id.invariant.some in
    (some.3.sound.sound.0.ready.0 ∙ some.1, some.3.sound.alone)

pub abort_one-requires-clause-idle : goal.abort_one-requires-clause-idle
abort_one-requires-clause-idle c = c.loop-id.invariant.some.3.sound.sound.0.ready.2

pub abort_one-requires-clause-pin : goal.abort_one-requires-clause-pin
abort_one-requires-clause-pin c =
    let w = c.loop-id.slow in
    let some = c.loop-id.invariant.some in
    let first : slice_get (waiting_for w.path c.args.app) 0 ≡ Some c.in-Some.id =
    ap (λ (s : Worker). slice_get (waiting_for s.path c.args.app) 0) (sym c.slow.view_is)
    ∙ (sym c.waiting.ensures ∙ c.in-Some.is) in
    let pin = its_pin (with_slow w some.0) some.3.sound c.args.app c.in-Some.id first in
    (pin.place, pin.first, pin.at)

pub abort_one-requires-clause-has : goal.abort_one-requires-clause-has
abort_one-requires-clause-has c =
    let w = c.loop-id.slow in
    let some = c.loop-id.invariant.some in
    let first : slice_get (waiting_for w.path c.args.app) 0 ≡ Some c.in-Some.id =
    ap (λ (s : Worker). slice_get (waiting_for s.path c.args.app) 0) (sym c.slow.view_is)
    ∙ (sym c.waiting.ensures ∙ c.in-Some.is) in
    let pin = its_pin (with_slow w some.0) some.3.sound c.args.app c.in-Some.id first in
    (pin.pin, subst (λ (t : TableId). c.in-Some.id.slot < t.slots) some.1 pin.low)

pub loop-id-smaller : goal.loop-id-smaller
loop-id-smaller c =
    let w = c.loop-id.slow in
    let first : slice_get (waiting_for w.path c.args.app) 0 ≡ Some c.in-Some.id =
    ap (λ (s : Worker). slice_get (waiting_for s.path c.args.app) 0) (sym c.slow.view_is)
    ∙ (sym c.waiting.ensures ∙ c.in-Some.is) in
    let path : c.left.new.self
    ≡ record (w.path) { flows = filter (λ (f : PassiveFlow). not (is_named c.in-Some.id f)) w.path.flows } =
    c.left.ensures
    ∙ ap (λ (s : Worker). record (s.path) {
      flows = filter (λ (f : PassiveFlow). not (is_named c.in-Some.id f)) s.path.flows;
    }) (c.slow-in-Some.view_is ∙ c.in_ok-abort_one.ensures.rest) in
    subst (λ (o : Openings). length o.flows < length w.path.flows) (sym path)
    (fewer_wait w.path.listeners c.args.app w.path.flows c.in-Some.id first)

pub loop-id-preserved : goal.loop-id-preserved
loop-id-preserved c =
    let w = c.loop-id.slow in
    let y = c.abort_one.new.slow in
    let p = c.left.new.self in
    let first : slice_get (waiting_for w.path c.args.app) 0 ≡ Some c.in-Some.id =
    ap (λ (s : Worker). slice_get (waiting_for s.path c.args.app) 0) (sym c.slow.view_is)
    ∙ (sym c.waiting.ensures ∙ c.in-Some.is) in
    let path : p
    ≡ record (w.path) { flows = filter (λ (f : PassiveFlow). not (is_named c.in-Some.id f)) w.path.flows } =
    c.left.ensures
    ∙ ap (λ (s : Worker). record (s.path) {
      flows = filter (λ (f : PassiveFlow). not (is_named c.in-Some.id f)) s.path.flows;
    }) (c.slow-in-Some.view_is ∙ c.in_ok-abort_one.ensures.rest) in
    let pass = ap (λ (s : Worker). s.pass) (sym c.slow-in-Some.view_is) in
    walk_goes c.args.app c.args.tick c.args.shared.now.table c.args.slow.now w _ c.in-Some.id c.loop-id.invariant first
    (subst (λ (s : Worker). IsAborted c.args.tick c.in-Some.id w.pass.view s.pass.view) (sym c.slow-in-Some.view_is)
    c.in_ok-abort_one.ensures.aborted)
    (ap (λ (s : Worker). s.pass.table) c.slow-in-Some.view_is ∙ c.in_ok-abort_one.ensures.table)
    (ap (λ (s : Worker). record s { path = p }) (c.slow-in-Some.view_is ∙ c.in_ok-abort_one.ensures.rest)
    ∙ λ i. record w { pass = pass i; path = path i })

pub returns : goal.returns
returns c = λ h on slow sound.
    end_part c.args.app c.args.tick h c.loop-id.slow (c.loop-id.invariant.all h on slow sound)
    (ap (λ (s : Worker). slice_get (waiting_for s.path c.args.app) 0) (sym c.slow.view_is)
    ∙ (sym c.waiting.ensures ∙ c.in_default.is))
