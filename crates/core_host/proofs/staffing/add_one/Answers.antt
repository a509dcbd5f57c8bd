-- Answers of the proof of staffing/add_one.
use Rattle.std.proofs.Common.{◌≡◌, ◌+◌, drop, length, sym, ap, ◌∙◌, subst}
use Rattle.host_rounds.specs.Lists.{Each}
use Rattle.core_worker.specs.Workers as cores
use Rattle.shared_host.specs.Applications.{new_sender}
use Rattle.slow_worker.specs.Workers.{Worker}
use Rattle.core_host.specs.Staffing.{IsManned, IsUnused}
use Rattle.core_host.proofs.Hiring.{added_manned, are_guests, given_length, manned_as, still_few, written}
use Rattle.core_host.proofs.staffing.add_one.Goals as goal

pub add_app-requires-clause-senders : goal.add_app-requires-clause-senders
add_app-requires-clause-senders c =
    subst (Each (cores.HasSenders c.args.shared.now)) (sym c.as_mut_slice.ensures.value)
    (are_guests c.args.shared.now 0 c.args.workers.now.items c.requires.manned.4.cores)

pub returns-clause-manned : goal.returns-clause-manned
returns-clause-manned c params n passes is =
    let shared = c.args.shared.now in
    let slow = c.args.slow.now in
    let old = c.args.workers.now in
    let ws = c.as_mut_slice.result.now in
    let new = c.add_app.new.cores in
    let number = c.args.number in
    let line = c.in_ok-app.app.notes.line in
    let added = c.in_ok-app.ensures in
    let d = c.add_app.new.shared in
    let w = c.add_app.new.slow in
    let t = c.take_turn.new.slow in
    let may = c.requires.manned in
    let long : length new ≡ old.len =
    given_length number line 0 ws new added.given ∙ c.as_mut_slice.ensures.len in
    manned_as params n (1 + passes) d _ new _ (written new (drop (length new) old.items) old.len long)
    (added_manned params n passes number line (new_sender number line (length ws)) shared d slow w _ ws new t
    (subst (IsManned params n passes shared slow) (sym c.as_mut_slice.ensures.value) is)
    (still_few params may.0 n may.1 passes may.2 shared slow old.items old.items is may.4 may.3)
    added.added added.slow added.given added.senders added.slow_senders
    (ap (λ (y : Worker). record y { pass = t }) c.slow.view_is)
    (c.take_turn.ensures.table ∙ ap (λ (y : Worker). y.pass.table) c.slow.view_is)
    (λ slots out u. c.take_turn.ensures.unused slots out
    (subst (λ (y : Worker). IsUnused slots out y.pass.view) (sym c.slow.view_is) u)) c.take_turn.ensures.alone)
