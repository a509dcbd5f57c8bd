-- Answers of the proof of connecting/open_alone.
use Rattle.std.proofs.Common.{◌≡◌, refl, sym, ap, subst, rules}
use Rattle.tas_model.specs.declared.entry.Caller.TheVariants as callers
use Rattle.tas_model.specs.declared.entry.HostParams.{HostParams}
use Rattle.libtas_sockets.specs.Connecting.{Opener, first_history, opener}
use Rattle.libtas_sockets.specs.Opening.{IsOpenedAlone}
use Rattle.slow_worker.specs.Workers.{Worker}
use Rattle.core_host.specs.Connecting.{IsSlotFree}
use Rattle.core_host.proofs.Connected.{opened_is}
use Rattle.core_host.proofs.connecting.open_alone.Goals as goal

pub returns : goal.returns
returns g c =
    let i = c.slow.inside in
    let v : Worker = record {
      path = i.path;
      pass = i.pass;
      pins = i.pins.list;
      doomed = i.doomed.list;
      filed = i.filed.list;
      log = i.log;
      check_sums = i.check_sums;
      flows = i.flows.list;
      index = i.index;
      deferred = i.deferred;
      exceptions = i.exceptions;
      time = i.time;
      senders = i.senders;
      kicks = i.kicks.list;
      kickers = i.kickers;
    } in
    let a = c.args.app.now in
    let b = c.connect_alone-connected.new.self in
    let n : Opener = opener c.connect_alone-connected.new.sp c.connect_alone-connected.new.pins.list in
    let number = λ (w : Worker). g.N.NumberSource.number c.args.numbers.now c.args.tuple w.pass.view.opened in
    let by = callers.App c.args.app.now.number in
    let view : v ≡ c.args.slow.now = c.slow.view_is in
    record {
      opened = subst (λ (w : Worker). IsOpenedAlone c.flow.result
          (first_history c.args.tuple w.path.params by c.args.tick (number w)) a b (opener w.pass w.pins) n) view
          (subst (λ (p : HostParams). IsOpenedAlone c.flow.result
          (first_history c.args.tuple p by c.args.tick (number v)) a b (opener v.pass v.pins) n) c.params.ensures
          (opened_is c.args.tuple (number v) c.args.tick c.params.result.now a b v n
          c.connect_alone-connected.result c.in_ok-socket.socket c.flow.result
          (subst (λ (w : Worker). IsSlotFree w a) (sym view) c.requires.slot) c.in_ok-socket.ensures
          c.connect_alone-connected.ensures.connected c.flow.ensures));
      path = search rules;
      rest = search rules;
    }
