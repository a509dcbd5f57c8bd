-- Answers of the proof of script/AppScript/attempt_at.
use Rattle.std.proofs.Common.{refl}
use Rattle.flow_state.specs.declared.call.CallIn.TheVariants as ins
use Rattle.scenario_text.specs.declared.scenario.Step.TheVariants as steps
use Rattle.scenario_host.proofs.Trials.{text_trial, fill_trial, recv_trial, drain_trial, plain_trial}
use Rattle.scenario_host.proofs.script.AppScript.attempt_at.Goals as goal

pub returns-in-Send : goal.returns-in-Send
returns-in-Send c = record {
  call =
      text_trial c.args.step.now c.in-Send.socket c.in-Send.text c.as_slice-in-Send.result.now c.as_slice.result.now
      c.done.result c.args.self.now _ c.try_on.result c.in-Send.is c.requires.range c.as_slice-in-Send.ensures
      c.as_slice.ensures c.done.ensures refl c.try_on.ensures.on c.try_on.ensures.none;
}

pub returns-in-Fill : goal.returns-in-Fill
returns-in-Fill c = record {
  call =
      fill_trial c.args.step.now c.in-Fill.socket c.as_slice-in-Fill.result.now c.rest-bytes.result.now c.in-Fill.count
      c.done-in-Fill.result c.args.self.now _ c.try_on-in-Fill.result c.in-Fill.is c.as_slice-in-Fill.ensures
      c.rest-bytes.ensures c.done-in-Fill.ensures refl c.try_on-in-Fill.ensures.on c.try_on-in-Fill.ensures.none;
}

pub returns-in-Recv : goal.returns-in-Recv
returns-in-Recv c = record {
  call =
      recv_trial c.args.step.now c.in-Recv.socket c.as_slice-in-Recv.result.now c.in-Recv.count c.done-in-Recv.result
      c.asks_for-most.result c.args.self.now _ c.try_on-in-Recv.result c.in-Recv.is c.as_slice-in-Recv.ensures
      c.asks_for-most.ensures c.done-in-Recv.ensures refl c.try_on-in-Recv.ensures.on c.try_on-in-Recv.ensures.none;
}

pub returns-in-Drain : goal.returns-in-Drain
returns-in-Drain c = record {
  call =
      drain_trial c.args.step.now c.in-Drain.socket c.as_slice-in-Drain.result.now c.done-in-Drain.result
      c.asks_for-most-in-Drain.result c.args.self.now _ c.try_on-in-Drain.result c.in-Drain.is
      c.as_slice-in-Drain.ensures c.asks_for-most-in-Drain.ensures c.done-in-Drain.ensures refl
      c.try_on-in-Drain.ensures.on c.try_on-in-Drain.ensures.none;
}

pub returns-in-Shut : goal.returns-in-Shut
returns-in-Shut c = record {
  call =
      plain_trial c.args.step.now (steps.Shut c.in-Shut.socket) c.in-Shut.socket c.as_slice-in-Shut.result.now ins.Shut
      c.args.self.now c.try_on-in-Shut.result c.in-Shut.is (λ o t. t) c.as_slice-in-Shut.ensures
      c.try_on-in-Shut.ensures.on c.try_on-in-Shut.ensures.none;
}

pub returns-in-Close : goal.returns-in-Close
returns-in-Close c = record {
  call =
      plain_trial c.args.step.now (steps.Close c.in-Close.socket) c.in-Close.socket c.as_slice-in-Close.result.now
      ins.Close c.args.self.now c.try_on-in-Close.result c.in-Close.is (λ o t. t) c.as_slice-in-Close.ensures
      c.try_on-in-Close.ensures.on c.try_on-in-Close.ensures.none;
}

pub returns-in-Abort : goal.returns-in-Abort
returns-in-Abort c = record {
  call =
      plain_trial c.args.step.now (steps.Abort c.in-Abort.socket) c.in-Abort.socket c.as_slice-in-Abort.result.now
      ins.Abort c.args.self.now c.try_on-in-Abort.result c.in-Abort.is (λ o t. t) c.as_slice-in-Abort.ensures
      c.try_on-in-Abort.ensures.on c.try_on-in-Abort.ensures.none;
}
