use Rattle.std.proofs.Common.{◌≡◌, OnOk, subst, arith}
use Rattle.host_rounds.specs.Hosts.{Live}
use Rattle.tas_runs.specs.Records.{Content}
use Rattle.local_host.specs.Script.{asked_all, asked_live}
use Rattle.local_host.proofs.Indexing.{asked_keeps, some_content, content_remote, content_resets}
use Rattle.local_host.proofs.Standing.{asked_stays, stands_below, sound_by_change, done_by_change, ok_as}
use Rattle.local_host.proofs.Places.{read_is}
use Rattle.local_host.proofs.flows.Flows.serve.Goals as goal

pub index_mut-requires : goal.index_mut-requires
index_mut-requires c = omega (
  arith,
  stands_below c.args.i c.self.view_is c.requires.place,
  c.self.inside.table.flows.ok,
)

pub settle-requires : goal.settle-requires
settle-requires c =
    let content : Content = some_content c.args.remote c.args.resets in
    sound_by_change c.serve-done.result (asked_live c.args.tick content c.args.shown.now) c.args.i
    c.index_mut.result.now c.serve-done.new.flow
    (asked_keeps c.args.tick content c.args.shown.now) (asked_stays c.args.tick content c.args.shown.now)
    c.self.invariant c.self.view_is c.requires.place c.index_mut.ensures.value
    (c.serve-done.ensures.flow content (content_remote c.args.remote c.args.resets)
    (content_resets c.args.remote c.args.resets c.requires.apart))

pub returns-clause-flows : goal.returns-clause-flows
returns-clause-flows c = λ content remote resets.
    done_by_change c.serve-done.result c.settle.result (asked_live c.args.tick content c.args.shown.now) c.args.i
    c.index_mut.result.now c.serve-done.new.flow c.settle.new.self.flows.items c.self.view_is c.requires.place
    c.index_mut.ensures.value
    (c.serve-done.ensures.flow content remote resets) c.settle.ensures.same c.settle.ensures.flows

pub returns-clause-shown : goal.returns-clause-shown
returns-clause-shown c = λ content l remote resets here.
    let was : c.index_mut.result.now ≡ l = read_is c.self.inside.table.flows.items c.args.self.now c.args.i
    c.index_mut.result.now l c.self.view_is c.index_mut.ensures.value here in
    ok_as _ c.serve-done.result c.settle.result c.settle.ensures.same
    (subst (λ (m : Live). OnOk c.serve-done.result
    (c.serve-done.new.self ≡ (asked_all c.args.tick content (record { live = m; shown = c.args.shown.now })).shown))
    was (c.serve-done.ensures.shown content remote resets))
