-- Answers of the proof of host/CoreHost/finish.
use Rattle.std.proofs.Common.{List, map, ap, ◌∙◌}
use Rattle.flow_state.specs.Flow.{History}
use Rattle.core_worker.specs.Workers.{Common}
use Rattle.core_host.specs.Ending.{flow_left, flows_of}
use Rattle.core_host.specs.Views.{Staffed, staffed_in, seen_by}
use Rattle.core_host.proofs.Finished.{ease_as, first_as, second_as, books_as, apart_as}
use Rattle.core_host.proofs.Remaining.{flows_are}
use Rattle.core_host.proofs.host.CoreHost.finish.Goals as goal

pub leave_all-requires-clause-idle : goal.leave_all-requires-clause-idle
leave_all-requires-clause-idle g c =
    ease_as (staffed_in c.self.inside) c.args.self c.self.view_is c.requires.sound c.behind-shared.inside.table
    (ap (λ (x : Common). x.table) (c.behind-shared.view_is ∙ c.deref.ensures))

pub find_all-requires : goal.find_all-requires
find_all-requires g c =
    first_as (staffed_in c.self.inside) c.args.self c.self.view_is c.requires.sound
    c.end-pass.result.pass c.leave_all.new.slow c.end-pass.ensures.pass
    c.leave_all.ensures c.behind-shared-2.inside.table c.end-pass.result.pins.list
    (ap (λ (x : Common). x.table) (c.behind-shared-2.view_is ∙ c.deref-2.ensures)) c.end-pass.ensures.pins

pub find_all-requires-2 : goal.find_all-requires-2
find_all-requires-2 g c =
    second_as (staffed_in c.self.inside) c.args.self c.self.view_is c.requires.sound
    c.end-pass.result.pass c.leave_all.new.slow c.end-pass.ensures.pass
    c.leave_all.ensures c.behind-shared-2.inside.table c.end-pass.result.pins.list c.end-pass.result.doomed.list
    c.find_all.new.slow (ap (λ (x : Common). x.table) (c.behind-shared-2.view_is ∙ c.deref-2.ensures))
    c.end-pass.ensures.pins
    c.end-pass.ensures.doomed c.in_ok-find_all.ensures.freed
    c.behind-shared-3.inside.table (ap (λ (x : Common). x.table) (c.behind-shared-3.view_is ∙ c.deref-3.ensures))

pub in_order-requires : goal.in_order-requires
in_order-requires g c = (
  c.self.inside.slow.pass.view.base,
  books_as (staffed_in c.self.inside) c.args.self c.self.view_is c.requires.sound
      c.end-pass.result.pass c.leave_all.new.slow c.end-pass.ensures.pass
      c.leave_all.ensures c.behind-shared-2.inside.table c.end-pass.result.pins.list c.end-pass.result.doomed.list
      c.find_all.new.slow (ap (λ (x : Common). x.table) (c.behind-shared-2.view_is ∙ c.deref-2.ensures))
      c.end-pass.ensures.pins
      c.end-pass.ensures.doomed c.in_ok-find_all.ensures.freed
      c.new-found.result c.find_filed.new.found c.find_all.new.found c.find_all-2.new.found c.end-pass.result.filed.list
      c.new-found.ensures c.end-pass.ensures.filed c.in_ok-find_filed.ensures c.in_ok-find_all.ensures.found
      c.in_ok-find_all-2.ensures.found c.requires.filed,
  apart_as (staffed_in c.self.inside) c.args.self c.self.view_is c.requires.sound,
)

pub returns-clause-flows : goal.returns-clause-flows
returns-clause-flows g c =
    let h : Staffed = staffed_in c.self.inside in
    let found = books_as (staffed_in c.self.inside) c.args.self c.self.view_is c.requires.sound
    c.end-pass.result.pass c.leave_all.new.slow c.end-pass.ensures.pass
    c.leave_all.ensures c.behind-shared-2.inside.table c.end-pass.result.pins.list c.end-pass.result.doomed.list
    c.find_all.new.slow (ap (λ (x : Common). x.table) (c.behind-shared-2.view_is ∙ c.deref-2.ensures))
    c.end-pass.ensures.pins
    c.end-pass.ensures.doomed c.in_ok-find_all.ensures.freed
    c.new-found.result c.find_filed.new.found c.find_all.new.found c.find_all-2.new.found c.end-pass.result.filed.list
    c.new-found.ensures c.end-pass.ensures.filed c.in_ok-find_filed.ensures c.in_ok-find_all.ensures.found
    c.in_ok-find_all-2.ensures.found c.requires.filed in
    ap (λ (hs : List History). map flow_left hs)
    (c.in_ok-flows.ensures.flows h.host.slow.pass.view.base found (apart_as (staffed_in c.self.inside) c.args.self
    c.self.view_is c.requires.sound))
    ∙ (flows_are h.host.slow.pass.view.base h.host.books ∙ ap (λ (x : Staffed). flows_of (seen_by x)) c.self.view_is)
