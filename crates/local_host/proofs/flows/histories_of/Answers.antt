use Rattle.std.proofs.Common.{sym, subst}
use Rattle.host_rounds.specs.Lists.{Each}
use Rattle.local_host.specs.Live.{IsLegal}
use Rattle.local_host.proofs.Records.{history_moved, each_push, each_reverse}
use Rattle.local_host.proofs.flows.histories_of.Goals as goal

pub moving-preserved : goal.moving-preserved
moving-preserved c =
    let hs = c.moving.histories.items in
    let h = c.in_ok-history.history in
    record {
      flows = rw c.give_room_back.ensures (history_moved hs c.push.new.self.items h c.moving.flows.items
          c.pop.new.self.items c.in-Some.flow _ c.in_ok-push.ensures.items c.in_ok-history.ensures.flow
          (rw c.in-Some.is at c.pop.ensures.items) c.moving.invariant.flows);
      legal = subst (Each IsLegal) (sym c.in_ok-push.ensures.items)
          (each_push IsLegal hs h c.moving.invariant.legal c.in_ok-history.ensures.legal);
    }

pub returns-clause-legal : goal.returns-clause-legal
returns-clause-legal c =
    subst (Each IsLegal) (sym c.reverse.ensures.items)
    (each_reverse IsLegal c.moving.histories.items c.moving.invariant.legal)
