-- Answers of the proof of host/CoreHost/give_record.
use Rattle.std.proofs.Common.{sym, subst}
use Rattle.core_worker.specs.Workers.{Common}
use Rattle.core_host.specs.Emission.{IsOut, IsTakenAt}
use Rattle.core_host.specs.Views.{Staffed, staffed_in}
use Rattle.core_host.proofs.Sending.{taken_out, given_to, filed_to}
use Rattle.core_host.proofs.host.CoreHost.give_record.Goals as goal

pub give_to-requires : goal.give_to-requires
give_to-requires c =
    let before : Staffed = c.requires.taken.0 in
    let v = before.host.slow.pass.view in
    let i = c.self.inside in
    record {
      given = (
        v,
        subst (λ (s : Common). IsOut s.table i.slow.pins c.args.at c.args.flow v i.slow.pass) (sym c.deref.ensures)
            (subst (λ (k : Staffed). IsOut k.shared.table k.host.slow.pins c.args.at c.args.flow v k.host.slow.pass)
            (sym c.self.view_is)
            (taken_out before c.args.self.now c.args.at c.args.flow c.requires.taken.1 c.requires.taken.2)),
      );
    }

pub returns : goal.returns
returns c = record {
  given = λ before sound taken.
      given_to c.deeds_leave_the_column.ensures.send before (staffed_in c.self.inside) c.args.at c.args.flow
      c.give_to.new.slow sound (subst (IsTakenAt c.args.at c.args.flow before) (sym c.self.view_is) taken)
      c.give_to.ensures.given c.give_to.ensures.rest;
  filed = λ before sound taken.
      filed_to c.deeds_leave_the_column.ensures.send before (staffed_in c.self.inside) c.args.at c.args.flow
      c.give_to.new.slow sound (subst (IsTakenAt c.args.at c.args.flow before) (sym c.self.view_is) taken)
      c.give_to.ensures.given c.give_to.ensures.rest;
}
