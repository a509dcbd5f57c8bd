-- Answers of the proof of host/CoreHost/take_record.
use Rattle.std.proofs.Common.{◌<◌, length, sym, subst}
use Rattle.core_host.specs.Emission.{IsPinTaken}
use Rattle.core_host.specs.Views.{Staffed}
use Rattle.core_host.proofs.Sending.{pin_there, record_there}
use Rattle.core_host.proofs.host.CoreHost.take_record.Goals as goal

pub take_from-requires-clause-at : goal.take_from-requires-clause-at
take_from-requires-clause-at c =
    subst (λ (k : Staffed). c.args.at < length k.host.slow.pins) (sym c.self.view_is)
    (pin_there c.args.self.now c.requires.there.0 c.args.at c.requires.sound c.requires.there.1)

pub returns-clause-of_place : goal.returns-clause-of_place
returns-clause-of_place c place there =
    let w = c.take_from.new.slow.pass.view in
    record_there c.args.self.now place c.args.at c.take_from.result w c.requires.sound
    (subst (λ (k : Staffed). IsPinTaken k.host.slow.pins c.args.at c.take_from.result k.host.slow.pass.view w)
    c.self.view_is c.take_from.ensures.taken) there
