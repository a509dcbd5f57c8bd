-- Answers of the proof of host/CoreHost/serve.
use Rattle.std.proofs.Common.{refl}
use Rattle.core_host.specs.Views.{staffed_in}
use Rattle.core_host.proofs.Served.{on_both, serve_made}
use Rattle.core_host.proofs.host.CoreHost.serve.Goals as goal

pub returns : goal.returns
returns g c =
    let i = c.self.inside in
    let done = c.in_ok-collect_all.ensures in
    let s = c.serve_left in
    on_both s.result s.ensures.turned s.ensures.books (serve_made (staffed_in i) c.args.self.now c.deref.result.now
    (g.N.NumberSource.number c.args.numbers.now) c.args.tick i.lanes.items c.collect_all.new.lanes.items
    c.collect_all.new.slow s.new.slow s.new.books c.self.view_is refl c.deref.ensures c.requires.sound
    c.requires.later c.requires.few done.collected done.rest done.lanes s.ensures.senders s.ensures.kickers)
