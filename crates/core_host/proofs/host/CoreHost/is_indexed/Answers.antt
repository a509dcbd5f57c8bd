-- Answers of the proof of host/CoreHost/is_indexed.
use Rattle.std.proofs.Common.{◌≡◌, ◌∙◌, sym, subst}
use Rattle.std.specs.Prelude.{Some, slice_get}
use Rattle.sound_hosts.specs.Hosts.{known_in}
use Rattle.core_host.specs.Views.{Staffed, staffed_in, seen_by}
use Rattle.core_host.proofs.Sending.{live_there}
use Rattle.core_host.proofs.host.CoreHost.is_indexed.Goals as goal

pub returns : goal.returns
returns c l is =
    let h : Staffed = staffed_in c.self.inside in
    let there = live_there (known_in h.host) h.host.books c.args.place l
    (subst (λ (k : Staffed). slice_get (seen_by k).flows c.args.place ≡ Some l) (sym c.self.view_is) is) in
    c.is_indexed.ensures there.0 there.1 ∙ there.2
