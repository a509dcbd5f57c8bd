use Rattle.std.proofs.Common.{◌≡◌, List, sym, ap, subst, ◌∙◌}
use Rattle.flow_state.specs.Calls.{seg_of}
use Rattle.host_rounds.specs.Hosts.{Host}
use Rattle.host_rounds.specs.Scripts.{Site}
use Rattle.host_rounds.specs.Rounds.{on_host}
use Rattle.tas_runs.specs.LocalScript.{Shown, connected}
use Rattle.capture_items.specs.Starts.{kept_starts}
use Rattle.local_host.proofs.Places.{ok_by}
use Rattle.local_host.proofs.Hosting.{connects_none, connects_one}
use Rattle.local_host.proofs.replay.LocalReplay.connect_where.Goals as goal

pub returns-in-Some : goal.returns-in-Some
returns-in-Some c =
    let site : Site (List Shown) = record { host = c.self.inside.host; scripts = c.self.inside.shown.items } in
    subst (λ (s : Site (List Shown)). s ≡ on_host
    (connected (kept_starts c.args.starts.now) c.args.tick c.args.tuple (seg_of c.args.seg.now)) s)
    c.self.view_is
    (ap (λ (h : Host). record site { host = h })
    (connects_none (kept_starts c.args.starts.now) c.args.tick c.args.tuple
    (seg_of c.args.seg.now) c.self.inside.host c.in-Some.field-0
    (sym c.find.ensures.place ∙ c.in-Some.is)))

pub returns-in-None : goal.returns-in-None
returns-in-None c =
    let site : Site (List Shown) = record { host = c.self.inside.host; scripts = c.self.inside.shown.items } in
    ok_by c.connect.result
    (λ made.
    subst
    (λ (s : Site (List Shown)).
    record site { host = c.connect.new.self }
    ≡ on_host (connected (kept_starts c.args.starts.now) c.args.tick c.args.tuple (seg_of c.args.seg.now)) s)
    c.self.view_is
    (ap (λ (h : Host). record site { host = h })
    (made
    ∙ connects_one (kept_starts c.args.starts.now) c.args.tick c.args.tuple (seg_of c.args.seg.now) c.self.inside.host
    (sym c.find.ensures.place ∙ c.in-None.is) (sym c.connects.ensures ∙ c.if-not-connects.false))))
    c.connect.ensures.made
