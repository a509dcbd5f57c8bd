use Rattle.std.proofs.Common.{◌≡◌, List, Some, set, sym, subst}
use Rattle.flow_state.specs.Calls.{seg_of}
use Rattle.host_rounds.specs.Scripts.{Site}
use Rattle.tas_runs.specs.Records.{Local}
use Rattle.tas_runs.specs.LocalScript.{Shown, Beginning, served_where}
use Rattle.local_host.specs.Script.{shown_in}
use Rattle.local_host.proofs.Places.{ok_by}
use Rattle.local_host.proofs.Serving.{seen_placed}
use Rattle.local_host.proofs.replay.LocalReplay.see.Goals as goal

pub returns : goal.returns
returns c = λ tick tuple.
    let site : Site (List Shown) = record { host = c.self.inside.host; scripts = c.self.inside.shown.items } in
    let enough : c.show_all.new.shown.items ≡ shown_in site = c.in_ok-show_all.ensures.shown site.host.flows
    (sym c.flow_count-count.ensures) in
    ok_by c.see.result
    (λ shown.
    subst
    (λ (s : Site (List Shown)).
    record { host = c.self.inside.host; scripts = set c.show_all.new.shown.items c.args.i c.see.new.self }
    ≡ served_where (Some c.args.i) Beginning tick (Local tuple (seg_of c.args.seg.now)) s)
    c.self.view_is
    (seen_placed site c.args.i tick tuple (seg_of c.args.seg.now) c.flow.result.now c.show_all.new.shown.items
    c.index_mut.result.now c.see.new.self c.flow.ensures enough c.index_mut.ensures.value shown))
    c.see.ensures
