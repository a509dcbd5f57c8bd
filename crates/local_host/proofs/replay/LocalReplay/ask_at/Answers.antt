use Rattle.std.proofs.Common.{◌≡◌, List, Some, set, slice_get, sym, ap, subst, arith}
use Rattle.host_rounds.specs.Scripts.{Site}
use Rattle.tas_runs.specs.LocalScript.{Shown}
use Rattle.local_host.specs.Script.{asked_at, shown_in}
use Rattle.local_host.proofs.Places.{ok_both}
use Rattle.local_host.proofs.Serving.{asked_placed}
use Rattle.local_host.proofs.Standing.{stands_below}
use Rattle.local_host.proofs.replay.LocalReplay.ask_at.Goals as goal

pub index_mut-requires : goal.index_mut-requires
index_mut-requires c =
    omega (
      arith,
      stands_below c.args.i (ap (λ (s : Site (List Shown)). s.host.flows) c.self.view_is) c.requires.place,
      c.in_ok-show_all.ensures.len,
      c.flow_count-count.ensures,
      c.show_all.new.shown.ok,
    )

pub returns : goal.returns
returns c = λ content l remote resets here.
    let site : Site (List Shown) = record { host = c.self.inside.host; scripts = c.self.inside.shown.items } in
    let at : slice_get site.host.flows c.args.i ≡ Some l =
    subst (λ (s : Site (List Shown)). slice_get s.host.flows c.args.i ≡ Some l) (sym c.self.view_is) here in
    let enough : c.show_all.new.shown.items ≡ shown_in site = c.in_ok-show_all.ensures.shown site.host.flows
    (sym c.flow_count-count.ensures) in
    ok_both c.serve.result
    (λ served shown.
    subst
    (λ (s : Site (List Shown)).
    record { host = c.serve.new.self; scripts = set c.show_all.new.shown.items c.args.i c.serve.new.shown }
    ≡ asked_at c.args.i l c.args.tick content s)
    c.self.view_is
    (asked_placed site c.args.i c.args.tick content l c.show_all.new.shown.items c.index_mut.result.now
    c.serve.new.shown c.serve.new.self
    at enough c.index_mut.ensures.value served shown))
    (c.serve.ensures.host content remote resets) (c.serve.ensures.shown content l remote resets at)
