use Rattle.std.proofs.Common.{◌≡◌, List, map, subst, ◌∙◌}
use Rattle.host_rounds.specs.Scripts.{Site}
use Rattle.host_rounds.specs.SerialOrder.{serial_tick}
use Rattle.tas_runs.specs.LocalScript.{Shown, capture_scripts, due_in}
use Rattle.capture_items.specs.Items.{item_in}
use Rattle.local_host.proofs.Places.{ok_by}
use Rattle.local_host.proofs.Recording.{played}
use Rattle.local_host.proofs.replay.LocalReplay.play.Goals as goal

pub returns : goal.returns
returns c = λ items are.
    let site : Site (List Shown) = record { host = c.self.inside.host; scripts = c.self.inside.shown.items } in
    let asked : Site (List Shown) = record { host = c.self-2.inside.host; scripts = c.self-2.inside.shown.items } in
    ok_by c.send_all.result
    (λ made.
    subst
    (λ (s : Site (List Shown)).
    record asked { host = c.send_all.new.self } ≡ serial_tick (capture_scripts items) c.args.tick s
    (due_in (map item_in c.args.batch.now)))
    c.self.view_is
    (played items c.args.tick (map item_in c.args.batch.now) site c.pass_time.new.self c.deliver_all.new.self asked
    c.send_all.new.self
    c.in_ok-pass_time.ensures.made (c.in_ok-deliver_all.ensures items are)
    (c.self-2.view_is ∙ c.in_ok-serve_all.ensures items are) made))
    c.send_all.ensures.made
