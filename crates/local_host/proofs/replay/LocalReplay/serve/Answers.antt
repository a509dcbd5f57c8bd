use Rattle.std.proofs.Common.{refl, sym, ap, ◌∙◌}
use Rattle.flow_state.specs.Calls.{seg_of}
use Rattle.host_rounds.specs.Hosts.{Starts}
use Rattle.tas_runs.specs.Records.{Remote, Local}
use Rattle.capture_items.specs.declared.item.Content as code
use Rattle.capture_items.specs.Items.{content_in}
use Rattle.capture_items.specs.Starts.{kept_starts}
use Rattle.local_host.specs.Script.{served_later, served_whole}
use Rattle.local_host.proofs.Places.{ok_by}
use Rattle.local_host.proofs.Recording.{whole_damaged, whole_remote, whole_local}
use Rattle.local_host.proofs.replay.LocalReplay.serve.Goals as goal

pub returns-in-Damaged : goal.returns-in-Damaged
returns-in-Damaged c =
    let starts : Starts = kept_starts c.args.starts.now in
    whole_damaged starts c.args.tick _ c.args.self.now
    ∙ ap (λ (k : code.Content). served_whole starts c.args.tick (content_in k) c.args.self.now) (sym c.in-Damaged.is)

pub returns-in-Remote : goal.returns-in-Remote
returns-in-Remote c =
    let starts : Starts = kept_starts c.args.starts.now in
    ok_by c.ask.result
    (λ made.
    made
    ∙ (whole_remote starts c.args.tick c.in-Remote.tuple (seg_of c.in-Remote.field-1) c.args.self.now
    ∙ ap (λ (k : code.Content). served_whole starts c.args.tick (content_in k) c.args.self.now) (sym c.in-Remote.is)))
    (c.ask.ensures (Remote c.in-Remote.tuple (seg_of c.in-Remote.field-1)) refl refl)

pub returns-in_ok-begin-in-Local : goal.returns-in_ok-begin-in-Local
returns-in_ok-begin-in-Local c =
    let starts : Starts = kept_starts c.args.starts.now in
    ok_by c.ask-in-Local.result
    (λ made.
    made
    ∙ (ap (served_later c.args.tick (Local c.in-Local.tuple (seg_of c.in-Local.seg)) c.in-Local.tuple)
    c.in_ok-begin-in-Local.ensures
    ∙ (whole_local starts c.args.tick c.in-Local.tuple (seg_of c.in-Local.seg) c.args.self.now
    ∙ ap (λ (k : code.Content). served_whole starts c.args.tick (content_in k) c.args.self.now) (sym c.in-Local.is))))
    (c.ask-in-Local.ensures (Local c.in-Local.tuple (seg_of c.in-Local.seg)) refl (sym c.is_rst.ensures))
