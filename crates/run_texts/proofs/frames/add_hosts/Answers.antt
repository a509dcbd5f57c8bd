use Rattle.std.proofs.Common.{◌≡◌, rules, map, length, slice_get, Some, refl}
use Rattle.std.proofs.lemmas.Option.{slice_get_read}
use Rattle.run_texts.specs.Frames.{seen_frame, host_frames, seen_host}
use Rattle.run_texts.proofs.Ordered.{frames_more, frames_whole}
use Rattle.run_texts.proofs.frames.add_hosts.Goals as goal

pub returns : goal.returns
returns c =
    frames_whole seen_host host_frames c.args.hosts.now c.loop-host.host-index (map seen_frame c.args.frames.now.items)
    _ (search rules) c.loop-host.invariant

pub loop-host-preserved : goal.loop-host-preserved
loop-host-preserved c =
    let hosts = c.args.hosts.now in
    let i = c.loop-host.host-index in
    let here : slice_get hosts i ≡ Some c.host-item.result =
    slice_get_read hosts (length hosts) i c.host-item.result refl c.loop-host-test.true c.host-item.is in
    frames_more (λ h. host_frames (seen_host h)) hosts i c.host-item.result (map seen_frame c.args.frames.now.items)
    (map seen_frame c.loop-host.frames.items) _ here c.loop-host.invariant c.in_ok-add_host.ensures
