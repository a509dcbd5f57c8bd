use Rattle.std.proofs.Common.{◌≡◌, ◌++◌, take, flat_map, map}
use Rattle.run_texts.specs.Frames.{seen_frame, host_frames, seen_host}
use Rattle.run_texts.proofs.frames.add_hosts.Given as goal

abbrev pub invariant-loop-host : goal.invariant-loop-host
invariant-loop-host l = map seen_frame l.frames.items ≡ map seen_frame l.fn.frames.items
    ++ flat_map (λ h. host_frames (seen_host h)) (take l.host-index l.hosts)
