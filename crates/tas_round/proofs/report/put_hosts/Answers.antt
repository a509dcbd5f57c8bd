use Rattle.std.proofs.Common.{rules, ◌≡◌, List, ℕ, length, ◌≤◌, map, flat_map, ap, ◌∙◌, arith}
use Rattle.tas_runs.specs.Report.{hosts_text, names_of}
use Rattle.log_ranges.specs.Ranges.{HostFits}
use Rattle.log_ranges.proofs.Lists.{each_more, each_all, each_map}
use Rattle.run_texts.proofs.Lists.{wrote_more, stopped_among, wrote_whole}
use Rattle.tas_round.specs.Runs.{host_in}
use Rattle.tas_round.proofs.Flowing.{host_lines, hosts_are}
use Rattle.tas_round.proofs.report.put_hosts.Goals as goal

pub returns-in_err-put_host-clause-writes : goal.returns-in_err-put_host-clause-writes
returns-in_err-put_host-clause-writes g c =
    let names : List (List ℕ) = map (λ n. n.now) c.args.names.now in
    let hosts = c.args.hosts.now in
    let all : flat_map (host_lines names) hosts ≡ hosts_text (names_of (map host_in hosts))
    (map host_in hosts) = hosts_are names hosts
    ∙ ap (λ (ns : List (List ℕ)). hosts_text ns (map host_in hosts)) c.requires in
    stopped_among (host_lines names) hosts c.loop-i.i c.item.result.now _ _ _ _ _ _ all c.item.ensures (search rules)
    (search rules) c.loop-i.invariant.0 c.put_host.ensures.writes

pub loop-i-preserved : goal.loop-i-preserved
loop-i-preserved g c = (
  wrote_more (host_lines (map (λ n. n.now) c.args.names.now)) c.args.hosts.now c.loop-i.i c.item.result.now _ _ _ _
      c.item.ensures c.loop-i.invariant.0 c.in_ok-put_host.ensures.writes,
  each_more (λ h. HostFits (host_in h)) c.args.hosts.now c.loop-i.i c.item.result.now c.item.ensures
      c.loop-i.invariant.1 c.in_ok-put_host.ensures.fits,
)

pub returns-clause-writes : goal.returns-clause-writes
returns-clause-writes g c =
    let names : List (List ℕ) = map (λ n. n.now) c.args.names.now in
    let hosts = c.args.hosts.now in
    let all : flat_map (host_lines names) hosts ≡ hosts_text (names_of (map host_in hosts))
    (map host_in hosts) = hosts_are names hosts
    ∙ ap (λ (ns : List (List ℕ)). hosts_text ns (map host_in hosts)) c.requires in
    let end : length hosts ≤ c.loop-i.i = omega (arith, c.loop-i-test.false, c.len-i-end.ensures) in
    wrote_whole (host_lines names) hosts c.loop-i.i _ _ _ _ all end c.loop-i.invariant.0

pub returns-clause-fits : goal.returns-clause-fits
returns-clause-fits g c =
    let hosts = c.args.hosts.now in
    let end : length hosts ≤ c.loop-i.i = omega (arith, c.loop-i-test.false, c.len-i-end.ensures) in
    each_map HostFits host_in hosts (each_all (λ h. HostFits (host_in h)) hosts c.loop-i.i end c.loop-i.invariant.1)
