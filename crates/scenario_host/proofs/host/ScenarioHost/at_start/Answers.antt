use Rattle.std.proofs.Common.{◌≡◌, List, ℕ, sym, ap, subst, ◌∙◌}
use Rattle.host_rounds.specs.Hosts.{Host}
use Rattle.scenario_runs.specs.Worlds.{site_of, scripts_on}
use Rattle.scenario_host.specs.Resting.{scripts_in}
use Rattle.scenario_host.specs.Sound.{IsSound}
use Rattle.scenario_host.specs.Turns.{site_with}
use Rattle.scenario_host.proofs.Starting.{starts_sound}
use Rattle.scenario_host.proofs.host.ScenarioHost.at_start.Goals as goal

pub invariant_of-result : goal.invariant_of-result
invariant_of-result c =
    let scripts : c.in_ok-scripts.scripts.items
    ≡ scripts_on c.args.s.now.kills c.args.line.now.name 0 c.args.s.now.apps =
    c.in_ok-scripts.ensures
    ∙ ap (λ (name : List ℕ). scripts_on c.args.s.now.kills name 0 c.args.s.now.apps) c.as_slice.ensures in
    let same : site_with c.new-2.result c.in_ok-scripts.scripts.items ≡ site_of c.args.s.now c.args.line.now =
    ap (λ (host : Host). site_with host c.in_ok-scripts.scripts.items) c.new-2.ensures
    ∙ ap (site_with (site_of c.args.s.now c.args.line.now).host) scripts in
    let of_scripts : site_with c.new-2.result (scripts_in c.new-3.result) ≡ site_of c.args.s.now c.args.line.now =
    ap (site_with c.new-2.result) c.new-3.ensures.seen ∙ same in
    record {
      hosting = record {
        ranges = c.requires.host.params;
        params = ap (λ (host : Host). host.params) (sym c.new-2.ensures);
        sound = subst IsSound (sym of_scripts)
            (starts_sound c.args.s.now c.args.line.now c.requires.ranges c.requires.host);
      };
      kept = c.new-3.ensures.kept;
    }
