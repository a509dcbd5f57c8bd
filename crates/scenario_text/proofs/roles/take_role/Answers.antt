use Rattle.std.proofs.Common.{◌≡◌, None, sym, ◌∙◌, ap}
use Rattle.std.specs.Option.{option_map}
use Rattle.scenario_text.proofs.RoleMaps.{none_taken, role_taken}
use Rattle.scenario_text.proofs.roles.take_role.Goals as goal

pub returns-in_ok-insert : goal.returns-in_ok-insert
returns-in_ok-insert c = λ before h fresh.
    role_taken c.args.roles.now c.insert.new.self before c.args.step.now c.in-Some.name.now c.in-Some.role _
    (sym c.in-Some.ensures) c.in_ok-from_slice.ensures.items c.in_ok-insert.ensures.entries h fresh

pub returns-in_default : goal.returns-in_default
returns-in_default c = λ before h fresh. none_taken c.args.roles.now before c.args.step.now (sym c.in_default.ensures) h
