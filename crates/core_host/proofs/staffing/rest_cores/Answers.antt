-- Answers of the proof of staffing/rest_cores.
use Rattle.std.proofs.Common.{◌≡◌, List, drop, length, map, refl, sym, ap, ◌∙◌, subst}
use Rattle.core_worker.specs.Workers as cores
use Rattle.slow_worker.specs.Workers.{Worker}
use Rattle.core_host.specs.Staffing.{IsAssembled, idle_as}
use Rattle.core_host.proofs.Hiring.{cores_rest, map_length, written}
use Rattle.core_host.proofs.staffing.rest_cores.Goals as goal

pub returns : goal.returns
returns c params n is =
    let old = c.args.workers.now in
    let new = c.take_turns.new.workers in
    let long : length new ≡ old.len =
    ap (λ (l : List cores.Worker). length l) c.take_turns.ensures.cores
    ∙ (map_length c.as_mut_slice.result.now ∙ c.as_mut_slice.ensures.len) in
    cores_rest params n c.args.shared.now _ _ c.take_turns.new.slow old.items _
    (subst (λ (v : Worker). IsAssembled params n c.args.shared.now v old.items) (sym c.slow.view_is) is)
    refl c.take_turns.ensures.table c.take_turns.ensures.unused c.take_turns.ensures.alone
    (written new (drop (length new) old.items) old.len long
    ∙ (c.take_turns.ensures.cores ∙ ap (map idle_as) c.as_mut_slice.ensures.value))
