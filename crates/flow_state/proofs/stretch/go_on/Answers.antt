use Rattle.std.proofs.Common.{◌≡◌, suc, ◌+◌, ◌-◌, true, length, get_or, List, sym, ◌∙◌, arith}
use Rattle.std.proofs.lemmas.List.{length-set}
use Rattle.flow_state.specs.declared.stretch.Stretch.{Stretch}
use Rattle.flow_state.specs.declared.stretch.Stretch.TheVariants.{Quiet}
use Rattle.flow_state.specs.Stretches.{comes_next}
use Rattle.flow_state.proofs.Runs.{longer, last_is, next_is, within_set, goes_next, goes_somewhere}
use Rattle.flow_state.proofs.stretch.go_on.Goals as goal

pub returns-clause-added : goal.returns-clause-added
returns-clause-added c =
    let ss : List Stretch = c.args.stretches.now.items in
    let run = c.in-Quiet.run' in
    let longer-run : Stretch = Quiet (record run { more = run.more + c.args.count }) in
    let there = goes_somewhere ss c.args.caller c.args.number c.args.tick c.requires.next in
    let one : length ss ≡ suc (c.len-last.result - 1) =
    omega (arith, there, c.len-last.ensures, c.args.stretches.now.ok) in
    let last : get_or ss (c.len-last.result - 1) c.index.result.now ≡ Quiet run = sym c.index.ensures ∙ c.in-Quiet.is in
    let next : comes_next run c.args.caller c.args.number c.args.tick ≡ true =
    goes_next ss (c.len-last.result - 1) c.index.result.now run c.args.caller c.args.number c.args.tick one last
    c.requires.next in
    let is = next_is run c.args.caller c.args.number c.args.tick next in
    record {
      entries = λ memory.
          longer memory ss (c.len-last.result - 1) c.index.result.now run c.args.caller c.args.number c.args.tick
          c.args.count one last next;
      within = λ n k all.
          within_set n k ss (c.len-last.result - 1) longer-run
          (record {
            number = omega (arith, is.1, c.requires.number);
            tick = omega (arith, is.2, c.requires.tick);
          }) all;
      next = λ memory.
          omega (arith, last_is memory 0 ss (c.len-last.result - 1) c.index.result.now run one last, is.2);
      same = length-set ss (c.len-last.result - 1) longer-run;
    }
