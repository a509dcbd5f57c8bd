use Rattle.std.proofs.Common.{rules, ◌≡◌, ◌+◌, ◌<◌, ◌∙◌, [], map, length, count_by, ap, subst, arith}
use Rattle.core_rounds.specs.CoreTicks.{IsCoresTick}
use Rattle.std.proofs.lemmas.List.{length-map}
use Rattle.tas_runs.specs.Records.{is_damaged}
use Rattle.tas_runs.specs.LocalScript.{capture_scripts, due_in}
use Rattle.capture_items.specs.Items.{item_in}
use Rattle.local_host.specs.Steered.{Steered}
use Rattle.tas_round.proofs.Playing.{next_counted, no_more_ticks, items_left, batch_within}
use Rattle.tas_round.proofs.Playing.{counted_left, all_counted, none_left, some_left, some_there}
use Rattle.tas_round.proofs.CoresPlaying.{batch_round, batch_low, batch_kept, next_right, ends_right}
use Rattle.tas_round.proofs.on_cores.run_batches.Goals as goal

pub with-tally-requires : goal.with-tally-requires
with-tally-requires g c =
    let batch = c.next_batch.new.batch.items in
    let within = batch_within item_in c.loop-batch.left c.next_batch.new.self batch c.loop-batch.tally.items _
    c.in_ok-next_batch.ensures.front c.loop-batch.invariant.items in
    record {
      items = omega (arith, ap length c.deref-in-loop-batch.ensures.value, within, c.requires.few);
      refused = c.loop-batch.invariant.within;
    }

pub loop-batch-preserved : goal.loop-batch-preserved
loop-batch-preserved g c =
    let all = c.args.items in
    let xs = c.loop-batch.left in
    let rest = c.next_batch.new.self in
    let batch = c.next_batch.new.batch.items in
    let front = c.in_ok-next_batch.ensures.front in
    let nonempty : 0 < length batch = some_there batch c.deref.result.now _ c.is_empty.result c.deref.ensures.value
    c.deref.ensures.len c.is_empty.ensures c.if-is_empty.false in
    let first = c.in_ok-next_batch.ensures.first (some_left item_in xs rest batch front nonempty) in
    let count = c.args.cores.now.count in
    let made : IsCoresTick (capture_scripts all) count c.loop-batch.ticks (due_in (map item_in batch))
    c.loop-batch.replay c.play_on_cores.new.self =
    subst (λ n. IsCoresTick (capture_scripts all) n c.loop-batch.ticks (due_in (map item_in batch)) c.loop-batch.replay
    c.play_on_cores.new.self) (ap (λ (s : Steered). s.count) c.loop-batch.invariant.cores)
    (subst (λ b. IsCoresTick (capture_scripts all) c.loop-batch.cores.count c.loop-batch.ticks (due_in (map item_in b))
    c.loop-batch.replay c.play_on_cores.new.self) c.deref.ensures.value
    (c.in_ok-play_on_cores.ensures.tick all c.requires.starts)) in
    let round = batch_round all count c.loop-batch.ticks (map item_in batch) c.loop-batch.replay
    c.play_on_cores.new.self c.loop-batch.invariant.histories made in
    let n = c.loop-batch.tally.items in
    let more : c.with-tally.result.items ≡ n + length (map item_in batch) = c.with-tally.ensures.items
    ∙ ap (λ b. n + length (map item_in b)) c.deref-in-loop-batch.ensures.value in
    let r = c.loop-batch.tally.refused in
    let refused : c.with-tally.result.refused ≡ r + count_by is_damaged (map item_in batch) =
    c.with-tally.ensures.refused
    ∙ ap (λ b. r + count_by is_damaged (map item_in b)) c.deref-in-loop-batch.ensures.value in
    record {
      played = next_right c.args.local all xs (map item_in batch) rest c.loop-batch.ticks c.loop-batch.replay
          c.play_on_cores.new.self first round c.loop-batch.invariant.played;
      histories = batch_kept all c.loop-batch.ticks (map item_in batch) c.loop-batch.replay c.play_on_cores.new.self
          c.loop-batch.invariant.histories round;
      cores = c.play_on_cores.ensures.cores ∙ c.loop-batch.invariant.cores;
      below = batch_low all count c.loop-batch.ticks (map item_in batch) c.loop-batch.replay c.play_on_cores.new.self
          c.loop-batch.invariant.histories made c.loop-batch.invariant.below;
      ticks = next_counted xs (map item_in batch) rest c.loop-batch.ticks _ first c.loop-batch.invariant.ticks;
      items = items_left xs (map item_in batch) rest n c.with-tally.result.items _ front more
          c.loop-batch.invariant.items;
      refused = counted_left is_damaged xs (map item_in batch) rest r c.with-tally.result.refused _ front refused
          c.loop-batch.invariant.refused;
      within = c.with-tally.ensures.few;
      few = omega (arith, c.loop-batch.invariant.few, more, length-map batch item_in, nonempty);
    }

pub returns-then-is_empty-clause-ended : goal.returns-then-is_empty-clause-ended
returns-then-is_empty-clause-ended g c =
    let xs = c.loop-batch.left in
    let empty : length c.next_batch.new.batch.items ≡ 0 = search rules in
    let none : xs ≡ [] = none_left xs c.next_batch.new.batch.items c.in_ok-next_batch.ensures.some empty in
    record {
      played = ends_right c.args.local c.args.items xs c.loop-batch.ticks c.loop-batch.replay none
          c.loop-batch.invariant.played;
      below = c.loop-batch.invariant.below;
      ticks = no_more_ticks xs c.loop-batch.ticks _ none c.loop-batch.invariant.ticks;
      met = omega (arith, ap length none, c.loop-batch.invariant.items);
      refused = all_counted is_damaged xs c.loop-batch.tally.refused _ none c.loop-batch.invariant.refused;
    }
