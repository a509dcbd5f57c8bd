use Rattle.std.proofs.Common.{◌≡◌, ◌++◌}
use Rattle.std.specs.List.{flat_map, range_with_len}
use Rattle.scenario_text.specs.Bulk.{bulk_hosts, server_text, client_text}
use Rattle.scenario_text.proofs.bulk.bulk_scenario.Given as goal

abbrev pub invariant-loop-i : goal.invariant-loop-i
invariant-loop-i l = l.text.items ≡ bulk_hosts ++ flat_map server_text (range_with_len 0 l.i)

abbrev pub invariant-loop-i-2 : goal.invariant-loop-i-2
invariant-loop-i-2 l =
    l.text.items
    ≡ bulk_hosts ++ flat_map server_text (range_with_len 0 l.fn.n) ++ flat_map client_text (range_with_len 0 l.i)
