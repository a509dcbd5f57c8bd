use Rattle.std.proofs.Common.{◌≡◌, ◌++◌, List, ℕ, rules, arith, ap, ◌∙◌}
use Rattle.std.specs.List.{flat_map, range_with_len}
use Rattle.scenario_text.specs.Bulk.{bulk_hosts, server_text, client_text, bulk_text}
use Rattle.scenario_text.proofs.MadeTexts.{text_appended, text_appended_behind, never_refused}
use Rattle.scenario_text.proofs.bulk.bulk_scenario.Goals as goal

pub loop-i-preserved : goal.loop-i-preserved
loop-i-preserved c = text_appended server_text bulk_hosts c.loop-i.text.items _ c.loop-i.i (search rules) (search rules)

pub loop-i-2-preserved : goal.loop-i-2-preserved
loop-i-2-preserved c =
    text_appended_behind client_text bulk_hosts (flat_map server_text (range_with_len 0 c.args.n)) c.loop-i-2.text.items
    _ c.loop-i-2.i (search rules) (search rules)

pub unreachable-requires : goal.unreachable-requires
unreachable-requires c =
    let all : c.loop-i-2.i ≡ c.args.n = omega (arith, c.loop-i-2-test.false, c.loop-i-2.auto.i-end) in
    let servers : List ℕ = flat_map server_text (range_with_len 0 c.args.n) in
    let text : c.deref.result.now ≡ bulk_text c.args.n =
    c.deref.ensures.value
    ∙ (c.loop-i-2.invariant
    ∙ ap (λ (i : ℕ). bulk_hosts ++ (servers ++ flat_map client_text (range_with_len 0 i))) all) in
    never_refused c.args.n c.deref.result.now c.in-Err-Refused.field-0 c.requires.few text
    (c.in-Err-Refused.ensures.refused (λ e. absurd (cc (e, c.in-Err-Refused.field-0-is))))
