use Rattle.std.proofs.Common.{◌≡◌, ℕ, List, Option, Some, None, map, sym, ◌∙◌, ap, rules, tests, Bor}
use Rattle.std.specs.List.{filter, slice_get}
use Rattle.std.specs.Option.{option_map}
use Rattle.std.proofs.lemmas.Option.{slice_get-map}
use Rattle.std.proofs.lemmas.Iterator.{YieldsList-from_slice}
use Rattle.std.proofs.lemmas.Iterator.Consumers.{nth_from_yields_List, YieldsList-from_filter, YieldsList-at}
use Rattle.tas_model.specs.declared.entry.FlowId.{FlowId}
use Rattle.slow_handshake.specs.declared.openings.PassiveFlow.{PassiveFlow}
use Rattle.slow_handshake.specs.Openings.{id_of, waits_for}
use Rattle.slow_handshake.proofs.slow_path.SlowPath.waiting.Goals as goal

-- the id of what stands at a place is what stands there in the list of ids
id_there : (r : Option (Bor PassiveFlow)) (xs : List PassiveFlow) (i : ℕ)
    → ◌≡◌ {A = Option PassiveFlow} (option_map (λ (x : Bor PassiveFlow). x.now) r) (slice_get xs i)
    → ◌≡◌ {A = Option FlowId} (option_map (λ (x : Bor PassiveFlow). id_of x.now) r) (slice_get (map id_of xs) i)
id_there None xs i is = ap (option_map id_of) is ∙ sym (slice_get-map id_of xs i)
id_there (Some x) xs i is = ap (option_map id_of) is ∙ sym (slice_get-map id_of xs i)

pub returns-in_err-flow : goal.returns-in_err-flow
returns-in_err-flow c =
    let there = nth_from_yields_List c.nth.result c.nth.new.self c.args.i c.nth.ensures.ran
    (YieldsList-from_filter _ (waits_for c.args.self.now.listeners c.args.app)
    (YieldsList-at c.filter.ensures.source (YieldsList-from_slice c.args.self.now.flows cc))
    c.filter.ensures.closure (λ x b q k. search (rules, tests))) in
    c.from_residual.ensures ∙ ap (option_map (λ (x : Bor PassiveFlow). id_of x.now)) (sym c.in_err-flow.was)
    ∙ id_there c.nth.result (filter (waits_for c.args.self.now.listeners c.args.app) c.args.self.now.flows) c.args.i
    there

pub returns : goal.returns
returns c =
    let there = nth_from_yields_List c.nth.result c.nth.new.self c.args.i c.nth.ensures.ran
    (YieldsList-from_filter _ (waits_for c.args.self.now.listeners c.args.app)
    (YieldsList-at c.filter.ensures.source (YieldsList-from_slice c.args.self.now.flows cc))
    c.filter.ensures.closure (λ x b q k. search (rules, tests))) in
    ap (option_map (λ (x : Bor PassiveFlow). id_of x.now)) (sym c.in_ok-flow.was)
    ∙ id_there c.nth.result (filter (waits_for c.args.self.now.listeners c.args.app) c.args.self.now.flows) c.args.i
    there
