use Rattle.std.proofs.Common.{◌≡◌, List, ℕ, map, ap, sym, ◌∙◌}
use denote.Ref.{Bor}
use Rattle.report_picture.specs.Hosts.{seen_hosts}
use Rattle.report_picture.proofs.Drawn.{picture_is}
use Rattle.report_picture.proofs.pictures.picture.Goals as goal

pub returns-in-Ok-drawn_flow-clause-drawn : goal.returns-in-Ok-drawn_flow-clause-drawn
returns-in-Ok-drawn_flow-clause-drawn c =
    let found = c.in_ok-flows.ensures.found in
    picture_is c.args.report.now c.args.wanted c.args.absolute (seen_hosts c.in-Ok.hosts)
    (map (λ (n : Bor (List ℕ)). n.now) c.deref.result.now) c.deref-2.result.now c.in-Some.drawn
    c.in-Ok-drawn_flow.out.items found.0 c.in-Ok.ensures.hosts found.1 (c.deref-2.ensures.value ∙ found.2)
    (ap (λ (ns : List (Bor (List ℕ))). map (λ (n : Bor (List ℕ)). n.now) ns) c.deref.ensures.value)
    (sym c.chosen.ensures ∙ c.in-Some.is)
    (c.in-Ok-drawn_flow.ensures found.0 found.1 (c.deref-3.ensures.value ∙ found.2))
