use Rattle.std.proofs.Common.{◌≡◌, ◌+◌, ◌++◌, ◌∷◌, [], ℕ, List, codes, decimal, ap, ◌∙◌, rules}
use Rattle.std.proofs.lemmas.Result.{on_ok_weaker}
use Rattle.scenario_text.specs.Canonical.{line_of}
use Rattle.scenario_text.proofs.Appended.{four_appended}
use Rattle.scenario_text.proofs.bulk.put_client.Goals as goal

pub returns : goal.returns
returns c =
    let port : c.as_bytes.result.now ≡ decimal (1000 + c.args.i) = search rules in
    let line : List ℕ → List ℕ = λ port. line_of (codes "connect") (codes "s" ∷ codes "b" ∷ port ∷ []) in
    let connect : c.put_line.new.out.items ≡ c.put_app.new.out.items ++ line (decimal (1000 + c.args.i)) =
    c.in_ok-put_line.ensures ∙ ap (λ (port : List ℕ). c.put_app.new.out.items ++ line port) port in
    on_ok_weaker c.put_line-3.result
    (λ last. four_appended _ _ _ _ _ _ _ _ _ c.in_ok-put_app.ensures connect c.in_ok-put_line-2.ensures last)
    c.put_line-3.ensures
