use Rattle.std.proofs.Common.{rules, List, ℕ, [], ◌∷◌, ◌++◌, codes}
use Rattle.tas_runs.specs.Report.{addr_text}
use Rattle.run_texts.proofs.Writing.{wrote_then, wrote_both}
use Rattle.run_texts.proofs.FrameIds.{stopped_before, three_behind}
use Rattle.run_texts.proofs.whole.write_host.Goals as goal

pub returns-in_err-put : goal.returns-in_err-put
returns-in_err-put g c =
    let named : List ℕ = c.args.name.now in
    let address : List ℕ = addr_text c.args.addr in
    stopped_before _ _ _ _ (codes "host ") (named ∷ codes " " ∷ address ∷ (10 ∷ []) ∷ []) (search rules) (search rules)
    (c.put.ensures)

pub returns-in_err-put-2 : goal.returns-in_err-put-2
returns-in_err-put-2 g c =
    let named : List ℕ = c.args.name.now in
    let address : List ℕ = addr_text c.args.addr in
    stopped_before _ _ _ _ (codes "host " ++ named) (codes " " ∷ address ∷ (10 ∷ []) ∷ []) (search rules) (search rules)
    (wrote_then _ _ _ _ (codes "host ") named c.in_ok-put.ensures c.put-2.ensures)

pub returns : goal.returns
returns g c =
    let named : List ℕ = c.args.name.now in
    let address : List ℕ = addr_text c.args.addr in
    wrote_both _ _ _ _ (codes "host " ++ named) (codes " " ++ (address ++ 10 ∷ []))
    (codes "host " ++ named ++ codes " " ++ address ++ 10 ∷ [])
    (three_behind (codes "host " ++ named) (codes " ") address (10 ∷ []))
    (wrote_then _ _ _ _ (codes "host ") named c.in_ok-put.ensures c.in_ok-put-2.ensures) c.put_text.ensures
