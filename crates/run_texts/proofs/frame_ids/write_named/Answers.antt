use Rattle.std.proofs.Common.{rules, List, ℕ, map}
use Rattle.tas_runs.specs.Report.{name_at}
use Rattle.run_texts.proofs.Writing.{stopped_at, wrote_then, wrote_as}
use Rattle.run_texts.proofs.FrameIds.{place_text, named}
use Rattle.run_texts.proofs.frame_ids.write_named.Goals as goal

pub returns-in_err-put : goal.returns-in_err-put
returns-in_err-put g c =
    let names : List (List ℕ) = map (λ n. n.now) c.args.names.now in
    let f = c.args.frame in
    wrote_as _ _ _ _ _ (named names f)
    (stopped_at _ _ _ _ (name_at names f.host) (place_text f) (search rules) (search rules)
    (wrote_as _ _ _ _ _ c.name.ensures c.put.ensures))

pub returns : goal.returns
returns g c =
    let names : List (List ℕ) = map (λ n. n.now) c.args.names.now in
    let f = c.args.frame in
    wrote_as _ _ _ _ _ (named names f)
    (wrote_then _ _ _ _ (name_at names f.host) (place_text f)
    (wrote_as _ _ _ _ _ c.name.ensures c.in_ok-put.ensures) c.put_text.ensures)
