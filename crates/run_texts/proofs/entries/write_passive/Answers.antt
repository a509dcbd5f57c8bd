use Rattle.std.proofs.Common.{rules, List, ℕ, [], ◌∷◌, ◌++◌, map, codes, decimal}
use Rattle.flow_state.specs.Views.{seen_seg}
use Rattle.tas_runs.specs.Report.{frame_text, seg_text}
use Rattle.run_texts.proofs.Writing.{wrote_then, wrote_both}
use Rattle.run_texts.proofs.FrameIds.{stopped_before, three_behind}
use Rattle.run_texts.proofs.entries.write_passive.Goals as goal

pub returns-in_err-put : goal.returns-in_err-put
returns-in_err-put g c =
    let frame : List ℕ = frame_text (map (λ n. n.now) c.args.names.now) c.args.frame in
    let iss : List ℕ = decimal c.args.iss.0 in
    let text : List ℕ = seg_text (seen_seg c.args.seg.now) in
    stopped_before _ _ _ _ (codes "passive ") (frame ∷ codes " iss " ∷ iss ∷ codes " " ∷ text ∷ []) (search rules)
    (search rules) (c.put.ensures)

pub returns-in_err-write_frame_id : goal.returns-in_err-write_frame_id
returns-in_err-write_frame_id g c =
    let frame : List ℕ = frame_text (map (λ n. n.now) c.args.names.now) c.args.frame in
    let iss : List ℕ = decimal c.args.iss.0 in
    let text : List ℕ = seg_text (seen_seg c.args.seg.now) in
    stopped_before _ _ _ _ (codes "passive " ++ frame) (codes " iss " ∷ iss ∷ codes " " ∷ text ∷ []) (search rules)
    (search rules) (wrote_then _ _ _ _ (codes "passive ") frame c.in_ok-put.ensures c.write_frame_id.ensures)

pub returns-in_err-put_text : goal.returns-in_err-put_text
returns-in_err-put_text g c =
    let frame : List ℕ = frame_text (map (λ n. n.now) c.args.names.now) c.args.frame in
    let iss : List ℕ = decimal c.args.iss.0 in
    let text : List ℕ = seg_text (seen_seg c.args.seg.now) in
    stopped_before _ _ _ _ (codes "passive " ++ frame ++ codes " iss " ++ iss ++ codes " ") (text ∷ []) (search rules)
    (search rules) (wrote_both _ _ _ _ (codes "passive " ++ frame) (codes " iss " ++ (iss ++ codes " "))
    (codes "passive " ++ frame ++ codes " iss " ++ iss ++ codes " ")
    (three_behind (codes "passive " ++ frame) (codes " iss ") iss (codes " "))
    (wrote_then _ _ _ _ (codes "passive ") frame c.in_ok-put.ensures c.in_ok-write_frame_id.ensures)
    c.put_text.ensures)

pub returns : goal.returns
returns g c =
    let frame : List ℕ = frame_text (map (λ n. n.now) c.args.names.now) c.args.frame in
    let iss : List ℕ = decimal c.args.iss.0 in
    let text : List ℕ = seg_text (seen_seg c.args.seg.now) in
    wrote_then _ _ _ _ (codes "passive " ++ frame ++ codes " iss " ++ iss ++ codes " ") text
    (wrote_both _ _ _ _ (codes "passive " ++ frame) (codes " iss " ++ (iss ++ codes " "))
    (codes "passive " ++ frame ++ codes " iss " ++ iss ++ codes " ")
    (three_behind (codes "passive " ++ frame) (codes " iss ") iss (codes " "))
    (wrote_then _ _ _ _ (codes "passive ") frame c.in_ok-put.ensures c.in_ok-write_frame_id.ensures)
    c.in_ok-put_text.ensures) c.write_seg.ensures
