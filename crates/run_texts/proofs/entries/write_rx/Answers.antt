use Rattle.std.proofs.Common.{rules, List, ℕ, [], ◌∷◌, ◌++◌, map, codes}
use Rattle.flow_state.specs.Views.{seen_seg}
use Rattle.tas_runs.specs.Report.{frame_text, seg_text}
use Rattle.run_texts.proofs.Writing.{wrote_then}
use Rattle.run_texts.proofs.FrameIds.{stopped_before}
use Rattle.run_texts.proofs.entries.write_rx.Goals as goal

pub returns-in_err-put : goal.returns-in_err-put
returns-in_err-put g c =
    let frame : List ℕ = frame_text (map (λ n. n.now) c.args.names.now) c.args.frame in
    let text : List ℕ = seg_text (seen_seg c.args.seg.now) in
    stopped_before _ _ _ _ (codes "rx ") (frame ∷ codes " " ∷ text ∷ []) (search rules) (search rules) (c.put.ensures)

pub returns-in_err-write_frame_id : goal.returns-in_err-write_frame_id
returns-in_err-write_frame_id g c =
    let frame : List ℕ = frame_text (map (λ n. n.now) c.args.names.now) c.args.frame in
    let text : List ℕ = seg_text (seen_seg c.args.seg.now) in
    stopped_before _ _ _ _ (codes "rx " ++ frame) (codes " " ∷ text ∷ []) (search rules) (search rules)
    (wrote_then _ _ _ _ (codes "rx ") frame c.in_ok-put.ensures c.write_frame_id.ensures)

pub returns-in_err-put-2 : goal.returns-in_err-put-2
returns-in_err-put-2 g c =
    let frame : List ℕ = frame_text (map (λ n. n.now) c.args.names.now) c.args.frame in
    let text : List ℕ = seg_text (seen_seg c.args.seg.now) in
    stopped_before _ _ _ _ (codes "rx " ++ frame ++ codes " ") (text ∷ []) (search rules) (search rules)
    (wrote_then _ _ _ _ (codes "rx " ++ frame) (codes " ")
    (wrote_then _ _ _ _ (codes "rx ") frame c.in_ok-put.ensures c.in_ok-write_frame_id.ensures) c.put-2.ensures)

pub returns : goal.returns
returns g c =
    let frame : List ℕ = frame_text (map (λ n. n.now) c.args.names.now) c.args.frame in
    let text : List ℕ = seg_text (seen_seg c.args.seg.now) in
    wrote_then _ _ _ _ (codes "rx " ++ frame ++ codes " ") text
    (wrote_then _ _ _ _ (codes "rx " ++ frame) (codes " ")
    (wrote_then _ _ _ _ (codes "rx ") frame c.in_ok-put.ensures c.in_ok-write_frame_id.ensures)
    c.in_ok-put-2.ensures) c.write_seg.ensures
