use Rattle.std.proofs.Common.{rules, List, ℕ, [], ◌∷◌, ◌++◌, map, codes}
use Rattle.tas_runs.specs.Report.{frame_text, seg_text, answer_text}
use Rattle.run_texts.proofs.Writing.{wrote_then}
use Rattle.run_texts.proofs.FrameIds.{stopped_before}
use Rattle.run_texts.proofs.logs.write_stray.Goals as goal

pub returns-in_err-put : goal.returns-in_err-put
returns-in_err-put g c =
    let frame : List ℕ = frame_text (map (λ n. n.now) c.args.names.now) c.args.frame in
    let text : List ℕ = seg_text c.args.seg.now in
    let answer : List ℕ = answer_text c.args.answer in
    stopped_before _ _ _ _ (codes "stray ") (frame ∷ codes " " ∷ text ∷ codes " = " ∷ answer ∷ []) (search rules)
    (search rules) (c.put.ensures)

pub returns-in_err-write_frame_id : goal.returns-in_err-write_frame_id
returns-in_err-write_frame_id g c =
    let frame : List ℕ = frame_text (map (λ n. n.now) c.args.names.now) c.args.frame in
    let text : List ℕ = seg_text c.args.seg.now in
    let answer : List ℕ = answer_text c.args.answer in
    stopped_before _ _ _ _ (codes "stray " ++ frame) (codes " " ∷ text ∷ codes " = " ∷ answer ∷ []) (search rules)
    (search rules) (wrote_then _ _ _ _ (codes "stray ") frame c.in_ok-put.ensures c.write_frame_id.ensures)

pub returns-in_err-put-2 : goal.returns-in_err-put-2
returns-in_err-put-2 g c =
    let frame : List ℕ = frame_text (map (λ n. n.now) c.args.names.now) c.args.frame in
    let text : List ℕ = seg_text c.args.seg.now in
    let answer : List ℕ = answer_text c.args.answer in
    stopped_before _ _ _ _ (codes "stray " ++ frame ++ codes " ") (text ∷ codes " = " ∷ answer ∷ []) (search rules)
    (search rules)
    (wrote_then _ _ _ _ (codes "stray " ++ frame) (codes " ")
    (wrote_then _ _ _ _ (codes "stray ") frame c.in_ok-put.ensures c.in_ok-write_frame_id.ensures) c.put-2.ensures)

pub returns-in_err-write_seg : goal.returns-in_err-write_seg
returns-in_err-write_seg g c =
    let frame : List ℕ = frame_text (map (λ n. n.now) c.args.names.now) c.args.frame in
    let text : List ℕ = seg_text c.args.seg.now in
    let answer : List ℕ = answer_text c.args.answer in
    stopped_before _ _ _ _ (codes "stray " ++ frame ++ codes " " ++ text) (codes " = " ∷ answer ∷ []) (search rules)
    (search rules)
    (wrote_then _ _ _ _ (codes "stray " ++ frame ++ codes " ") text
    (wrote_then _ _ _ _ (codes "stray " ++ frame) (codes " ")
    (wrote_then _ _ _ _ (codes "stray ") frame c.in_ok-put.ensures c.in_ok-write_frame_id.ensures)
    c.in_ok-put-2.ensures) c.write_seg.ensures)

pub returns-in_err-put-3 : goal.returns-in_err-put-3
returns-in_err-put-3 g c =
    let frame : List ℕ = frame_text (map (λ n. n.now) c.args.names.now) c.args.frame in
    let text : List ℕ = seg_text c.args.seg.now in
    let answer : List ℕ = answer_text c.args.answer in
    stopped_before _ _ _ _ (codes "stray " ++ frame ++ codes " " ++ text ++ codes " = ") (answer ∷ []) (search rules)
    (search rules) (wrote_then _ _ _ _ (codes "stray " ++ frame ++ codes " " ++ text) (codes " = ")
    (wrote_then _ _ _ _ (codes "stray " ++ frame ++ codes " ") text
    (wrote_then _ _ _ _ (codes "stray " ++ frame) (codes " ")
    (wrote_then _ _ _ _ (codes "stray ") frame c.in_ok-put.ensures c.in_ok-write_frame_id.ensures)
    c.in_ok-put-2.ensures) c.in_ok-write_seg.ensures) c.put-3.ensures)

pub returns : goal.returns
returns g c =
    let frame : List ℕ = frame_text (map (λ n. n.now) c.args.names.now) c.args.frame in
    let text : List ℕ = seg_text c.args.seg.now in
    let answer : List ℕ = answer_text c.args.answer in
    wrote_then _ _ _ _ (codes "stray " ++ frame ++ codes " " ++ text ++ codes " = ") answer
    (wrote_then _ _ _ _ (codes "stray " ++ frame ++ codes " " ++ text) (codes " = ")
    (wrote_then _ _ _ _ (codes "stray " ++ frame ++ codes " ") text
    (wrote_then _ _ _ _ (codes "stray " ++ frame) (codes " ")
    (wrote_then _ _ _ _ (codes "stray ") frame c.in_ok-put.ensures c.in_ok-write_frame_id.ensures)
    c.in_ok-put-2.ensures) c.in_ok-write_seg.ensures) c.in_ok-put-3.ensures) c.put_text.ensures
