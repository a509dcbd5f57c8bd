use Rattle.std.proofs.Common.{◌≡◌, List, ℕ, map, Some, ap, sym, ◌∙◌}
use denote.Ref.{Bor}
use Rattle.ladder_picture.specs.Drawing.{drawing}
use Rattle.ladder_picture.specs.Rungs.{rungs_of, with_log}
use Rattle.report_lines.specs.Lines.{Line}
use Rattle.trace_audit.specs.TextLines.{text_lines}
use Rattle.report_picture.specs.Flows.{flows_in}
use Rattle.report_picture.specs.Forms.{AreReport}
use Rattle.report_picture.specs.Hosts.{seen_hosts}
use Rattle.report_picture.specs.Pictures.{look, left_end, right_end, or_0, number_of, flow_text}
use Rattle.report_picture.proofs.Drawn.{ok_so, flow_drawn}
use Rattle.report_picture.proofs.pictures.drawn_flow.Goals as goal

pub returns : goal.returns
returns c =
    ok_so _ _ c.drawn_ends.result c.drawn_ends.ensures (λ out is lines report all.
    flow_drawn (seen_hosts c.args.hosts.now) (map (λ (n : Bor (List ℕ)). n.now) c.deref-2.result.now)
    c.deref.result.now c.args.absolute c.args.drawn.now c.peer_of-peer.result c.other_end-other.result
    c.args.flows.now lines c.in_ok-ends.ends out.items
    (ap (λ (ns : List (Bor (List ℕ))). map (λ (n : Bor (List ℕ)). n.now) ns) c.deref-2.ensures.value)
    c.deref.ensures.value c.peer_of-peer.ensures c.other_end-other.ensures all (c.in_ok-ends.ensures lines report) is)
