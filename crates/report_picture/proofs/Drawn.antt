-- The picture of a flow, by what was read of both of its ends.
use Rattle.std.proofs.Common.{◌≡◌, ℕ, Bool, List, [], ◌++◌, Option, Some, Result, Ok, Err, IfOk, refl, sym, ap, ◌∙◌}
use Rattle.std.proofs.Common.{subst}
use Rattle.report_lines.specs.Lines.{Line}
use Rattle.ladder_picture.specs.Drawing.{End, drawing}
use Rattle.ladder_picture.specs.Rungs.{rungs_of, with_log}
use Rattle.ladder_picture.specs.declared.arrows.Look.{Look}
use Rattle.ladder_picture.specs.declared.row.Row.{Row}
use Rattle.ladder_picture.specs.declared.rungs.Rung.{Rung}
use Rattle.trace_audit.specs.TextLines.{text_lines}
use Rattle.report_picture.specs.Flows.{flows_in}
use Rattle.report_picture.specs.Forms.{AreReport}
use Rattle.report_picture.specs.Hosts.{Named, hosts_in}
use Rattle.report_picture.specs.Pictures.{peer_of, other_end, chosen, look, left_end, right_end, or_0, number_of}
use Rattle.report_picture.specs.Pictures.{drawn_text, flow_text, IsPicture}
use Rattle.report_picture.specs.Reading.{AreShown}
use Rattle.report_picture.specs.declared.choice.Wanted.{Wanted}
use Rattle.report_picture.specs.declared.ends.Ends.{Ends}
use Rattle.report_picture.specs.declared.flows.Flow.{Flow}

-- where it is Ok, it is so
pub ok_so : {A E : Type 0} (P Q : A → Type 0) (r : Result A E) → IfOk r P → ((x : A) → P x → Q x) → IfOk r Q
ok_so P Q (Ok x) h so = so x h
ok_so P Q (Err e) h so = tt

pub same_rungs : (xs xt ys yt : List Row) → xs ≡ xt → ys ≡ yt → rungs_of xs ys ≡ rungs_of xt yt
same_rungs xs xt ys yt first second = rw (first, second) refl

pub same_end : (addr port : ℕ) (name other : List ℕ) → name ≡ other
    → ◌≡◌ {A = End} (record { name = name; addr = addr; port = port })
    (record { name = other; addr = addr; port = port })
same_end addr port name other e = rw e refl

-- what was written to an empty list is the drawing
pub put_so : (new old : List ℕ) (l m : Look) (absolute : Bool) (left leftm right rightm : End) (rs rt : List Rung)
    → old ≡ [] → l ≡ m → left ≡ leftm → right ≡ rightm → rs ≡ rt
    → new ≡ old ++ drawing l absolute left right rs → new ≡ drawing m absolute leftm rightm rt
put_so new old l m absolute left leftm right rightm rs rt none looks lefts rights rungs put =
    put ∙ rw (none, looks, lefts, rights, rungs) refl

-- The ends have what the lines show: the drawing is the flow's picture.
pub flow_drawn : (n : Named) (names : List (List ℕ)) (addrs : List ℕ) (absolute : Bool) (drawn : Flow)
    (peer : Option ℕ) (other : Option Flow) (flows : List Flow) (lines : List Line) (e : Ends) (out : List ℕ)
    → names ≡ n.names → addrs ≡ n.addrs → peer ≡ peer_of n.replay addrs drawn → other ≡ other_end peer drawn flows
    → flows ≡ flows_in lines → AreShown e drawn peer other lines
    → out ≡ drawing (look absolute peer e.ours.known e.theirs.known) absolute (left_end names drawn)
    (right_end names peer drawn)
    (rungs_of (with_log e.ours.rows.items e.ours.log.items (or_0 peer) (number_of other))
    (with_log e.theirs.rows.items e.theirs.log.items drawn.host (Some drawn.number)))
    → out ≡ flow_text n absolute drawn lines
flow_drawn n names addrs absolute drawn peer other flows lines e out same_names same_addrs peers others all shown is =
    is ∙ (by_shown ∙ (ap (λ (ns : List (List ℕ)). drawn_text ns absolute drawn peer other lines) same_names
    ∙ (ap (λ (o : Option Flow). drawn_text n.names absolute drawn peer o lines)
    (others ∙ ap (λ (fs : List Flow). other_end peer drawn fs) all)
    ∙ ap (λ (p : Option ℕ). drawn_text n.names absolute drawn p (other_end p drawn (flows_in lines)) lines)
    (peers ∙ ap (λ (as_ : List ℕ). peer_of n.replay as_ drawn) same_addrs)))) where
      by_shown : drawing (look absolute peer e.ours.known e.theirs.known) absolute (left_end names drawn)
          (right_end names peer drawn)
          (rungs_of (with_log e.ours.rows.items e.ours.log.items (or_0 peer) (number_of other))
          (with_log e.theirs.rows.items e.theirs.log.items drawn.host (Some drawn.number)))
          ≡ drawn_text names absolute drawn peer other lines
      by_shown =
          rw (
            shown.ours.rows,
            shown.ours.log,
            shown.ours.known,
            shown.theirs.rows,
            shown.theirs.log,
            shown.theirs.known,
          ) refl

-- The whole.
pub picture_is : (text : List ℕ) (wanted : Wanted) (absolute : Bool) (n : Named) (names : List (List ℕ))
    (flows : List Flow) (drawn : Flow) (out : List ℕ) (lines : List Line) → n ≡ hosts_in text
    → AreReport n (text_lines text) lines → flows ≡ flows_in lines → names ≡ n.names
    → chosen names wanted flows ≡ Some drawn → out ≡ flow_text n absolute drawn lines
    → IsPicture text wanted absolute out
picture_is text wanted absolute n names flows drawn out lines hosts report all same_names is shown = record {
  lines = lines;
  form = subst (λ (m : Named). AreReport m (text_lines text) lines) hosts report;
  flow = drawn;
  chosen = sym (ap (λ (ns : List (List ℕ)). chosen ns wanted (flows_in lines))
      (same_names ∙ ap (λ (m : Named). m.names) hosts))
      ∙ (sym (ap (λ (fs : List Flow). chosen names wanted fs) all) ∙ is);
  shown = shown ∙ ap (λ (m : Named). flow_text m absolute drawn lines) hosts;
}
