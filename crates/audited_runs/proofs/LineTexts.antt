-- Each line of a report has no LF but its last byte.
use Rattle.std.proofs.Common.{ℕ, Bool, if◌then◌else◌, List}
use Rattle.std.proofs.Common.{Option, Some, None, refl, arith}
use Rattle.std.specs.Prelude.{codes, IfSome}
use Rattle.tas_model.specs.declared.entry.Caller.{Caller}
use Rattle.tas_model.specs.declared.entry.Caller.TheVariants.{Slow, Core, App}
use Rattle.tas_model.specs.declared.entry.Call.{Call}
use Rattle.tas_model.specs.declared.entry.Call.TheVariants as calls
use Rattle.tas_model.specs.declared.entry.Reply.{Reply}
use Rattle.tas_model.specs.declared.entry.Reply.TheVariants as replies
use Rattle.tas_model.specs.declared.entry.Head.{Head}
use Rattle.tas_model.specs.declared.entry.Phase.{Phase}
use Rattle.tas_model.specs.declared.entry.Phase.TheVariants as phases
use Rattle.tas_model.specs.declared.entry.Reason.{Reason}
use Rattle.tas_model.specs.declared.entry.Reason.TheVariants as reasons
use Rattle.tas_model.proofs.Tests.{on_cond}
use Rattle.tas_runs.specs.Report.{caller_text, reason_text, call_text, update_text, reply_text, phase_text}
use Rattle.tas_runs.specs.Report.{answer_text}
use Rattle.report_lines.specs.Events.{Event, Listened, NotAccepted, NotConnected, Strayed, Dropped, Refused}
use Rattle.report_lines.specs.Lines.{Line, Title, Host, Logged, Begins, Made, State, Read, End}
use Rattle.report_lines.specs.Shown.{AreNames, IsHead, IsCaller, IsCall, IsReply, IsEvent, told_text}
use Rattle.report_lines.specs.Shown.{state_text, line_text, IsLine}
use Rattle.audited_runs.proofs.OneLine.{IsOneLine, word, ◌◂◌, number}
use Rattle.audited_runs.proofs.Words.{hex_line, head_line, seg_line, name_line, frame_line, addr_line, port_line}
use Rattle.audited_runs.proofs.Words.{tuple_line}

-- ----- entries
caller_line : (c : Caller) → IsCaller c → IsOneLine (caller_text c)
caller_line Slow is = word _ refl
caller_line (Core k) is = word (codes "c") refl ◂ number k (omega (arith, is))
caller_line (App k) is = word (codes "p") refl ◂ number k (omega (arith, is))

reason_line : (why : Reason) → IsOneLine (reason_text why)
reason_line reasons.Done = word _ refl
reason_line reasons.Reset = word _ refl
reason_line reasons.Refused = word _ refl
reason_line reasons.TimedOut = word _ refl
reason_line reasons.Aborted = word _ refl

call_line : (names : List (List ℕ)) (c : Call) → AreNames names → IsCall names c → IsOneLine (call_text names c)
call_line names (calls.Connect iss) ok is = word (codes "connect iss ") refl ◂ number iss.0 (omega (arith, is))
call_line names (calls.Passive frame iss seg) ok is =
    word (codes "passive ") refl ◂ frame_line names frame ok is.0 ◂ word (codes " iss ") refl
    ◂ number iss.0 (omega (arith, is.1)) ◂ word (codes " ") refl ◂ seg_line seg is.2
call_line names (calls.Rx frame seg) ok is =
    word (codes "rx ") refl ◂ frame_line names frame ok is.0 ◂ word (codes " ") refl ◂ seg_line seg is.1
call_line names calls.Emit ok is = word _ refl
call_line names calls.Tick ok is = word _ refl
call_line names calls.Control ok is = word _ refl
call_line names calls.Accept ok is = word _ refl
call_line names calls.Ready ok is = word _ refl
call_line names calls.Shut ok is = word _ refl
call_line names calls.Close ok is = word _ refl
call_line names calls.Abort ok is = word _ refl
call_line names (calls.Send offered) ok is = word (codes "send ") refl ◂ number offered (omega (arith, is))
call_line names (calls.Recv most) ok is = word (codes "recv ") refl ◂ number most (omega (arith, is))

update_line : (update : Option Head) → IfSome update IsHead → IsOneLine (update_text update)
update_line None is = word _ refl
update_line (Some head) is = word (codes " then ") refl ◂ head_line head is

reply_line : (r : Reply) → IsReply r → IsOneLine (reply_text r)
reply_line replies.Ok is = word _ refl
reply_line replies.Nothing is = word _ refl
reply_line replies.End is = word _ refl
reply_line replies.NotYet is = word _ refl
reply_line replies.NotOpen is = word _ refl
reply_line replies.Shut is = word _ refl
reply_line replies.Quiet is = word _ refl
reply_line replies.Resend is = word _ refl
reply_line replies.Probe is = word _ refl
reply_line replies.Expired is = word _ refl
reply_line replies.TimedOut is = word _ refl
reply_line (replies.Sent seg) is = seg_line seg is
reply_line (replies.Took bytes) is = word (codes "took ") refl ◂ hex_line bytes is
reply_line (replies.Got bytes update) is = word (codes "got ") refl ◂ hex_line bytes is.0 ◂ update_line update is.1
reply_line (replies.Closed reason) is = word (codes "closed ") refl ◂ reason_line reason
reply_line (replies.Window cwnd ssthresh) is =
    word (codes "cwnd ") refl ◂ number cwnd (omega (arith, is.0)) ◂ word (codes " ssthresh ") refl
    ◂ number ssthresh (omega (arith, is.1))

-- ----- the log
answer_line : (answer : Option Head) → IfSome answer IsHead → IsOneLine (answer_text answer)
answer_line None is = word _ refl
answer_line (Some head) is = head_line head is

told_line : (b : Bool) (x y : List ℕ) → IsOneLine x → IsOneLine y → IsOneLine (if b then x else y)
told_line b x y one other = on_cond IsOneLine b x y (λ t. one) (λ t. other)

event_line : (names : List (List ℕ)) (e : Event) → AreNames names → IsEvent names e → IsOneLine (told_text names e)
event_line names (Listened app port good) ok is =
    word (codes "p") refl ◂ number app (omega (arith, is.0)) ◂ word (codes " listen ") refl
    ◂ number port (omega (arith, is.1)) ◂ word (codes " = ") refl
    ◂ told_line good (codes "ok") (codes "portinuse") (word _ refl) (word _ refl)
event_line names (NotAccepted app port) ok is =
    word (codes "p") refl ◂ number app (omega (arith, is.0)) ◂ word (codes " accept ") refl
    ◂ number port (omega (arith, is.1)) ◂ word (codes " = notyet") refl
event_line names (NotConnected app addr port no_port) ok is =
    word (codes "p") refl ◂ number app (omega (arith, is.0)) ◂ word (codes " connect ") refl
    ◂ port_line addr port is.1 is.2 ◂ word (codes " = ") refl
    ◂ told_line no_port (codes "noport") (codes "noflowslot") (word _ refl) (word _ refl)
event_line names (Strayed frame seg answer) ok is =
    word (codes "stray ") refl ◂ frame_line names frame ok is.0 ◂ word (codes " ") refl ◂ seg_line seg is.1
    ◂ word (codes " = ") refl ◂ answer_line answer is.2
event_line names (Dropped frame backlog) ok is =
    word (codes "dropped ") refl ◂ frame_line names frame ok is ◂ word (codes " = ") refl
    ◂ told_line backlog (codes "backlogfull") (codes "noflowslot") (word _ refl) (word _ refl)
event_line names (Refused frame rule) ok is =
    word (codes "refused ") refl ◂ frame_line names frame ok is.0 ◂ word (codes " = ") refl
    ◂ number rule (omega (arith, is.1))

-- ----- the end of a flow
phase_line : (p : Phase) → IsOneLine (phase_text p)
phase_line phases.SynSent = word _ refl
phase_line phases.SynReceived = word _ refl
phase_line phases.Established = word _ refl
phase_line phases.FinWait1 = word _ refl
phase_line phases.FinWait2 = word _ refl
phase_line phases.CloseWait = word _ refl
phase_line phases.Closing = word _ refl
phase_line phases.LastAck = word _ refl
phase_line phases.TimeWait = word _ refl
phase_line phases.Closed = word _ refl

state_line : (p : Phase) (reason : Option Reason) → IsOneLine (state_text p reason)
state_line p None = phase_line p
state_line p (Some why) = phase_line p ◂ word (codes " ") refl ◂ reason_line why

-- ----- any line
pub text_line : (names : List (List ℕ)) (l : Line) → AreNames names → IsLine names l → IsOneLine (line_text names l)
text_line names Title ok is = word _ refl
text_line names (Host host addr) ok is =
    word (codes "host ") refl ◂ name_line names host ok ◂ word (codes " ") refl ◂ addr_line addr is.1
text_line names (Logged tick e) ok is =
    number tick (omega (arith, is.0)) ◂ word (codes " ") refl ◂ event_line names e ok is.1
text_line names (Begins n id tuple) ok is =
    word (codes "flow ") refl ◂ number n (omega (arith, is.number)) ◂ word (codes " slot ") refl
    ◂ number id.slot (omega (arith, is.slot)) ◂ word (codes ".") refl
    ◂ number id.generation (omega (arith, is.generation)) ◂ word (codes " ") refl
    ◂ tuple_line tuple is.laddr is.lport is.raddr is.rport
text_line names (Made x) ok is =
    number x.tick (omega (arith, is.tick)) ◂ word (codes " ") refl ◂ caller_line x.caller is.caller
    ◂ word (codes ".") refl ◂ number x.number is.number ◂ word (codes " ") refl ◂ call_line names x.call ok is.call
    ◂ word (codes " = ") refl ◂ reply_line x.reply is.reply
text_line names (State p reason) ok is =
    word (codes "state ") refl ◂ state_line p reason
text_line names (Read count bytes) ok is =
    word (codes "read ") refl ◂ number count is.0 ◂ word (codes " ") refl ◂ hex_line bytes is.1
text_line names (End ticks) ok is =
    word (codes "end ") refl ◂ number ticks (omega (arith, is)) ◂ word (codes " ticks") refl
