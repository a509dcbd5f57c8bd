-- What a line that was read says.
use Rattle.tas_model.specs.declared.entry.Call.{Call}
use Rattle.tas_model.specs.declared.entry.Call.TheVariants as calls
use Rattle.tas_model.specs.declared.entry.Reply.{Reply}
use Rattle.tas_model.specs.declared.entry.Reply.TheVariants as replies
use Rattle.tas_model.specs.declared.entry.Seg.{Seg}
use Rattle.tas_model.specs.declared.entry.Entry.{Entry}
use Rattle.report_lines.specs.Events.{Event, Listened, NotAccepted, NotConnected, Strayed, Dropped, Refused}
use Rattle.report_lines.specs.Lines.{Line, Title, Host, Logged, Begins, Made, State, Read, End}
use Rattle.report_lines.specs.declared.line.SegLine.{SegLine}
use Rattle.report_lines.specs.declared.line.CallLine.{CallLine}
use Rattle.report_lines.specs.declared.line.CallLine.TheVariants as cl
use Rattle.report_lines.specs.declared.line.ReplyLine.{ReplyLine}
use Rattle.report_lines.specs.declared.line.ReplyLine.TheVariants as rl
use Rattle.report_lines.specs.declared.line.EntryLine.{EntryLine}
use Rattle.report_lines.specs.declared.line.EventLine.{EventLine}
use Rattle.report_lines.specs.declared.line.EventLine.TheVariants as el
use Rattle.report_lines.specs.declared.line.ReportLine.{ReportLine}
use Rattle.report_lines.specs.declared.line.ReportLine.TheVariants as lines

-- its segment
abbrev pub seen_seg : SegLine → Seg
seen_seg s = record { head = s.head; bytes = s.bytes }

-- its call
abbrev pub seen_call : CallLine → Call
seen_call (cl.Connect iss) = calls.Connect iss
seen_call (cl.Passive frame iss seg) = calls.Passive frame iss (seen_seg seg)
seen_call (cl.Rx frame seg) = calls.Rx frame (seen_seg seg)
seen_call cl.Emit = calls.Emit
seen_call cl.Tick = calls.Tick
seen_call cl.Control = calls.Control
seen_call cl.Accept = calls.Accept
seen_call cl.Ready = calls.Ready
seen_call (cl.Send offered) = calls.Send offered
seen_call (cl.Recv most) = calls.Recv most
seen_call cl.Shut = calls.Shut
seen_call cl.Close = calls.Close
seen_call cl.Abort = calls.Abort

-- its reply
abbrev pub seen_reply : ReplyLine → Reply
seen_reply rl.Ok = replies.Ok
seen_reply rl.Nothing = replies.Nothing
seen_reply (rl.Sent seg) = replies.Sent (seen_seg seg)
seen_reply (rl.Took bytes) = replies.Took bytes
seen_reply (rl.Got bytes update) = replies.Got bytes update
seen_reply rl.End = replies.End
seen_reply rl.NotYet = replies.NotYet
seen_reply rl.NotOpen = replies.NotOpen
seen_reply rl.Shut = replies.Shut
seen_reply (rl.Closed reason) = replies.Closed reason
seen_reply rl.Quiet = replies.Quiet
seen_reply rl.Resend = replies.Resend
seen_reply rl.Probe = replies.Probe
seen_reply rl.Expired = replies.Expired
seen_reply rl.TimedOut = replies.TimedOut
seen_reply (rl.Window cwnd ssthresh) = replies.Window cwnd ssthresh

-- the entry
abbrev pub seen_entry : EntryLine → Entry
seen_entry x = record {
  caller = x.caller;
  number = x.number;
  tick = x.tick;
  call = seen_call x.call;
  reply = seen_reply x.reply;
}

-- what a log tells
abbrev pub seen_event : EventLine → Event
seen_event (el.Listened app port ok) = Listened app port ok
seen_event (el.NotAccepted app port) = NotAccepted app port
seen_event (el.NotConnected app raddr rport no_port) = NotConnected app raddr rport no_port
seen_event (el.Strayed frame seg answer) = Strayed frame (seen_seg seg) answer
seen_event (el.Dropped frame backlog) = Dropped frame backlog
seen_event (el.Refused frame rule) = Refused frame rule

-- the whole line
abbrev pub seen_line : ReportLine → Line
seen_line lines.Title = Title
seen_line (lines.Host host addr) = Host host addr
seen_line (lines.Logged tick event) = Logged tick (seen_event event)
seen_line (lines.Begins number id tuple) = Begins number id tuple
seen_line (lines.Made entry) = Made (seen_entry entry)
seen_line (lines.State phase reason) = State phase reason
seen_line (lines.Read count bytes) = Read count bytes
seen_line (lines.End ticks) = End ticks
