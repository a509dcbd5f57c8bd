-- The entry that a view shows.
use Rattle.std.specs.Prelude.{List, [], ◌∷◌, ⊤}
use Rattle.tas_model.specs.declared.entry.Call.{Call}
use Rattle.tas_model.specs.declared.entry.Call.TheVariants as calls
use Rattle.tas_model.specs.declared.entry.Reply.{Reply}
use Rattle.tas_model.specs.declared.entry.Reply.TheVariants as replies
use Rattle.tas_model.specs.declared.entry.Seg.{Seg}
use Rattle.tas_model.specs.declared.entry.Entry.{Entry}
use Rattle.flow_state.specs.declared.view.SegView.{SegView}
use Rattle.flow_state.specs.declared.view.CallView.{CallView}
use Rattle.flow_state.specs.declared.view.CallView.TheVariants as cv
use Rattle.flow_state.specs.declared.view.ReplyView.{ReplyView}
use Rattle.flow_state.specs.declared.view.ReplyView.TheVariants as rv
use Rattle.flow_state.specs.declared.view.EntryView.{EntryView}
use Rattle.flow_state.specs.declared.stretches.StretchView.{StretchView}
use Rattle.flow_state.specs.declared.stretches.StretchView.TheVariants as sv
use Rattle.flow_state.specs.Stretches.{run_entries, paced_entries, IsRun, IsPacedRun}

-- its segment, with the payload as a list
abbrev pub seen_seg : SegView → Seg
seen_seg s = record { head = s.head; bytes = s.bytes.now }

-- its call
abbrev pub seen_call : CallView → Call
seen_call (cv.Connect iss) = calls.Connect iss
seen_call (cv.Passive frame iss seg) = calls.Passive frame iss (seen_seg seg)
seen_call (cv.Rx frame seg) = calls.Rx frame (seen_seg seg)
seen_call cv.Emit = calls.Emit
seen_call cv.Tick = calls.Tick
seen_call cv.Control = calls.Control
seen_call cv.Accept = calls.Accept
seen_call cv.Ready = calls.Ready
seen_call (cv.Send offered) = calls.Send offered
seen_call (cv.Recv most) = calls.Recv most
seen_call cv.Shut = calls.Shut
seen_call cv.Close = calls.Close
seen_call cv.Abort = calls.Abort

-- its reply
abbrev pub seen_reply : ReplyView → Reply
seen_reply rv.Ok = replies.Ok
seen_reply rv.Nothing = replies.Nothing
seen_reply (rv.Sent seg) = replies.Sent (seen_seg seg)
seen_reply (rv.Took bytes) = replies.Took bytes.now
seen_reply (rv.Got bytes update) = replies.Got bytes.now update
seen_reply rv.End = replies.End
seen_reply rv.NotYet = replies.NotYet
seen_reply rv.NotOpen = replies.NotOpen
seen_reply rv.Shut = replies.Shut
seen_reply (rv.Closed reason) = replies.Closed reason
seen_reply rv.Quiet = replies.Quiet
seen_reply rv.Resend = replies.Resend
seen_reply rv.Probe = replies.Probe
seen_reply rv.Expired = replies.Expired
seen_reply rv.TimedOut = replies.TimedOut
seen_reply (rv.Window cwnd ssthresh) = replies.Window cwnd ssthresh

-- all of it
abbrev pub seen_entry : EntryView → Entry
seen_entry x = record {
  caller = x.caller;
  number = x.number;
  tick = x.tick;
  call = seen_call x.call;
  reply = seen_reply x.reply;
}

-- the entries of a stretch
abbrev pub seen_stretch : StretchView → List Entry
seen_stretch (sv.One x) = x ∷ []
seen_stretch (sv.Quiet r) = run_entries r
seen_stretch (sv.Paced r) = paced_entries r

-- numbers and ticks of a stretch can be written
abbrev pub IsFit : StretchView → Type 0
IsFit (sv.One x) = ⊤
IsFit (sv.Quiet r) = IsRun r
IsFit (sv.Paced r) = IsPacedRun r
