-- The numbers of a log, each in the range of the field that holds it.
use Rattle.std.specs.Prelude.{ℕ, ◌<◌, ◌^◌, List, IfSome, ⊤}
use Rattle.tas_model.specs.declared.entry.Call.{Call}
use Rattle.tas_model.specs.declared.entry.Call.TheVariants as calls
use Rattle.tas_model.specs.declared.entry.Caller.{Caller}
use Rattle.tas_model.specs.declared.entry.Caller.TheVariants.{Slow, Core, App}
use Rattle.tas_model.specs.declared.entry.Entry.{Entry}
use Rattle.tas_model.specs.declared.entry.FlowId.{FlowId}
use Rattle.tas_model.specs.declared.entry.FourTuple.{FourTuple}
use Rattle.tas_model.specs.declared.entry.FrameId.{FrameId}
use Rattle.tas_model.specs.declared.entry.Head.{Head}
use Rattle.tas_model.specs.declared.entry.Reply.{Reply}
use Rattle.tas_model.specs.declared.entry.Reply.TheVariants as replies
use Rattle.tas_model.specs.declared.entry.Seg.{Seg}
use Rattle.host_rounds.specs.declared.log.LogEvent.{LogEvent}
use Rattle.host_rounds.specs.declared.log.LogEvent.TheVariants as events
use Rattle.host_rounds.specs.declared.log.LogLine.{LogLine}
use Rattle.host_rounds.specs.Lists.{Each}
use Rattle.host_rounds.specs.Logs.{Flow, HostRun, RunLog}

-- ----- segments
abbrev pub AreBytes : List ℕ → Type 0
AreBytes bs = Each (λ (b : ℕ). b < 2 ^ 8) bs

pub record HeadFits (h : Head) : Type 0 where
  pub flags : h.flags < 2 ^ 8
  pub seq : h.seq.0 < 2 ^ 32
  pub ack : h.ack.0 < 2 ^ 32
  pub window : h.window < 2 ^ 16
  pub mss : IfSome h.mss (λ m. m < 2 ^ 16)
  pub scale : IfSome h.scale (λ s. s < 2 ^ 8)

pub record SegFits (s : Seg) : Type 0 where
  pub head : HeadFits s.head
  pub bytes : AreBytes s.bytes

pub record FrameFits (f : FrameId) : Type 0 where
  pub flow : f.flow < 2 ^ 32
  pub number : f.number < 2 ^ 64

-- ----- entries
abbrev pub CallerFits : Caller → Type 0
CallerFits Slow = ⊤
CallerFits (Core k) = k < 2 ^ 32
CallerFits (App k) = k < 2 ^ 32

abbrev pub CallFits : Call → Type 0
CallFits (calls.Connect iss) = iss.0 < 2 ^ 32
CallFits (calls.Passive frame iss seg) = FrameFits frame × (iss.0 < 2 ^ 32) × SegFits seg
CallFits (calls.Rx frame seg) = FrameFits frame × SegFits seg
CallFits (calls.Send offered) = offered < 2 ^ 32
CallFits (calls.Recv most) = most < 2 ^ 32
CallFits _ = ⊤

abbrev pub ReplyFits : Reply → Type 0
ReplyFits (replies.Sent seg) = SegFits seg
ReplyFits (replies.Took bytes) = AreBytes bytes
ReplyFits (replies.Got bytes update) = AreBytes bytes × IfSome update HeadFits
ReplyFits (replies.Window cwnd ssthresh) = (cwnd < 2 ^ 32) × (ssthresh < 2 ^ 32)
ReplyFits _ = ⊤

pub record EntryFits (x : Entry) : Type 0 where
  pub tick : x.tick < 2 ^ 32
  pub caller : CallerFits x.caller
  pub number : x.number < 2 ^ 64
  pub call : CallFits x.call
  pub reply : ReplyFits x.reply

-- ----- lines of a log
abbrev pub EventFits : LogEvent → Type 0
EventFits (events.Listen app port ok) = (app < 2 ^ 32) × (port < 2 ^ 16)
EventFits (events.AcceptNotYet app port) = (app < 2 ^ 32) × (port < 2 ^ 16)
EventFits (events.ConnectRefused app raddr rport no_port) = (app < 2 ^ 32) × (raddr < 2 ^ 32) × (rport < 2 ^ 16)
EventFits (events.Stray frame tuple seg answer) = FrameFits frame × SegFits seg × IfSome answer HeadFits
EventFits (events.Dropped frame backlog) = FrameFits frame
EventFits (events.Refused frame rule) = FrameFits frame × (rule < 2 ^ 8)

pub record LineFits (l : LogLine) : Type 0 where
  pub tick : l.tick < 2 ^ 32
  pub event : EventFits l.event

-- ----- flows, hosts, and the whole
pub record EndsFit (id : FlowId) (tuple : FourTuple) : Type 0 where
  pub slot : id.slot < 2 ^ 32
  pub generation : id.generation < 2 ^ 32
  pub laddr : tuple.laddr < 2 ^ 32
  pub lport : tuple.lport < 2 ^ 16
  pub raddr : tuple.raddr < 2 ^ 32
  pub rport : tuple.rport < 2 ^ 16

pub record FlowFits (f : Flow) : Type 0 where
  pub ends : EndsFit f.id f.tuple
  pub entries : Each EntryFits f.entries

pub record HostFits (h : HostRun) : Type 0 where
  pub addr : h.addr < 2 ^ 32
  pub log : Each LineFits h.log
  pub flows : Each FlowFits h.flows

-- Each number of the log is one of 8, 16, 32 or 64 bits, as its field has.
pub record Fits (log : RunLog) : Type 0 where
  pub hosts : Each HostFits log.hosts
  pub ticks : log.ticks < 2 ^ 32
