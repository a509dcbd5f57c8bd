-- Each line of a run's report can be shown, where the numbers of its log are in the ranges of their fields.
use Rattle.std.proofs.Common.{◌≡◌, ℕ, ◌+◌, ◌≤◌, ◌<◌, ◌^◌, ◌==◌, Bool, true, false, List, [], ◌∷◌, ◌++◌, length}
use Rattle.std.proofs.Common.{Option, Some, None, arith, inl}
use Rattle.std.specs.Prelude.{IfSome}
use Rattle.std.proofs.lemmas.Option.{slice_get_within}
use Rattle.tas_model.specs.declared.entry.Call.{Call}
use Rattle.tas_model.specs.declared.entry.Caller.{Caller}
use Rattle.tas_model.specs.declared.entry.Caller.TheVariants.{Slow, Core, App}
use Rattle.tas_model.specs.declared.entry.Head.{Head}
use Rattle.tas_model.specs.declared.entry.Seg.{Seg}
use Rattle.tas_model.specs.declared.entry.Call.TheVariants as calls
use Rattle.tas_model.specs.declared.entry.Entry.{Entry}
use Rattle.tas_model.specs.declared.entry.FourTuple.{FourTuple}
use Rattle.tas_model.specs.declared.entry.FrameId.{FrameId}
use Rattle.tas_model.specs.declared.entry.HostParams.{HostParams}
use Rattle.tas_model.specs.declared.entry.Phase.{Phase}
use Rattle.tas_model.specs.declared.entry.Reason.{Reason}
use Rattle.tas_model.specs.declared.entry.Reply.{Reply}
use Rattle.tas_model.specs.declared.entry.Reply.TheVariants as replies
use Rattle.tas_model.specs.Endpoint.{Endpoint, synchronized, phase_by, phase, is_fin_acked}
use Rattle.tas_model.specs.LegalHistory.{replay}
use Rattle.tas_model.specs.Outputs.{given_bytes, bytes_read}
use Rattle.tas_model.proofs.Tests.{on_cond}
use Rattle.host_rounds.specs.declared.log.LogEvent.{LogEvent}
use Rattle.host_rounds.specs.declared.log.LogEvent.TheVariants as events
use Rattle.host_rounds.specs.declared.log.LogLine.{LogLine}
use Rattle.host_rounds.specs.Lists.{Each}
use Rattle.host_rounds.specs.Logs.{Flow, HostRun, RunLog}
use Rattle.host_rounds.proofs.Lists.{each_append}
use Rattle.scenario_text.specs.declared.scenario.HostLine.{HostLine}
use Rattle.report_lines.specs.Lines.{End}
use Rattle.log_ranges.specs.Ranges as held
use Rattle.log_ranges.specs.Ranges.{FrameFits, HeadFits, SegFits, CallerFits, CallFits, ReplyFits, EntryFits}
use Rattle.log_ranges.specs.Ranges.{EventFits, LineFits, FlowFits, HostFits, Fits}
use Rattle.report_lines.specs.Shown.{AreBytes, IsHead, IsSeg, IsCaller, IsReply, IsFrame, IsCall, IsEntry, IsEvent}
use Rattle.report_lines.specs.Shown.{HasReason, IsLine}
use Rattle.audited_runs.specs.LogLines.{told_event, log_lines, entry_lines, end_lines, flow_lines, flows_lines}
use Rattle.audited_runs.specs.LogLines.{host_lines, hosts_lines, lines_of}
use Rattle.audited_runs.proofs.Telling.{IsOf, IsSome, CallTold, EventTold, LineTold}
use Rattle.audited_runs.proofs.Placing.{FlowTold, LogTold, AreFew}
use Rattle.audited_runs.proofs.ReadCounts.{FewRead}

-- ----- the end of a flow
open_state : (una : ℕ) (shut fin_acked ended ended_first : Bool)
    → HasReason (synchronized una shut fin_acked ended ended_first) None
open_state una shut fin_acked ended ended_first =
    on_cond (λ (p : Phase). HasReason p None) (una == 0) _ _ (λ t. tt) (λ t. by_ends shut fin_acked ended ended_first)
  where
    by_ends : (shut fin_acked ended ended_first : Bool)
        → HasReason (synchronized 1 shut fin_acked ended ended_first) None
    by_ends true true true true = tt
    by_ends true true true false = tt
    by_ends true true false first = tt
    by_ends true false true true = tt
    by_ends true false true false = tt
    by_ends true false false first = tt
    by_ends false acked true first = tt
    by_ends false acked false first = tt

has_reason : (e : Endpoint) → HasReason (phase e) e.reason
has_reason e =
    by_reason e.reason e.peer e.tx.una e.tx.shut (is_fin_acked e.tx) e.rx.ended e.rx.ended_first where
      by_reason : (why : Option Reason) (peer : Option ℕ) (una : ℕ) (shut fin_acked ended ended_first : Bool)
          → HasReason (phase_by why peer una shut fin_acked ended ended_first) why
      by_reason (Some why) peer una shut fin_acked ended ended_first = tt
      by_reason None None una shut fin_acked ended ended_first = tt
      by_reason None (Some first) una shut fin_acked ended ended_first =
          open_state una shut fin_acked ended ended_first

both_bytes : (a b : List ℕ) → AreBytes a → AreBytes b → AreBytes (a ++ b)
both_bytes [] b one other = other
both_bytes (c ∷ cs) b one other = (one.0, both_bytes cs b one.1 other)

-- ----- what a field holds a line can show
bytes_shown : (bs : List ℕ) → held.AreBytes bs → AreBytes bs
bytes_shown [] fits = tt
bytes_shown (b ∷ bs) fits = (omega (arith, fits.0), bytes_shown bs fits.1)

head_shown : (h : Head) → HeadFits h → IsHead h
head_shown h fits = record {
  flags = fits.flags;
  seq = fits.seq;
  ack = fits.ack;
  window = fits.window;
  mss = fits.mss;
  scale = fits.scale;
}

some_head_shown : (o : Option Head) → IfSome o HeadFits → IfSome o IsHead
some_head_shown None fits = tt
some_head_shown (Some h) fits = head_shown h fits

seg_shown : (s : Seg) → SegFits s → IsSeg s
seg_shown s fits = record { head = head_shown s.head fits.head; bytes = bytes_shown s.bytes fits.bytes }

caller_shown : (by : Caller) → CallerFits by → IsCaller by
caller_shown Slow fits = tt
caller_shown (Core k) fits = fits
caller_shown (App k) fits = fits

reply_shown : (r : Reply) → ReplyFits r → IsReply r
reply_shown (replies.Sent seg) fits = seg_shown seg fits
reply_shown (replies.Took bytes) fits = bytes_shown bytes fits
reply_shown (replies.Got bytes update) fits = (bytes_shown bytes fits.0, some_head_shown update fits.1)
reply_shown (replies.Window cwnd ssthresh) fits = fits
reply_shown _ fits = tt

given : (r : Reply) → IsReply r → AreBytes (given_bytes r)
given (replies.Got bytes update) is = is.0
given _ is = tt

read_bytes : (h : List Entry) → Each EntryFits h → AreBytes (bytes_read h)
read_bytes [] fits = tt
read_bytes (x ∷ xs) fits =
    both_bytes (given_bytes x.reply) (bytes_read xs) (given x.reply (reply_shown x.reply fits.0.reply))
    (read_bytes xs fits.1)

-- ----- frames
-- There are as many names as addresses.
module _ (names : List (List ℕ)) (addrs : List ℕ) (same : length names ≡ length addrs) where
  frame_shown : (f : FrameId) (src : ℕ) → FrameFits f → IsOf addrs f src → IsFrame names f
  frame_shown f src fits of =
      let inside : f.host < length addrs = slice_get_within addrs f.host src of.host in
      inl (record { host = omega (arith, inside, same); flow = fits.flow; number = fits.number; copy = of.copy })

  some_shown : (f : FrameId) → FrameFits f → IsSome addrs f → IsFrame names f
  some_shown f fits some = frame_shown f some.0 fits some.1

  call_shown : (tuple : FourTuple) (call : Call) → CallFits call → CallTold addrs tuple call → IsCall names call
  call_shown tuple (calls.Connect iss) fits told = fits
  call_shown tuple (calls.Passive frame iss seg) fits told =
      (frame_shown frame tuple.raddr fits.0 told, fits.1, seg_shown seg fits.2)
  call_shown tuple (calls.Rx frame seg) fits told = (some_shown frame fits.0 told, seg_shown seg fits.1)
  call_shown tuple (calls.Send offered) fits told = fits
  call_shown tuple (calls.Recv most) fits told = fits
  call_shown tuple _ fits told = tt

  entry_shown : (tuple : FourTuple) (x : Entry) → EntryFits x → CallTold addrs tuple x.call → IsEntry names x
  entry_shown tuple x fits told = record {
    tick = fits.tick;
    caller = caller_shown x.caller fits.caller;
    number = fits.number;
    call = call_shown tuple x.call fits.call told;
    reply = reply_shown x.reply fits.reply;
  }

  entries_shown : (tuple : FourTuple) (xs : List Entry) → Each EntryFits xs
      → Each (λ (x : Entry). CallTold addrs tuple x.call) xs → Each (IsLine names) (entry_lines xs)
  entries_shown tuple [] fits told = tt
  entries_shown tuple (x ∷ xs) fits told =
      (entry_shown tuple x fits.0 told.0, entries_shown tuple xs fits.1 told.1)

  -- ----- flows
  flow_shown : (p : HostParams) (n : ℕ) (f : Flow) → n < 2 ^ 32 → FlowFits f
      → length (bytes_read f.entries) < 2 ^ 64 → FlowTold addrs p f → Each (IsLine names) (flow_lines n f)
  flow_shown p n f low fits few told = (
    record {
      number = low;
      slot = fits.ends.slot;
      generation = fits.ends.generation;
      laddr = fits.ends.laddr;
      lport = fits.ends.lport;
      raddr = fits.ends.raddr;
      rport = fits.ends.rport;
    },
    each_append (IsLine names) (entry_lines f.entries) (end_lines f.params f.entries)
        (entries_shown f.tuple f.entries fits.entries told.calls)
        (has_reason (replay f.params f.entries), ((few, read_bytes f.entries fits.entries), tt)),
  )

  flows_shown : (p : HostParams) (n : ℕ) (fs : List Flow) → n + length fs < 2 ^ 32 → Each FlowFits fs
      → Each (λ (f : Flow). length (bytes_read f.entries) < 2 ^ 64) fs → Each (FlowTold addrs p) fs
      → Each (IsLine names) (flows_lines n fs)
  flows_shown p n [] low fits few told = tt
  flows_shown p n (f ∷ fs) low fits few told =
      each_append (IsLine names) (flow_lines n f) (flows_lines (n + 1) fs)
      (flow_shown p n f (omega (arith, low)) fits.0 few.0 told.0)
      (flows_shown p (n + 1) fs (omega (arith, low)) fits.1 few.1 told.1)

  -- ----- logs
  event_shown : (own : ℕ) (e : LogEvent) → EventFits e → EventTold addrs e own → IsEvent names (told_event e)
  event_shown own (events.Listen app port ok) fits told = fits
  event_shown own (events.AcceptNotYet app port) fits told = fits
  event_shown own (events.ConnectRefused app raddr rport no_port) fits told = fits
  event_shown own (events.Stray frame tuple seg answer) fits told =
      (frame_shown frame tuple.raddr fits.0 told.0, seg_shown seg fits.1, some_head_shown answer fits.2)
  event_shown own (events.Dropped frame backlog) fits told = some_shown frame fits told
  event_shown own (events.Refused frame rule) fits told = (some_shown frame fits.0 told, fits.1)

  log_shown : (p : HostParams) (ls : List LogLine) → Each LineFits ls → Each (LineTold addrs p) ls
      → Each (IsLine names) (log_lines ls)
  log_shown p [] fits told = tt
  log_shown p (l ∷ ls) fits told =
      ((fits.0.tick, event_shown p.addr l.event fits.0.event told.0), log_shown p ls fits.1 told.1)

  -- ----- hosts
  hosts_shown : (i : ℕ) (lines : List HostLine) (hs : List HostRun) → i + length hs ≤ length names
      → Each HostFits hs → AreFew hs → Each FewRead hs → LogTold addrs lines hs → Each (IsLine names) (hosts_lines i hs)
  hosts_shown i [] [] most fits few read told = tt
  hosts_shown i [] (h ∷ hs) most fits few read told = absurd told
  hosts_shown i (l ∷ ls) [] most fits few read told = tt
  hosts_shown i (l ∷ ls) (h ∷ hs) most fits few read told =
      let low : 0 + length h.flows < 2 ^ 32 = (let less : length h.flows < 2 ^ 32 = few.0 in omega (arith, less)) in
      each_append (IsLine names) (host_lines i h) (hosts_lines (i + 1) hs) (
        (omega (arith, most), fits.0.addr),
        each_append (IsLine names) (log_lines h.log) (flows_lines 0 h.flows)
            (log_shown l.params h.log fits.0.log told.0.1.lines)
            (flows_shown l.params 0 h.flows low fits.0.flows read.0 told.0.1.flows),
      )
      (hosts_shown (i + 1) ls hs (omega (arith, most)) fits.1 few.1 read.1 told.1)

  pub log_fits : (lines : List HostLine) (log : RunLog) → length log.hosts ≤ length names → Fits log → AreFew log.hosts
      → Each FewRead log.hosts → LogTold addrs lines log.hosts → Each (IsLine names) (lines_of log)
  log_fits lines log most fits few read told = (
    tt,
    each_append (IsLine names) (hosts_lines 0 log.hosts) (End log.ticks ∷ [])
        (hosts_shown 0 lines log.hosts (omega (arith, most)) fits.hosts few read told) (fits.ticks, tt),
  )
