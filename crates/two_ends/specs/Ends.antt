-- The two ends of a connection in a run of a scenario.
use Rattle.std.specs.Prelude.{◌≡◌, Bool, true, false, List, [], ◌∷◌, ◌++◌, filter}
use Rattle.tas_model.specs.declared.entry.FourTuple.{FourTuple}
use Rattle.tas_model.specs.LegalHistory.{replay}
use Rattle.tas_model.specs.OneStream.{OneStream, IsPrefixOf}
use Rattle.tas_model.specs.Outputs.{accepted, bytes_read}
use Rattle.host_rounds.specs.Lists.{Each}
use Rattle.host_rounds.specs.Logs.{Flow, HostRun}
use Rattle.host_rounds.specs.Hosts.{same_tuple}
use Rattle.sent_streams.specs.Streams.{told_end}
use Rattle.link_script.specs.LinkLines.{LinkLines}
use Rattle.link_script.specs.declared.script.LinkAct.{LinkAct}
use Rattle.link_script.specs.declared.script.LinkAct.TheVariants as acts
use Rattle.link_script.specs.declared.script.Target.{Target}

-- ----- the link
abbrev pub is_corrupt : LinkAct → Bool
is_corrupt (acts.Corrupt place) = true
is_corrupt _ = false

-- No line damages a frame: each comes as it was sent, or not at all.
abbrev pub IsFaithful : LinkLines → Type 0
IsFaithful lines = Each (λ (line : Target × LinkAct). is_corrupt line.1 ≡ false) lines.acts

-- ----- the other end
-- a four-tuple as the other end sees it
abbrev pub reversed : FourTuple → FourTuple
reversed t = record { laddr = t.raddr; lport = t.rport; raddr = t.laddr; rport = t.lport }

-- All flows of a run: of all hosts, and filed ones among them.
abbrev pub flows_in : List HostRun → List Flow
flows_in [] = []
flows_in (h ∷ hs) = h.flows ++ flows_in hs

-- those of them that have this flow's four-tuple reversed
abbrev pub other_ends : Flow → List HostRun → List Flow
other_ends f hosts = filter (λ (g : Flow). same_tuple (reversed f.tuple) g.tuple) (flows_in hosts)

-- ----- what they tell each other
-- Where one flow alone is its other end, the peer sends one stream, and that is what the other end's application sent.
abbrev pub HearsOtherEnd : List HostRun → Flow → Type 0
HearsOtherEnd hosts f =
    (g : Flow) → other_ends f hosts ≡ g ∷ [] → OneStream f.params (accepted g.entries) f.entries

-- Then what its application read is a prefix of what the other end's application sent. All of that was received where
-- the end was taken, and all of it was read once a Recv was answered by the end.
pub record ReadsOf (f g : Flow) : Type 0 where
  pub reads : IsPrefixOf (bytes_read f.entries) (accepted g.entries)
  pub ended : (replay f.params f.entries).rx.ended ≡ true
      → (replay f.params f.entries).rx.got ≡ accepted g.entries
  pub whole : told_end f.entries ≡ true → bytes_read f.entries ≡ accepted g.entries

abbrev pub ReadsOtherEnd : List HostRun → Flow → Type 0
ReadsOtherEnd hosts f = (g : Flow) → other_ends f hosts ≡ g ∷ [] → ReadsOf f g
