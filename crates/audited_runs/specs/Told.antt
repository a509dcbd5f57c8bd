-- What an auditor wants of the flows of a log, besides that its lines can be shown.
use Rattle.std.specs.Prelude.{◌≡◌, List, [], ◌∷◌, ⊤}
use Rattle.tas_model.specs.declared.entry.Entry.{Entry}
use Rattle.tas_model.specs.declared.entry.FourTuple.{FourTuple}
use Rattle.tas_model.specs.declared.entry.HostParams.{HostParams}
use Rattle.tas_model.specs.LegalHistory.{Legal}
use Rattle.host_rounds.specs.Lists.{Each}
use Rattle.host_rounds.specs.Logs.{Flow, HostRun}
use Rattle.trace_audit.specs.Right.{IsFromPeer}

-- the first entry, where it is Passive, names a frame of the host at the other end
abbrev pub BeginsFromPeer : (hosts : List HostParams) → FourTuple → List Entry → Type 0
BeginsFromPeer hosts tuple [] = ⊤
BeginsFromPeer hosts tuple (x ∷ xs) = IsFromPeer hosts tuple x.call

-- The flow is of a host with these parameters, among all hosts: it has them and the host's address, its history is
-- legal, and it was opened by a frame of the host at the other end.
pub record IsTold (hosts : List HostParams) (host : HostParams) (f : Flow) : Type 0 where
  pub params : f.params ≡ host
  pub own : f.tuple.laddr ≡ host.addr
  pub legal : Legal host f.entries
  pub peer : BeginsFromPeer hosts f.tuple f.entries

-- So is each flow of the host, which has the address of its parameters.
pub record IsHostTold (hosts : List HostParams) (params : HostParams) (h : HostRun) : Type 0 where
  pub addr : h.addr ≡ params.addr
  pub flows : Each (IsTold hosts params) h.flows

-- The hosts of a log are these, one by one.
abbrev pub AreTold : (hosts : List HostParams) → List HostParams → List HostRun → Type 0
AreTold hosts [] [] = ⊤
AreTold hosts (p ∷ ps) (h ∷ hs) = IsHostTold hosts p h × AreTold hosts ps hs
AreTold hosts _ _ = ⊥
