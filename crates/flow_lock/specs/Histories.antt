-- Histories as plain data.
use Rattle.std.specs.Prelude.{◌≡◌, false, ◌⊎◌, List, [], ◌++◌, None}
use Rattle.tas_model.specs.declared.entry.Entry.{Entry}
use Rattle.tas_model.specs.declared.entry.FourTuple.{FourTuple}
use Rattle.tas_model.specs.declared.entry.HostParams.{HostParams}
use Rattle.flow_lock.specs.declared.view.History.{History}

-- the history of a record
abbrev pub history_of : {R : Type 0} → (R → FourTuple) → (R → HostParams) → (R → List Entry) → R → History
history_of tuple params entries r = record { tuple = tuple r; params = params r; entries = entries r }

-- with these entries behind it
abbrev pub longer : History → List Entry → History
longer h xs = record h { entries = h.entries ++ xs }

-- before its first entry
abbrev pub unborn : History → History
unborn h = record h { entries = [] }

-- what is found where there is none
abbrev pub no_history : History
no_history = record {
  tuple = record { laddr = 0; lport = 0; raddr = 0; rport = 0 };
  params = record {
    addr = 0;
    iss = 0;
    ring = 0;
    mss = 0;
    rto = 0;
    slots = 0;
    backlog = 0;
    fixed = false;
    scale = None;
  };
  entries = [];
}

-- the same history with more behind it
abbrev pub IsLonger : History → History → Type 0
IsLonger h k = (rest : List Entry) × (k ≡ longer h rest)

-- a history begins with another: it has the same ends and parameters, but with no entries it begins any
abbrev pub Begins : History → History → Type 0
Begins h k = (h.entries ≡ []) ⊎ IsLonger h k
