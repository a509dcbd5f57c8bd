-- How the history that is left of a flow is seen, and what it keeps true.
use Rattle.std.specs.Prelude.{◌≡◌, length}
use Rattle.tas_model.specs.Endpoint.{phase}
use Rattle.tas_model.specs.LegalHistory.{Legal, replay}
use Rattle.tas_model.specs.Outputs.{bytes_read}
use Rattle.tas_model.specs.Valid.{InRange}
use Rattle.flow_state.specs.declared.history.FlowHistory.TheInside.{Inside}
use Rattle.flow_state.specs.Arena.{memory_of}
use Rattle.flow_state.specs.Flow.{History}
use Rattle.flow_state.specs.Stretches.{AllWithin, entries_of}

abbrev pub history_of : Inside → History
history_of h =
    record {
      id = h.id;
      tuple = h.tuple;
      params = h.params;
      entries = entries_of (memory_of h.bytes.items h.came.items) h.stretches.items;
    }

-- The history is a legal one of an endpoint with these parameters, and what is told of its end is so.
pub record IsHistory (h : Inside) : Type 0 where
  pub fits : InRange h.params
  pub legal : Legal h.params (history_of h).entries
  pub within : AllWithin (length h.bytes.items) (length h.came.items) h.stretches.items
  pub phase : h.phase ≡ phase (replay h.params (history_of h).entries)
  pub reason : h.reason ≡ (replay h.params (history_of h).entries).reason
  pub made : h.made ≡ length (history_of h).entries
  pub read : h.read ≡ length (bytes_read (history_of h).entries)
