use Rattle.std.proofs.Common.{◌≡◌, ◌-◌, ◌≤◌, length, Ok}
use Rattle.tas_num.specs.Captures.{form_of}
use Rattle.pcap_frames.specs.Views.{form_in}
use Rattle.capture_items.proofs.Scanning.{Scanned}
use Rattle.capture_items.proofs.found.find_items.Given as goal

abbrev pub invariant-loop-view : goal.invariant-loop-view
invariant-loop-view l = record {
  scanned : Scanned (form_in l.header) l.local l.bytes l.at l.records l.numbering;
  form : form_of l.bytes ≡ Ok (form_in l.header);
  inside : l.at ≤ length l.bytes;
  counted : l.records ≤ l.at;
}

abbrev pub decreases-loop-view : goal.decreases-loop-view
decreases-loop-view l = length l.bytes - l.at
