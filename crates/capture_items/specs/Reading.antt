-- What holds of a place in a capture.
use Rattle.std.specs.Prelude.{◌+◌, ◌≤◌, length, drop, IsOk}
use Rattle.tas_num.specs.Captures.{records_from}
use Rattle.pcap_frames.specs.Views.{form_in}
use Rattle.capture_items.specs.declared.reader.ItemReader.TheInside.{Inside}

-- All records of the bytes left can be read, and their numbers have 32 bits.
pub record IsReadable (r : Inside) : Type 0 where
  pub place : r.at ≤ length r.bytes.now
  pub small : length r.bytes.now ≤ 67108864
  pub few : r.records ≤ r.at
  pub whole : IsOk (records_from (form_in r.header) (r.records + 1) (drop r.at r.bytes.now))
