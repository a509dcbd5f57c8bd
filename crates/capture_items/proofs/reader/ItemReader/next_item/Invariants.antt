use Rattle.std.proofs.Common.{◌≡◌, ◌+◌, ◌-◌, length, drop}
use Rattle.pcap_frames.specs.Views.{form_in}
use Rattle.capture_items.specs.Items.{items_from}
use Rattle.capture_items.specs.Reading.{IsReadable}
use Rattle.capture_items.proofs.reader.ItemReader.next_item.Given as goal

abbrev pub invariant-loop-view : goal.invariant-loop-view
invariant-loop-view l = record {
  readable : IsReadable l.self-inside;
  same : items_from (form_in l.self-inside.header) l.self-inside.local l.self-inside.loose (l.self-inside.records + 1)
      (drop l.self-inside.at l.self-inside.bytes.now) ≡ l.fn.self;
}

abbrev pub decreases-loop-view : goal.decreases-loop-view
decreases-loop-view l = length l.self-inside.bytes.now - l.self-inside.at
