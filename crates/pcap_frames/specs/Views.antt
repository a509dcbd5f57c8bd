-- What the code's values stand for in the grammar of captures.
use Rattle.std.specs.Prelude.{ℕ, List, drop}
use Rattle.tas_num.specs.Captures.{Fault, Magic, Version, LinkType, CutShort, TooLong, Form, Record, Next}
use Rattle.pcap_frames.specs.declared.capture.CaptureHeader.{CaptureHeader}
use Rattle.pcap_frames.specs.declared.capture.RecordView.{RecordView}
use Rattle.pcap_frames.specs.declared.capture.PcapRefused.{PcapRefused}
use Rattle.pcap_frames.specs.declared.capture.PcapRefused.TheVariants as refusals

abbrev pub form_in : CaptureHeader → Form
form_in header = record { big = header.big; nanos = header.nanos; link = header.link }

abbrev pub record_in : RecordView → Record
record_in view = record { number = view.number; whole = view.whole; frame = view.frame.now }

-- a record, and the bytes of the whole file that are left after it
abbrev pub next_in : List ℕ → RecordView → Next
next_in bytes view = record { item = record_in view; rest = drop view.next bytes }

abbrev pub fault_in : PcapRefused → Fault
fault_in refusals.Magic = Magic
fault_in refusals.Version = Version
fault_in refusals.LinkType = LinkType
fault_in (refusals.CutShort number) = CutShort number
fault_in (refusals.TooLong number) = TooLong number

-- the number by which reports name a refusal
abbrev pub number_of : PcapRefused → ℕ
number_of refusals.Magic = 1
number_of refusals.Version = 2
number_of refusals.LinkType = 3
number_of (refusals.CutShort number) = 4
number_of (refusals.TooLong number) = 5
