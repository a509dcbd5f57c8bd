use Rattle.pcap_frames.proofs.Written.{form_of_file_header, first_record_written}
use Rattle.pcap_frames.proofs.laws.what_is_written_is_read.Goals as goal

pub returns-clause-header : goal.returns-clause-header
returns-clause-header c = form_of_file_header

pub returns-clause-record_is_read : goal.returns-clause-record_is_read
returns-clause-record_is_read c = first_record_written
