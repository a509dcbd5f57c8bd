use Rattle.trace_audit.specs.TextLines.{text_lines}
use Rattle.report_picture.specs.Hosts.{hosts_in}
use Rattle.report_picture.proofs.NoFault.{no_fault}
use Rattle.report_picture.proofs.laws.a_report_has_no_fault.Goals as goal

pub returns : goal.returns
returns c = λ text lines number form fault. no_fault (hosts_in text) (text_lines text) lines number form fault
