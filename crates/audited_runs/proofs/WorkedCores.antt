-- The last core that a line can show, by computation.
use Rattle.std.proofs.Common.{◌≡◌, [], Some, None, refl}
use Rattle.std.specs.Fmt.{digits}
use Rattle.std.specs.Prelude.{codes}
use Rattle.report_lines.specs.Fronts.{with, or, behind, number, some_hex, hex_bytes}
use Rattle.report_lines.specs.Segments.{letter_at, letters_at, flags, head, payload, seg}
use Rattle.report_lines.specs.Origins.{caller}
use Rattle.report_lines.specs.Entries.{connect, passive, rx, send, recv, call, sent_reply, took, got, closed, window}
use Rattle.report_lines.specs.Entries.{reply, entry}
use Rattle.report_lines.specs.Events.{listened, not_accepted, not_connected, strayed, dropped, refused, event}
use Rattle.report_lines.specs.Lines.{Made, host_line, begins, state, read, ticked}
use Rattle.report_lines.specs.Lines.{tick_line, end, line, line_in}
use Rattle.report_lines.specs.Shown.{line_text}
use Rattle.audited_runs.specs.WorkedAudits.{ticked_by}

pub last_core : line_in [] (codes "0 c4294967295.0 tick = quiet") ≡ Some (Made (ticked_by 4294967295))
unfolding with or behind number caller entry call reply rx recv send connect passive sent_reply took got closed window
    ticked tick_line line line_in letter_at letters_at flags head payload seg hex_bytes some_hex
last_core = refl

pub next_core : line_in [] (codes "0 c4294967296.0 tick = quiet") ≡ None
unfolding with or behind number caller entry ticked tick_line line line_in event listened not_accepted not_connected
    strayed dropped refused begins state read host_line end
next_core = refl

pub core_text : line_text [] (Made (ticked_by 4294967296)) ≡ codes "0 c4294967296.0 tick = quiet"
unfolding digits
core_text = refl
