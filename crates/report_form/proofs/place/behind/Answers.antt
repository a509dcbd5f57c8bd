use Rattle.std.proofs.Common.{◌∙◌, ap, sym}
use Rattle.report_lines.specs.Views.{seen_line}
use Rattle.report_form.specs.declared.place.Place.{Place}
use Rattle.report_form.specs.Places.{next_place}
use Rattle.report_form.proofs.place.behind.Goals as goal

pub returns-in-Start : goal.returns-in-Start
returns-in-Start c =
    c.behind_nothing.ensures c.args.addrs.now
    ∙ ap (λ (p : Place). next_place c.args.addrs.now p (seen_line c.args.line.now)) (sym c.in-Start.is)

pub returns-in-Flow : goal.returns-in-Flow
returns-in-Flow c =
    c.behind_flow.ensures c.args.addrs.now
    ∙ ap (λ (p : Place). next_place c.args.addrs.now p (seen_line c.args.line.now)) (sym c.in-Flow.is)

pub returns-in-Entries : goal.returns-in-Entries
returns-in-Entries c =
    c.behind_entry.ensures c.args.addrs.now
    ∙ ap (λ (p : Place). next_place c.args.addrs.now p (seen_line c.args.line.now)) (sym c.in-Entries.is)

pub returns-in-Bytes : goal.returns-in-Bytes
returns-in-Bytes c =
    c.behind_state.ensures c.args.addrs.now
    ∙ ap (λ (p : Place). next_place c.args.addrs.now p (seen_line c.args.line.now)) (sym c.in-Bytes.is)
