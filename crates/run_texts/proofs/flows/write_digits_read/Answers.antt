use Rattle.std.proofs.Common.{◌≡◌, rules, List, ℕ, ap, flat_map, ◌∙◌}
use Rattle.tas_model.specs.declared.entry.Entry.{Entry}
use Rattle.tas_model.specs.Outputs.{bytes_read}
use Rattle.tas_runs.specs.Report.{hex_bytes}
use Rattle.flow_state.specs.Views.{seen_stretch}
use Rattle.run_texts.proofs.Writing.{wrote_as}
use Rattle.run_texts.proofs.Lists.{wrote_more, stopped_among, wrote_whole, digits_are}
use Rattle.run_texts.proofs.Quiet.{joined_bytes}
use Rattle.run_texts.proofs.flows.write_digits_read.Goals as goal

abbrev digits : List Entry → List ℕ
digits xs = hex_bytes (bytes_read xs)

all_digits : (xss : List (List Entry)) (h : List Entry) → flat_map (λ xs. xs) xss ≡ h
    → flat_map digits xss ≡ hex_bytes (bytes_read h)
all_digits xss h is = digits_are bytes_read xss ∙ ap hex_bytes (joined_bytes xss ∙ ap bytes_read is)

pub returns-in_err-put_hex : goal.returns-in_err-put_hex
returns-in_err-put_hex g c =
    let h = wrote_as _ _ _ _ (digits (seen_stretch c.get.result)) (ap hex_bytes c.given_in.ensures) c.put_hex.ensures in
    stopped_among digits c.stretches-stretches.result c.loop-i.i (seen_stretch c.get.result) _ _ _ _ _ _
    (all_digits c.stretches-stretches.result c.args.flow.now.entries c.stretches-stretches.ensures)
    c.get.ensures.entries (search rules) (search rules) c.loop-i.invariant h

pub loop-i-preserved : goal.loop-i-preserved
loop-i-preserved g c =
    let h = wrote_as _ _ _ _ (digits (seen_stretch c.get.result))
    (ap hex_bytes c.given_in.ensures) c.in_ok-put_hex.ensures in
    wrote_more digits c.stretches-stretches.result c.loop-i.i
    (seen_stretch c.get.result) _ _ _ _ c.get.ensures.entries c.loop-i.invariant h

pub returns : goal.returns
returns g c =
    wrote_whole digits c.stretches-stretches.result c.loop-i.i _ _ _ _
    (all_digits c.stretches-stretches.result c.args.flow.now.entries c.stretches-stretches.ensures)
    (search rules) c.loop-i.invariant
