use Rattle.std.proofs.Common.{rules, ◌≡◌, ◌+◌, drop, Ok, Some, None, arith, sym, refl, ◌∙◌}
use Rattle.tas_num.specs.Captures.{first_record}
use Rattle.pcap_frames.specs.Views.{form_in, record_in, next_in, fault_in}
use Rattle.pcap_frames.proofs.Following.{capture_of_refused}
use Rattle.capture_items.proofs.Counted.{found_few}
use Rattle.capture_items.proofs.Scanning.{scan_begins, scan_more, scan_ends, scan_refused, scan_found, scanned_few}
use Rattle.capture_items.proofs.Scanning.{went_well}
use Rattle.capture_items.proofs.found.find_items.Goals as goal

pub returns-in-Err-clause-refused : goal.returns-in-Err-clause-refused
returns-in-Err-clause-refused c = capture_of_refused _ _ c.in-Err.ensures.refused

pub loop-view-init : goal.loop-view-init
loop-view-init c = record {
  scanned = scan_begins (form_in c.in-Ok.header) c.args.local c.args.bytes.now _ c.new-numbering.ensures;
  form = c.in-Ok.ensures.form;
  inside = c.in-Ok.ensures.len;
  counted = omega arith;
}

pub take_up-requires : goal.take_up-requires
take_up-requires c = record {
  small = λ t. omega (
    arith,
    scanned_few _ _ _ _ _ _ t c.loop-view.invariant.scanned,
    c.loop-view.invariant.counted,
    c.loop-view.invariant.inside,
    c.requires,
  );
}

pub loop-view-preserved : goal.loop-view-preserved
loop-view-preserved c =
    let form = form_in c.in-Ok.header in
    let view = c.in-Ok-Some.view in
    let found : first_record form (c.loop-view.records + 1) (drop c.loop-view.at c.args.bytes.now)
    ≡ Ok (Some (next_in c.args.bytes.now view)) = search rules in
    record {
      scanned = scan_more form c.args.local c.args.bytes.now c.loop-view.at view.next c.loop-view.records _ _
          (record_in view) found
          (went_well c.take_up.result (sym c.is_err.ensures.value ∙ c.if-is_err.false) c.take_up.ensures.ok)
          c.loop-view.invariant.scanned;
      form = c.loop-view.invariant.form;
      inside = search rules;
      counted = search rules;
    }

pub returns-in-Ok-None-clause-found : goal.returns-in-Ok-None-clause-found
returns-in-Ok-None-clause-found c =
    let form = form_in c.in-Ok.header in
    let is = c.loop-view.invariant.scanned in
    let none : first_record form (c.loop-view.records + 1) (drop c.loop-view.at c.args.bytes.now)
    ≡ Ok None = search rules in
    let ends = scan_ends form c.args.local c.args.bytes.now c.loop-view.at c.loop-view.records _ none is in
    scan_found c.args.bytes.now c.args.local c.args.loose form c.loop-view.records c.loop-view.numbering _
    c.loop-view.invariant.form is.before ends is.counted (is.listed c.args.loose) c.new.ensures c.finish.ensures refl

pub returns-in-Ok-None-clause-few : goal.returns-in-Ok-None-clause-few
returns-in-Ok-None-clause-few c = found_few c.args.bytes.now c.args.local c.args.loose _
    (returns-in-Ok-None-clause-found c)

pub returns-in-Err-next_record-clause-refused : goal.returns-in-Err-next_record-clause-refused
returns-in-Err-next_record-clause-refused c =
    scan_refused (form_in c.in-Ok.header) c.args.local c.args.bytes.now c.loop-view.at c.loop-view.records _
    (fault_in c.in-Err-next_record.fault) c.loop-view.invariant.form c.in-Err-next_record.ensures.refused
    c.loop-view.invariant.scanned
