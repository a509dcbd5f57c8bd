use Rattle.std.proofs.Common.{rules, ◌≡◌, ◌+◌, ◌≤◌, length, drop, Some, None, Ok, sym, ◌∙◌}
use Rattle.tas_num.specs.Captures.{first_record}
use Rattle.pcap_frames.specs.Views.{form_in, next_in, fault_in}
use Rattle.capture_items.specs.Items.{item_in}
use Rattle.capture_items.proofs.Following.{left_ends, left_whole, behind_readable, items_behind}
use Rattle.capture_items.proofs.reader.ItemReader.next_item.Goals as goal

pub returns-in-Ok-None-clause-none : goal.returns-in-Ok-None-clause-none
returns-in-Ok-None-clause-none c =
    let r = c.loop-view.self-inside in
    let none : first_record (form_in r.header) (r.records + 1) (drop r.at r.bytes.now) ≡ Ok None = search rules in
    sym c.loop-view.invariant.same
    ∙ left_ends (form_in r.header) r.local r.loose (r.records + 1) (drop r.at r.bytes.now) none

pub returns-in-Ok-None-clause-done : goal.returns-in-Ok-None-clause-done
returns-in-Ok-None-clause-done c =
    let r = c.loop-view.self-inside in
    let none : first_record (form_in r.header) (r.records + 1) (drop r.at r.bytes.now) ≡ Ok None = search rules in
    left_ends (form_in r.header) r.local r.loose (r.records + 1) (drop r.at r.bytes.now) none

pub unreachable-requires : goal.unreachable-requires
unreachable-requires c =
    let r = c.loop-view.self-inside in
    left_whole (form_in r.header) (r.records + 1) (drop r.at r.bytes.now) (fault_in c.in-Err.field-0)
    c.in-Err.ensures.refused c.loop-view.invariant.readable.whole

pub invariant_of-self-in-Some : goal.invariant_of-self-in-Some
invariant_of-self-in-Some c =
    let r = c.loop-view.self-inside in
    let found : first_record (form_in r.header) (r.records + 1) (drop r.at r.bytes.now)
    ≡ Ok (Some (next_in r.bytes.now c.in-Ok-Some.view)) = search rules in
    let next : (r.at + 16 ≤ c.in-Ok-Some.view.next) × (c.in-Ok-Some.view.next ≤ length r.bytes.now) = search rules in
    behind_readable r c.in-Ok-Some.view c.loop-view.invariant.readable found next

pub returns-in-Some-clause-some : goal.returns-in-Some-clause-some
returns-in-Some-clause-some c =
    let r = c.loop-view.self-inside in
    let found : first_record (form_in r.header) (r.records + 1) (drop r.at r.bytes.now)
    ≡ Ok (Some (next_in r.bytes.now c.in-Ok-Some.view)) = search rules in
    sym c.loop-view.invariant.same
    ∙ items_behind r c.in-Ok-Some.view c.loop-view.invariant.readable found (Some (item_in c.in-Some.item))
    c.in-Some.ensures.taken

pub loop-view-preserved : goal.loop-view-preserved
loop-view-preserved c =
    let r = c.loop-view.self-inside in
    let found : first_record (form_in r.header) (r.records + 1) (drop r.at r.bytes.now)
    ≡ Ok (Some (next_in r.bytes.now c.in-Ok-Some.view)) = search rules in
    let next : (r.at + 16 ≤ c.in-Ok-Some.view.next) × (c.in-Ok-Some.view.next ≤ length r.bytes.now) = search rules in
    record {
      readable = behind_readable r c.in-Ok-Some.view c.loop-view.invariant.readable found next;
      same = sym (items_behind r c.in-Ok-Some.view c.loop-view.invariant.readable found None
          c.in_default.ensures.passed_over) ∙ c.loop-view.invariant.same;
    }
