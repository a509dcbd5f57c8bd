use Rattle.std.proofs.Common.{◌≡◌, ◌++◌, ◌≤◌, length, take, sym, ap, ◌∙◌, arith, append-nil}
use Rattle.std.proofs.lemmas.List.{take_all}
use Rattle.flow_state.specs.Views.{seen_stretch}
use Rattle.run_texts.proofs.Short.{of_sent}
use Rattle.sent_frames.specs.Sending.{of_tick, entry_frames, sent_by}
use Rattle.sent_frames.proofs.Starting.{joined, starts, collected_more, number_more, few_sent, short_in}
use Rattle.sent_frames.proofs.flows.collect_entries.Goals as goal

pub loop-i-init : goal.loop-i-init
loop-i-init c =
    let flow = c.args.history.now in
    let start = starts flow.params flow.entries c.stretches-stretches.result c.first_since-i.result c.args.tick
    c.entries-entries.ensures.legal c.stretches-stretches.ensures c.first_since-i.ensures.earlier
    c.first_since-i.ensures.later in
    record {
      number = c.requires.number ∙ start.1;
      frames = sym (ap (λ fs. c.args.sent.now ++ fs) (start.0 c.args.origin.now) ∙ append-nil c.args.sent.now);
      last = c.requires.last;
    }

pub collect_stretch-requires-clause-few : goal.collect_stretch-requires-clause-few
collect_stretch-requires-clause-few c =
    omega (
      arith,
      few_sent c.loop-i.number c.stretches-stretches.result c.loop-i.i (seen_stretch c.get.result) c.get.ensures.entries
          c.loop-i.invariant.number,
      ap length c.stretches-stretches.ensures,
      c.entries-entries.ensures.count,
      c.entries-entries.type_inv,
    )

pub collect_stretch-requires-clause-room : goal.collect_stretch-requires-clause-room
collect_stretch-requires-clause-room c =
    let flow = c.args.history.now in
    short_in flow.entries c.stretches-stretches.result c.loop-i.i (seen_stretch c.get.result)
    c.stretches-stretches.ensures c.get.ensures.entries
    (of_sent flow.params flow.entries c.parts-parts.ensures.ranges c.entries-entries.ensures.legal)

pub loop-i-preserved : goal.loop-i-preserved
loop-i-preserved c =
    let xss = c.stretches-stretches.result in
    let i = c.loop-i.i in
    let xs = seen_stretch c.get.result in
    let here = c.get.ensures.entries in
    record {
      number = number_more c.loop-i.number c.in_ok-number.number xss i xs here c.loop-i.invariant.number
          c.in_ok-number.ensures.number;
      frames = collected_more c.args.origin.now c.args.tick c.loop-i.number xss i xs c.args.sent.now c.loop-i.sent
          c.collect_stretch.new.sent here c.loop-i.invariant.frames c.loop-i.invariant.number
          c.in_ok-number.ensures.frames;
      last = c.in_ok-number.ensures.last;
    }

pub returns-clause-frames : goal.returns-clause-frames
returns-clause-frames c =
    let xss = c.stretches-stretches.result in
    let past : length xss ≤ c.loop-i.i = omega arith in
    let all : joined (take c.loop-i.i xss) ≡ c.args.history.now.entries =
    ap joined (take_all c.loop-i.i xss past) ∙ c.stretches-stretches.ensures in
    c.loop-i.invariant.frames
    ∙ ap (λ xs. c.args.sent.now ++ of_tick c.args.tick (entry_frames c.args.origin.now 0 xs)) all

pub returns-clause-number : goal.returns-clause-number
returns-clause-number c =
    let xss = c.stretches-stretches.result in
    let past : length xss ≤ c.loop-i.i = omega arith in
    let all : joined (take c.loop-i.i xss) ≡ c.args.history.now.entries =
    ap joined (take_all c.loop-i.i xss past) ∙ c.stretches-stretches.ensures in
    c.loop-i.invariant.number ∙ ap sent_by all
