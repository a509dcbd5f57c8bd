use Rattle.std.proofs.Common.{ℕ, List, take, rules, subst}
use Rattle.std.specs.Io.KnownBytes.{Appends}
use Rattle.tas_num.proofs.Writing.{appends_more, stopped, whole, within}
use Rattle.tas_num.proofs.outside.write_all.Goals as goal

pub returns-in_err-written : goal.returns-in_err-written
returns-in_err-written g c =
    let so_far = c.loop-written.invariant in
    let fault = c.in_err-written.ensures in
    let before = g.K.Sink.state c.args.sink.now in
    let now = g.K.Sink.state c.loop-written.sink in
    let after = g.K.Sink.state c.write.new.self in
    let k = c.loop-written.written in
    let why = c.in_err-written.field-0.0 in
    let bytes = c.args.bytes.now in
    search (rules, stopped before now after bytes k why so_far.bytes so_far.counts so_far.same fault.bytes fault.counts)

pub loop-written-preserved : goal.loop-written-preserved
loop-written-preserved g c =
    let bytes : List ℕ = c.args.bytes.now in
    let k = c.loop-written.written in
    let n = c.in_ok-written.field-0 in
    let now = g.K.Sink.state c.loop-written.sink in
    let after = g.K.Sink.state c.write.new.self in
    let so_far = c.loop-written.invariant in
    let done = c.in_ok-written.ensures in
    let piece = subst (λ (xs : List ℕ). Appends now.held after.held (take n xs)) (whole k bytes) done.bytes in
    record {
      bytes = appends_more _ _ _ bytes k n so_far.bytes piece;
      within = within k n bytes so_far.within done.bound;
      counts = search rules;
      same = search rules;
    }
