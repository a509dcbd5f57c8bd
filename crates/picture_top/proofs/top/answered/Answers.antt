use Rattle.std.proofs.Common.{rules, ◌≡◌, ◌∙◌, ap, refl, inl, inr, map, string_bytes, Ok, Err, Some}
use Rattle.tas_num.specs.declared.outside.IoFault.{IoFault}
use Rattle.tas_num.specs.declared.outside.IoFault.TheVariants.{Failed, OutOfMemory}
use Rattle.picture_top.specs.Answers.{call}
use Rattle.picture_top.specs.Asking.{asked_in}
use Rattle.picture_top.specs.Words.{asked_by}
use Rattle.picture_top.specs.declared.stop.Stop.TheVariants.{Write, Memory}
use Rattle.picture_top.proofs.Ends.{picture_written}
use Rattle.picture_top.proofs.top.answered.Goals as goal

pub returns-in-Ok-write_all : goal.returns-in-Ok-write_all
returns-in-Ok-write_all g c =
    let words : asked_by (map string_bytes c.args.words.now) ≡ Some (asked_in c.in-Some.asked) = search rules in
    inl (
      refl,
      record {
        written = picture_written (call (map string_bytes c.args.words.now) (g.S.Source.state c.args.source.now)
            (g.S.Source.state c.picture_in.new.source) (g.K.Sink.state c.args.sink.now)
            (g.K.Sink.state c.write_all.new.sink) (g.F.Sink.state c.args.faults.now)
            (g.F.Sink.state c.args.faults.now))
            (asked_in c.in-Some.asked) c.in-Ok.out.items c.deref.result.now c.write_all.result (Ok tt)
            words c.in-Ok.ensures.read c.in-Ok.ensures.shown c.deref.ensures.value c.write_all.ensures
            c.in-Ok-write_all.is;
        silent = refl {a = g.F.Sink.state c.args.faults.now};
      },
    )

pub returns-in-Err-Failed : goal.returns-in-Err-Failed
returns-in-Err-Failed g c =
    let words : asked_by (map string_bytes c.args.words.now) ≡ Some (asked_in c.in-Some.asked) = search rules in
    inr (record {
      stop = Write;
      status_is = c.stopped-in-Err-Failed.ensures.status;
      why = picture_written (call (map string_bytes c.args.words.now) (g.S.Source.state c.args.source.now)
          (g.S.Source.state c.picture_in.new.source) (g.K.Sink.state c.args.sink.now)
          (g.K.Sink.state c.write_all.new.sink) (g.F.Sink.state c.args.faults.now)
          (g.F.Sink.state c.stopped-in-Err-Failed.new.faults))
          (asked_in c.in-Some.asked) c.in-Ok.out.items c.deref.result.now c.write_all.result (Err Failed)
          words c.in-Ok.ensures.read c.in-Ok.ensures.shown c.deref.ensures.value c.write_all.ensures
          (c.in-Err-Failed.is ∙ ap (λ (f : IoFault). Err f) c.in-Err-Failed.field-0-is);
      told = c.stopped-in-Err-Failed.ensures.told;
    })

pub returns : goal.returns
returns g c =
    let words : asked_by (map string_bytes c.args.words.now) ≡ Some (asked_in c.in-Some.asked) = search rules in
    inr (record {
      stop = Memory;
      status_is = c.stopped-in-Err-OutOfMemory.ensures.status;
      why = inr (picture_written (call (map string_bytes c.args.words.now) (g.S.Source.state c.args.source.now)
          (g.S.Source.state c.picture_in.new.source) (g.K.Sink.state c.args.sink.now)
          (g.K.Sink.state c.write_all.new.sink) (g.F.Sink.state c.args.faults.now)
          (g.F.Sink.state c.stopped-in-Err-OutOfMemory.new.faults))
          (asked_in c.in-Some.asked) c.in-Ok.out.items c.deref.result.now c.write_all.result (Err OutOfMemory)
          words c.in-Ok.ensures.read c.in-Ok.ensures.shown c.deref.ensures.value c.write_all.ensures
          (c.in-Err-OutOfMemory.is ∙ ap (λ (f : IoFault). Err f) c.in-Err-OutOfMemory.field-0-is));
      told = c.stopped-in-Err-OutOfMemory.ensures.told;
    })
