use Rattle.std.proofs.Common.{ap, refl, inr, ◌∙◌, Ok, Err}
use Rattle.tas_num.specs.declared.outside.IoFault.{IoFault}
use Rattle.tas_num.specs.declared.outside.IoFault.TheVariants.{Failed, OutOfMemory}
use Rattle.tas_top.specs.Audits.{audited, AllLegal, FirstIllegal, Stopped}
use Rattle.tas_top.specs.declared.stop.Stop.TheVariants.{Write, Memory}
use Rattle.tas_top.proofs.Audited.{legal_written, illegal_found, unaudited_why}
use Rattle.tas_top.proofs.audits.answered.Goals as goal

pub returns-in-Ok : goal.returns-in-Ok
returns-in-Ok g c = (
  AllLegal c.in-Ok-Legal.flows c.in-Ok-Legal.entries,
  refl,
  record {
    written = legal_written (audited (g.S.Source.state c.args.source.now) (g.S.Source.state c.found_in.new.source)
        (g.K.Sink.state c.args.sink.now) (g.K.Sink.state c.put_legal.new.sink) (g.F.Sink.state c.args.faults.now)
        (g.F.Sink.state c.args.faults.now))
        c.in-Ok-Legal.field-0 c.in-Ok-Legal.flows c.in-Ok-Legal.entries c.put_legal.result (Ok tt)
        c.in-Ok-Legal.ensures.found c.in-Ok-Legal.field-0-is c.in-Ok-Legal.ensures.read c.put_legal.ensures c.in-Ok.is;
    silent = refl;
  },
)

pub returns-in-Err-Failed : goal.returns-in-Err-Failed
returns-in-Err-Failed g c = (
  Stopped Write,
  c.stopped.ensures.status,
  record {
    why = (
      c.in-Ok-Legal.flows,
      c.in-Ok-Legal.entries,
      legal_written (audited (g.S.Source.state c.args.source.now) (g.S.Source.state c.found_in.new.source)
          (g.K.Sink.state c.args.sink.now) (g.K.Sink.state c.put_legal.new.sink) (g.F.Sink.state c.args.faults.now)
          (g.F.Sink.state c.stopped.new.faults))
          c.in-Ok-Legal.field-0 c.in-Ok-Legal.flows c.in-Ok-Legal.entries c.put_legal.result (Err Failed)
          c.in-Ok-Legal.ensures.found c.in-Ok-Legal.field-0-is c.in-Ok-Legal.ensures.read c.put_legal.ensures
          (c.in-Err-Failed.is ∙ ap (λ (f : IoFault). Err f) c.in-Err-Failed.field-0-is),
    );
    told = c.stopped.ensures.told;
  },
)

pub returns-in-Err-OutOfMemory : goal.returns-in-Err-OutOfMemory
returns-in-Err-OutOfMemory g c = (
  Stopped Memory,
  c.stopped-in-Err-OutOfMemory.ensures.status,
  record {
    why = inr (
      c.in-Ok-Legal.flows,
      c.in-Ok-Legal.entries,
      legal_written (audited (g.S.Source.state c.args.source.now) (g.S.Source.state c.found_in.new.source)
          (g.K.Sink.state c.args.sink.now) (g.K.Sink.state c.put_legal.new.sink) (g.F.Sink.state c.args.faults.now)
          (g.F.Sink.state c.stopped-in-Err-OutOfMemory.new.faults))
          c.in-Ok-Legal.field-0 c.in-Ok-Legal.flows c.in-Ok-Legal.entries c.put_legal.result (Err OutOfMemory)
          c.in-Ok-Legal.ensures.found c.in-Ok-Legal.field-0-is c.in-Ok-Legal.ensures.read c.put_legal.ensures
          (c.in-Err-OutOfMemory.is ∙ ap (λ (f : IoFault). Err f) c.in-Err-OutOfMemory.field-0-is),
    );
    told = c.stopped-in-Err-OutOfMemory.ensures.told;
  },
)

pub returns-in-Ok-Illegal : goal.returns-in-Ok-Illegal
returns-in-Ok-Illegal g c = (
  FirstIllegal c.in-Ok-Illegal.line,
  refl,
  record {
    wrong = illegal_found (audited (g.S.Source.state c.args.source.now) (g.S.Source.state c.found_in.new.source)
        (g.K.Sink.state c.args.sink.now) (g.K.Sink.state c.args.sink.now) (g.F.Sink.state c.args.faults.now)
        (g.F.Sink.state c.tell_illegal.new.faults))
        c.in-Ok-Illegal.field-0 c.in-Ok-Illegal.line c.in-Ok-Illegal.ensures.found c.in-Ok-Illegal.field-0-is;
    read = c.in-Ok-Illegal.ensures.read;
    unwritten = refl;
    told = c.tell_illegal.ensures;
  },
)

pub returns-in-Err : goal.returns-in-Err
returns-in-Err g c = (
  Stopped c.in-Err.stop,
  c.stopped-in-Err.ensures.status,
  record {
    why = unaudited_why (audited (g.S.Source.state c.args.source.now) (g.S.Source.state c.found_in.new.source)
        (g.K.Sink.state c.args.sink.now) (g.K.Sink.state c.args.sink.now) (g.F.Sink.state c.args.faults.now)
        (g.F.Sink.state c.stopped-in-Err.new.faults))
        c.in-Err.stop c.in-Err.ensures.cause refl;
    told = c.stopped-in-Err.ensures.told;
  },
)
