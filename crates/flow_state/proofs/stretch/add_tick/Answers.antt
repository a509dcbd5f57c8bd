use Rattle.std.proofs.Common.{ap, sym, arith}
use Rattle.flow_state.specs.declared.slot.CallSlot.TheVariants as cs
use Rattle.flow_state.specs.declared.slot.ReplySlot.TheVariants as rs
use Rattle.flow_state.specs.Stretches.{tick_entry}
use Rattle.flow_state.proofs.stretch.add_tick.Goals as goal

pub returns-in-Quiet-clause-added : goal.returns-in-Quiet-clause-added
returns-in-Quiet-clause-added c = (
  record {
    caller = c.args.caller;
    number = c.args.number;
    bytes = record { from = 0; len = 0 };
    reply = rs.Quiet;
    call = cs.Tick;
  },
  record {
    entry = λ memory. ap (tick_entry c.args.caller c.args.number c.args.tick) (sym c.in-Quiet.is);
    within = λ n k. record { bytes = omega arith; came = tt };
  },
  record {
    entries = λ memory. c.add_quiet.ensures.entries memory;
    within = λ n k all is. c.add_quiet.ensures.within n k all;
    few = λ memory low.
        omega (
          arith,
          c.add_quiet.ensures.few memory low,
          c.args.stretches.now.ok.0,
          c.add_quiet.new.stretches.ok.0,
        );
  },
)

pub returns-in_default : goal.returns-in_default
returns-in_default c =
    record {
      added = (
        c.tick_slot.result,
        c.tick_slot.ensures c.args.tick,
        record {
          entries = c.add.ensures.entries;
          within = c.add.ensures.within;
          few = λ memory low.
              omega (arith, c.add.ensures.few memory low, c.args.stretches.now.ok.0, c.add.new.stretches.ok.0);
        },
      );
      len = c.add.ensures.len;
      capacity = c.add.ensures.capacity;
    }
