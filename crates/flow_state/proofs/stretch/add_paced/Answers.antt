use Rattle.std.proofs.Common.{sym, subst}
use Rattle.flow_state.specs.declared.stretch.Stretch.TheVariants.{Paced}
use Rattle.flow_state.specs.Stretches.{AllWithin}
use Rattle.flow_state.proofs.Pacing.{put_joined, within_take}
use Rattle.flow_state.proofs.Runs.{within_push}
use Rattle.flow_state.proofs.stretch.add_paced.Goals as goal

pub returns-in-Some-clause-entries : goal.returns-in-Some-clause-entries
returns-in-Some-clause-entries c memory =
    put_joined memory c.args.stretches.now.items c.deref.result.now c.pop.new.self.items c.push.new.stretches.items
    c.args.stretches.now.len c.in-Some.runs c.args.next c.deref.ensures.value c.args.stretches.now.ok.0
    c.pop.ensures.rest c.push.ensures.items (c.in-Some.ensures.entries memory)

pub returns-in-Some-clause-within : goal.returns-in-Some-clause-within
returns-in-Some-clause-within c n k all =
    subst (AllWithin n k) (sym c.push.ensures.items)
    (within_push n k c.pop.new.self.items (Paced c.in-Some.runs) c.in-Some.ensures.fits
    (subst (AllWithin n k) (sym c.pop.ensures.rest) (within_take n k _ c.args.stretches.now.items all)))

pub returns-in_default-clause-within : goal.returns-in_default-clause-within
returns-in_default-clause-within c n k all =
    subst (AllWithin n k) (sym c.push-in_default.ensures.items)
    (within_push n k c.args.stretches.now.items (Paced c.args.next) c.requires.next all)
