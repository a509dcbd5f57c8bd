-- Answers of the proof of laws/phases_keep_the_lists.
use Rattle.std.proofs.Common.{sym, ◌∙◌}
use Rattle.sound_hosts.proofs.Kept.{flows_same, shown_same, indexed_still}
use Rattle.sound_hosts.proofs.laws.phases_keep_the_lists.Goals as goal

pub returns : goal.returns
returns c books before after w leads are flows shown = (
  flows ∙ sym (flows_same before after (λ f. (leads f).tuple) books),
  record {
    pending = shown.pending;
    shown = shown_same before after (λ f. (leads f).tuple) books w.index.published shown.shown;
  },
  indexed_still before after leads books are,
)
