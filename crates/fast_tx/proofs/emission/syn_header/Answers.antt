use Rattle.fast_tx.proofs.Heads.{syn_is, syn_ack_is}
use Rattle.fast_tx.proofs.emission.syn_header.Goals as goal

pub returns-in-SynSent : goal.returns-in-SynSent
returns-in-SynSent c e s o first =
    syn_is c.args.parts.now e c.syn_window_field.result s o first c.in-SynSent.is (c.syn_window_field.ensures e s)

pub returns-in_default : goal.returns-in_default
returns-in_default c e s o first =
    syn_ack_is c.args.parts.now e c.syn_window_field-in_default.result c.scale_in_answer.result s o first
    c.in_default.not-SynSent (c.syn_window_field-in_default.ensures e s) (c.scale_in_answer.ensures e s)
