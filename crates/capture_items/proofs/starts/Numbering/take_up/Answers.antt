use Rattle.std.proofs.Common.{sym, ap, subst}
use Rattle.host_rounds.specs.Hosts.{same_tuple}
use Rattle.capture_items.specs.Starts.{AreOf, with_one}
use Rattle.capture_items.proofs.Scanning.{ok_then, with_syn}
use Rattle.capture_items.proofs.starts.Numbering.take_up.Goals as goal

pub returns-in-Some : goal.returns-in-Some
returns-in-Some c = record {
  ok = ok_then c.note.result
      (λ noted t list loose are. subst (AreOf c.note.new.self t)
      (sym (with_syn (same_tuple t c.in-Some.tuple) list c.in-Some.syn _ (c.in-Some.ensures t loose)))
      (noted t list are)) c.note.ensures.ok;
}

pub returns-in-None : goal.returns-in-None
returns-in-None c = record {
  ok = λ t list loose are. subst (AreOf c.args.self.now t) (ap (with_one list) (c.in-None.ensures t loose)) are;
}
