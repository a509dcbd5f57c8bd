use Rattle.std.proofs.Common.{rules, map, ℕ, ◌++◌, List, ap, codes, decimal}
use Rattle.tas_model.specs.declared.entry.Entry.{Entry}
use Rattle.tas_runs.specs.Report.{caller_text, call_text, reply_text}
use Rattle.run_texts.specs.declared.texts.EntryStart.{EntryStart}
use Rattle.run_texts.proofs.Writing.{stopped, stopped_at, wrote_as, wrote_then}
use Rattle.run_texts.proofs.entries.write_entry.Goals as goal

abbrev start_text : EntryStart → List ℕ
start_text t = decimal t.tick ++ codes " " ++ caller_text t.caller ++ codes "." ++ decimal t.number ++ codes " "

abbrev first : Entry → List ℕ
first x = decimal x.tick ++ codes " " ++ caller_text x.caller ++ codes "." ++ decimal x.number ++ codes " "

pub returns-in_err-put_text : goal.returns-in_err-put_text
returns-in_err-put_text g c =
    let x : Entry = c.args.entry.now in
    stopped _ _ _ _ _ (search rules)
    (stopped _ _ _ _ _ (search rules)
    (stopped _ _ _ _ _ (search rules) (stopped_at _ _ _ _ (first x) _ (search rules) (search rules)
    (wrote_as _ _ _ _ (first x) (ap start_text c.start_of.ensures) c.put_text.ensures))))

pub returns-in_err-write_call : goal.returns-in_err-write_call
returns-in_err-write_call g c =
    let x : Entry = c.args.entry.now in
    let call : List ℕ = call_text (map (λ n. n.now) c.args.names.now) x.call in
    stopped _ _ _ _ _ (search rules)
    (stopped _ _ _ _ _ (search rules)
    (stopped_at _ _ _ _ (first x ++ call) _ (search rules) (search rules)
    (wrote_then _ _ _ _ (first x) call
    (wrote_as _ _ _ _ (first x) (ap start_text c.start_of.ensures) c.in_ok-put_text.ensures)
    (wrote_as _ _ _ _ call (ap (call_text (map (λ n. n.now) c.args.names.now)) c.call.ensures) c.write_call.ensures))))

pub returns-in_err-put : goal.returns-in_err-put
returns-in_err-put g c =
    let x : Entry = c.args.entry.now in
    let call : List ℕ = call_text (map (λ n. n.now) c.args.names.now) x.call in
    stopped _ _ _ _ _ (search rules)
    (stopped_at _ _ _ _ (first x ++ call ++ codes " = ") _ (search rules) (search rules)
    (wrote_then _ _ _ _ (first x ++ call) (codes " = ")
    (wrote_then _ _ _ _ (first x) call
    (wrote_as _ _ _ _ (first x) (ap start_text c.start_of.ensures) c.in_ok-put_text.ensures)
    (wrote_as _ _ _ _ call (ap (call_text (map (λ n. n.now) c.args.names.now)) c.call.ensures)
    c.in_ok-write_call.ensures)) c.put.ensures))

pub returns-in_err-write_reply : goal.returns-in_err-write_reply
returns-in_err-write_reply g c =
    let x : Entry = c.args.entry.now in
    let call : List ℕ = call_text (map (λ n. n.now) c.args.names.now) x.call in
    stopped_at _ _ _ _ (first x ++ call ++ codes " = " ++ reply_text x.reply) _ (search rules) (search rules)
    (wrote_then _ _ _ _ (first x ++ call ++ codes " = ") (reply_text x.reply)
    (wrote_then _ _ _ _ (first x ++ call) (codes " = ")
    (wrote_then _ _ _ _ (first x) call
    (wrote_as _ _ _ _ (first x) (ap start_text c.start_of.ensures) c.in_ok-put_text.ensures)
    (wrote_as _ _ _ _ call (ap (call_text (map (λ n. n.now) c.args.names.now)) c.call.ensures)
    c.in_ok-write_call.ensures)) c.in_ok-put.ensures)
    (wrote_as _ _ _ _ (reply_text x.reply) (ap reply_text c.reply.ensures) c.write_reply.ensures))

pub returns : goal.returns
returns g c =
    let x : Entry = c.args.entry.now in
    let call : List ℕ = call_text (map (λ n. n.now) c.args.names.now) x.call in
    wrote_then _ _ _ _ (first x ++ call ++ codes " = " ++ reply_text x.reply) _
    (wrote_then _ _ _ _ (first x ++ call ++ codes " = ") (reply_text x.reply)
    (wrote_then _ _ _ _ (first x ++ call) (codes " = ")
    (wrote_then _ _ _ _ (first x) call
    (wrote_as _ _ _ _ (first x) (ap start_text c.start_of.ensures) c.in_ok-put_text.ensures)
    (wrote_as _ _ _ _ call (ap (call_text (map (λ n. n.now) c.args.names.now)) c.call.ensures)
    c.in_ok-write_call.ensures)) c.in_ok-put.ensures)
    (wrote_as _ _ _ _ (reply_text x.reply) (ap reply_text c.reply.ensures) c.in_ok-write_reply.ensures)) (search rules)
