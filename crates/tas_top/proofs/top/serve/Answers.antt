use Rattle.std.proofs.Common.{rules, ◌≡◌, IfSome, List, ℕ, map, string_bytes}
use Rattle.tas_round.specs.Runs.{log_in}
use Rattle.program_words.specs.Words.{most_in, form_of}
use Rattle.tas_top.specs.Runs.{given, bytes_of, IsRun}
use Rattle.tas_top.specs.Jobs.{IsFit}
use Rattle.tas_top.specs.declared.runs.Job.{Job}
use Rattle.tas_top.specs.Outputs.{output}
use Rattle.tas_top.specs.Stops.{Cause, ReadsFor, ReadBefore, Unread, Unrun, Unwritten, IsOfMade}
use Rattle.program_words.specs.Requests.{request_in}
use Rattle.tas_top.proofs.Causes.{writes_all, writes_front, reads_for, unrun_why, unrun_read, at_err, whichever}
use Rattle.tas_top.proofs.Causes.{unread_why, unwritten_read, made_unread, made_is_read, made_words, made_unrun}
use Rattle.tas_top.proofs.Causes.{made_unwritten}
use Rattle.tas_top.proofs.Judging.{writes_legal}
use Rattle.program_words.proofs.Asked.{clients_in_range, cores_in_range}
use Rattle.tas_top.proofs.top.serve.Goals as goal

pub returns-clause-done : goal.returns-clause-done
returns-clause-done g c =
    let r = request_in c.in_ok-asked.asked in
    let bytes = c.in_ok-bytes.bytes.items in
    let log = log_in c.in_ok-log.log in
    let before = g.S.Source.state c.args.source.now in
    let after = g.S.Source.state c.read_input.new.source in
    let all : IfSome (bytes_of r.input before.left) (λ (b : List ℕ). bytes ≡ b) = search rules in
    let run : IsRun r bytes log = search rules in
    let call = given (map string_bytes c.args.words.now) before after (g.K.Sink.state c.args.sink.now)
    (g.K.Sink.state c.write_log.new.sink) in
    writes_all call bytes r log all c.in_ok-asked.ensures.ok run c.in_ok-write_log.ensures.ok

pub returns-clause-legal : goal.returns-clause-legal
returns-clause-legal g c =
    let r = request_in c.in_ok-asked.asked in
    let bytes = c.in_ok-bytes.bytes.items in
    let log = log_in c.in_ok-log.log in
    let before = g.S.Source.state c.args.source.now in
    let after = g.S.Source.state c.read_input.new.source in
    let all : IfSome (bytes_of r.input before.left) (λ (b : List ℕ). bytes ≡ b) = search rules in
    let run : IsRun r bytes log = search rules in
    let call = given (map string_bytes c.args.words.now) before after (g.K.Sink.state c.args.sink.now)
    (g.K.Sink.state c.write_log.new.sink) in
    writes_legal call bytes r log all c.in_ok-asked.ensures.ok run c.in_ok-write_log.ensures.ok
    c.in_ok-write_log.ensures.fits

pub returns-in_err-write_log-clause-front : goal.returns-in_err-write_log-clause-front
returns-in_err-write_log-clause-front g c =
    let r = request_in c.in_ok-asked.asked in
    let bytes = c.in_ok-bytes.bytes.items in
    let log = log_in c.in_ok-log.log in
    let before = g.S.Source.state c.args.source.now in
    let after = g.S.Source.state c.read_input.new.source in
    let all : IfSome (bytes_of r.input before.left) (λ (b : List ℕ). bytes ≡ b) = search rules in
    let run : IsRun r bytes log = search rules in
    let call = given (map string_bytes c.args.words.now) before after (g.K.Sink.state c.args.sink.now)
    (g.K.Sink.state c.write_log.new.sink) in
    whichever c.from_residual-in_err-write_log.result
    (writes_front call bytes r log c.in_err-write_log.field-0.0 all c.in_ok-asked.ensures.ok run
    (search rules))

pub returns-in_err-log-clause-cause : goal.returns-in_err-log-clause-cause
returns-in_err-log-clause-cause g c =
    let r = request_in c.in_ok-asked.asked in
    let bytes = c.in_ok-bytes.bytes.items in
    let before = g.S.Source.state c.args.source.now in
    let sink = g.K.Sink.state c.args.sink.now in
    let all : IfSome (bytes_of r.input before.left) (λ (b : List ℕ). bytes ≡ b) = search rules in
    let stop = c.in_err-log.field-0.0 in
    let why : Unrun r.input bytes stop = search rules in
    let call = given (map string_bytes c.args.words.now) before (g.S.Source.state c.read_input.new.source) sink sink in
    at_err (Cause call) c.from_residual-in_err-log.result stop (search rules)
    (unrun_why call bytes r stop all c.in_ok-asked.ensures.ok why)

pub returns-in_err-log-clause-before : goal.returns-in_err-log-clause-before
returns-in_err-log-clause-before g c =
    let r = request_in c.in_ok-asked.asked in
    let bytes = c.in_ok-bytes.bytes.items in
    let before = g.S.Source.state c.args.source.now in
    let after = g.S.Source.state c.read_input.new.source in
    let form = form_of (map string_bytes c.args.words.now) in
    let all : IfSome (bytes_of r.input before.left) (λ (b : List ℕ). bytes ≡ b) = search rules in
    let limit : c.most_bytes.result ≡ most_in form = c.most_bytes.ensures.limit form c.in_ok-asked.ensures.ok in
    let whole : ReadsFor form before after = reads_for form r c.most_bytes.result before after bytes
    c.in_ok-asked.ensures.ok limit all (search rules) (search rules) in
    let stop = c.in_err-log.field-0.0 in
    let why : Unrun r.input bytes stop = search rules in
    at_err (ReadBefore form before after) c.from_residual-in_err-log.result stop (search rules)
    (unrun_read form before after r.input bytes stop whole why)

pub run_by-requires : goal.run_by-requires
run_by-requires g c =
    let words = map string_bytes c.args.words.now in
    let r = request_in c.in_ok-asked.asked in
    let job : Job = record { asked = c.in_ok-asked.asked; bytes = c.in_ok-bytes.bytes } in
    let fit : IsFit job = record {
      clients = clients_in_range words r c.in_ok-asked.ensures.ok;
      cores = cores_in_range words r c.in_ok-asked.ensures.ok;
      short = search rules;
    } in
    let makes = c.requires.makes job c.in_ok-asked.ensures.ok fit in
    record { may = makes.0; makes = makes.1 }

pub returns-clause-read : goal.returns-clause-read
returns-clause-read g c =
    let r = request_in c.in_ok-asked.asked in
    let bytes = c.in_ok-bytes.bytes.items in
    let before = g.S.Source.state c.args.source.now in
    let form = form_of (map string_bytes c.args.words.now) in
    let all : IfSome (bytes_of r.input before.left) (λ (b : List ℕ). bytes ≡ b) = search rules in
    let limit : c.most_bytes.result ≡ most_in form = c.most_bytes.ensures.limit form c.in_ok-asked.ensures.ok in
    reads_for form r c.most_bytes.result before (g.S.Source.state c.read_input.new.source) bytes
    c.in_ok-asked.ensures.ok limit all (search rules) (search rules)

pub returns-clause-made : goal.returns-clause-made
returns-clause-made g c made =
    made_unread (form_of (map string_bytes c.args.words.now)) (request_in c.in_ok-asked.asked) _ _ made
    c.in_ok-asked.ensures.ok (search rules)

pub returns-in_err-write_log-clause-before : goal.returns-in_err-write_log-clause-before
returns-in_err-write_log-clause-before g c =
    let r = request_in c.in_ok-asked.asked in
    let bytes = c.in_ok-bytes.bytes.items in
    let before = g.S.Source.state c.args.source.now in
    let after = g.S.Source.state c.read_input.new.source in
    let form = form_of (map string_bytes c.args.words.now) in
    let all : IfSome (bytes_of r.input before.left) (λ (b : List ℕ). bytes ≡ b) = search rules in
    let limit : c.most_bytes.result ≡ most_in form = c.most_bytes.ensures.limit form c.in_ok-asked.ensures.ok in
    let whole : ReadsFor form before after = reads_for form r c.most_bytes.result before after bytes
    c.in_ok-asked.ensures.ok limit all (search rules) (search rules) in
    let stop = c.in_err-write_log.field-0.0 in
    let text = output r (log_in c.in_ok-log.log) in
    let old = g.K.Sink.state c.args.sink.now in
    let new = g.K.Sink.state c.write_log.new.sink in
    let why : Unwritten old new text stop = search rules in
    at_err (ReadBefore form before after) c.from_residual-in_err-write_log.result stop (search rules)
    (unwritten_read form before after old new text stop whole why)

pub returns-in_err-write_log-clause-made : goal.returns-in_err-write_log-clause-made
returns-in_err-write_log-clause-made g c made =
    made_unread (form_of (map string_bytes c.args.words.now)) (request_in c.in_ok-asked.asked) _ _ made
    c.in_ok-asked.ensures.ok (search rules)

pub returns-in_err-write_log-clause-sure : goal.returns-in_err-write_log-clause-sure
returns-in_err-write_log-clause-sure g c made =
    let stop = c.in_err-write_log.field-0.0 in
    let text = output (request_in c.in_ok-asked.asked) (log_in c.in_ok-log.log) in
    let old = g.K.Sink.state c.args.sink.now in
    let new = g.K.Sink.state c.write_log.new.sink in
    let why : Unwritten old new text stop = search rules in
    at_err IsOfMade c.from_residual-in_err-write_log.result stop (search rules) (made_unwritten old new text stop why)

pub returns-in_err-log-clause-made : goal.returns-in_err-log-clause-made
returns-in_err-log-clause-made g c made =
    made_unread (form_of (map string_bytes c.args.words.now)) (request_in c.in_ok-asked.asked) _ _ made
    c.in_ok-asked.ensures.ok (search rules)

pub returns-in_err-log-clause-sure : goal.returns-in_err-log-clause-sure
returns-in_err-log-clause-sure g c made =
    let r = request_in c.in_ok-asked.asked in
    let bytes = c.in_ok-bytes.bytes.items in
    let stop = c.in_err-log.field-0.0 in
    let why : Unrun r.input bytes stop = search rules in
    at_err IsOfMade c.from_residual-in_err-log.result stop (search rules)
    (made_unrun (form_of (map string_bytes c.args.words.now)) r bytes stop made c.in_ok-asked.ensures.ok why)

pub returns-in_err-bytes-clause-cause : goal.returns-in_err-bytes-clause-cause
returns-in_err-bytes-clause-cause g c =
    let r = request_in c.in_ok-asked.asked in
    let before = g.S.Source.state c.args.source.now in
    let after = g.S.Source.state c.read_input.new.source in
    let sink = g.K.Sink.state c.args.sink.now in
    let form = form_of (map string_bytes c.args.words.now) in
    let stop = c.in_err-bytes.field-0.0 in
    let limit : c.most_bytes.result ≡ most_in form = c.most_bytes.ensures.limit form c.in_ok-asked.ensures.ok in
    let why : Unread (bytes_of r.input before.left) before after c.most_bytes.result stop = search rules in
    let call = given (map string_bytes c.args.words.now) before after sink sink in
    at_err (Cause call) c.from_residual-in_err-bytes.result stop (search rules)
    (unread_why call r c.most_bytes.result stop c.in_ok-asked.ensures.ok limit why)

pub returns-in_err-bytes-clause-made : goal.returns-in_err-bytes-clause-made
returns-in_err-bytes-clause-made g c made =
    made_is_read (form_of (map string_bytes c.args.words.now)) (request_in c.in_ok-asked.asked)
    c.in_err-bytes.field-0.0 c.read_input.result _ made c.in_ok-asked.ensures.ok c.read_input.ensures.made
    (search rules)

pub returns-in_err-bytes-clause-sure : goal.returns-in_err-bytes-clause-sure
returns-in_err-bytes-clause-sure g c made =
    made_is_read (form_of (map string_bytes c.args.words.now)) (request_in c.in_ok-asked.asked)
    c.in_err-bytes.field-0.0 c.read_input.result _ made c.in_ok-asked.ensures.ok c.read_input.ensures.made
    (search rules)

pub returns-in_err-asked-clause-sure : goal.returns-in_err-asked-clause-sure
returns-in_err-asked-clause-sure g c made =
    let stop = c.in_err-asked.field-0.0 in
    at_err IsOfMade c.from_residual.result stop (search rules)
    (made_words (map string_bytes c.args.words.now) stop (search rules))
