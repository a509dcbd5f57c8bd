use Rattle.std.proofs.Common.{rules, ◌≡◌, ap, false, is_some}
use Rattle.program_words.specs.Requests.{form_in}
use Rattle.program_words.proofs.Spelling.{no_address}
use Rattle.program_words.proofs.reading.is_form.Goals as goal

pub returns-in-Replay-clause-not : goal.returns-in-Replay-clause-not
returns-in-Replay-clause-not c e form =
    let none : is_some c.address_in.result ≡ false = search rules in
    no_address (form_in c.args.form.now) c.in-Replay.local.now c.in-Replay.cores c.in-Replay.pcap c.in-Replay.loose
    c.address_in.result (ap form_in c.in-Replay.is) none c.address_in.ensures.none form
