use Rattle.std.proofs.Common.{map, string_bytes}
use Rattle.program_words.specs.Words.{form_of}
use Rattle.program_words.specs.Requests.{request_in}
use Rattle.program_words.proofs.Asked.{asked_serially}
use Rattle.tas_top.proofs.top.tas_serial.Goals as goal

pub answer-requires : goal.answer-requires
answer-requires g c =
    let form = form_of (map string_bytes c.args.words.now) in
    record {
      makes = λ job asked fit. (
        (fit, asked_serially form (request_in job.asked) c.requires.serial asked),
        λ made post. post.1,
      );
    }
