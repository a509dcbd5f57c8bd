use Rattle.std.proofs.Common.{rules, ◌≡◌, true, map, string_bytes}
use Rattle.program_words.specs.Words.{form_of, names_cores}
use Rattle.program_words.specs.Requests.{request_in}
use Rattle.program_words.proofs.Asked.{asked_on_cores}
use Rattle.tas_top.proofs.top.tas.Goals as goal

pub answer-requires : goal.answer-requires
answer-requires g c =
    let form = form_of (map string_bytes c.args.words.now) in
    let names : names_cores form ≡ true = search rules in
    record {
      makes = λ job asked fit. (
        ((fit, asked_on_cores form (request_in job.asked) names asked), (search rules, search rules)),
        λ made post. post.1,
      );
    }
