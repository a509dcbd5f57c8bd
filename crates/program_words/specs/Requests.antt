-- What the code's words, options and requests are.
use Rattle.std.specs.Prelude.{option_map}
use Rattle.program_words.specs.Words.{Options, Progress, Refused, Reads, WantsCores, WantsAddress, Form, Unknown}
use Rattle.program_words.specs.Words.{Run, Bulk, Replay, Input, Scenario, Made, Capture, Request}
use Rattle.program_words.specs.declared.forms.Options as code_options
use Rattle.program_words.specs.declared.forms.Progress as code_progress
use Rattle.program_words.specs.declared.forms.Progress.TheVariants as progress
use Rattle.program_words.specs.declared.forms.Form as code_form
use Rattle.program_words.specs.declared.forms.Form.TheVariants as form
use Rattle.program_words.specs.declared.requests.Input as code_input
use Rattle.program_words.specs.declared.requests.Input.TheVariants as input
use Rattle.program_words.specs.declared.requests.Request as code_request

abbrev pub options_in : code_options.Options → Options
options_in o = record {
  serial = o.serial;
  cores = o.cores;
  pcap = o.pcap;
  loose = o.loose;
  local = option_map
      (λ text. text.now) o.local;
}

abbrev pub progress_in : code_progress.Progress → Progress
progress_in progress.Refused = Refused
progress_in (progress.Reads o) = Reads (options_in o)
progress_in (progress.WantsCores o) = WantsCores (options_in o)
progress_in (progress.WantsAddress o) = WantsAddress (options_in o)

abbrev pub form_in : code_form.Form → Form
form_in form.Unknown = Unknown
form_in (form.Run cores pcap) = Run cores pcap
form_in (form.Bulk clients cores) = Bulk clients cores
form_in (form.Replay local cores pcap loose) = Replay local.now cores pcap loose

abbrev pub input_in : code_input.Input → Input
input_in input.Scenario = Scenario
input_in (input.Made clients) = Made clients
input_in (input.Capture local loose) = Capture local loose

abbrev pub request_in : code_request.Request → Request
request_in r = record { input = input_in r.input; cores = r.cores; pcap = r.pcap }
