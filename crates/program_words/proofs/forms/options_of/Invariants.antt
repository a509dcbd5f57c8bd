use Rattle.std.proofs.Common.{◌≡◌, map, drop, fold, string_bytes}
use Rattle.program_words.specs.Words as forms
use Rattle.program_words.specs.Requests.{progress_in}
use Rattle.program_words.proofs.forms.options_of.Given as goal

abbrev pub invariant-loop-word : goal.invariant-loop-word
invariant-loop-word l =
    fold forms.after_word (progress_in l.progress) (map string_bytes (drop l.word-index l.fn.words))
    ≡ forms.options_of (map string_bytes l.fn.words)
