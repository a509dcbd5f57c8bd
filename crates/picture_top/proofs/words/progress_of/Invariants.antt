use Rattle.std.proofs.Common.{◌≡◌, map, drop, fold, string_bytes}
use Rattle.picture_top.specs.Words as forms
use Rattle.picture_top.specs.Asking.{progress_in}
use Rattle.picture_top.proofs.words.progress_of.Given as goal

abbrev pub invariant-loop-word : goal.invariant-loop-word
invariant-loop-word l =
    fold forms.after_word (progress_in l.progress) (map string_bytes (drop l.word-index l.fn.words))
    ≡ forms.progress_of (map string_bytes l.fn.words)
