-- A line: what it says is in the ranges of its form.
use Rattle.std.proofs.Common.{◌≡◌, ◌≤◌, ℕ, false, not, nat_lt, List, [], ◌∷◌, length}
use Rattle.std.proofs.Common.{Option, Some, None, arith}
use Rattle.std.proofs.lemmas.Bool.Decides.{nat_tests}
use Rattle.std.specs.List.{list_all}
use Rattle.tas_model.proofs.Tests.{on_cond}
use Rattle.link_script.specs.declared.script.LinkAct.TheVariants as acts
use Rattle.scenario_text.specs.Words.{words_of}
use Rattle.scenario_text.specs.Statements.{keyword_of, by_keyword, is_comment, by_words, is_printable, reading}
use Rattle.scenario_text.specs.declared.scenario.Step.TheVariants as steps
use Rattle.scenario_text.specs.declared.statement.Keyword.{Keyword}
use Rattle.scenario_text.specs.declared.statement.Keyword.TheVariants as keywords
use Rattle.scenario_text.specs.declared.statement.Reading.TheVariants.{Nothing, Wrong}
use Rattle.scenario_ranges.proofs.LineForms.{IsReadInRange, limit_from, host_line_from, app_from, listen_from}
use Rattle.scenario_ranges.proofs.LineForms.{accept_from, connect_from, send_from, fill_from, recv_from, name_from}
use Rattle.scenario_ranges.proofs.LineForms.{wait_from, frame_from, delay_from, corrupt_from, drop_each_from}
use Rattle.scenario_ranges.proofs.LineForms.{move_from, kill_from}

keyword_from : (line : List ℕ) (keyword : Option Keyword) (words : List (List ℕ)) → length line ≤ 4096
    → IsReadInRange (by_keyword line keyword words)
keyword_from line None words h = tt
keyword_from line (Some keywords.Limit) words h = limit_from words
keyword_from line (Some keywords.Host) words h = host_line_from words
keyword_from line (Some keywords.App) words h = app_from words
keyword_from line (Some keywords.Listen) words h = listen_from words
keyword_from line (Some keywords.Accept) words h = accept_from words
keyword_from line (Some keywords.Connect) words h = connect_from words
keyword_from line (Some keywords.Send) words h = send_from line words h
keyword_from line (Some keywords.Fill) words h = fill_from words
keyword_from line (Some keywords.Recv) words h = recv_from words
keyword_from line (Some keywords.Drain) words h = name_from steps.Drain words (λ name. tt)
keyword_from line (Some keywords.Shut) words h = name_from steps.Shut words (λ name. tt)
keyword_from line (Some keywords.Close) words h = name_from steps.Close words (λ name. tt)
keyword_from line (Some keywords.Abort) words h = name_from steps.Abort words (λ name. tt)
keyword_from line (Some keywords.Wait) words h = wait_from words
keyword_from line (Some keywords.Lose) words h = frame_from acts.Drop words
keyword_from line (Some keywords.Dup) words h = frame_from acts.Dup words
keyword_from line (Some keywords.Delay) words h = delay_from words
keyword_from line (Some keywords.Corrupt) words h = corrupt_from words
keyword_from line (Some keywords.DropEach) words h = drop_each_from words
keyword_from line (Some keywords.Move) words h = move_from words
keyword_from line (Some keywords.Kill) words h = kill_from words

words_from : (line : List ℕ) (words : List (List ℕ)) → length line ≤ 4096 → IsReadInRange (by_words line words)
words_from line [] h = tt
words_from line (word ∷ words) h =
    on_cond IsReadInRange (is_comment word) Nothing (by_keyword line (keyword_of word) words) (λ t. tt)
    (λ f. keyword_from line (keyword_of word) words h)

pub reading_from : (line : List ℕ) → IsReadInRange (reading line)
unfolding reading
reading_from line =
    on_cond IsReadInRange (nat_lt 4096 (length line)) (Wrong 1) _ (λ t. tt)
    (λ f. on_cond IsReadInRange (not (list_all is_printable line)) (Wrong 2) (by_words line (words_of line)) (λ t. tt)
    (λ p. words_from line (words_of line) (short (length line) f))) where
      short : (n : ℕ) → nat_lt 4096 n ≡ false → n ≤ 4096
      short n e = grind (arith, nat_tests, e)
