-- A line: what it says, printed again, is one line that says the same.
use Rattle.std.proofs.Common.{◌≡◌, ◌≤◌, ℕ, ◌+◌, Bool, true, false, not, nat_lt, List, [], ◌∷◌, length}
use Rattle.std.proofs.Common.{Option, Some, None, refl, ap, subst, if◌then◌else◌, arith}
use Rattle.std.specs.Prelude.{codes, bytes_eq}
use Rattle.std.proofs.lemmas.Bool.Decides.{nat_tests}
use Rattle.std.proofs.lemmas.Slice.Eq.{bytes_eq-Decides}
use Rattle.std.specs.List.{list_all}
use Rattle.tas_model.proofs.Tests.{on_cond}
use Rattle.link_script.specs.declared.script.LinkAct.TheVariants as acts
use Rattle.scenario_text.specs.Words.{is_empty, is_name, words_of, text_of}
use Rattle.scenario_text.specs.Statements.{keyword_of, other_keyword, by_keyword, is_comment, by_words, is_printable}
use Rattle.scenario_text.specs.Statements.{reading, send_line, send_said, said}
use Rattle.scenario_text.specs.declared.scenario.Step.TheVariants as steps
use Rattle.scenario_text.specs.declared.statement.Keyword.{Keyword}
use Rattle.scenario_text.specs.declared.statement.Keyword.TheVariants as keywords
use Rattle.scenario_text.specs.declared.statement.Statement.{Statement}
use Rattle.scenario_text.specs.declared.statement.Statement.TheVariants as says
use Rattle.scenario_text.specs.declared.statement.Reading.{Reading}
use Rattle.scenario_text.specs.declared.statement.Reading.TheVariants.{Nothing, Wrong, Says}
use Rattle.scenario_canonical.proofs.WordForms.{IsLine, named_by}
use Rattle.scenario_canonical.proofs.SentTexts.{send_size, text_printable, send_there}
use Rattle.scenario_canonical.proofs.LineForms.{line_text, again, IsAgain, limit_again, host_line_again, app_again}
use Rattle.scenario_canonical.proofs.LineForms.{listen_again, accept_again, connect_again, fill_again, recv_again}
use Rattle.scenario_canonical.proofs.LineForms.{drain_again, shut_again, close_again, abort_again, wait_again}
use Rattle.scenario_canonical.proofs.LineForms.{drop_again, dup_again, delay_again, corrupt_again, drop_each_again}
use Rattle.scenario_canonical.proofs.LineForms.{move_again, kill_again}

-- ----- the step with a text
-- A line that may be read: it is short, and its bytes are printable.
record IsClean (line : List ℕ) : Type 0 where
  short : length line ≤ 4096
  clean : list_all is_printable line ≡ true

fits : (line word socket : List ℕ) (words : List (List ℕ)) → length line ≤ 4096 → words_of line ≡ word ∷ socket ∷ words
    → bytes_eq word (codes "send") ≡ true → is_empty (text_of line) ≡ false
    → length socket + length (text_of line) + 6 ≤ 4096
fits line word socket words short e t some =
    let size : length word + length socket + length (text_of line) + 2 ≤ length line =
    send_size line word socket words e some in
    let four : length word ≡ 4 = ap length ((bytes_eq-Decides word (codes "send")).0 t) in
    omega (arith, size, four, short)

send_again : (line word : List ℕ) (words : List (List ℕ)) → IsClean line → words_of line ≡ word ∷ words
    → bytes_eq word (codes "send") ≡ true → IsAgain (send_line line words)
send_again line word [] h e t = tt
send_again line word (socket ∷ words) h e t =
    on_cond IsAgain (is_empty (text_of line)) (Wrong 4) (send_said socket (text_of line)) (λ none. tt)
    (λ some. on_cond (λ (o : Option (List ℕ)). IsAgain (said (says_it (text_of line)) o)) (is_name socket) (Some socket)
    None (λ name. send_there socket (text_of line) (named_by socket name) some (text_printable line h.clean)
    (fits line word socket words h.short e t some)) (λ other. tt)) where
      says_it : List ℕ → List ℕ → Statement
      says_it text name = says.Do (steps.Send name text)

-- ----- by the first word
other_again : (line word : List ℕ) (words : List (List ℕ)) → IsAgain (by_keyword line (other_keyword word) words)
other_again line word words =
    let P : Option Keyword → Type 0 = λ (k : Option Keyword). IsAgain (by_keyword line k words) in
    on_cond P (bytes_eq word (codes "limit")) (Some keywords.Limit) _ (λ t. limit_again words)
    (λ f. on_cond P (bytes_eq word (codes "host")) (Some keywords.Host) _ (λ t. host_line_again words)
    (λ f. on_cond P (bytes_eq word (codes "app")) (Some keywords.App) _ (λ t. app_again words)
    (λ f. on_cond P (bytes_eq word (codes "drop")) (Some keywords.Lose) _ (λ t. drop_again words)
    (λ f. on_cond P (bytes_eq word (codes "dup")) (Some keywords.Dup) _ (λ t. dup_again words)
    (λ f. on_cond P (bytes_eq word (codes "delay")) (Some keywords.Delay) _ (λ t. delay_again words)
    (λ f. on_cond P (bytes_eq word (codes "corrupt")) (Some keywords.Corrupt) _ (λ t. corrupt_again words)
    (λ f. on_cond P (bytes_eq word (codes "dropeach")) (Some keywords.DropEach) _ (λ t. drop_each_again words)
    (λ f. on_cond P (bytes_eq word (codes "move")) (Some keywords.Move) _ (λ t. move_again words)
    (λ f. on_cond P (bytes_eq word (codes "kill")) (Some keywords.Kill) None (λ t. kill_again words)
    (λ f. tt))))))))))

keyword_again : (line word : List ℕ) (words : List (List ℕ)) → IsClean line → words_of line ≡ word ∷ words
    → IsAgain (by_keyword line (keyword_of word) words)
keyword_again line word words h e =
    let P : Option Keyword → Type 0 = λ (k : Option Keyword). IsAgain (by_keyword line k words) in
    on_cond P (bytes_eq word (codes "listen")) (Some keywords.Listen) _ (λ t. listen_again words)
    (λ f. on_cond P (bytes_eq word (codes "accept")) (Some keywords.Accept) _ (λ t. accept_again words)
    (λ f. on_cond P (bytes_eq word (codes "connect")) (Some keywords.Connect) _ (λ t. connect_again words)
    (λ f. on_cond P (bytes_eq word (codes "send")) (Some keywords.Send) _ (λ t. send_again line word words h e t)
    (λ f. on_cond P (bytes_eq word (codes "fill")) (Some keywords.Fill) _ (λ t. fill_again words)
    (λ f. on_cond P (bytes_eq word (codes "recv")) (Some keywords.Recv) _ (λ t. recv_again words)
    (λ f. on_cond P (bytes_eq word (codes "drain")) (Some keywords.Drain) _ (λ t. drain_again words)
    (λ f. on_cond P (bytes_eq word (codes "shut")) (Some keywords.Shut) _ (λ t. shut_again words)
    (λ f. on_cond P (bytes_eq word (codes "close")) (Some keywords.Close) _ (λ t. close_again words)
    (λ f. on_cond P (bytes_eq word (codes "abort")) (Some keywords.Abort) _ (λ t. abort_again words)
    (λ f. on_cond P (bytes_eq word (codes "wait")) (Some keywords.Wait) (other_keyword word) (λ t. wait_again words)
    (λ f. other_again line word words)))))))))))

words_again : (line : List ℕ) (words : List (List ℕ)) → IsClean line → words_of line ≡ words
    → IsAgain (by_words line words)
words_again line [] h e = tt
words_again line (word ∷ words) h e =
    on_cond IsAgain (is_comment word) Nothing (by_keyword line (keyword_of word) words) (λ t. tt)
    (λ f. keyword_again line word words h e)

reading_again : (line : List ℕ) → IsAgain (reading line)
unfolding reading
reading_again line =
    on_cond IsAgain (nat_lt 4096 (length line)) (Wrong 1) _ (λ t. tt)
    (λ f. on_cond IsAgain (not (list_all is_printable line)) (Wrong 2) (by_words line (words_of line)) (λ t. tt)
    (λ p. words_again line (words_of line) (record { short = short (length line) f; clean = passed _ p }) refl)) where
      short : (n : ℕ) → nat_lt 4096 n ≡ false → n ≤ 4096
      short n e = grind (arith, nat_tests, e)

      passed : (b : Bool) → not b ≡ false → b ≡ true
      passed true e = refl
      passed false e = absurd (cc (e))

-- What a line says, printed again.
pub said_again : (line : List ℕ) (statement : Statement) → reading line ≡ Says statement
    → IsLine (line_text statement) (again statement)
said_again line statement e = subst IsAgain e (reading_again line)

-- a line that says something has printable bytes
pub clean_line : (line : List ℕ) (statement : Statement) → reading line ≡ Says statement
    → list_all is_printable line ≡ true
unfolding reading
clean_line line statement e =
    by_tests (nat_lt 4096 (length line)) (list_all is_printable line) (by_words line (words_of line)) e where
      by_tests : (long clean : Bool) (said : Reading)
          → (if long then Wrong 1 else if not clean then Wrong 2 else said) ≡ Says statement → clean ≡ true
      by_tests true clean said e = absurd (cc (e))
      by_tests false true said e = refl
      by_tests false false said e = absurd (cc (e))
