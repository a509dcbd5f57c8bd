-- A line of a scenario that names a host gives it a name of letters and digits.
use Rattle.std.proofs.Common.{◌≡◌, ℕ, ◌==◌, ◌%◌, ◌&&◌, Bool, true, not, nat_le, nat_lt, List, [], ◌∷◌, length}
use Rattle.std.proofs.Common.{Option, Some, None}
use Rattle.std.specs.Prelude.{⊤}
use Rattle.std.specs.List.{list_all}
use Rattle.std.proofs.lemmas.Bool.{and_parts}
use Rattle.tas_model.proofs.Tests.{on_cond}
use Rattle.link_script.specs.declared.script.LinkAct.{LinkAct}
use Rattle.link_script.specs.declared.script.LinkAct.TheVariants as acts
use Rattle.scenario_text.specs.Words.{is_empty, is_name, address_of, number_in, text_of, words_of}
use Rattle.scenario_text.specs.Statements.{none_given, given_by, said, named, named_number, two_names, frame_named}
use Rattle.scenario_text.specs.Statements.{limit_line, host_said, host_line, app_line, listen_line, accept_line}
use Rattle.scenario_text.specs.Statements.{connecting, connect_line, send_said, send_line, fill_line, recv_line}
use Rattle.scenario_text.specs.Statements.{name_line, wait_line, on_frame, frame_line, act_by, delay_line}
use Rattle.scenario_text.specs.Statements.{corrupt_line, drop_each_line, moving, move_line, killing, kill_line}
use Rattle.scenario_text.specs.Statements.{keyword_of, by_keyword, is_comment, by_words, is_printable, reading}
use Rattle.scenario_text.specs.declared.scenario.Step.{Step}
use Rattle.scenario_text.specs.declared.scenario.Step.TheVariants as steps
use Rattle.scenario_text.specs.declared.statement.Given.{Given}
use Rattle.scenario_text.specs.declared.statement.Keyword.{Keyword}
use Rattle.scenario_text.specs.declared.statement.Keyword.TheVariants as keywords
use Rattle.scenario_text.specs.declared.statement.Statement.{Statement}
use Rattle.scenario_text.specs.declared.statement.Statement.TheVariants as says
use Rattle.scenario_text.specs.declared.statement.Reading.{Reading}
use Rattle.scenario_text.specs.declared.statement.Reading.TheVariants.{Nothing, Wrong, Says}

abbrev pub IsHostSaid : Statement → Type 0
IsHostSaid (says.Host name addr given) = is_name name ≡ true
IsHostSaid _ = ⊤

abbrev pub IsHostRead : Reading → Type 0
IsHostRead (Says statement) = IsHostSaid statement
IsHostRead _ = ⊤

-- a line of a form that names no host
said_other : {A : Type 0} (says : A → Statement) (a : Option A) → ((x : A) → IsHostSaid (says x))
    → IsHostRead (said says a)
said_other says None each = tt
said_other says (Some x) each = each x

limit_named : (words : List (List ℕ)) → IsHostRead (limit_line words)
limit_named [] = tt
limit_named (ticks ∷ []) = said_other says.Limit (number_in 1 10000 ticks) (λ n. tt)
limit_named (ticks ∷ word ∷ words) = tt

host_said_named : (name : List ℕ) (addr : Option ℕ) (given : Given) → IsHostRead (host_said name addr given)
host_said_named name None given = tt
host_said_named name (Some addr) given =
    on_cond IsHostRead (is_name name && not given.wrong) (Says (says.Host name addr given)) (Wrong 5)
    (λ t. (and_parts (is_name name) (not given.wrong) t).0) (λ f. tt)

host_named : (words : List (List ℕ)) → IsHostRead (host_line words)
host_named [] = tt
host_named (name ∷ []) = tt
host_named (name ∷ addr ∷ words) =
    on_cond IsHostRead (length words % 2 == 0 && nat_le (length words) 14)
    (host_said name (address_of addr) (given_by none_given words)) (Wrong 4)
    (λ t. host_said_named name (address_of addr) (given_by none_given words)) (λ f. tt)

app_named : (words : List (List ℕ)) → IsHostRead (app_line words)
app_named [] = tt
app_named (host ∷ []) = tt
app_named (host ∷ name ∷ []) = said_other (λ (n : List ℕ × List ℕ). says.App n.0 n.1) (two_names host name) (λ n. tt)
app_named (host ∷ name ∷ word ∷ words) = tt

listen_named : (words : List (List ℕ)) → IsHostRead (listen_line words)
listen_named [] = tt
listen_named (name ∷ []) = tt
listen_named (name ∷ port ∷ []) =
    said_other (λ (n : List ℕ × ℕ). says.Do (steps.Listen n.0 n.1)) (named_number name (number_in 1 49151 port))
    (λ n. tt)
listen_named (name ∷ port ∷ word ∷ words) = tt

connecting_named : (names : Option (List ℕ × List ℕ)) (port : Option ℕ) → IsHostRead (connecting names port)
connecting_named None port = tt
connecting_named (Some names) None = tt
connecting_named (Some names) (Some port) = tt

connect_named : (words : List (List ℕ)) → IsHostRead (connect_line words)
connect_named [] = tt
connect_named (socket ∷ []) = tt
connect_named (socket ∷ host ∷ []) = tt
connect_named (socket ∷ host ∷ port ∷ []) = connecting_named (two_names socket host) (number_in 1 65535 port)
connect_named (socket ∷ host ∷ port ∷ word ∷ words) = tt

fill_named : (words : List (List ℕ)) → IsHostRead (fill_line words)
fill_named [] = tt
fill_named (name ∷ []) = tt
fill_named (name ∷ count ∷ []) =
    said_other (λ (n : List ℕ × ℕ). says.Do (steps.Fill n.0 n.1)) (named_number name (number_in 1 1048576 count))
    (λ n. tt)
fill_named (name ∷ count ∷ word ∷ words) = tt

recv_named : (words : List (List ℕ)) → IsHostRead (recv_line words)
recv_named [] = tt
recv_named (name ∷ []) = tt
recv_named (name ∷ count ∷ []) =
    said_other (λ (n : List ℕ × ℕ). says.Do (steps.Recv n.0 n.1)) (named_number name (number_in 1 1048576 count))
    (λ n. tt)
recv_named (name ∷ count ∷ word ∷ words) = tt

wait_named : (words : List (List ℕ)) → IsHostRead (wait_line words)
wait_named [] = tt
wait_named (ticks ∷ []) = said_other (λ (n : ℕ). says.Do (steps.Wait n)) (number_in 1 10000 ticks) (λ n. tt)
wait_named (ticks ∷ word ∷ words) = tt

send_named : (line : List ℕ) (words : List (List ℕ)) → IsHostRead (send_line line words)
send_named line [] = tt
send_named line (socket ∷ words) =
    on_cond IsHostRead (is_empty (text_of line)) (Wrong 4) (send_said socket (text_of line)) (λ t. tt)
    (λ f. said_other (λ (name : List ℕ). says.Do (steps.Send name (text_of line))) (named socket) (λ n. tt))

accept_named : (words : List (List ℕ)) → IsHostRead (accept_line words)
accept_named [] = tt
accept_named (socket ∷ []) = tt
accept_named (socket ∷ listener ∷ []) =
    said_other (λ (n : List ℕ × List ℕ). says.Do (steps.Accept n.0 n.1)) (two_names socket listener) (λ n. tt)
accept_named (socket ∷ listener ∷ word ∷ words) = tt

name_named : (step : List ℕ → Step) (words : List (List ℕ)) → IsHostRead (name_line step words)
name_named step [] = tt
name_named step (name ∷ []) = said_other (λ (n : List ℕ). says.Do (step n)) (named name) (λ n. tt)
name_named step (name ∷ word ∷ words) = tt

on_frame_named : (frame : Option (List ℕ × ℕ × ℕ)) (act : Option LinkAct) → IsHostRead (on_frame frame act)
on_frame_named None act = tt
on_frame_named (Some frame) None = tt
on_frame_named (Some frame) (Some act) = tt

frame_line_named : (act : LinkAct) (words : List (List ℕ)) → IsHostRead (frame_line act words)
frame_line_named act [] = tt
frame_line_named act (host ∷ []) = tt
frame_line_named act (host ∷ flow ∷ []) = tt
frame_line_named act (host ∷ flow ∷ number ∷ []) = on_frame_named (frame_named host flow number) (Some act)
frame_line_named act (host ∷ flow ∷ number ∷ word ∷ words) = tt

delay_named : (words : List (List ℕ)) → IsHostRead (delay_line words)
delay_named [] = tt
delay_named (host ∷ []) = tt
delay_named (host ∷ flow ∷ []) = tt
delay_named (host ∷ flow ∷ number ∷ []) = tt
delay_named (host ∷ flow ∷ number ∷ ticks ∷ []) =
    on_frame_named (frame_named host flow number) (act_by acts.Delay (number_in 1 1000 ticks))
delay_named (host ∷ flow ∷ number ∷ ticks ∷ word ∷ words) = tt

corrupt_named : (words : List (List ℕ)) → IsHostRead (corrupt_line words)
corrupt_named [] = tt
corrupt_named (host ∷ []) = tt
corrupt_named (host ∷ flow ∷ []) = tt
corrupt_named (host ∷ flow ∷ number ∷ []) = tt
corrupt_named (host ∷ flow ∷ number ∷ place ∷ []) =
    on_frame_named (frame_named host flow number) (act_by acts.Corrupt (number_in 0 65534 place))
corrupt_named (host ∷ flow ∷ number ∷ place ∷ word ∷ words) = tt

drop_each_named : (words : List (List ℕ)) → IsHostRead (drop_each_line words)
drop_each_named [] = tt
drop_each_named (host ∷ []) = tt
drop_each_named (host ∷ k ∷ []) =
    said_other (λ (n : List ℕ × ℕ). says.DropEach n.0 n.1) (named_number host (number_in 1 4294967294 k)) (λ n. tt)
drop_each_named (host ∷ k ∷ word ∷ words) = tt

moving_named : (host : Option (List ℕ)) (group core at : Option ℕ) (worded : Bool)
    → IsHostRead (moving host group core at worded)
moving_named None group core at worded = tt
moving_named (Some host) None core at worded = tt
moving_named (Some host) (Some group) None at worded = tt
moving_named (Some host) (Some group) (Some core) None worded = tt
moving_named (Some host) (Some group) (Some core) (Some at) worded = tt

move_named : (words : List (List ℕ)) → IsHostRead (move_line words)
move_named [] = tt
move_named (host ∷ []) = tt
move_named (host ∷ group ∷ []) = tt
move_named (host ∷ group ∷ core ∷ []) = tt
move_named (host ∷ group ∷ core ∷ word ∷ []) = tt
move_named (host ∷ group ∷ core ∷ word ∷ at ∷ []) = moving_named _ _ _ _ _
move_named (host ∷ group ∷ core ∷ word ∷ at ∷ more ∷ words) = tt

killing_named : (names : Option (List ℕ × List ℕ)) (at : Option ℕ) (holding worded : Bool)
    → IsHostRead (killing names at holding worded)
killing_named None at holding worded = tt
killing_named (Some names) None holding worded = tt
killing_named (Some names) (Some at) holding worded = tt

kill_named : (words : List (List ℕ)) → IsHostRead (kill_line words)
kill_named [] = tt
kill_named (host ∷ []) = tt
kill_named (host ∷ app ∷ []) = tt
kill_named (host ∷ app ∷ word ∷ []) = tt
kill_named (host ∷ app ∷ word ∷ at ∷ []) = killing_named _ _ _ _
kill_named (host ∷ app ∷ word ∷ at ∷ last ∷ []) = killing_named _ _ _ _
kill_named (host ∷ app ∷ word ∷ at ∷ last ∷ more ∷ words) = tt

-- ----- any line
by_keyword_named : (line : List ℕ) (keyword : Option Keyword) (words : List (List ℕ))
    → IsHostRead (by_keyword line keyword words)
by_keyword_named line None words = tt
by_keyword_named line (Some keywords.Limit) words = limit_named words
by_keyword_named line (Some keywords.Host) words = host_named words
by_keyword_named line (Some keywords.App) words = app_named words
by_keyword_named line (Some keywords.Listen) words = listen_named words
by_keyword_named line (Some keywords.Accept) words = accept_named words
by_keyword_named line (Some keywords.Connect) words = connect_named words
by_keyword_named line (Some keywords.Send) words = send_named line words
by_keyword_named line (Some keywords.Fill) words = fill_named words
by_keyword_named line (Some keywords.Recv) words = recv_named words
by_keyword_named line (Some keywords.Drain) words = name_named steps.Drain words
by_keyword_named line (Some keywords.Shut) words = name_named steps.Shut words
by_keyword_named line (Some keywords.Close) words = name_named steps.Close words
by_keyword_named line (Some keywords.Abort) words = name_named steps.Abort words
by_keyword_named line (Some keywords.Wait) words = wait_named words
by_keyword_named line (Some keywords.Lose) words = frame_line_named acts.Drop words
by_keyword_named line (Some keywords.Dup) words = frame_line_named acts.Dup words
by_keyword_named line (Some keywords.Delay) words = delay_named words
by_keyword_named line (Some keywords.Corrupt) words = corrupt_named words
by_keyword_named line (Some keywords.DropEach) words = drop_each_named words
by_keyword_named line (Some keywords.Move) words = move_named words
by_keyword_named line (Some keywords.Kill) words = kill_named words

by_words_named : (line : List ℕ) (words : List (List ℕ)) → IsHostRead (by_words line words)
by_words_named line [] = tt
by_words_named line (word ∷ words) =
    on_cond IsHostRead (is_comment word) Nothing (by_keyword line (keyword_of word) words) (λ t. tt)
    (λ f. by_keyword_named line (keyword_of word) words)

-- A line that names a host gives it a name.
pub host_read : (line : List ℕ) → IsHostRead (reading line)
unfolding reading
host_read line =
    on_cond IsHostRead (nat_lt 4096 (length line)) (Wrong 1) _ (λ t. tt)
    (λ f. on_cond IsHostRead (not (list_all is_printable line)) (Wrong 2) (by_words line (words_of line)) (λ t. tt)
    (λ p. by_words_named line (words_of line)))
