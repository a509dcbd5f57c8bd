-- The forms of lines: the numbers of a line that is taken are in the ranges of its form.
use Rattle.std.proofs.Common.{◌≤◌, ℕ, ◌==◌, ◌%◌, ◌&&◌, Bool, not, nat_le, List, [], ◌∷◌, length}
use Rattle.std.proofs.Common.{Option, Some, None, IfSome, arith}
use Rattle.std.specs.Prelude.{⊤}
use Rattle.tas_model.proofs.Tests.{on_cond}
use Rattle.link_script.specs.declared.script.LinkAct.{LinkAct}
use Rattle.link_script.specs.declared.script.LinkAct.TheVariants as acts
use Rattle.scenario_text.specs.Words.{is_empty, is_name, number_in, address_of, text_of}
use Rattle.scenario_text.specs.Statements.{said, named, with_number, named_number, host_said, none_given, given_by}
use Rattle.scenario_text.specs.Statements.{limit_line, host_line, app_line, listen_line, accept_line, connecting}
use Rattle.scenario_text.specs.Statements.{connect_line, send_said, send_line, fill_line, recv_line, name_line}
use Rattle.scenario_text.specs.Statements.{wait_line}
use Rattle.scenario_text.specs.Statements.{two_names, on_frame, frame_named, frame_line, act_by, delay_line}
use Rattle.scenario_text.specs.Statements.{corrupt_line, drop_each_line, moving, move_line, killing, kill_line}
use Rattle.scenario_text.specs.declared.scenario.Step.{Step}
use Rattle.scenario_text.specs.declared.scenario.Step.TheVariants as steps
use Rattle.scenario_text.specs.declared.statement.Given.{Given}
use Rattle.scenario_text.specs.declared.statement.Statement.{Statement}
use Rattle.scenario_text.specs.declared.statement.Statement.TheVariants as says
use Rattle.scenario_text.specs.declared.statement.Reading.{Reading}
use Rattle.scenario_text.specs.declared.statement.Reading.TheVariants.{Wrong, Says}
use Rattle.scenario_ranges.specs.Ranges.{IsFrom, IsStepInRange}
use Rattle.scenario_ranges.proofs.Numbers.{number_from, text_shorter, some_bytes}
use Rattle.scenario_ranges.proofs.HostOptions.{AreFrom, given_from, none_from}

-- ----- what a line says is in its ranges
abbrev pub IsSaidInRange : Statement → Type 0
IsSaidInRange (says.Limit ticks) = IsFrom 1 10000 ticks
IsSaidInRange (says.Host name addr given) = AreFrom given
IsSaidInRange (says.Do step) = IsStepInRange step
IsSaidInRange _ = ⊤

abbrev pub IsReadInRange : Reading → Type 0
IsReadInRange (Says statement) = IsSaidInRange statement
IsReadInRange _ = ⊤

said_from : {A : Type 0} (P : A → Type 0) (says : A → Statement) (a : Option A)
    → ((x : A) → P x → IsSaidInRange (says x)) → IfSome a P → IsReadInRange (said says a)
said_from P says None each h = tt
said_from P says (Some x) each h = each x h

-- a line of a form that has no range
said_any : {A : Type 0} (says : A → Statement) (a : Option A)
    → ((x : A) → IsSaidInRange (says x)) → IsReadInRange (said says a)
said_any says None each = tt
said_any says (Some x) each = each x

-- a name and a number of a range
number_named : (low high : ℕ) (name : Option (List ℕ)) (number : Option ℕ) → IfSome number (IsFrom low high)
    → IfSome (with_number name number) (λ (n : List ℕ × ℕ). IsFrom low high n.1)
number_named low high None number h = tt
number_named low high (Some name) None h = tt
number_named low high (Some name) (Some n) h = h

-- ----- lines of the scenario
pub limit_from : (words : List (List ℕ)) → IsReadInRange (limit_line words)
limit_from [] = tt
limit_from (ticks ∷ []) =
    said_from (IsFrom 1 10000) says.Limit (number_in 1 10000 ticks) (λ n h. h) (number_from 1 10000 ticks)
limit_from (ticks ∷ word ∷ words) = tt

host_said_from : (name : List ℕ) (addr : Option ℕ) (given : Given) → AreFrom given
    → IsReadInRange (host_said name addr given)
host_said_from name None given g = tt
host_said_from name (Some addr) given g =
    on_cond IsReadInRange (is_name name && not given.wrong) (Says (says.Host name addr given)) (Wrong 5)
    (λ t. g) (λ f. tt)

pub host_line_from : (words : List (List ℕ)) → IsReadInRange (host_line words)
host_line_from [] = tt
host_line_from (name ∷ []) = tt
host_line_from (name ∷ addr ∷ words) =
    on_cond IsReadInRange (length words % 2 == 0 && nat_le (length words) 14)
    (host_said name (address_of addr) (given_by none_given words)) (Wrong 4)
    (λ t. host_said_from name (address_of addr) (given_by none_given words) (given_from none_given words none_from))
    (λ f. tt)

pub app_from : (words : List (List ℕ)) → IsReadInRange (app_line words)
app_from [] = tt
app_from (host ∷ []) = tt
app_from (host ∷ name ∷ []) = said_any (λ (n : List ℕ × List ℕ). says.App n.0 n.1) (two_names host name) (λ n. tt)
app_from (host ∷ name ∷ word ∷ words) = tt

-- ----- steps with a number
pub listen_from : (words : List (List ℕ)) → IsReadInRange (listen_line words)
listen_from [] = tt
listen_from (name ∷ []) = tt
listen_from (name ∷ port ∷ []) =
    said_from (λ (n : List ℕ × ℕ). IsFrom 1 49151 n.1) (λ (n : List ℕ × ℕ). says.Do (steps.Listen n.0 n.1))
    (named_number name (number_in 1 49151 port)) (λ n h. h)
    (number_named 1 49151 (named name) (number_in 1 49151 port) (number_from 1 49151 port))
listen_from (name ∷ port ∷ word ∷ words) = tt

connecting_from : (names : Option (List ℕ × List ℕ)) (port : Option ℕ) → IfSome port (IsFrom 1 65535)
    → IsReadInRange (connecting names port)
connecting_from None port h = tt
connecting_from (Some names) None h = tt
connecting_from (Some names) (Some port) h = h

pub connect_from : (words : List (List ℕ)) → IsReadInRange (connect_line words)
connect_from [] = tt
connect_from (socket ∷ []) = tt
connect_from (socket ∷ host ∷ []) = tt
connect_from (socket ∷ host ∷ port ∷ []) =
    connecting_from (two_names socket host) (number_in 1 65535 port) (number_from 1 65535 port)
connect_from (socket ∷ host ∷ port ∷ word ∷ words) = tt

pub fill_from : (words : List (List ℕ)) → IsReadInRange (fill_line words)
fill_from [] = tt
fill_from (name ∷ []) = tt
fill_from (name ∷ count ∷ []) =
    said_from (λ (n : List ℕ × ℕ). IsFrom 1 1048576 n.1) (λ (n : List ℕ × ℕ). says.Do (steps.Fill n.0 n.1))
    (named_number name (number_in 1 1048576 count)) (λ n h. h)
    (number_named 1 1048576 (named name) (number_in 1 1048576 count) (number_from 1 1048576 count))
fill_from (name ∷ count ∷ word ∷ words) = tt

pub recv_from : (words : List (List ℕ)) → IsReadInRange (recv_line words)
recv_from [] = tt
recv_from (name ∷ []) = tt
recv_from (name ∷ count ∷ []) =
    said_from (λ (n : List ℕ × ℕ). IsFrom 1 1048576 n.1) (λ (n : List ℕ × ℕ). says.Do (steps.Recv n.0 n.1))
    (named_number name (number_in 1 1048576 count)) (λ n h. h)
    (number_named 1 1048576 (named name) (number_in 1 1048576 count) (number_from 1 1048576 count))
recv_from (name ∷ count ∷ word ∷ words) = tt

pub wait_from : (words : List (List ℕ)) → IsReadInRange (wait_line words)
wait_from [] = tt
wait_from (ticks ∷ []) =
    said_from (IsFrom 1 10000) (λ (n : ℕ). says.Do (steps.Wait n)) (number_in 1 10000 ticks) (λ n h. h)
    (number_from 1 10000 ticks)
wait_from (ticks ∷ word ∷ words) = tt

-- ----- the step with a text, which is part of its line
send_said_from : (socket text : List ℕ) → IsFrom 1 4096 (length text) → IsReadInRange (send_said socket text)
send_said_from socket text h = said_any (λ (name : List ℕ). says.Do (steps.Send name text)) (named socket) (λ name. h)

pub send_from : (line : List ℕ) (words : List (List ℕ)) → length line ≤ 4096 → IsReadInRange (send_line line words)
send_from line [] h = tt
send_from line (socket ∷ words) h =
    on_cond IsReadInRange (is_empty (text_of line)) (Wrong 4) (send_said socket (text_of line)) (λ t. tt)
    (λ f. send_said_from socket (text_of line)
    (some_bytes (text_of line) f, within (length (text_of line)) (length line) (text_shorter line) h)) where
      within : (text line : ℕ) → text ≤ line → line ≤ 4096 → text ≤ 4096
      within text line a b = omega (arith, a, b)

-- ----- steps with names alone
pub accept_from : (words : List (List ℕ)) → IsReadInRange (accept_line words)
accept_from [] = tt
accept_from (socket ∷ []) = tt
accept_from (socket ∷ listener ∷ []) =
    said_any (λ (n : List ℕ × List ℕ). says.Do (steps.Accept n.0 n.1)) (two_names socket listener) (λ n. tt)
accept_from (socket ∷ listener ∷ word ∷ words) = tt

pub name_from : (step : List ℕ → Step) (words : List (List ℕ)) → ((name : List ℕ) → IsStepInRange (step name))
    → IsReadInRange (name_line step words)
name_from step [] h = tt
name_from step (name ∷ []) h = said_any (λ (n : List ℕ). says.Do (step n)) (named name) h
name_from step (name ∷ word ∷ words) h = tt

-- ----- lines of the link and of what happens at a tick, which say nothing of hosts and steps
on_frame_from : (frame : Option (List ℕ × ℕ × ℕ)) (act : Option LinkAct) → IsReadInRange (on_frame frame act)
on_frame_from None act = tt
on_frame_from (Some frame) None = tt
on_frame_from (Some frame) (Some act) = tt

pub frame_from : (act : LinkAct) (words : List (List ℕ)) → IsReadInRange (frame_line act words)
frame_from act [] = tt
frame_from act (host ∷ []) = tt
frame_from act (host ∷ flow ∷ []) = tt
frame_from act (host ∷ flow ∷ number ∷ []) = on_frame_from (frame_named host flow number) (Some act)
frame_from act (host ∷ flow ∷ number ∷ word ∷ words) = tt

pub delay_from : (words : List (List ℕ)) → IsReadInRange (delay_line words)
delay_from [] = tt
delay_from (host ∷ []) = tt
delay_from (host ∷ flow ∷ []) = tt
delay_from (host ∷ flow ∷ number ∷ []) = tt
delay_from (host ∷ flow ∷ number ∷ ticks ∷ []) =
    on_frame_from (frame_named host flow number) (act_by acts.Delay (number_in 1 1000 ticks))
delay_from (host ∷ flow ∷ number ∷ ticks ∷ word ∷ words) = tt

pub corrupt_from : (words : List (List ℕ)) → IsReadInRange (corrupt_line words)
corrupt_from [] = tt
corrupt_from (host ∷ []) = tt
corrupt_from (host ∷ flow ∷ []) = tt
corrupt_from (host ∷ flow ∷ number ∷ []) = tt
corrupt_from (host ∷ flow ∷ number ∷ place ∷ []) =
    on_frame_from (frame_named host flow number) (act_by acts.Corrupt (number_in 0 65534 place))
corrupt_from (host ∷ flow ∷ number ∷ place ∷ word ∷ words) = tt

pub drop_each_from : (words : List (List ℕ)) → IsReadInRange (drop_each_line words)
drop_each_from [] = tt
drop_each_from (host ∷ []) = tt
drop_each_from (host ∷ k ∷ []) =
    said_any (λ (n : List ℕ × ℕ). says.DropEach n.0 n.1) (named_number host (number_in 1 4294967294 k)) (λ n. tt)
drop_each_from (host ∷ k ∷ word ∷ words) = tt

moving_from : (host : Option (List ℕ)) (group core at : Option ℕ) (worded : Bool)
    → IsReadInRange (moving host group core at worded)
moving_from None group core at worded = tt
moving_from (Some host) None core at worded = tt
moving_from (Some host) (Some group) None at worded = tt
moving_from (Some host) (Some group) (Some core) None worded = tt
moving_from (Some host) (Some group) (Some core) (Some at) worded = tt

pub move_from : (words : List (List ℕ)) → IsReadInRange (move_line words)
move_from [] = tt
move_from (host ∷ []) = tt
move_from (host ∷ group ∷ []) = tt
move_from (host ∷ group ∷ core ∷ []) = tt
move_from (host ∷ group ∷ core ∷ word ∷ []) = tt
move_from (host ∷ group ∷ core ∷ word ∷ at ∷ []) = moving_from _ _ _ _ _
move_from (host ∷ group ∷ core ∷ word ∷ at ∷ more ∷ words) = tt

killing_from : (names : Option (List ℕ × List ℕ)) (at : Option ℕ) (holding worded : Bool)
    → IsReadInRange (killing names at holding worded)
killing_from None at holding worded = tt
killing_from (Some names) None holding worded = tt
killing_from (Some names) (Some at) holding worded = tt

pub kill_from : (words : List (List ℕ)) → IsReadInRange (kill_line words)
kill_from [] = tt
kill_from (host ∷ []) = tt
kill_from (host ∷ app ∷ []) = tt
kill_from (host ∷ app ∷ word ∷ []) = tt
kill_from (host ∷ app ∷ word ∷ at ∷ []) = killing_from _ _ _ _
kill_from (host ∷ app ∷ word ∷ at ∷ last ∷ []) = killing_from _ _ _ _
kill_from (host ∷ app ∷ word ∷ at ∷ last ∷ more ∷ words) = tt
