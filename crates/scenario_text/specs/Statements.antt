-- What the lines of a scenario say, each by itself: the kinds of refusal from 1 to 5, and the forms of lines.
use Rattle.std.specs.Prelude.{ℕ, ◌+◌, ◌%◌, ◌==◌, Bool, true, false, not, ◌&&◌, ◌||◌, nat_le, nat_lt, List, [], ◌∷◌}
use Rattle.std.specs.Prelude.{length, Option, Some, None, is_some, bytes_eq, codes, if◌then◌else◌}
use Rattle.std.specs.List.{list_all}
use Rattle.link_script.specs.declared.script.LinkAct.{LinkAct}
use Rattle.link_script.specs.declared.script.LinkAct.TheVariants as acts
use Rattle.scenario_text.specs.Words.{is_empty, words_of, number_in, is_name, address_of, text_of}
use Rattle.scenario_text.specs.declared.scenario.Step.{Step}
use Rattle.scenario_text.specs.declared.scenario.Step.TheVariants as steps
use Rattle.scenario_text.specs.declared.statement.Keyword.{Keyword}
use Rattle.scenario_text.specs.declared.statement.Keyword.TheVariants as keywords
use Rattle.scenario_text.specs.declared.statement.OptionName.{OptionName}
use Rattle.scenario_text.specs.declared.statement.OptionName.TheVariants as options
use Rattle.scenario_text.specs.declared.statement.Given.{Given}
use Rattle.scenario_text.specs.declared.statement.Statement.{Statement}
use Rattle.scenario_text.specs.declared.statement.Statement.TheVariants as says
use Rattle.scenario_text.specs.declared.statement.Reading.{Reading}
use Rattle.scenario_text.specs.declared.statement.Reading.TheVariants.{Nothing, Wrong, Says}

-- ----- first words
-- those of the scenario, of the link and of what happens at a tick
abbrev pub other_keyword : (word : List ℕ) → Option Keyword
other_keyword word =
    if bytes_eq word (codes "limit") then Some keywords.Limit
    else if bytes_eq word (codes "host") then Some keywords.Host
    else if bytes_eq word (codes "app") then Some keywords.App
    else if bytes_eq word (codes "drop") then Some keywords.Lose
    else if bytes_eq word (codes "dup") then Some keywords.Dup
    else if bytes_eq word (codes "delay") then Some keywords.Delay
    else if bytes_eq word (codes "corrupt") then Some keywords.Corrupt
    else if bytes_eq word (codes "dropeach") then Some keywords.DropEach
    else if bytes_eq word (codes "move") then Some keywords.Move
    else if bytes_eq word (codes "kill") then Some keywords.Kill
    else None

-- those of steps, and the others
abbrev pub keyword_of : (word : List ℕ) → Option Keyword
keyword_of word =
    if bytes_eq word (codes "listen") then Some keywords.Listen
    else if bytes_eq word (codes "accept") then Some keywords.Accept
    else if bytes_eq word (codes "connect") then Some keywords.Connect
    else if bytes_eq word (codes "send") then Some keywords.Send
    else if bytes_eq word (codes "fill") then Some keywords.Fill
    else if bytes_eq word (codes "recv") then Some keywords.Recv
    else if bytes_eq word (codes "drain") then Some keywords.Drain
    else if bytes_eq word (codes "shut") then Some keywords.Shut
    else if bytes_eq word (codes "close") then Some keywords.Close
    else if bytes_eq word (codes "abort") then Some keywords.Abort
    else if bytes_eq word (codes "wait") then Some keywords.Wait
    else other_keyword word

-- ----- words that are of their form and range
-- what a line says where all its words are, and else its refusal, of kind 5
abbrev pub said : {A : Type 0} → (A → Statement) → Option A → Reading
said says (Some a) = Says (says a)
said says None = Wrong 5

abbrev pub named : List ℕ → Option (List ℕ)
named name = if is_name name then Some name else None

abbrev pub with_number : Option (List ℕ) → Option ℕ → Option (List ℕ × ℕ)
with_number (Some name) (Some n) = Some (name, n)
with_number _ _ = None

abbrev pub with_name : Option (List ℕ) → Option (List ℕ) → Option (List ℕ × List ℕ)
with_name (Some a) (Some b) = Some (a, b)
with_name _ _ = None

-- a name and a number, two names
abbrev pub named_number : (name : List ℕ) → Option ℕ → Option (List ℕ × ℕ)
named_number name number = with_number (named name) number

abbrev pub two_names : (a b : List ℕ) → Option (List ℕ × List ℕ)
two_names a b = with_name (named a) (named b)

-- a frame of a host: the host's name, the flow's opening number and the frame's number
abbrev pub with_frame : Option (List ℕ) → Option ℕ → Option ℕ → Option (List ℕ × ℕ × ℕ)
with_frame (Some host) (Some flow) (Some number) = Some (host, flow, number)
with_frame _ _ _ = None

abbrev pub frame_named : (host flow number : List ℕ) → Option (List ℕ × ℕ × ℕ)
frame_named host flow number = with_frame (named host) (number_in 0 4294967294 flow) (number_in 0 4294967294 number)

-- ----- the options of a host
abbrev pub option_of : (word : List ℕ) → Option OptionName
option_of word =
    if bytes_eq word (codes "iss") then Some options.Iss
    else if bytes_eq word (codes "ring") then Some options.Ring
    else if bytes_eq word (codes "mss") then Some options.Mss
    else if bytes_eq word (codes "rto") then Some options.Rto
    else if bytes_eq word (codes "slots") then Some options.Slots
    else if bytes_eq word (codes "backlog") then Some options.Backlog
    else if bytes_eq word (codes "scale") then Some options.Scale
    else None

abbrev pub none_given : Given
none_given = record {
  iss = None;
  ring = None;
  mss = None;
  rto = None;
  slots = None;
  backlog = None;
  scale = None;
  wrong = false;
  unknown = false;
  repeated = false;
}

-- one option more: out of its range, given before, or taken
abbrev pub put_option : Given → (before : Bool) → (number : Option ℕ) → (taken : Given) → Given
put_option given before None taken = record given { wrong = true }
put_option given before (Some n) taken = if before then record given { repeated = true } else taken

-- an option with its number; those of `mss` and `scale` have types of their own
abbrev pub taken_option : Given → OptionName → Option ℕ → Given
taken_option given options.Iss number = record given { iss = number }
taken_option given options.Ring number = record given { ring = number }
taken_option given options.Rto number = record given { rto = number }
taken_option given options.Slots number = record given { slots = number }
taken_option given options.Backlog number = record given { backlog = number }
taken_option given options.Mss number = given
taken_option given options.Scale number = given

abbrev pub by_option : Given → Option OptionName → (value : List ℕ) → Given
by_option given None value = record given { unknown = true }
by_option given (Some options.Iss) value =
    put_option given (is_some given.iss) (number_in 0 4294967295 value)
    (record given { iss = number_in 0 4294967295 value })
by_option given (Some options.Ring) value =
    put_option given (is_some given.ring) (number_in 256 1048576 value)
    (record given { ring = number_in 256 1048576 value })
by_option given (Some options.Mss) value =
    put_option given (is_some given.mss) (number_in 64 8960 value) (record given { mss = number_in 64 8960 value })
by_option given (Some options.Rto) value =
    put_option given (is_some given.rto) (number_in 1 1000 value) (record given { rto = number_in 1 1000 value })
by_option given (Some options.Slots) value =
    put_option given (is_some given.slots) (number_in 1 1024 value) (record given { slots = number_in 1 1024 value })
by_option given (Some options.Backlog) value =
    put_option given (is_some given.backlog) (number_in 1 1024 value)
    (record given { backlog = number_in 1 1024 value })
by_option given (Some options.Scale) value =
    put_option given (is_some given.scale) (number_in 0 14 value) (record given { scale = number_in 0 14 value })

-- all options, two words each
abbrev pub given_by : Given → (words : List (List ℕ)) → Given
given_by given [] = given
given_by given (word ∷ []) = given
given_by given (word ∷ value ∷ words) = given_by (by_option given (option_of word) value) words

abbrev pub host_said : (name : List ℕ) → Option ℕ → Given → Reading
host_said name (Some addr) given = if is_name name && not given.wrong then Says (says.Host name addr given) else Wrong 5
host_said name None given = Wrong 5

-- ----- the forms of lines, by the words behind the first; another number of them is of kind 4
abbrev pub limit_line : List (List ℕ) → Reading
limit_line (ticks ∷ []) = said says.Limit (number_in 1 10000 ticks)
limit_line _ = Wrong 4

abbrev pub host_line : List (List ℕ) → Reading
host_line (name ∷ addr ∷ words) = if length words % 2 == 0 && nat_le (length words) 14
    then host_said name (address_of addr) (given_by none_given words) else Wrong 4
host_line _ = Wrong 4

abbrev pub app_line : List (List ℕ) → Reading
app_line (host ∷ name ∷ []) = said (λ (n : List ℕ × List ℕ). says.App n.0 n.1) (two_names host name)
app_line _ = Wrong 4

abbrev pub listen_line : List (List ℕ) → Reading
listen_line (name ∷ port ∷ []) = said (λ (n : List ℕ × ℕ). says.Do (steps.Listen n.0 n.1))
    (named_number name (number_in 1 49151 port))
listen_line _ = Wrong 4

abbrev pub accept_line : List (List ℕ) → Reading
accept_line (socket ∷ listener ∷ []) =
    said (λ (n : List ℕ × List ℕ). says.Do (steps.Accept n.0 n.1)) (two_names socket listener)
accept_line _ = Wrong 4

abbrev pub connecting : Option (List ℕ × List ℕ) → Option ℕ → Reading
connecting (Some n) (Some port) = Says (says.Do (steps.Connect n.0 n.1 port))
connecting _ _ = Wrong 5

abbrev pub connect_line : List (List ℕ) → Reading
connect_line (socket ∷ host ∷ port ∷ []) = connecting (two_names socket host) (number_in 1 65535 port)
connect_line _ = Wrong 4

abbrev pub send_said : (socket text : List ℕ) → Reading
send_said socket text = said (λ (name : List ℕ). says.Do (steps.Send name text)) (named socket)

-- the text of `send` is the rest of the line, whatever words it has, and is not empty
abbrev pub send_line : (line : List ℕ) → List (List ℕ) → Reading
send_line line (socket ∷ words) = if is_empty (text_of line) then Wrong 4 else send_said socket (text_of line)
send_line line [] = Wrong 4

abbrev pub fill_line : List (List ℕ) → Reading
fill_line (name ∷ count ∷ []) = said (λ (n : List ℕ × ℕ). says.Do (steps.Fill n.0 n.1))
    (named_number name (number_in 1 1048576 count))
fill_line _ = Wrong 4

abbrev pub recv_line : List (List ℕ) → Reading
recv_line (name ∷ count ∷ []) = said (λ (n : List ℕ × ℕ). says.Do (steps.Recv n.0 n.1))
    (named_number name (number_in 1 1048576 count))
recv_line _ = Wrong 4

-- steps with a name alone
abbrev pub name_line : (List ℕ → Step) → List (List ℕ) → Reading
name_line step (name ∷ []) = said (λ (n : List ℕ). says.Do (step n)) (named name)
name_line step _ = Wrong 4

abbrev pub wait_line : List (List ℕ) → Reading
wait_line (ticks ∷ []) = said (λ (n : ℕ). says.Do (steps.Wait n)) (number_in 1 10000 ticks)
wait_line _ = Wrong 4

-- lines on a frame
abbrev pub on_frame : Option (List ℕ × ℕ × ℕ) → Option LinkAct → Reading
on_frame (Some f) (Some act) = Says (says.OnFrame f.0 f.1 f.2 act)
on_frame _ _ = Wrong 5

abbrev pub frame_line : LinkAct → List (List ℕ) → Reading
frame_line act (host ∷ flow ∷ number ∷ []) = on_frame (frame_named host flow number) (Some act)
frame_line act _ = Wrong 4

abbrev pub act_by : (ℕ → LinkAct) → Option ℕ → Option LinkAct
act_by act None = None
act_by act (Some n) = Some (act n)

abbrev pub delay_line : List (List ℕ) → Reading
delay_line (host ∷ flow ∷ number ∷ ticks ∷ []) =
    on_frame (frame_named host flow number) (act_by acts.Delay (number_in 1 1000 ticks))
delay_line _ = Wrong 4

abbrev pub corrupt_line : List (List ℕ) → Reading
corrupt_line (host ∷ flow ∷ number ∷ place ∷ []) =
    on_frame (frame_named host flow number) (act_by acts.Corrupt (number_in 0 65534 place))
corrupt_line _ = Wrong 4

abbrev pub drop_each_line : List (List ℕ) → Reading
drop_each_line (host ∷ k ∷ []) = said (λ (n : List ℕ × ℕ). says.DropEach n.0 n.1)
    (named_number host (number_in 1 4294967294 k))
drop_each_line _ = Wrong 4

-- lines of what happens at a tick
abbrev pub moving : Option (List ℕ) → (group core at : Option ℕ) → (worded : Bool) → Reading
moving (Some host) (Some group) (Some core) (Some at) worded =
    Says (says.Move (record { host = host; group = group; core = core; at = at }) worded)
moving _ _ _ _ worded = Wrong 5

abbrev pub move_line : List (List ℕ) → Reading
move_line (host ∷ group ∷ core ∷ word ∷ at ∷ []) =
    moving (named host) (number_in 0 63 group) (number_in 0 15 core) (number_in 0 10000 at) (bytes_eq word (codes "at"))
move_line _ = Wrong 4

abbrev pub killing : Option (List ℕ × List ℕ) → (at : Option ℕ) → (holding worded : Bool) → Reading
killing (Some n) (Some at) holding worded =
    Says (says.Kill (record { host = n.0; app = n.1; at = at; holding = holding }) worded)
killing _ _ holding worded = Wrong 5

abbrev pub kill_line : List (List ℕ) → Reading
kill_line (host ∷ app ∷ word ∷ at ∷ []) =
    killing (two_names host app) (number_in 0 10000 at) false (bytes_eq word (codes "at"))
kill_line (host ∷ app ∷ word ∷ at ∷ last ∷ []) =
    killing (two_names host app) (number_in 0 10000 at) true (bytes_eq word (codes "at")
    && bytes_eq last (codes "holding"))
kill_line _ = Wrong 4

-- ----- a line
abbrev pub by_keyword : (line : List ℕ) → Option Keyword → (words : List (List ℕ)) → Reading
by_keyword line None words = Wrong 3
by_keyword line (Some keywords.Limit) words = limit_line words
by_keyword line (Some keywords.Host) words = host_line words
by_keyword line (Some keywords.App) words = app_line words
by_keyword line (Some keywords.Listen) words = listen_line words
by_keyword line (Some keywords.Accept) words = accept_line words
by_keyword line (Some keywords.Connect) words = connect_line words
by_keyword line (Some keywords.Send) words = send_line line words
by_keyword line (Some keywords.Fill) words = fill_line words
by_keyword line (Some keywords.Recv) words = recv_line words
by_keyword line (Some keywords.Drain) words = name_line steps.Drain words
by_keyword line (Some keywords.Shut) words = name_line steps.Shut words
by_keyword line (Some keywords.Close) words = name_line steps.Close words
by_keyword line (Some keywords.Abort) words = name_line steps.Abort words
by_keyword line (Some keywords.Wait) words = wait_line words
by_keyword line (Some keywords.Lose) words = frame_line acts.Drop words
by_keyword line (Some keywords.Dup) words = frame_line acts.Dup words
by_keyword line (Some keywords.Delay) words = delay_line words
by_keyword line (Some keywords.Corrupt) words = corrupt_line words
by_keyword line (Some keywords.DropEach) words = drop_each_line words
by_keyword line (Some keywords.Move) words = move_line words
by_keyword line (Some keywords.Kill) words = kill_line words

abbrev pub is_comment : (word : List ℕ) → Bool
is_comment [] = false
is_comment (c ∷ cs) = c == 35

abbrev pub by_words : (line : List ℕ) → (words : List (List ℕ)) → Reading
by_words line [] = Nothing
by_words line (word ∷ words) = if is_comment word then Nothing else by_keyword line (keyword_of word) words

abbrev pub is_printable : ℕ → Bool
is_printable c = nat_le 32 c && nat_le c 126

-- A line by itself: skipped, refused by a kind from 1 to 5, or what it says. The lowest kind comes first, also in a
-- line that would be skipped.
unfoldable pub reading : (line : List ℕ) → Reading
reading line = if nat_lt 4096 (length line) then Wrong 1 else if not (list_all is_printable line) then Wrong 2
    else by_words line (words_of line)
