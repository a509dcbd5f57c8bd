-- From what the parts of the program found to what the program promises.
use Rattle.std.proofs.Common.{◌≡◌, ◌≢◌, ◌⊎◌, inl, inr, ℕ, ◌<◌, ◌≤◌, List, [], ◌∷◌, length, Bool, true}
use Rattle.std.proofs.Common.{false, Option, Some, None, Result, Ok, Err, IsOk, IfOk, IfErr, OnErr, IfSome, subst}
use Rattle.std.proofs.Common.{refl, sym, ap, if◌then◌else◌, arith}
use Rattle.std.proofs.lemmas.Bool.{false≢true}
use Rattle.std.specs.Io.KnownBytes.{IsAtEnd}
use Rattle.std.specs.Net.Addr.{ipv4_bits}
use Rattle.tas_num.specs.Captures as captures
use Rattle.tas_num.specs.Streams.{SourceState, SinkState, Wrote}
use Rattle.tas_num.specs.declared.outside.IoFault.{IoFault}
use Rattle.tas_num.specs.declared.outside.IoFault.TheVariants.{Failed, OutOfMemory}
use Rattle.host_rounds.specs.Lists.{Each}
use Rattle.host_rounds.specs.Logs.{RunLog}
use Rattle.host_rounds.specs.Cores.{CoresBelow}
use Rattle.scenario_text.specs.Bulk.{bulk_text}
use Rattle.scenario_text.specs.Reads.{reads}
use Rattle.scenario_text.specs.declared.scenario.Scenario as scenarios
use Rattle.scenario_text.specs.declared.scenario.HostLine.{HostLine}
use Rattle.scenario_text.proofs.MadeTexts.{made, bulk_read}
use Rattle.scenario_ranges.specs.Ranges.{IsHostInRange}
use Rattle.scenario_ranges.proofs.Drafts.{read_in_range}
use Rattle.scenario_runs.specs.Runs.{Run}
use Rattle.scenario_runs.specs.Histories.{AreInRange, AreSound}
use Rattle.scenario_runs.proofs.AllRuns.{serial_is_run, runs_sound}
use Rattle.scenario_runs.proofs.AllBelow.{serial_run_low}
use Rattle.tas_runs.specs.Replays.{Replay}
use Rattle.tas_runs.specs.SerialOrder.{serial_replay}
use Rattle.tas_runs.proofs.SerialRun.{serial_is_replay, serial_replay_low}
use Rattle.tas_runs.proofs.Runs.{replays_sound}
use Rattle.two_ends.proofs.Texts.{text_reads}
use Rattle.tas_top.specs.declared.stop.Stop.{Stop}
use Rattle.tas_top.specs.declared.stop.Stop.TheVariants.{Stalled, Words, Line, Record, Read, Write, Memory, TooLong}
use Rattle.program_words.specs.Words.{Form, Unknown, IsForm, form_of, Input, Scenario, Made, Capture, Request}
use Rattle.program_words.specs.Words.{Asks, IsMade, HasClients, most_in, most_bytes}
use Rattle.program_words.specs.Words as forms
use Rattle.tas_top.specs.Runs.{bytes_of, IsInput, IsSerialRun, IsRunOf, AreEndsOf, cores_of, IsRun, Given, Ran}
use Rattle.tas_top.specs.Stops.{Cause, IsNoInput, Unrun, Untaken, Unwritten, ReadsAll, ReadsFor, IsReadFor, ReadBefore}
use Rattle.tas_top.specs.Stops.{IsOfMade, Unread, status_of}
use Rattle.tas_top.specs.Outputs.{IsWhole, WritesAll, WritesFront, output, end_status}

-- a fact of all that was read is one of the input, where that is told
pub of_input : (input : Option (List ℕ)) (b : List ℕ) (P : List ℕ → Type 0) → IfSome input (λ bytes. b ≡ bytes) → P b
    → IfSome input P
of_input None b P same fact = tt
of_input (Some bytes) b P same fact = subst P same fact

told : (input : Option (List ℕ)) (b : List ℕ) (P : List ℕ → Type 0) → input ≡ Some b → IfSome input P → P b
told input b P e fact = subst (λ (i : Option (List ℕ)). IfSome i P) e fact

-- ----- the run
of_ok : (r : Result RunLog captures.Fault) (P : RunLog → Type 0) (log : RunLog) → r ≡ Ok log → IfOk r P → P log
of_ok r P log e fact = subst (λ (x : Result RunLog captures.Fault). IfOk x P) e fact

run_in_serial_order : (input : Input) (b : List ℕ) (log : RunLog) → IsSerialRun input b log → IsRunOf input b log
run_in_serial_order Scenario b log serial =
    (serial.0, serial.1, subst (λ (l : RunLog). Run serial.0 l) serial.2 (serial_is_run serial.0))
run_in_serial_order (Made clients) b log serial =
    (serial.0, serial.1, subst (λ (l : RunLog). Run serial.0 l) serial.2 (serial_is_run serial.0))
run_in_serial_order (Capture local loose) b log serial =
    of_ok (serial_replay (ipv4_bits local) b loose) (λ (l : RunLog). Replay (ipv4_bits local) b loose l) log serial
    (serial_is_replay (ipv4_bits local) b loose)

hosts_in_range : (hosts : List HostLine) → Each IsHostInRange hosts → AreInRange hosts
hosts_in_range [] all = tt
hosts_in_range (h ∷ hs) all = (all.0.params, hosts_in_range hs all.1)

run_is_sound : (input : Input) (b : List ℕ) (log : RunLog) → IsRunOf input b log → AreSound log.hosts
run_is_sound Scenario b log run =
    runs_sound run.0 log (hosts_in_range run.0.hosts (read_in_range b run.0 run.1).hosts) run.2
run_is_sound (Made clients) b log run =
    runs_sound run.0 log (hosts_in_range run.0.hosts (read_in_range (bulk_text clients) run.0 run.1).hosts) run.2
run_is_sound (Capture local loose) b log run = replays_sound (ipv4_bits local) b loose log run

-- a text is of one scenario
text_of_one : (text : List ℕ) (s other : scenarios.Scenario) → reads text ≡ Ok s → reads text ≡ Ok other → other ≡ s
text_of_one text s other read again = cc (read, again)

run_has_ends : (input : Input) (b : List ℕ) (log : RunLog) → HasClients input → IsRunOf input b log
    → AreEndsOf input b log
run_has_ends Scenario b log clients run = λ s read faithful.
    let same : run.0 ≡ s = text_of_one b s run.0 read run.1 in
    text_reads b s log read faithful (subst (λ (x : scenarios.Scenario). Run x log) same run.2)
run_has_ends (Made clients) b log few run =
    let same : run.0 ≡ made clients =
    text_of_one (bulk_text clients) (made clients) run.0 (bulk_read clients few.1) run.1 in
    text_reads (bulk_text clients) (made clients) log (bulk_read clients few.1) tt
    (subst (λ (x : scenarios.Scenario). Run x log) same run.2)
run_has_ends (Capture local loose) b log clients run = tt

serial_run_is_low : (input : Input) (b : List ℕ) (log : RunLog) → IsSerialRun input b log → CoresBelow 1 log.hosts
serial_run_is_low Scenario b log serial =
    subst (λ (l : RunLog). CoresBelow 1 l.hosts) serial.2 (serial_run_low serial.0)
serial_run_is_low (Made clients) b log serial =
    subst (λ (l : RunLog). CoresBelow 1 l.hosts) serial.2 (serial_run_low serial.0)
serial_run_is_low (Capture local loose) b log serial =
    of_ok (serial_replay (ipv4_bits local) b loose) (λ (l : RunLog). CoresBelow 1 l.hosts) log serial
    (serial_replay_low (ipv4_bits local) b loose)

-- the run without cores, in serial order
pub is_run_serially : (r : Request) (b : List ℕ) (log : RunLog) → HasClients r.input → r.cores ≡ None
    → IsSerialRun r.input b log → IsRun r b log
is_run_serially r b log clients none serial =
    let run : IsRunOf r.input b log = run_in_serial_order r.input b log serial in
    record {
      run = run;
      sound = run_is_sound r.input b log run;
      ends = run_has_ends r.input b log clients run;
      cores = subst (λ (asked : Option ℕ). CoresBelow (cores_of asked) log.hosts) (sym none)
          (serial_run_is_low r.input b log serial);
      serial = λ h. serial;
    }

-- the run with cores, in any order
pub is_run_on_cores : (r : Request) (n : ℕ) (b : List ℕ) (log : RunLog) → HasClients r.input → r.cores ≡ Some n
    → IsRunOf r.input b log → CoresBelow n log.hosts → IsRun r b log
is_run_on_cores r n b log clients cores run low = record {
  run = run;
  sound = run_is_sound r.input b log run;
  ends = run_has_ends r.input b log clients run;
  cores = subst (λ (asked : Option ℕ). CoresBelow (cores_of asked) log.hosts) (sym cores) low;
  serial = λ none. absurd (cc (cores, none));
}

pub if_ok : {T : Type 0} (r : Result T Stop) (P Q : T → Type 0) → ((x : T) → P x → Q x) → IfOk r P → IfOk r Q
if_ok (Ok x) P Q f h = f x h
if_ok (Err stop) P Q f h = tt

pub both_ok : {T : Type 0} (r : Result T Stop) (P Q R : T → Type 0) → ((x : T) → P x → Q x → R x) → IfOk r P → IfOk r Q
    → IfOk r R
both_ok (Ok x) P Q R f h k = f x h k
both_ok (Err stop) P Q R f h k = tt

-- these are the bytes of the input, where they are told
abbrev pub IsAll : Given → Request → (b : List ℕ) → Type 0
IsAll g r b = IfSome (bytes_of r.input g.source.left) (λ bytes. b ≡ bytes)

-- what holds of the run of the bytes that were read
pub ran : (g : Given) (b : List ℕ) (r : Request) (log : RunLog) (P : Request → RunLog → Type 0) → IsAll g r b
    → Asks (form_of g.words) r → IsRun r b log → P r log → Ran g P
ran g b r log P same asked run fact = (
  r,
  asked,
  of_input (bytes_of r.input g.source.left) b
      (λ (bytes : List ℕ). (log : RunLog) × IsRun r bytes log × P r log) same (log, run, fact),
)

pub writes_all : (g : Given) (b : List ℕ) (r : Request) (log : RunLog) → IsAll g r b → Asks (form_of g.words) r
    → IsRun r b log → Wrote g.sink (Ok tt) g.written (output r log) [] → WritesAll g (end_status log)
writes_all g b r log same asked run wrote =
    ran g b r log
    (λ (r : Request) (l : RunLog). Wrote g.sink (Ok tt) g.written (output r l) [] × (end_status log ≡ end_status l))
    same asked run (wrote, refl)

-- what a fault left of the text
abbrev Front : Given → Request → RunLog → Type 0
Front g r log = (fault : IoFault) × Wrote g.sink (Err fault) g.written (output r log) []

pub writes_front : (g : Given) (b : List ℕ) (r : Request) (log : RunLog) (stop : Stop) → IsAll g r b
    → Asks (form_of g.words) r → IsRun r b log → Unwritten g.sink g.written (output r log) stop
    → WritesFront g
writes_front g b r log Write same asked run why = inr (ran g b r log (Front g) same asked run (Failed, why))
writes_front g b r log Memory same asked run (inl e) = inl e
writes_front g b r log Memory same asked run (inr why) =
    inr (ran g b r log (Front g) same asked run (OutOfMemory, why))
writes_front g b r log Stalled same asked run why = absurd why
writes_front g b r log Words same asked run why = absurd why
writes_front g b r log (Line number) same asked run why = absurd why
writes_front g b r log (Record number) same asked run why = absurd why
writes_front g b r log Read same asked run why = absurd why
writes_front g b r log TooLong same asked run why = absurd why

-- ----- what was read
reads_all : (limit most : ℕ) (before after : SourceState) (b : List ℕ) → limit ≡ most
    → IfSome before.left (λ bytes. b ≡ bytes) → length b ≤ limit → IsAtEnd after.left → ReadsAll most before after
reads_all limit most before after b few same short end =
    let fits : length b ≤ most = omega (arith, few, short) in
    record { fits = of_input before.left b (λ (bytes : List ℕ). length bytes ≤ most) same fits; end = end }

-- so for each input that is asked for
reads_for_input : (form : Form) (input : Input) (cores : Option ℕ) (pcap : Bool) (limit : ℕ)
    (before after : SourceState) (b : List ℕ) → Asks form (record { input = input; cores = cores; pcap = pcap })
    → limit ≡ most_in form → IfSome (bytes_of input before.left) (λ bytes. b ≡ bytes) → length b ≤ limit
    → IsReadFor input before after → ReadsFor form before after
reads_for_input (forms.Run c p) Scenario cores pcap limit before after b asked few same short end =
    reads_all limit 1048576 before after b few same short end
reads_for_input (forms.Bulk n c) (Made clients) cores pcap limit before after b asked few same short end = end
reads_for_input (forms.Replay text c p loose) (Capture local l) cores pcap limit before after b asked few same short
    end =
    reads_all limit 67108864 before after b few same short end
reads_for_input (forms.Run c p) (Made clients) cores pcap limit before after b asked few same short end =
    absurd (cc (ap (λ (q : Request). q.input) asked))
reads_for_input (forms.Run c p) (Capture local l) cores pcap limit before after b asked few same short end =
    absurd (cc (ap (λ (q : Request). q.input) asked))
reads_for_input (forms.Bulk n c) Scenario cores pcap limit before after b asked few same short end =
    absurd (cc (ap (λ (q : Request). q.input) asked))
reads_for_input (forms.Bulk n c) (Capture local l) cores pcap limit before after b asked few same short end =
    absurd (cc (ap (λ (q : Request). q.input) asked))
reads_for_input (forms.Replay text c p loose) Scenario cores pcap limit before after b asked few same short end =
    absurd (cc (ap (λ (q : Request). q.input) asked.2))
reads_for_input (forms.Replay text c p loose) (Made clients) cores pcap limit before after b asked few same short end =
    absurd (cc (ap (λ (q : Request). q.input) asked.2))
reads_for_input Unknown input cores pcap limit before after b asked few same short end = absurd asked

pub reads_for : (form : Form) (r : Request) (limit : ℕ) (before after : SourceState) (b : List ℕ) → Asks form r
    → limit ≡ most_in form → IfSome (bytes_of r.input before.left) (λ bytes. b ≡ bytes) → length b ≤ limit
    → IsReadFor r.input before after → ReadsFor form before after
reads_for form r limit before after b asked few same short end =
    reads_for_input form r.input r.cores r.pcap limit before after b asked few same short end

-- ----- a made scenario
-- words of one ask for no other input
made_input : (form : Form) (r : Request) → IsMade form → Asks form r
    → (clients : ℕ) × (r.input ≡ Made clients)
made_input (forms.Bulk n cores) r made asked = (n, ap (λ (q : Request). q.input) asked)
made_input (forms.Run cores pcap) r made asked = absurd made
made_input (forms.Replay text cores pcap loose) r made asked = absurd made
made_input Unknown r made asked = absurd made

-- of it nothing is read
pub made_unread : (form : Form) (r : Request) (before after : SourceState) → IsMade form → Asks form r
    → IsReadFor r.input before after → after ≡ before
made_unread form r before after made asked read =
    let is = made_input form r made asked in
    subst (λ (i : Input). IsReadFor i before after) is.1 read

-- and this can't fail
pub made_is_read : {T : Type 0} (form : Form) (r : Request) (stop : Stop) (result : Result T Stop) (P : Type 0)
    → IsMade form → Asks form r → ((clients : ℕ) → r.input ≡ Made clients → IsOk result) → result ≡ Err stop → P
made_is_read {T} form r stop result P made asked sure failed =
    let is = made_input form r made asked in
    absurd (false≢true (subst (λ (x : Result T Stop). IsOk x) failed (sure is.0 is.1)))

pub made_words : (words : List (List ℕ)) (stop : Stop) → Untaken words stop → IsOfMade stop
made_words words Words why = tt
made_words words Stalled why = tt
made_words words Memory why = tt
made_words words Write why = tt
made_words words (Line number) why = why
made_words words (Record number) why = why
made_words words Read why = why
made_words words TooLong why = why

made_runs : (clients : ℕ) (b : List ℕ) (stop : Stop) → Unrun (Made clients) b stop → IsOfMade stop
made_runs clients b Memory why = tt
made_runs clients b Stalled why = tt
made_runs clients b Words why = tt
made_runs clients b Write why = tt
made_runs clients b (Line number) why = why
made_runs clients b (Record number) why = why
made_runs clients b Read why = why
made_runs clients b TooLong why = why

pub made_unrun : (form : Form) (r : Request) (b : List ℕ) (stop : Stop) → IsMade form → Asks form r
    → Unrun r.input b stop → IsOfMade stop
made_unrun form r b stop made asked why =
    let is = made_input form r made asked in
    made_runs is.0 b stop (subst (λ (i : Input). Unrun i b stop) is.1 why)

pub made_unwritten : (before after : SinkState) (text : List ℕ) (stop : Stop) → Unwritten before after text stop
    → IsOfMade stop
made_unwritten before after text Write why = tt
made_unwritten before after text Memory why = tt
made_unwritten before after text Stalled why = tt
made_unwritten before after text Words why = tt
made_unwritten before after text (Line number) why = why
made_unwritten before after text (Record number) why = why
made_unwritten before after text Read why = why
made_unwritten before after text TooLong why = why

-- the statuses of an input that is at fault
pub made_status : (stop : Stop) → IsOfMade stop → (status_of stop ≢ 3) × ((status_of stop ≢ 4) × (status_of stop ≢ 7))
made_status Stalled fits = (λ e. omega (arith, e), (λ e. omega (arith, e), λ e. omega (arith, e)))
made_status Words fits = (λ e. omega (arith, e), (λ e. omega (arith, e), λ e. omega (arith, e)))
made_status Write fits = (λ e. omega (arith, e), (λ e. omega (arith, e), λ e. omega (arith, e)))
made_status Memory fits = (λ e. omega (arith, e), (λ e. omega (arith, e), λ e. omega (arith, e)))
made_status (Line number) fits = absurd fits
made_status (Record number) fits = absurd fits
made_status Read fits = absurd fits
made_status TooLong fits = absurd fits

-- ----- an input of which there is no run
-- of one that is not told nothing is known
untold : (stop : Stop) (input : Input) (b : List ℕ) → IsNoInput stop input (Some b) → IsNoInput stop input None
untold (Line number) Scenario b none = tt
untold (Record number) (Capture local loose) b none = tt
untold (Line number) (Capture local loose) b none = none
untold (Record number) Scenario b none = none
untold (Line number) (Made clients) b none = none
untold (Record number) (Made clients) b none = none
untold Stalled input b none = none
untold Words input b none = none
untold Read input b none = none
untold Write input b none = none
untold Memory input b none = none
untold TooLong input b none = none

no_input : (stop : Stop) (input : Input) (left : Option (List ℕ)) (b : List ℕ) → IfSome left (λ bytes. b ≡ bytes)
    → IsNoInput stop input (Some b) → IsNoInput stop input left
no_input stop input None b same none = untold stop input b none
no_input stop input (Some bytes) b same none = subst (λ (x : List ℕ). IsNoInput stop input (Some x)) same none

-- nor is there one that is made
no_input_of : (stop : Stop) (input : Input) (left : Option (List ℕ)) (b : List ℕ)
    → IfSome (bytes_of input left) (λ bytes. b ≡ bytes) → IsNoInput stop input (Some b) → IsNoInput stop input left
no_input_of stop Scenario left b same none = no_input stop Scenario left b same none
no_input_of stop (Capture local loose) left b same none = no_input stop (Capture local loose) left b same none
no_input_of stop (Made clients) left b same none = never stop none
  where
    never : (stop : Stop) → IsNoInput stop (Made clients) (Some b) → IsNoInput stop (Made clients) left
    never (Line number) none = none
    never (Record number) none = none
    never Stalled none = none
    never Words none = none
    never Read none = none
    never Write none = none
    never Memory none = none
    never TooLong none = none

pub unrun_why : (g : Given) (b : List ℕ) (r : Request) (stop : Stop) → IsAll g r b → Asks (form_of g.words) r
    → Unrun r.input b stop → Cause g stop
unrun_why g b r (Line number) same asked why =
    (r, asked, no_input_of (Line number) r.input g.source.left b same why)
unrun_why g b r (Record number) same asked why =
    (r, asked, no_input_of (Record number) r.input g.source.left b same why)
unrun_why g b r Memory same asked why = tt
unrun_why g b r Stalled same asked why = absurd why
unrun_why g b r Words same asked why = absurd why
unrun_why g b r Read same asked why = absurd why
unrun_why g b r Write same asked why = absurd why
unrun_why g b r TooLong same asked why = absurd why

-- why not all of it was read
pub unread_why : (g : Given) (r : Request) (limit : ℕ) (stop : Stop) → Asks (form_of g.words) r
    → limit ≡ most_bytes g.words → Unread (bytes_of r.input g.source.left) g.source g.read limit stop → Cause g stop
unread_why g r limit Read asked most why = why
unread_why g r limit Memory asked most why = tt
unread_why g r limit TooLong asked most why =
    (r, asked, subst (λ (n : ℕ). IfSome (bytes_of r.input g.source.left) (λ b. n < length b)) most why)
unread_why g r limit Stalled asked most why = absurd why
unread_why g r limit Words asked most why = absurd why
unread_why g r limit (Line number) asked most why = absurd why
unread_why g r limit (Record number) asked most why = absurd why
unread_why g r limit Write asked most why = absurd why

pub unrun_read : (form : Form) (before after : SourceState) (input : Input) (b : List ℕ) (stop : Stop)
    → ReadsFor form before after → Unrun input b stop → ReadBefore form before after stop
unrun_read form before after input b (Line number) all why = all
unrun_read form before after input b (Record number) all why = all
unrun_read form before after input b Memory all why = tt
unrun_read form before after input b Stalled all why = absurd why
unrun_read form before after input b Words all why = absurd why
unrun_read form before after input b Read all why = absurd why
unrun_read form before after input b Write all why = absurd why
unrun_read form before after input b TooLong all why = absurd why

pub unwritten_read : (form : Form) (before after : SourceState) (old new : SinkState) (text : List ℕ) (stop : Stop)
    → ReadsFor form before after → Unwritten old new text stop → ReadBefore form before after stop
unwritten_read form before after old new text Write all why = all
unwritten_read form before after old new text Memory all why = tt
unwritten_read form before after old new text Stalled all why = absurd why
unwritten_read form before after old new text Words all why = absurd why
unwritten_read form before after old new text (Line number) all why = absurd why
unwritten_read form before after old new text (Record number) all why = absurd why
unwritten_read form before after old new text Read all why = absurd why
unwritten_read form before after old new text TooLong all why = absurd why

-- ----- a request
-- the words of a run are of a form
asked_form : (form : Form) (r : Request) → Asks form r → IsForm form
asked_form (forms.Run cores pcap) r asked = tt
asked_form (forms.Replay text cores pcap loose) r asked = (asked.0, asked.1)
asked_form (forms.Bulk clients cores) r asked = tt
asked_form Unknown r asked = asked

-- words ask for inputs of one kind
same_kind : (form : Form) (q r : Request) (b : List ℕ) → Asks form q → Asks form r → IsInput q.input b
    → IsInput r.input b
same_kind (forms.Run cores pcap) q r b of_q of_r is =
    let here : IsInput Scenario b = subst (λ (x : Request). IsInput x.input b) of_q is in
    subst (λ (x : Request). IsInput x.input b) (sym of_r) here
same_kind (forms.Replay text cores pcap loose) q r b of_q of_r is =
    let here : (found : captures.Capture) × (captures.capture_of b ≡ Ok found) =
    subst (λ (x : Request). IsInput x.input b) of_q.2 is in
    subst (λ (x : Request). IsInput x.input b) (sym of_r.2) here
same_kind (forms.Bulk clients cores) q r b of_q of_r is =
    subst (λ (x : Request). IsInput x.input b) (sym of_r) tt
same_kind Unknown q r b of_q of_r is = absurd of_q

-- and for the same bytes
same_bytes : (form : Form) (q r : Request) (left : Option (List ℕ)) (b : List ℕ) → Asks form q → Asks form r
    → bytes_of q.input left ≡ Some b → bytes_of r.input left ≡ Some b
same_bytes (forms.Run cores pcap) q r left b of_q of_r is =
    let here : left ≡ Some b = subst (λ (x : Request). bytes_of x.input left ≡ Some b) of_q is in
    subst (λ (x : Request). bytes_of x.input left ≡ Some b) (sym of_r) here
same_bytes (forms.Bulk clients cores) q r left b of_q of_r is =
    let here : ◌≡◌ {A = Option (List ℕ)} (Some []) (Some b) =
    subst (λ (x : Request). bytes_of x.input left ≡ Some b) of_q is in
    subst (λ (x : Request). bytes_of x.input left ≡ Some b) (sym of_r) here
same_bytes (forms.Replay text cores pcap loose) q r left b of_q of_r is =
    let here : left ≡ Some b = subst (λ (x : Request). bytes_of x.input left ≡ Some b) of_q.2 is in
    subst (λ (x : Request). bytes_of x.input left ≡ Some b) (sym of_r.2) here
same_bytes Unknown q r left b of_q of_r is = absurd of_q

-- ----- the status
-- an input is not refused
not_refused : (stop : Stop) (input : Input) (left : Option (List ℕ)) (b : List ℕ) → bytes_of input left ≡ Some b
    → IsInput input b → IsNoInput stop input left → ⊥
not_refused (Line number) Scenario left b e is none =
    let there : IsNoInput (Line number) Scenario (Some b) =
    subst (λ (x : Option (List ℕ)). IsNoInput (Line number) Scenario x) e none in
    absurd (cc (is.1, there.1))
not_refused (Record number) (Capture local loose) left b e is none =
    let there : IsNoInput (Record number) (Capture local loose) (Some b) =
    subst (λ (x : Option (List ℕ)). IsNoInput (Record number) (Capture local loose) x) e none in
    absurd (cc (is.1, there.1))
not_refused (Line number) (Capture local loose) left b e is none = none
not_refused (Line number) (Made clients) left b e is none = none
not_refused (Record number) Scenario left b e is none = none
not_refused (Record number) (Made clients) left b e is none = none
not_refused Stalled input left b e is none = none
not_refused Words input left b e is none = none
not_refused Read input left b e is none = none
not_refused Write input left b e is none = none
not_refused Memory input left b e is none = none
not_refused TooLong input left b e is none = none

fits_not : (g : Given) (stop : Stop) (r : Request) → Asks (form_of g.words) r → IsNoInput stop r.input g.source.left
    → IsWhole g → ⊥
fits_not g stop r asked none w =
    not_refused stop r.input g.source.left w.input
    (same_bytes (form_of g.words) w.request r g.source.left w.input w.asked asked w.told)
    (same_kind (form_of g.words) w.request r w.input w.asked asked w.reads) none

pub whole_ends_well : (g : Given) (stop : Stop) → Cause g stop → IsWhole g
    → (status_of stop ≡ 0) ⊎ ((status_of stop ≡ 1) ⊎ (status_of stop ≡ 6))
whole_ends_well g Stalled cause w = inr (inl refl)
whole_ends_well g Words cause w = absurd (cause (asked_form (form_of g.words) w.request w.asked))
whole_ends_well g (Line number) cause w = absurd (fits_not g (Line number) cause.0 cause.1 cause.2 w)
whole_ends_well g (Record number) cause w = absurd (fits_not g (Record number) cause.0 cause.1 cause.2 w)
whole_ends_well g Read cause w = absurd (w.read cause)
whole_ends_well g Write cause w = absurd (w.written cause)
whole_ends_well g Memory cause w = inr (inr refl)
whole_ends_well g TooLong cause w =
    let form = form_of g.words in
    let is = same_bytes form w.request cause.0 g.source.left w.input w.asked cause.1 w.told in
    let bytes = bytes_of cause.0.input g.source.left in
    let long = told bytes w.input (λ (b : List ℕ). most_bytes g.words < length b) is cause.2 in
    absurd (omega (arith, long, w.short))

-- all was written of a run that is stalled
by_status : (stalled : Bool) → ◌≡◌ {A = ℕ} 1 (if stalled then 1 else 0) → stalled ≡ true
by_status true e = refl
by_status false e = absurd (omega (arith, e))

if_some : (left : Option (List ℕ)) (P Q : List ℕ → Type 0) → ((b : List ℕ) → P b → Q b) → IfSome left P
    → IfSome left Q
if_some None P Q f h = tt
if_some (Some b) P Q f h = f b h

pub stalled_why : (g : Given) → WritesAll g 1 → Cause g Stalled
stalled_why g written =
    let r = written.0 in (
      r,
      written.1,
      if_some (bytes_of r.input g.source.left)
          (λ (b : List ℕ). (log : RunLog) × IsRun r b log
          × (Wrote g.sink (Ok tt) g.written (output r log) [] × (1 ≡ end_status log)))
          (λ (b : List ℕ). (log : RunLog) × IsRun r b log × (log.stalled ≡ true))
          (λ b h. (h.0, h.1, by_status h.0.stalled h.2.1)) written.2,
    )

-- no other stop has the status of a run that was written whole
pub never_whole : (stop : Stop) (P : Type 0) → stop ≢ Stalled → (status_of stop ≡ 0) ⊎ (status_of stop ≡ 1) → P
never_whole Stalled P other whole = absurd (other refl)
never_whole Words P other whole = absurd (omega (arith, whole))
never_whole (Line number) P other whole = absurd (omega (arith, whole))
never_whole (Record number) P other whole = absurd (omega (arith, whole))
never_whole Read P other whole = absurd (omega (arith, whole))
never_whole Write P other whole = absurd (omega (arith, whole))
never_whole Memory P other whole = absurd (omega (arith, whole))
never_whole TooLong P other whole = absurd (omega (arith, whole))

pub read_at : (form : Form) (before after : SourceState) (stop : Stop) → stop ≢ Stalled
    → ReadBefore form before after stop
    → (status_of stop ≡ 0) ⊎ ((status_of stop ≡ 1) ⊎ ((status_of stop ≡ 3) ⊎ (status_of stop ≡ 5)))
    → ReadsFor form before after
read_at form before after Stalled other read at = absurd (other refl)
read_at form before after (Line number) other read at = read
read_at form before after (Record number) other read at = read
read_at form before after Write other read at = read
read_at form before after Words other read at = absurd (omega (arith, at))
read_at form before after Read other read at = absurd (omega (arith, at))
read_at form before after Memory other read at = absurd (omega (arith, at))
read_at form before after TooLong other read at = absurd (omega (arith, at))

-- ----- what holds after a stop
pub at_err : {T : Type 0} (P : Stop → Type 0) (r : Result T Stop) (stop : Stop) → r ≡ Err stop → P stop → IfErr r P
at_err {T} P r stop e h = subst (λ (x : Result T Stop). IfErr x P) (sym e) h

pub whichever : {T P : Type 0} (r : Result T Stop) → P → OnErr r P
whichever {T} {P} (Ok u) h = tt
whichever {T} {P} (Err stop) h = h
