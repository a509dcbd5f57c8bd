-- The words of the command line, after the program's name: a command, the number of `bulk`, and then options in any
-- order, each at most once.
use Rattle.std.specs.Prelude.{◌≡◌, ◌≤◌, ℕ, zero, suc, ◌&&◌, not, Bool, true, false, List, [], ◌∷◌, codes, decimal, drop}
use Rattle.std.specs.Prelude.{take, length, fold, is_some, Option, Some, None, IfSome, if◌then◌else◌}
use Rattle.std.specs.Prelude.{bytes_eq, ⊤}
use Rattle.std.specs.Net.Grammar.{IsIpv4Text}
use Rattle.std.specs.declared.net.ipv4_addr.Ipv4Addr.{Ipv4Addr}

-- ----- a word
-- the number from 1 to `most` that a text is the decimal of, which has neither sign nor leading zero
abbrev pub number_in : (most : ℕ) → (text : List ℕ) → Option ℕ
number_in zero text = None
number_in (suc n) text = if bytes_eq text (decimal (suc n)) then Some (suc n) else number_in n text

-- what stands behind a name, in a word that begins with it
abbrev pub behind : (name word : List ℕ) → Option (List ℕ)
behind name word = if bytes_eq (take (length name) word) name then Some (drop (length name) word) else None

-- ----- the options
-- The options given so far.
pub record Options : Type 0 where
  pub serial : Bool  -- `--serial`
  pub cores : Option ℕ  -- N of `--cores N`
  pub pcap : Bool  -- `--pcap`
  pub loose : Bool  -- `--loose-sums`
  pub local : Option (List ℕ)  -- the text of `--local`

-- how far the options were read
pub data Progress : Type 0 where
  Refused : Progress  -- they are of another form
  Reads : Options → Progress  -- an option may come next
  WantsCores : Options → Progress  -- the number of `--cores` has to come next
  WantsAddress : Options → Progress  -- the address of `--local` has to come next

abbrev pub no_options : Options
no_options = record { serial = false; cores = None; pcap = false; loose = false; local = None }

-- an option is given once
abbrev pub with_serial : Options → Progress
with_serial o = if o.serial then Refused else Reads (record o { serial = true })

abbrev pub with_pcap : Options → Progress
with_pcap o = if o.pcap then Refused else Reads (record o { pcap = true })

abbrev pub with_loose : Options → Progress
with_loose o = if o.loose then Refused else Reads (record o { loose = true })

abbrev pub with_count : Options → (cores : Option ℕ) → Progress
with_count o None = Refused
with_count o (Some n) = if is_some o.cores then Refused else Reads (record o { cores = Some n })

abbrev pub with_cores : Options → (number : List ℕ) → Progress
with_cores o number = with_count o (number_in 16 number)

abbrev pub with_address : Options → (text : List ℕ) → Progress
with_address o text = if is_some o.local then Refused else Reads (record o { local = Some text })

-- an option that bears its value, by what stands behind `--cores=` and `--local=`
abbrev pub with_value : Options → (number text : Option (List ℕ)) → Progress
with_value o (Some number) text = with_cores o number
with_value o None (Some text) = with_address o text
with_value o None None = Refused

abbrev pub with_option : Options → (word : List ℕ) → Progress
with_option o word =
    if bytes_eq word (codes "--serial") then with_serial o
    else if bytes_eq word (codes "--pcap") then with_pcap o
    else if bytes_eq word (codes "--loose-sums") then with_loose o
    else if bytes_eq word (codes "--cores") then WantsCores o
    else if bytes_eq word (codes "--local") then WantsAddress o
    else with_value o (behind (codes "--cores=") word) (behind (codes "--local=") word)

-- one word more
abbrev pub after_word : Progress → List ℕ → Progress
after_word Refused word = Refused
after_word (WantsCores o) word = with_cores o word
after_word (WantsAddress o) word = with_address o word
after_word (Reads o) word = with_option o word

-- all words behind the command
abbrev pub options_of : List (List ℕ) → Progress
options_of words = fold after_word (Reads no_options) words

-- ----- the forms
-- What the words are.
pub data Form : Type 0 where
  Unknown : Form  -- of no form
  Run : (cores : Option ℕ) → (pcap : Bool) → Form  -- `run`
  Bulk : (clients : ℕ) → (cores : Option ℕ) → Form  -- `bulk` with its number
  Replay : (local : List ℕ) → (cores : Option ℕ) → (pcap loose : Bool) → Form  -- `replay`, with the text of `--local`

-- a scenario has neither address nor checksums, and is serial or on cores
abbrev pub takes_scenario : Options → Bool
takes_scenario o = not (is_some o.local) && not o.loose && not (o.serial && is_some o.cores)

abbrev pub run_form : Progress → Form
run_form (Reads o) = if takes_scenario o then Run o.cores o.pcap else Unknown
run_form _ = Unknown

-- a made one is not shown as a capture
abbrev pub bulk_form : (number : Option ℕ) → Progress → Form
bulk_form (Some n) (Reads o) = if takes_scenario o && not o.pcap then Bulk n o.cores else Unknown
bulk_form _ _ = Unknown

-- a replay has an address, and cores where it is not serial
abbrev pub replay_of : Options → (local : Option (List ℕ)) → Form
replay_of o None = Unknown
replay_of o (Some text) = if o.serial then Unknown else Replay text o.cores o.pcap o.loose

abbrev pub replay_form : Progress → Form
replay_form (Reads o) = replay_of o o.local
replay_form _ = Unknown

-- with the number of `bulk` before its options
abbrev pub numbered_form : List (List ℕ) → Form
numbered_form [] = Unknown
numbered_form (number ∷ words) = bulk_form (number_in 1000 number) (options_of words)

abbrev pub form_of : List (List ℕ) → Form
form_of [] = Unknown
form_of (command ∷ words) =
    if bytes_eq command (codes "run") then run_form (options_of words)
    else if bytes_eq command (codes "replay") then replay_form (options_of words)
    else if bytes_eq command (codes "bulk") then numbered_form words
    else Unknown

-- ----- what is asked for
-- The words are of a form: an address of a replay is one.
abbrev pub IsForm : Form → Type 0
IsForm Unknown = ⊥
IsForm (Run cores pcap) = ⊤
IsForm (Bulk clients cores) = ⊤
IsForm (Replay text cores pcap loose) = (local : Ipv4Addr) × IsIpv4Text text local

-- What the input is: a scenario, or the one that is made for so many clients, of which nothing is read; or a capture of
-- what the host with this address saw, with `loose` no checksum of which is looked at.
pub data Input : Type 0 where
  Scenario : Input
  Made : (clients : ℕ) → Input
  Capture : (local : Ipv4Addr) → (loose : Bool) → Input

-- What is asked for: a run of this input, which is shown by its report, or that of a made scenario by its summary; or
-- by the frames that it sent.
pub record Request : Type 0 where
  pub input : Input
  pub cores : Option ℕ  -- on so many cores, or where none are asked for on one thread, in serial order
  pub pcap : Bool

-- Words of this form ask for this.
abbrev pub Asks : Form → Request → Type 0
Asks Unknown r = ⊥
Asks (Run cores pcap) r = r ≡ record { input = Scenario; cores = cores; pcap = pcap }
Asks (Bulk clients cores) r = r ≡ record { input = Made clients; cores = cores; pcap = false }
Asks (Replay text cores pcap loose) r =
    (local : Ipv4Addr) × IsIpv4Text text local
    × (r ≡ record { input = Capture local loose; cores = cores; pcap = pcap })

-- The words ask for a run.
abbrev pub IsAsked : (words : List (List ℕ)) → Type 0
IsAsked words = (r : Request) × Asks (form_of words) r

-- Words of this form name cores.
abbrev pub names_cores : Form → Bool
names_cores Unknown = false
names_cores (Run cores pcap) = is_some cores
names_cores (Bulk clients cores) = is_some cores
names_cores (Replay text cores pcap loose) = is_some cores

-- of how many clients a made scenario is, where it is one
abbrev pub HasClients : Input → Type 0
HasClients (Made clients) = (1 ≤ clients) × (clients ≤ 1000)
HasClients _ = ⊤

-- on how many cores a run is, where it is on cores
abbrev pub HasCores : (cores : Option ℕ) → Type 0
HasCores cores = IfSome cores (λ n. (1 ≤ n) × (n ≤ 16))

-- The words ask for a made scenario.
abbrev pub IsMade : Form → Type 0
IsMade (Bulk clients cores) = ⊤
IsMade _ = ⊥

-- the most bytes that the input may have: 1 MiB for a scenario, none for one that is made, and 64 MiB for a capture
abbrev pub most_in : Form → ℕ
most_in (Run cores pcap) = 1048576
most_in (Bulk clients cores) = 0
most_in _ = 67108864

abbrev pub most_bytes : (words : List (List ℕ)) → ℕ
most_bytes words = most_in (form_of words)
