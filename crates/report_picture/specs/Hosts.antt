-- The hosts that a report names, and whether it is one of a replay.
use Rattle.std.specs.Prelude.{ℕ, ◌+◌, ◌==◌, Bool, true, false, not, ◌&&◌, ◌||◌, List, [], ◌∷◌, ◌++◌, length, map, fold}
use Rattle.std.specs.Prelude.{codes, bytes_eq, nat_lt, Option, Some, None, is_some, if◌then◌else◌}
use Rattle.std.specs.List.{take_while, list_all, list_any}
use Rattle.scenario_text.specs.Words.{is_letter, is_digit}
use Rattle.report_lines.specs.Fronts.{behind}
use Rattle.report_lines.specs.Lines.{Line, Host, is_of_word, line_in}
use Rattle.trace_audit.specs.TextLines.{text_lines}
use Rattle.report_picture.specs.declared.hosts.Hosts.{Hosts}

-- Whether a report is one of a replay, and its hosts, by their names and their addresses.
pub record Named : Type 0 where
  pub replay : Bool
  pub names : List (List ℕ)
  pub addrs : List ℕ

-- what the code has of it
abbrev pub seen_hosts : Hosts → Named
seen_hosts h = record { replay = h.replay; names = map (λ n. n.now) h.names.items; addrs = h.addrs.items }

-- ----- the title
abbrev pub replay_title : List ℕ
replay_title = codes "tas replay\n"

-- a replay's report begins with its title
abbrev pub is_replay : (text : List ℕ) → Bool
is_replay text = is_some (behind replay_title text)

-- ----- one line
-- a line without its LF
abbrev pub front : (line : List ℕ) → List ℕ
front line = take_while (λ c. not (c == 10)) line

abbrev pub is_plain : (name : List ℕ) → Bool
is_plain name = list_all (λ c. is_letter c || is_digit c) name

abbrev pub is_there : (names : List (List ℕ)) → (name : List ℕ) → Bool
is_there names name = list_any (λ n. bytes_eq n name) names

-- one host more may have this name: a replay has one host, `local`
abbrev pub may_be_named : Named → (name : List ℕ) → Bool
may_be_named n name = nat_lt (length n.names) 8 && not (is_there n.names name)
    && (not n.replay || bytes_eq name (codes "local"))

-- the address that is told where this is a host's line
abbrev pub addr_in : Option Line → Option ℕ
addr_in (Some (Host host addr)) = Some addr
addr_in _ = None

-- the address that a line tells of a host of this name
abbrev pub told_addr : (name line : List ℕ) → Option ℕ
told_addr name line = if is_plain name then addr_in (line_in (name ∷ []) (front line)) else None

-- one host more, where its address is told
abbrev pub with_addr : Named → (name : List ℕ) → Option ℕ → Named
with_addr n name None = n
with_addr n name (Some addr) =
    if may_be_named n name then record n { names = n.names ++ name ∷ []; addrs = n.addrs ++ addr ∷ [] } else n

-- what stands behind `host ` begins with the name
abbrev pub with_rest : Named → (line : List ℕ) → (rest : Option (List ℕ)) → Named
with_rest n line None = n
with_rest n line (Some rest) = with_addr n (take_while is_of_word rest) (told_addr (take_while is_of_word rest) line)

abbrev pub with_text : Named → (line : List ℕ) → Named
with_text n line = with_rest n line (behind (codes "host ") line)

-- ----- all lines
-- The hosts of a report are those that its lines `host NAME ADDR` name, each once.
unfoldable pub hosts_in : (text : List ℕ) → Named
hosts_in text = fold with_text (record { replay = is_replay text; names = []; addrs = [] }) (text_lines text)
