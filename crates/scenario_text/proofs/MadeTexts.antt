-- The made text is a scenario, for every number of clients.
use Rattle.std.proofs.Common.{◌≡◌, ℕ, suc, zero, ◌+◌, ◌≤◌, ◌<◌, true, false, List, [], ◌∷◌, ◌++◌}
use Rattle.std.proofs.Common.{length, map, Some, Result, Ok, Err, refl, sym, ◌∙◌, ap, arith, rules}
use Rattle.std.proofs.Common.{append_assoc, length-append}
use Rattle.std.specs.Prelude.{codes, decimal}
use Rattle.std.specs.List.{flat_map, range_with_len}
use Rattle.std.specs.Str.Lines.{lines}
use Rattle.std.proofs.lemmas.Fmt.{length-decimal-le}
use Rattle.std.proofs.lemmas.List.{append-nil}
use Rattle.std.proofs.lemmas.List.Concat.{flat_map-append}
use Rattle.std.proofs.lemmas.List.FromFn.{length-map-range_with_len, map-range_with_len_more}
use Rattle.scenario_text.specs.Bulk.{bulk_hosts, server_text, client_text, bulk_text}
use Rattle.scenario_text.specs.Canonical.{line_of}
use Rattle.scenario_text.specs.Drafts.{no_draft, has_app, host_with}
use Rattle.scenario_text.specs.Statements.{none_given, by_words}
use Rattle.scenario_text.specs.Reads.{read_from, reads, scenario_in}
use Rattle.scenario_text.specs.Words.{is_name, number_in}
use Rattle.scenario_text.specs.declared.draft.Draft.{Draft}
use Rattle.scenario_text.specs.declared.scenario.AppLine.{AppLine}
use Rattle.scenario_text.specs.declared.scenario.Scenario.{Scenario}
use Rattle.scenario_text.specs.declared.scenario.Step.{Step}
use Rattle.scenario_text.specs.declared.scenario.Step.TheVariants as steps
use Rattle.scenario_text.specs.declared.reading.ScenarioFault.{ScenarioFault}
use Rattle.scenario_text.specs.declared.statement.Statement.TheVariants as says
use Rattle.scenario_text.specs.declared.statement.Reading.TheVariants.{Says}
use Rattle.scenario_text.proofs.WordedLines.{spaced, Leads, worded}
use Rattle.scenario_text.proofs.Decimals.{number_there, number_is_word, numbered_is_word, numbered_is_name}
use Rattle.scenario_text.proofs.MadeApps.{two_hosts, made_draft, step_read, app_read, other_number, other_host}
use Rattle.scenario_text.proofs.MadeApps.{none_of_both}

-- ----- the applications
abbrev pub server_app : (i : ℕ) → AppLine
server_app i = record {
  host = codes "b";
  name = 115 ∷ decimal i;
  steps = steps.Listen (codes "l") (1000 + i) ∷ steps.Accept (codes "s") (codes "l") ∷ steps.Drain (codes "s")
      ∷ steps.Close (codes "s") ∷ [];
}

abbrev pub client_app : (i : ℕ) → AppLine
client_app i = record {
  host = codes "a";
  name = 99 ∷ decimal i;
  steps = steps.Connect (codes "s") (codes "b") (1000 + i) ∷ steps.Fill (codes "s") 65536
      ∷ steps.Close (codes "s") ∷ [];
}

-- ----- lines with a number
short_name : (i : ℕ) → i < 1000 → length (decimal i) ≤ 3
short_name i h = length-decimal-le 3 i (omega arith) (omega (arith, h)) (omega (arith, h))

short_port : (i : ℕ) → i < 1000 → length (decimal (1000 + i)) ≤ 4
short_port i h = length-decimal-le 4 (1000 + i) (omega arith) (omega (arith, h)) (omega (arith, h))

port_there : (high i : ℕ) → i < 1000 → 1999 ≤ high → number_in 1 high (decimal (1000 + i)) ≡ Some (1000 + i)
port_there high i h above =
    number_there 1 high (1000 + i) (omega arith) (omega (arith, h, above)) (omega arith) (omega (arith, h))

app_said : (host : List ℕ) (name : List ℕ) → is_name host ≡ true → is_name name ≡ true
    → by_words (codes "app" ++ spaced (host ∷ name ∷ [])) (codes "app" ∷ host ∷ name ∷ []) ≡ Says (says.App host name)
app_said host name a b = rw (a, b) refl

listen_said : (i : ℕ) (port : List ℕ) → number_in 1 49151 port ≡ Some (1000 + i)
    → by_words (codes "listen" ++ spaced (codes "l" ∷ port ∷ [])) (codes "listen" ∷ codes "l" ∷ port ∷ [])
    ≡ Says (says.Do (steps.Listen (codes "l") (1000 + i)))
listen_said i port e = rw e refl

connect_said : (i : ℕ) (port : List ℕ) → number_in 1 65535 port ≡ Some (1000 + i)
    → by_words (codes "connect" ++ spaced (codes "s" ∷ codes "b" ∷ port ∷ []))
    (codes "connect" ∷ codes "s" ∷ codes "b" ∷ port ∷ [])
    ≡ Says (says.Do (steps.Connect (codes "s") (codes "b") (1000 + i)))
connect_said i port e = rw e refl

-- these lines are not too long
app_fits : (host letter : ℕ) (digits : List ℕ) → length digits ≤ 3
    → length (codes "app" ++ spaced ((host ∷ []) ∷ (letter ∷ digits) ∷ [])) ≤ 4096
app_fits host letter digits h =
    let e : length (digits ++ []) ≡ length digits = ap length (append-nil digits) in omega (arith, e, h)

listen_fits : (digits : List ℕ) → length digits ≤ 4
    → length (codes "listen" ++ spaced (codes "l" ∷ digits ∷ [])) ≤ 4096
listen_fits digits h =
    let e : length (digits ++ []) ≡ length digits = ap length (append-nil digits) in omega (arith, e, h)

connect_fits : (digits : List ℕ) → length digits ≤ 4
    → length (codes "connect" ++ spaced (codes "s" ∷ codes "b" ∷ digits ∷ [])) ≤ 4096
connect_fits digits h =
    let e : length (digits ++ []) ≡ length digits = ap length (append-nil digits) in omega (arith, e, h)

-- the same draft or text leads there
same_text : (d : Draft) (text other : List ℕ) (all : Result Scenario ScenarioFault) → text ≡ other → Leads d other all
    → Leads d text all
same_text d text other all e h line = ap (λ (zs : List ℕ). read_from line d (lines zs)) e ∙ h line

same_apps : (apps others : List AppLine) (text : List ℕ) (all : Result Scenario ScenarioFault) → apps ≡ others
    → Leads (made_draft others) text all → Leads (made_draft apps) text all
same_apps apps others text all e h line =
    ap (λ (xs : List AppLine). read_from line (made_draft xs) (lines text)) e ∙ h line

-- ----- one application
five_lines : (a b c d e rest : List ℕ) → (a ++ b ++ c ++ d ++ e) ++ rest ≡ a ++ (b ++ (c ++ (d ++ (e ++ rest))))
five_lines a b c d e rest = search (rules, append_assoc)

four_lines : (a b c d rest : List ℕ) → (a ++ b ++ c ++ d) ++ rest ≡ a ++ (b ++ (c ++ (d ++ rest)))
four_lines a b c d rest = search (rules, append_assoc)

-- an application with the first of its steps
abbrev with_steps : AppLine → List Step → AppLine
with_steps app first = record app { steps = first }

server_read : (apps : List AppLine) (i : ℕ) (rest : List ℕ) → i < 1000 → length apps ≤ 2000
    → has_app apps (codes "b") (115 ∷ decimal i) ≡ false → (all : Result Scenario ScenarioFault)
    → Leads (made_draft (apps ++ server_app i ∷ [])) rest all
    → Leads (made_draft apps) (server_text i ++ rest) all
server_read apps i rest small few fresh all h =
    let port : List ℕ = decimal (1000 + i) in
    let name : List ℕ = 115 ∷ decimal i in
    let listen : Step = steps.Listen (codes "l") (1000 + i) in
    let accept : Step = steps.Accept (codes "s") (codes "l") in
    let drain : Step = steps.Drain (codes "s") in
    let close : Step = steps.Close (codes "s") in
    let app_line : List ℕ = line_of (codes "app") (codes "b" ∷ name ∷ []) in
    let listen_line : List ℕ = line_of (codes "listen") (codes "l" ∷ port ∷ []) in
    let accept_line : List ℕ = line_of (codes "accept") (codes "s" ∷ codes "l" ∷ []) in
    let drain_line : List ℕ = line_of (codes "drain") (codes "s" ∷ []) in
    let close_line : List ℕ = line_of (codes "close") (codes "s" ∷ []) in
    let close_text : List ℕ = close_line ++ rest in
    let drain_text : List ℕ = drain_line ++ close_text in
    let accept_text : List ℕ = accept_line ++ drain_text in
    let listen_text : List ℕ = listen_line ++ accept_text in
    let first : AppLine = with_steps (server_app i) [] in
    let closing = step_read apps (with_steps first (listen ∷ accept ∷ drain ∷ [])) close
    (codes "close") (codes "s" ∷ [])
    rest refl (omega arith) refl refl all h in
    let draining = step_read apps (with_steps first (listen ∷ accept ∷ [])) drain (codes "drain") (codes "s" ∷ [])
    close_text refl (omega arith) refl refl all closing in
    let accepting = step_read apps (with_steps first (listen ∷ [])) accept (codes "accept") (codes "s" ∷ codes "l" ∷ [])
    drain_text refl (omega arith) refl refl all draining in
    let listening = step_read apps first listen (codes "listen") (codes "l" ∷ port ∷ []) accept_text
    (rw (number_is_word (1000 + i) (omega (arith, small))) refl) (listen_fits port (short_port i small))
    (listen_said i port (port_there 49151 i small (omega arith))) refl all accepting in
    let opening = app_read apps (codes "b") name (codes "app") (codes "b" ∷ name ∷ []) listen_text
    (rw (numbered_is_word 115 i refl (omega (arith, small))) refl) (app_fits 98 115 (decimal i) (short_name i small))
    (app_said (codes "b") name refl (numbered_is_name 115 i refl small)) refl fresh few all listening in
    same_text (made_draft apps) (server_text i ++ rest) (app_line ++ listen_text) all
    (five_lines app_line listen_line accept_line drain_line close_line rest) opening

client_read : (apps : List AppLine) (i : ℕ) (rest : List ℕ) → i < 1000 → length apps ≤ 2000
    → has_app apps (codes "a") (99 ∷ decimal i) ≡ false → (all : Result Scenario ScenarioFault)
    → Leads (made_draft (apps ++ client_app i ∷ [])) rest all
    → Leads (made_draft apps) (client_text i ++ rest) all
client_read apps i rest small few fresh all h =
    let port : List ℕ = decimal (1000 + i) in
    let name : List ℕ = 99 ∷ decimal i in
    let connect : Step = steps.Connect (codes "s") (codes "b") (1000 + i) in
    let fill : Step = steps.Fill (codes "s") 65536 in
    let close : Step = steps.Close (codes "s") in
    let app_line : List ℕ = line_of (codes "app") (codes "a" ∷ name ∷ []) in
    let connect_line : List ℕ = line_of (codes "connect") (codes "s" ∷ codes "b" ∷ port ∷ []) in
    let fill_line : List ℕ = line_of (codes "fill") (codes "s" ∷ codes "65536" ∷ []) in
    let close_line : List ℕ = line_of (codes "close") (codes "s" ∷ []) in
    let close_text : List ℕ = close_line ++ rest in
    let fill_text : List ℕ = fill_line ++ close_text in
    let connect_text : List ℕ = connect_line ++ fill_text in
    let first : AppLine = with_steps (client_app i) [] in
    let closing = step_read apps (with_steps first (connect ∷ fill ∷ [])) close (codes "close") (codes "s" ∷ [])
    rest refl (omega arith) refl refl all h in
    let filling = step_read apps (with_steps first (connect ∷ [])) fill (codes "fill") (codes "s" ∷ codes "65536" ∷ [])
    close_text refl (omega arith) refl refl all closing in
    let connecting = step_read apps first connect (codes "connect") (codes "s" ∷ codes "b" ∷ port ∷ []) fill_text
    (rw (number_is_word (1000 + i) (omega (arith, small))) refl) (connect_fits port (short_port i small))
    (connect_said i port (port_there 65535 i small (omega arith))) refl all filling in
    let opening = app_read apps (codes "a") name (codes "app") (codes "a" ∷ name ∷ []) connect_text
    (rw (numbered_is_word 99 i refl (omega (arith, small))) refl) (app_fits 97 99 (decimal i) (short_name i small))
    (app_said (codes "a") name refl (numbered_is_name 99 i refl small)) refl fresh few all connecting in
    same_text (made_draft apps) (client_text i ++ rest) (app_line ++ connect_text) all
    (four_lines app_line connect_line fill_line close_line rest) opening

-- ----- all of them
abbrev pub servers : (count : ℕ) → List AppLine
servers count = map server_app (range_with_len 0 count)

abbrev pub clients : (count : ℕ) → List AppLine
clients count = map client_app (range_with_len 0 count)

servers_read : (count from : ℕ) (rest : List ℕ) → from + count ≤ 1000 → (all : Result Scenario ScenarioFault)
    → Leads (made_draft (servers (from + count))) rest all
    → Leads (made_draft (servers from)) (flat_map server_text (range_with_len from count) ++ rest) all
servers_read zero from rest few all h =
    let none : from ≡ from + 0 = omega arith in
    same_apps (servers from) (servers (from + 0)) rest all (ap servers none) h
servers_read (suc count) from rest few all h =
    let others : List ℕ = flat_map server_text (range_with_len (from + 1) count) in
    let fresh : has_app (servers from) (codes "b") (115 ∷ decimal from) ≡ false =
    other_number (codes "b") 115 server_app (λ i. refl) 0 from from (omega arith) (omega (arith, few)) in
    let number : length (servers from) ≡ from = length-map-range_with_len server_app 0 from in
    let sum : from + 1 + count ≡ from + suc count = omega arith in
    let ended : Leads (made_draft (servers (from + 1 + count))) rest all =
    same_apps (servers (from + 1 + count)) (servers (from + suc count)) rest all (ap servers sum) h in
    let later : Leads (made_draft (servers (from + 1))) (others ++ rest) all =
    servers_read count (from + 1) rest (omega (arith, few)) all ended in
    let next : Leads (made_draft (servers from ++ server_app from ∷ [])) (others ++ rest) all =
    same_apps (servers from ++ server_app from ∷ []) (servers (from + 1)) (others ++ rest) all
    (sym (map-range_with_len_more server_app 0 from from (omega arith))) later in
    same_text (made_draft (servers from)) ((server_text from ++ others) ++ rest)
    (server_text from ++ (others ++ rest)) all
    (append_assoc (server_text from) others rest)
    (server_read (servers from) from (others ++ rest) (omega (arith, few)) (omega (arith, number, few)) fresh all next)

abbrev pub all_apps : (n count : ℕ) → List AppLine
all_apps n count = servers n ++ clients count

clients_read : (count n from : ℕ) (rest : List ℕ) → n ≤ 1000 → from + count ≤ 1000
    → (all : Result Scenario ScenarioFault) → Leads (made_draft (all_apps n (from + count))) rest all
    → Leads (made_draft (all_apps n from)) (flat_map client_text (range_with_len from count) ++ rest) all
clients_read zero n from rest many few all h =
    let none : from ≡ from + 0 = omega arith in
    same_apps (all_apps n from) (all_apps n (from + 0)) rest all (ap (all_apps n) none) h
clients_read (suc count) n from rest many few all h =
    let others : List ℕ = flat_map client_text (range_with_len (from + 1) count) in
    let fresh : has_app (all_apps n from) (codes "a") (99 ∷ decimal from) ≡ false =
    none_of_both (servers n) (clients from) (codes "a") (99 ∷ decimal from)
    (other_host (codes "a") (99 ∷ decimal from) server_app (λ i. refl) 0 n)
    (other_number (codes "a") 99 client_app (λ i. refl) 0 from from (omega arith) (omega (arith, few))) in
    let number : length (all_apps n from) ≡ n + from =
    length-append (servers n) (clients from)
    ∙ rw (length-map-range_with_len server_app 0 n, length-map-range_with_len client_app 0 from) refl in
    let sum : from + 1 + count ≡ from + suc count = omega arith in
    let ended : Leads (made_draft (all_apps n (from + 1 + count))) rest all =
    same_apps (all_apps n (from + 1 + count)) (all_apps n (from + suc count)) rest all (ap (all_apps n) sum) h in
    let later : Leads (made_draft (all_apps n (from + 1))) (others ++ rest) all =
    clients_read count n (from + 1) rest many (omega (arith, few)) all ended in
    let one_more : all_apps n from ++ client_app from ∷ [] ≡ all_apps n (from + 1) =
    append_assoc (servers n) (clients from) (client_app from ∷ [])
    ∙ ap (λ (xs : List AppLine). servers n ++ xs)
    (sym (map-range_with_len_more client_app 0 from from (omega arith))) in
    let next : Leads (made_draft (all_apps n from ++ client_app from ∷ [])) (others ++ rest) all =
    same_apps (all_apps n from ++ client_app from ∷ []) (all_apps n (from + 1)) (others ++ rest) all one_more later in
    same_text (made_draft (all_apps n from)) ((client_text from ++ others) ++ rest)
    (client_text from ++ (others ++ rest)) all
    (append_assoc (client_text from) others rest)
    (client_read (all_apps n from) from (others ++ rest) (omega (arith, few)) (omega (arith, number, many, few)) fresh
    all next)

-- ----- the lines before them
abbrev with_limit : Draft
with_limit = record no_draft { limit = Some 5000 }

abbrev with_host : Draft
with_host =
    record with_limit { hosts = host_with (codes "a") 167772161 (record none_given { rto = Some 8 }) ∷ [] }

abbrev with_hosts : Draft
with_hosts = record with_limit { hosts = two_hosts }

hosts_read : (rest : List ℕ) (all : Result Scenario ScenarioFault) → Leads (made_draft []) rest all
    → Leads no_draft (bulk_hosts ++ rest) all
hosts_read rest all h =
    let drop_words : List (List ℕ) = codes "a" ∷ codes "7" ∷ [] in
    let first_words : List (List ℕ) = codes "a" ∷ codes "10.0.0.1" ∷ codes "rto" ∷ codes "8" ∷ [] in
    let second_words : List (List ℕ) = codes "b" ∷ codes "10.0.0.2" ∷ codes "rto" ∷ codes "8" ∷ [] in
    let drop_text : List ℕ = line_of (codes "dropeach") drop_words ++ rest in
    let second_text : List ℕ = line_of (codes "host") second_words ++ drop_text in
    let first_text : List ℕ = line_of (codes "host") first_words ++ second_text in
    let third : Leads with_hosts drop_text all =
    worded with_hosts (made_draft []) (codes "dropeach") drop_words rest refl (omega arith) refl all h in
    let second : Leads with_host second_text all =
    worded with_host with_hosts (codes "host") second_words drop_text refl (omega arith) refl all third in
    let first : Leads with_limit first_text all =
    worded with_limit with_host (codes "host") first_words second_text refl (omega arith) refl all second in
    worded no_draft with_limit (codes "limit") (codes "5000" ∷ []) first_text refl (omega arith) refl all first

-- ----- the whole
abbrev pub made : (n : ℕ) → Scenario
made n = scenario_in (made_draft (all_apps n n))

zero_plus : (n : ℕ) → 0 + n ≡ n
zero_plus n = omega arith

-- Every made text is a scenario.
pub bulk_read : (n : ℕ) → n ≤ 1000 → reads (bulk_text n) ≡ Ok (made n)
unfolding reads
bulk_read n h =
    let numbers : List ℕ = range_with_len 0 n in
    let client_texts : List ℕ = flat_map client_text numbers in
    let ended : Leads (made_draft (all_apps n (0 + n))) [] (Ok (made n)) =
    same_apps (all_apps n (0 + n)) (all_apps n n) [] (Ok (made n)) (ap (all_apps n) (zero_plus n)) (λ line. refl) in
    let clients_there : Leads (made_draft (all_apps n 0)) client_texts (Ok (made n)) =
    same_text (made_draft (all_apps n 0)) client_texts (client_texts ++ []) (Ok (made n))
    (sym (append-nil client_texts))
    (clients_read n n 0 [] h (omega (arith, h)) (Ok (made n)) ended) in
    let servers_done : Leads (made_draft (servers (0 + n))) client_texts (Ok (made n)) =
    same_apps (servers (0 + n)) (all_apps n 0) client_texts (Ok (made n))
    (ap servers (zero_plus n) ∙ sym (append-nil (servers n))) clients_there in
    let servers_there : Leads (made_draft []) (flat_map server_text numbers ++ client_texts) (Ok (made n)) =
    servers_read n 0 client_texts (omega (arith, h)) (Ok (made n)) servers_done in
    hosts_read (flat_map server_text numbers ++ client_texts) (Ok (made n)) servers_there 1

-- ----- one text more
range_more : (from n : ℕ) → range_with_len from (n + 1) ≡ range_with_len from n ++ (from + n) ∷ []
range_more from zero = let e : from ≡ from + 0 = omega arith in ap (λ (k : ℕ). k ∷ []) e
range_more from (suc n) =
    let e : from + 1 + n ≡ from + suc n = omega arith in
    let again : suc n + 1 ≡ suc (n + 1) = omega arith in
    ap (range_with_len from) again
    ∙ ap (λ (ks : List ℕ). from ∷ ks)
    (range_more (from + 1) n ∙ ap (λ (k : ℕ). range_with_len (from + 1) n ++ k ∷ []) e)

pub text_more : (f : ℕ → List ℕ) (n : ℕ)
    → flat_map f (range_with_len 0 (n + 1)) ≡ flat_map f (range_with_len 0 n) ++ f n
text_more f n =
    ap (flat_map f) (range_more 0 n ∙ ap (λ (k : ℕ). range_with_len 0 n ++ k ∷ []) (zero_plus n))
    ∙ (flat_map-append f (range_with_len 0 n) (n ∷ [])
    ∙ ap (λ (t : List ℕ). flat_map f (range_with_len 0 n) ++ t) (append-nil (f n)))

-- one more in a text that is being made
pub text_appended : (f : ℕ → List ℕ) (front before after : List ℕ) (i : ℕ)
    → before ≡ front ++ flat_map f (range_with_len 0 i) → after ≡ before ++ f i
    → after ≡ front ++ flat_map f (range_with_len 0 (i + 1))
text_appended f front before after i e h =
    h ∙ (ap (λ (t : List ℕ). t ++ f i) e
    ∙ (append_assoc front (flat_map f (range_with_len 0 i)) (f i)
    ∙ ap (λ (t : List ℕ). front ++ t) (sym (text_more f i))))

pub text_appended_behind : (f : ℕ → List ℕ) (front middle before after : List ℕ) (i : ℕ)
    → before ≡ front ++ (middle ++ flat_map f (range_with_len 0 i)) → after ≡ before ++ f i
    → after ≡ front ++ (middle ++ flat_map f (range_with_len 0 (i + 1)))
text_appended_behind f front middle before after i e h =
    text_appended f (front ++ middle) before after i
    (e ∙ sym (append_assoc front middle (flat_map f (range_with_len 0 i)))) h
    ∙ append_assoc front middle (flat_map f (range_with_len 0 (i + 1)))

pub never_refused : (n : ℕ) (text : List ℕ) (fault : ScenarioFault) → n ≤ 1000 → text ≡ bulk_text n
    → reads text ≡ Err fault → ⊥
never_refused n text fault h e refused =
    let read : reads text ≡ Ok (made n) = ap reads e ∙ bulk_read n h in
    absurd (cc (read, refused))
