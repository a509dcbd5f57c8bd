-- What `clap` tells of a subcommand, by what was found for it.
use Rattle.std.proofs.Common.{◌≡◌, ◌∙◌, ap, sym, refl, codes, true, false, Bool, Option, Some, None, option_map, List}
use Rattle.std.proofs.Common.{Box, ℕ, ◌<◌, ◌^◌, Result, Ok, Err, decimal, arith}
use Rattle.std.proofs.lemmas.Fmt.{parse-decimal}
use Rattle.std.specs.Str.Parse.{ParsesUnsigned}
use Rattle.std.specs.Net.Grammar.{IsIpv4Text, Parses}
use Rattle.std.specs.declared.net.ipv4_addr.Ipv4Addr.{Ipv4Addr}
use Rattle.std.specs.Box.{box_value}
use Rattle.clap.specs.Words.{ReadsOne, Text, Row, found_of, one_of, one_text, rows_of, subcommand_rows}
use Rattle.clap.specs.declared.parser.matches.ArgMatches.{ArgMatches}
use Rattle.clap.specs.declared.parser.matches.ArgMatches.TheViews.{out-SubCommand}
use Rattle.clap.specs.declared.parser.matches.SubCommand.{SubCommand}
use Rattle.clap.proofs.WalkLemmas.{one_text-rows}
use Rattle.program_words.specs.Words.{Input, Scenario, Made, Capture, Request}
use Rattle.program_words.specs.Found.{name_in, text_in, spelled, spelled_number}

pub named : {Z : Type 0} (o : Option (Box SubCommand Z)) (name : Text) → name_in (subcommand_rows o) ≡ Some name
    → option_map (λ b. (out-SubCommand (box_value b)).name.now) o ≡ Some name
named None name e = e
named (Some b) name e = e

text_of : (id : Text) (found : Option (Text × List Row)) (rows : List Row) → option_map (λ p. p.1) found ≡ Some rows
    → text_in id found ≡ Some (one_of id rows)
text_of id None rows e = absurd (cc (e))
text_of id (Some p) rows e = ap (option_map (one_of id)) e

pub told : (id : Text) (m : ArgMatches) (found : Option (Text × List Row))
    → option_map (λ p. p.1) found ≡ Some (rows_of (found_of m)) → text_in id found ≡ Some (one_text (found_of m) id)
told id m found e = text_of id found _ e ∙ ap Some (sym (one_text-rows (found_of m) id))

-- an option without a value is read as it was given
pub flag_is : (given result : Bool) (text : Option Text) → Some text ≡ Some (Some (spelled given))
    → (text ≡ Some (codes "true") → result ≡ true) → (text ≡ Some (codes "false") → result ≡ false) → result ≡ given
flag_is true result text e at_true at_false = at_true (cc (e))
flag_is false result text e at_true at_false = at_false (cc (e))

-- and a number or an address as its text spells it
pub number_is : {E : Type 0} (gives : Text → Result ℕ E → Type 0) (n : ℕ) (text : Option Text) (result : Option ℕ)
    → ((t : Text) (r : Result ℕ E) → gives t r → ParsesUnsigned 32 10 t r) → n < 2 ^ 32
    → Some text ≡ Some (Some (decimal n)) → ((t : Text) → text ≡ Some t → ReadsOne gives t result) → result ≡ Some n
number_is {E} gives n text (Some v) parses small e reads =
    let same : ◌≡◌ {A = Result ℕ E} (Ok v) (Ok n) = parse-decimal 32 n (decimal n) (Ok v)
    (omega (arith, small)) (omega (arith, small)) refl
    (parses _ _ (reads (decimal n) (cc (e)))) in
    cc (same)
number_is {E} gives n text None parses small e reads =
    let none = reads (decimal n) (cc (e)) in
    let same : ◌≡◌ {A = Result ℕ E} (Err none.0) (Ok n) = parse-decimal 32 n (decimal n) (Err none.0)
    (omega (arith, small)) (omega (arith, small)) refl
    (parses _ _ none.1) in
    absurd (cc (same))

-- a number that may be left out
pub cores_are : {E : Type 0} (gives : Text → Result ℕ E → Type 0) (cores : Option ℕ) (text : Option Text)
    (result : Option ℕ) → ((t : Text) (r : Result ℕ E) → gives t r → ParsesUnsigned 32 10 t r)
    → ((n : ℕ) → cores ≡ Some n → n < 2 ^ 32) → Some text ≡ Some (spelled_number cores) → (text ≡ None → result ≡ None)
    → ((t : Text) → text ≡ Some t → ReadsOne gives t result) → result ≡ cores
cores_are {E} gives None text result parses small e none reads = none (cc (e))
cores_are {E} gives (Some n) text result parses small e none reads =
    number_is gives n text result parses (small n refl) e reads

pub address_is : (E : Type 0) (address : Text) (text : Option Text) (result : Option Ipv4Addr)
    → Some text ≡ Some (Some address) → ((t : Text) → text ≡ Some t → ReadsOne {E = E} (Parses IsIpv4Text) t result)
    → ((a : Ipv4Addr) × IsIpv4Text address a) → (a : Ipv4Addr) × (result ≡ Some a) × IsIpv4Text address a
address_is E address text (Some a) e reads is = (a, refl, reads address (cc (e)))
address_is E address text None e reads is = absurd ((reads address (cc (e))).1 is.0 is.1)

-- what is asked for
abbrev pub asking : Input → (cores : Option ℕ) → (pcap : Bool) → Request
asking input cores pcap = record { input = input; cores = cores; pcap = pcap }

pub scenario_is : (m n : Option ℕ) (pcap shown : Bool) → m ≡ n → pcap ≡ shown
    → asking Scenario m pcap ≡ asking Scenario n shown
scenario_is m n pcap shown cores frames = cc (cores, frames)

pub made_is : (a b : ℕ) (m n : Option ℕ) → a ≡ b → m ≡ n → asking (Made a) m false ≡ asking (Made b) n false
made_is a b m n clients cores = cc (clients, cores)

pub capture_is : (a b : Ipv4Addr) (loose unsummed : Bool) (m n : Option ℕ) (pcap shown : Bool) → a ≡ b
    → loose ≡ unsummed → m ≡ n → pcap ≡ shown
    → asking (Capture a loose) m pcap ≡ asking (Capture b unsummed) n shown
capture_is a b loose unsummed m n pcap shown at sums cores frames = cc (at, sums, cores, frames)
