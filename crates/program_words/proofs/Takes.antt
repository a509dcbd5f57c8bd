-- The command of `clap` takes the words in their order, and what it finds is what they say: form by form, by computing.
use Rattle.std.proofs.Common.{◌≡◌, ◌∙◌, ap, ℕ, List, Bool, true, false, refl, codes, Option, Some, None, decimal}
use Rattle.std.proofs.Common.{subst, sym}
use Rattle.clap.specs.Words.{App, HasMatchesOf, Text, is_simple, subcommand_of, subcommand_rows_of, takes}
use Rattle.clap.specs.declared.parser.matches.ArgMatches.{ArgMatches}
use Rattle.clap.proofs.OnLiterals.{clap_on_literals}
use Rattle.program_words.specs.Command.{program}
use Rattle.program_words.specs.Found.{AreTaken, found_in, name_in, text_in, spelled, spelled_number}
use Rattle.program_words.specs.Canonical.{run_words, bulk_words, replay_words}

-- ----- the words are taken
run_takes : (cores : Option ℕ) (pcap : Bool) → AreTaken (run_words cores pcap)
unfolding AreTaken clap_on_literals
run_takes None true = refl
run_takes None false = refl
run_takes (Some n) true = refl
run_takes (Some n) false = refl

bulk_takes : (clients : ℕ) (cores : Option ℕ) → AreTaken (bulk_words clients cores)
unfolding AreTaken clap_on_literals
bulk_takes clients None = refl
bulk_takes clients (Some n) = refl

replay_takes : (local : Text) (cores : Option ℕ) (pcap loose : Bool) → AreTaken (replay_words local cores pcap loose)
unfolding AreTaken clap_on_literals
replay_takes local None true true = refl
replay_takes local None true false = refl
replay_takes local None false true = refl
replay_takes local None false false = refl
replay_takes local (Some n) true true = refl
replay_takes local (Some n) true false = refl
replay_takes local (Some n) false true = refl
replay_takes local (Some n) false false = refl

-- ----- what is found
run_named : (cores : Option ℕ) (pcap : Bool)
    → name_in (found_in (run_words cores pcap)) ≡ Some (codes "run")
unfolding found_in clap_on_literals
run_named None true = refl
run_named None false = refl
run_named (Some n) true = refl
run_named (Some n) false = refl

run_cores : (cores : Option ℕ) (pcap : Bool)
    → text_in (codes "cores") (found_in (run_words cores pcap)) ≡ Some (spelled_number cores)
unfolding found_in clap_on_literals
run_cores None true = refl
run_cores None false = refl
run_cores (Some n) true = refl
run_cores (Some n) false = refl

run_pcap : (cores : Option ℕ) (pcap : Bool)
    → text_in (codes "pcap") (found_in (run_words cores pcap)) ≡ Some (Some (spelled pcap))
unfolding found_in clap_on_literals
run_pcap None true = refl
run_pcap None false = refl
run_pcap (Some n) true = refl
run_pcap (Some n) false = refl

bulk_named : (clients : ℕ) (cores : Option ℕ)
    → name_in (found_in (bulk_words clients cores)) ≡ Some (codes "bulk")
unfolding found_in clap_on_literals
bulk_named clients None = refl
bulk_named clients (Some n) = refl

bulk_clients : (clients : ℕ) (cores : Option ℕ)
    → text_in (codes "clients") (found_in (bulk_words clients cores)) ≡ Some (Some (decimal clients))
unfolding found_in clap_on_literals
bulk_clients clients None = refl
bulk_clients clients (Some n) = refl

bulk_cores : (clients : ℕ) (cores : Option ℕ)
    → text_in (codes "cores") (found_in (bulk_words clients cores)) ≡ Some (spelled_number cores)
unfolding found_in clap_on_literals
bulk_cores clients None = refl
bulk_cores clients (Some n) = refl

replay_named : (local : Text) (cores : Option ℕ) (pcap loose : Bool)
    → name_in (found_in (replay_words local cores pcap loose)) ≡ Some (codes "replay")
unfolding found_in clap_on_literals
replay_named local None true true = refl
replay_named local None true false = refl
replay_named local None false true = refl
replay_named local None false false = refl
replay_named local (Some n) true true = refl
replay_named local (Some n) true false = refl
replay_named local (Some n) false true = refl
replay_named local (Some n) false false = refl

replay_local : (local : Text) (cores : Option ℕ) (pcap loose : Bool)
    → text_in (codes "local") (found_in (replay_words local cores pcap loose)) ≡ Some (Some local)
unfolding found_in clap_on_literals
replay_local local None true true = refl
replay_local local None true false = refl
replay_local local None false true = refl
replay_local local None false false = refl
replay_local local (Some n) true true = refl
replay_local local (Some n) true false = refl
replay_local local (Some n) false true = refl
replay_local local (Some n) false false = refl

replay_cores : (local : Text) (cores : Option ℕ) (pcap loose : Bool)
    → text_in (codes "cores") (found_in (replay_words local cores pcap loose)) ≡ Some (spelled_number cores)
unfolding found_in clap_on_literals
replay_cores local None true true = refl
replay_cores local None true false = refl
replay_cores local None false true = refl
replay_cores local None false false = refl
replay_cores local (Some n) true true = refl
replay_cores local (Some n) true false = refl
replay_cores local (Some n) false true = refl
replay_cores local (Some n) false false = refl

replay_pcap : (local : Text) (cores : Option ℕ) (pcap loose : Bool)
    → text_in (codes "pcap") (found_in (replay_words local cores pcap loose)) ≡ Some (Some (spelled pcap))
unfolding found_in clap_on_literals
replay_pcap local None true true = refl
replay_pcap local None true false = refl
replay_pcap local None false true = refl
replay_pcap local None false false = refl
replay_pcap local (Some n) true true = refl
replay_pcap local (Some n) true false = refl
replay_pcap local (Some n) false true = refl
replay_pcap local (Some n) false false = refl

replay_loose : (local : Text) (cores : Option ℕ) (pcap loose : Bool)
    → text_in (codes "loose-sums") (found_in (replay_words local cores pcap loose)) ≡ Some (Some (spelled loose))
unfolding found_in clap_on_literals
replay_loose local None true true = refl
replay_loose local None true false = refl
replay_loose local None false true = refl
replay_loose local None false false = refl
replay_loose local (Some n) true true = refl
replay_loose local (Some n) true false = refl
replay_loose local (Some n) false true = refl
replay_loose local (Some n) false false = refl

-- ----- the code's words
pub run_taken : (cores : Option ℕ) (pcap : Bool) (words : List Text) → words ≡ run_words cores pcap
    → AreTaken words
run_taken cores pcap words e = subst AreTaken (sym e) (run_takes cores pcap)

pub bulk_taken : (clients : ℕ) (cores : Option ℕ) (words : List Text) → words ≡ bulk_words clients cores
    → AreTaken words
bulk_taken clients cores words e = subst AreTaken (sym e) (bulk_takes clients cores)

pub replay_taken : (local : Text) (cores : Option ℕ) (pcap loose : Bool) (words : List Text)
    → words ≡ replay_words local cores pcap loose → AreTaken words
replay_taken local cores pcap loose words e = subst AreTaken (sym e) (replay_takes local cores pcap loose)

-- what is found in words of each form
pub record RunFound (asked : Option ℕ) (given : Bool) (words : List Text) : Type 0 where
  pub name : name_in (found_in words) ≡ Some (codes "run")
  pub cores : text_in (codes "cores") (found_in words) ≡ Some (spelled_number asked)
  pub pcap : text_in (codes "pcap") (found_in words) ≡ Some (Some (spelled given))

pub run_found : (cores : Option ℕ) (pcap : Bool) (words : List Text) → words ≡ run_words cores pcap
    → RunFound cores pcap words
run_found cores pcap words e = subst (RunFound cores pcap) (sym e)
    (record { name = run_named cores pcap; cores = run_cores cores pcap; pcap = run_pcap cores pcap })

pub record BulkFound (number : ℕ) (asked : Option ℕ) (words : List Text) : Type 0 where
  pub name : name_in (found_in words) ≡ Some (codes "bulk")
  pub clients : text_in (codes "clients") (found_in words) ≡ Some (Some (decimal number))
  pub cores : text_in (codes "cores") (found_in words) ≡ Some (spelled_number asked)

pub bulk_found : (clients : ℕ) (cores : Option ℕ) (words : List Text) → words ≡ bulk_words clients cores
    → BulkFound clients cores words
bulk_found clients cores words e = subst (BulkFound clients cores) (sym e)
    (record {
      name = bulk_named clients cores;
      clients = bulk_clients clients cores;
      cores = bulk_cores clients cores;
    })

pub record ReplayFound (address : Text) (asked : Option ℕ) (shown unsummed : Bool) (words : List Text) : Type 0 where
  pub name : name_in (found_in words) ≡ Some (codes "replay")
  pub local : text_in (codes "local") (found_in words) ≡ Some (Some address)
  pub cores : text_in (codes "cores") (found_in words) ≡ Some (spelled_number asked)
  pub pcap : text_in (codes "pcap") (found_in words) ≡ Some (Some (spelled shown))
  pub loose : text_in (codes "loose-sums") (found_in words) ≡ Some (Some (spelled unsummed))

pub replay_found : (local : Text) (cores : Option ℕ) (pcap loose : Bool) (words : List Text)
    → words ≡ replay_words local cores pcap loose → ReplayFound local cores pcap loose words
replay_found local cores pcap loose words e = subst (ReplayFound local cores pcap loose) (sym e)
    (record {
      name = replay_named local cores pcap loose;
      local = replay_local local cores pcap loose;
      cores = replay_cores local cores pcap loose;
      pcap = replay_pcap local cores pcap loose;
      loose = replay_loose local cores pcap loose;
    })

-- ----- the code's command
is_ready : is_simple program ≡ true
unfolding clap_on_literals
is_ready = refl

pub passes : (app : App) (words : List Text) → app ≡ program → AreTaken words → takes app words ≡ true
unfolding AreTaken
passes app words e taken = ap (λ a. takes a words) e ∙ taken

pub finds : (app : App) (words : List Text) (m : ArgMatches) → app ≡ program → HasMatchesOf app words m
    → subcommand_rows_of m ≡ found_in words
unfolding found_in
finds app words m e has = (has (ap is_simple e ∙ is_ready)).1 ∙ ap (λ a. subcommand_of a words) e
