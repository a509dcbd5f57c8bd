-- What words ask for: words of a form ask for a run; a made scenario has from 1 to 1,000 clients, and there are from 1
-- to 16 cores.
use Rattle.std.proofs.Common.{◌≡◌, ℕ, zero, suc, ◌≤◌, ◌&&◌, not, Bool, true, false, List, [], ◌∷◌, Option, Some, None}
use Rattle.std.proofs.Common.{is_some, fold, bytes_eq, codes, decimal, subst, refl, sym, ap, ◌∙◌, if◌then◌else◌, arith}
use Rattle.std.proofs.Common.{true≢false}
use Rattle.std.specs.Prelude.{⊤}
use Rattle.program_words.specs.Words as forms
use Rattle.program_words.specs.Words.{Form, Unknown, Run, Bulk, Replay, Options, Progress, Refused, Reads, WantsCores}
use Rattle.program_words.specs.Words.{WantsAddress, Request, Asks, HasClients, HasCores, form_of, IsForm}

abbrev InRange : (n most : ℕ) → Type 0
InRange n most = (1 ≤ n) × (n ≤ most)

-- ----- a number
is_in : (m n : ℕ) (less : Option ℕ) (b : Bool) → (less ≡ Some n → InRange n m)
    → ◌≡◌ {A = Option ℕ} (if b then Some (suc m) else less) (Some n) → InRange n (suc m)
is_in m n less true later e = let same : suc m ≡ n = cc (e) in (omega (arith, same), omega (arith, same))
is_in m n less false later e = let rest = later e in (rest.0, omega (arith, rest.1))

number_in_range : (most : ℕ) (text : List ℕ) (n : ℕ) → forms.number_in most text ≡ Some n → InRange n most
number_in_range zero text n e = absurd (cc (e))
number_in_range (suc m) text n e =
    is_in m n (forms.number_in m text) (bytes_eq text (decimal (suc m))) (number_in_range m text n) e

-- ----- the options
abbrev HasFew : Progress → Type 0
HasFew Refused = ⊤
HasFew (Reads o) = HasCores o.cores
HasFew (WantsCores o) = HasCores o.cores
HasFew (WantsAddress o) = HasCores o.cores

few_if : (b : Bool) (p q : Progress) → HasFew p → HasFew q → HasFew (if b then p else q)
few_if true p q x y = x
few_if false p q x y = y

few_count : (o : Options) (cores : Option ℕ) → ((n : ℕ) → cores ≡ Some n → InRange n 16)
    → HasFew (forms.with_count o cores)
few_count o None range = tt
few_count o (Some n) range =
    few_if (is_some o.cores) Refused (Reads (record o { cores = Some n })) tt (range n refl)

few_cores : (o : Options) (number : List ℕ) → HasFew (forms.with_cores o number)
few_cores o number = few_count o (forms.number_in 16 number) (number_in_range 16 number)

few_address : (o : Options) (text : List ℕ) → HasCores o.cores → HasFew (forms.with_address o text)
few_address o text few = few_if (is_some o.local) Refused (Reads (record o { local = Some text })) tt few

few_value : (o : Options) (number text : Option (List ℕ)) → HasCores o.cores → HasFew (forms.with_value o number text)
few_value o (Some number) text few = few_cores o number
few_value o None (Some text) few = few_address o text few
few_value o None None few = tt

few_option : (o : Options) (word : List ℕ) → HasCores o.cores → HasFew (forms.with_option o word)
few_option o word few =
    let value = forms.with_value o (forms.behind (codes "--cores=") word) (forms.behind (codes "--local=") word) in
    let address : Progress = if bytes_eq word (codes "--local") then WantsAddress o else value in
    let cores : Progress = if bytes_eq word (codes "--cores") then WantsCores o else address in
    let loose : Progress = if bytes_eq word (codes "--loose-sums") then forms.with_loose o else cores in
    let pcap : Progress = if bytes_eq word (codes "--pcap") then forms.with_pcap o else loose in
    let by_value = few_value o (forms.behind (codes "--cores=") word) (forms.behind (codes "--local=") word) few in
    few_if (bytes_eq word (codes "--serial")) (forms.with_serial o) pcap
    (few_if o.serial Refused (Reads (record o { serial = true })) tt few)
    (few_if (bytes_eq word (codes "--pcap")) (forms.with_pcap o) loose
    (few_if o.pcap Refused (Reads (record o { pcap = true })) tt few)
    (few_if (bytes_eq word (codes "--loose-sums")) (forms.with_loose o) cores
    (few_if o.loose Refused (Reads (record o { loose = true })) tt few)
    (few_if (bytes_eq word (codes "--cores")) (WantsCores o) address few
    (few_if (bytes_eq word (codes "--local")) (WantsAddress o) value few by_value))))

few_after : (p : Progress) (word : List ℕ) → HasFew p → HasFew (forms.after_word p word)
few_after Refused word few = tt
few_after (Reads o) word few = few_option o word few
few_after (WantsCores o) word few = few_cores o word
few_after (WantsAddress o) word few = few_address o word few

few_options : (words : List (List ℕ)) (p : Progress) → HasFew p → HasFew (fold forms.after_word p words)
few_options [] p few = few
few_options (word ∷ words) p few = few_options words (forms.after_word p word) (few_after p word few)

-- ----- a form
abbrev IsInRange : Form → Type 0
IsInRange Unknown = ⊤
IsInRange (Run cores pcap) = HasCores cores
IsInRange (Bulk clients cores) = InRange clients 1000 × HasCores cores
IsInRange (Replay text cores pcap loose) = HasCores cores

by_if : (b : Bool) (x y : Form) → IsInRange x → IsInRange y → IsInRange (if b then x else y)
by_if true x y p q = p
by_if false x y p q = q

run_in_range : (p : Progress) → HasFew p → IsInRange (forms.run_form p)
run_in_range (Reads o) few = by_if (forms.takes_scenario o) (Run o.cores o.pcap) Unknown few tt
run_in_range Refused few = tt
run_in_range (WantsCores o) few = tt
run_in_range (WantsAddress o) few = tt

replay_of_in_range : (o : Options) (local : Option (List ℕ)) → HasCores o.cores → IsInRange (forms.replay_of o local)
replay_of_in_range o None few = tt
replay_of_in_range o (Some text) few = by_if o.serial Unknown (Replay text o.cores o.pcap o.loose) tt few

replay_in_range : (p : Progress) → HasFew p → IsInRange (forms.replay_form p)
replay_in_range (Reads o) few = replay_of_in_range o o.local few
replay_in_range Refused few = tt
replay_in_range (WantsCores o) few = tt
replay_in_range (WantsAddress o) few = tt

bulk_in_range : (number : Option ℕ) (p : Progress) → HasFew p → ((n : ℕ) → number ≡ Some n → InRange n 1000)
    → IsInRange (forms.bulk_form number p)
bulk_in_range (Some n) (Reads o) few range =
    by_if (forms.takes_scenario o && not o.pcap) (Bulk n o.cores) Unknown (range n refl, few) tt
bulk_in_range (Some n) Refused few range = tt
bulk_in_range (Some n) (WantsCores o) few range = tt
bulk_in_range (Some n) (WantsAddress o) few range = tt
bulk_in_range None p few range = tt

options_in_range : (words : List (List ℕ)) → HasFew (forms.options_of words)
options_in_range words = few_options words (Reads forms.no_options) tt

numbered_in_range : (words : List (List ℕ)) → IsInRange (forms.numbered_form words)
numbered_in_range [] = tt
numbered_in_range (number ∷ words) =
    bulk_in_range (forms.number_in 1000 number) (forms.options_of words) (options_in_range words)
    (number_in_range 1000 number)

words_in_range : (words : List (List ℕ)) → IsInRange (form_of words)
words_in_range [] = tt
words_in_range (command ∷ words) =
    let o : Progress = forms.options_of words in
    let few : HasFew o = options_in_range words in
    let made : Form = if bytes_eq command (codes "bulk") then forms.numbered_form words else Unknown in
    let rest : Form = if bytes_eq command (codes "replay") then forms.replay_form o else made in
    by_if (bytes_eq command (codes "run")) (forms.run_form o) rest (run_in_range o few)
    (by_if (bytes_eq command (codes "replay")) (forms.replay_form o) made (replay_in_range o few)
    (by_if (bytes_eq command (codes "bulk")) (forms.numbered_form words) Unknown (numbered_in_range words) tt))

-- ----- what is asked for
asked_clients : (form : Form) (r : Request) → IsInRange form → Asks form r → HasClients r.input
asked_clients (Run cores pcap) r few asked = subst (λ (x : Request). HasClients x.input) (sym asked) tt
asked_clients (Bulk clients cores) r few asked = subst (λ (x : Request). HasClients x.input) (sym asked) few.0
asked_clients (Replay text cores pcap loose) r few asked =
    subst (λ (x : Request). HasClients x.input) (sym asked.2) tt
asked_clients Unknown r few asked = absurd asked

pub clients_in_range : (words : List (List ℕ)) (r : Request) → Asks (form_of words) r → HasClients r.input
clients_in_range words r asked = asked_clients (form_of words) r (words_in_range words) asked

asked_cores : (form : Form) (r : Request) → IsInRange form → Asks form r → HasCores r.cores
asked_cores (Run cores pcap) r few asked = subst (λ (x : Request). HasCores x.cores) (sym asked) few
asked_cores (Bulk clients cores) r few asked = subst (λ (x : Request). HasCores x.cores) (sym asked) few.1
asked_cores (Replay text cores pcap loose) r few asked =
    subst (λ (x : Request). HasCores x.cores) (sym asked.2) few
asked_cores Unknown r few asked = absurd asked

pub cores_in_range : (words : List (List ℕ)) (r : Request) → Asks (form_of words) r → HasCores r.cores
cores_in_range words r asked = asked_cores (form_of words) r (words_in_range words) asked

-- words of a form ask for a run
pub form_is_asked : (form : Form) → IsForm form → (r : Request) × Asks form r
form_is_asked (Run cores pcap) is = (_, refl)
form_is_asked (Bulk clients cores) is = (_, refl)
form_is_asked (Replay text cores pcap loose) is = (_, (is.0, is.1, refl))
form_is_asked Unknown is = absurd is

-- ----- cores
is_none : (o : Option ℕ) → is_some o ≡ false → o ≡ None
is_none None h = refl
is_none (Some n) h = absurd (true≢false h)

-- words that name no cores ask for none,
pub asked_serially : (form : Form) (r : Request) → forms.names_cores form ≡ false → Asks form r → r.cores ≡ None
asked_serially (Run cores pcap) r none asked = ap (λ (x : Request). x.cores) asked ∙ is_none cores none
asked_serially (Bulk clients cores) r none asked = ap (λ (x : Request). x.cores) asked ∙ is_none cores none
asked_serially (Replay text cores pcap loose) r none asked =
    ap (λ (x : Request). x.cores) asked.2 ∙ is_none cores none
asked_serially Unknown r none asked = absurd asked

-- and those that do for some
pub asked_on_cores : (form : Form) (r : Request) → forms.names_cores form ≡ true → Asks form r
    → is_some r.cores ≡ true
asked_on_cores (Run cores pcap) r some asked = ap (λ (x : Request). is_some x.cores) asked ∙ some
asked_on_cores (Bulk clients cores) r some asked = ap (λ (x : Request). is_some x.cores) asked ∙ some
asked_on_cores (Replay text cores pcap loose) r some asked = ap (λ (x : Request). is_some x.cores) asked.2 ∙ some
asked_on_cores Unknown r some asked = absurd asked
