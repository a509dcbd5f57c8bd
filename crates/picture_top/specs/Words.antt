-- The words of the command line, after the program's name: `--flow HOST:N`, or `--flow=HOST:N`, and `--absolute`, in
-- any order and each at most once.
use Rattle.std.specs.Prelude.{ℕ, ◌^◌, ◌==◌, ◌&&◌, Bool, true, false, List, [], ◌∷◌, codes, decimal, drop, take}
use Rattle.std.specs.Prelude.{length, fold, is_some, Option, Some, None, if◌then◌else◌, bytes_eq, nat_lt}
use Rattle.std.specs.List.{before_first, after_first}
use Rattle.std.specs.Str.Parse.{digits_value}

-- ----- a flow
-- A flow, by its host's name and its opening number.
pub record FlowName : Type 0 where
  pub host : List ℕ
  pub number : ℕ

-- the number below 2^32 that a text is the decimal of, which has neither sign nor leading zero
abbrev pub is_number : (text : List ℕ) → (n : ℕ) → Bool
is_number text n = nat_lt n (2 ^ 32) && bytes_eq text (decimal n)

abbrev pub number_in : (text : List ℕ) → Option ℕ
number_in text = if is_number text (digits_value 10 text) then Some (digits_value 10 text) else None

-- the flow of this number, of a host that has a name
abbrev pub named : (host : List ℕ) → (number : Option ℕ) → Option FlowName
named [] number = None
named (c ∷ host) None = None
named (c ∷ host) (Some n) = Some (record { host = c ∷ host; number = n })

-- the flow that `HOST:N` names; the host ends at the first colon
abbrev pub is_colon : ℕ → Bool
is_colon c = c == 58

abbrev pub flow_in : (text : List ℕ) → Option FlowName
flow_in text = named (before_first is_colon text) (number_in (after_first is_colon text))

-- ----- a word
-- what stands behind a name, in a word that begins with it
abbrev pub behind : (name word : List ℕ) → Option (List ℕ)
behind name word = if bytes_eq (take (length name) word) name then Some (drop (length name) word) else None

-- What is asked for so far: the flow that is named, or else the first, and whether its numbers are absolute.
pub record Asked : Type 0 where
  pub flow : Option FlowName  -- of `--flow`
  pub absolute : Bool  -- `--absolute`

-- how far the words were read
pub data Progress : Type 0 where
  Refused : Progress  -- they are of no form
  Reads : Asked → Progress  -- an option may come next
  WantsFlow : Asked → Progress  -- the flow of `--flow` has to come next

abbrev pub nothing_asked : Asked
nothing_asked = record { flow = None; absolute = false }

-- an option is given once
abbrev pub with_absolute : Asked → Progress
with_absolute a = if a.absolute then Refused else Reads (record a { absolute = true })

abbrev pub with_flow : Asked → (flow : Option FlowName) → Progress
with_flow a None = Refused
with_flow a (Some f) = if is_some a.flow then Refused else Reads (record a { flow = Some f })

-- an option that bears its value, by what stands behind `--flow=`
abbrev pub with_value : Asked → (text : Option (List ℕ)) → Progress
with_value a None = Refused
with_value a (Some text) = with_flow a (flow_in text)

abbrev pub with_option : Asked → (word : List ℕ) → Progress
with_option a word =
    if bytes_eq word (codes "--absolute") then with_absolute a
    else if bytes_eq word (codes "--flow") then WantsFlow a
    else with_value a (behind (codes "--flow=") word)

-- one word more
abbrev pub after_word : Progress → List ℕ → Progress
after_word Refused word = Refused
after_word (WantsFlow a) word = with_flow a (flow_in word)
after_word (Reads a) word = with_option a word

abbrev pub progress_of : List (List ℕ) → Progress
progress_of words = fold after_word (Reads nothing_asked) words

-- ----- all words
abbrev pub asked_at : Progress → Option Asked
asked_at (Reads a) = Some a
asked_at _ = None

-- what they ask for
abbrev pub asked_by : (words : List (List ℕ)) → Option Asked
asked_by words = asked_at (progress_of words)
