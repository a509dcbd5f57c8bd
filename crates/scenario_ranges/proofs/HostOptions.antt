-- The options of a host: a number that is taken is in the range of its option.
use Rattle.std.proofs.Common.{◌≤◌, ℕ, Bool, true, false, List, [], ◌∷◌, Option, Some, None, IfSome, is_some}
use Rattle.std.proofs.Common.{unwrap_or, refl, arith}
use Rattle.scenario_text.specs.Words.{number_in}
use Rattle.scenario_text.specs.Statements.{option_of, none_given, put_option, by_option, given_by}
use Rattle.scenario_text.specs.Drafts.{host_with}
use Rattle.scenario_text.specs.declared.statement.OptionName.{OptionName}
use Rattle.scenario_text.specs.declared.statement.OptionName.TheVariants as options
use Rattle.scenario_text.specs.declared.statement.Given.{Given}
use Rattle.scenario_ranges.specs.Ranges.{IsFrom, IsHostInRange}
use Rattle.scenario_ranges.proofs.Numbers.{number_from}

-- The options that are given are in their ranges.
pub record AreFrom (g : Given) : Type 0 where
  pub ring : IfSome g.ring (IsFrom 256 1048576)
  pub mss : IfSome g.mss (IsFrom 64 8960)
  pub rto : IfSome g.rto (IsFrom 1 1000)
  pub slots : IfSome g.slots (IsFrom 1 1024)
  pub backlog : IfSome g.backlog (IsFrom 1 1024)
  pub scale : IfSome g.scale (IsFrom 0 14)

-- an option that is taken or refused
put_from : (given : Given) (before : Bool) (number : Option ℕ) (taken : Given)
    → AreFrom given → AreFrom taken → AreFrom (put_option given before number taken)
put_from given before None taken g t =
    record { ring = g.ring; mss = g.mss; rto = g.rto; slots = g.slots; backlog = g.backlog; scale = g.scale }
put_from given true (Some n) taken g t =
    record { ring = g.ring; mss = g.mss; rto = g.rto; slots = g.slots; backlog = g.backlog; scale = g.scale }
put_from given false (Some n) taken g t = t

option_from : (given : Given) (name : Option OptionName) (value : List ℕ)
    → AreFrom given → AreFrom (by_option given name value)
option_from given None value g =
    record { ring = g.ring; mss = g.mss; rto = g.rto; slots = g.slots; backlog = g.backlog; scale = g.scale }
option_from given (Some options.Iss) value g =
    let number : Option ℕ = number_in 0 4294967295 value in
    put_from given (is_some given.iss) number (record given { iss = number }) g
    (record { ring = g.ring; mss = g.mss; rto = g.rto; slots = g.slots; backlog = g.backlog; scale = g.scale })
option_from given (Some options.Ring) value g =
    let number : Option ℕ = number_in 256 1048576 value in
    let n : IfSome number (IsFrom 256 1048576) = number_from 256 1048576 value in
    put_from given (is_some given.ring) number (record given { ring = number }) g
    (record { ring = n; mss = g.mss; rto = g.rto; slots = g.slots; backlog = g.backlog; scale = g.scale })
option_from given (Some options.Mss) value g =
    let number : Option ℕ = number_in 64 8960 value in
    let n : IfSome number (IsFrom 64 8960) = number_from 64 8960 value in
    put_from given (is_some given.mss) number (record given { mss = number }) g
    (record { ring = g.ring; mss = n; rto = g.rto; slots = g.slots; backlog = g.backlog; scale = g.scale })
option_from given (Some options.Rto) value g =
    let number : Option ℕ = number_in 1 1000 value in
    let n : IfSome number (IsFrom 1 1000) = number_from 1 1000 value in
    put_from given (is_some given.rto) number (record given { rto = number }) g
    (record { ring = g.ring; mss = g.mss; rto = n; slots = g.slots; backlog = g.backlog; scale = g.scale })
option_from given (Some options.Slots) value g =
    let number : Option ℕ = number_in 1 1024 value in
    let n : IfSome number (IsFrom 1 1024) = number_from 1 1024 value in
    put_from given (is_some given.slots) number (record given { slots = number }) g
    (record { ring = g.ring; mss = g.mss; rto = g.rto; slots = n; backlog = g.backlog; scale = g.scale })
option_from given (Some options.Backlog) value g =
    let number : Option ℕ = number_in 1 1024 value in
    let n : IfSome number (IsFrom 1 1024) = number_from 1 1024 value in
    put_from given (is_some given.backlog) number (record given { backlog = number }) g
    (record { ring = g.ring; mss = g.mss; rto = g.rto; slots = g.slots; backlog = n; scale = g.scale })
option_from given (Some options.Scale) value g =
    let number : Option ℕ = number_in 0 14 value in
    let n : IfSome number (IsFrom 0 14) = number_from 0 14 value in
    put_from given (is_some given.scale) number (record given { scale = number }) g
    (record { ring = g.ring; mss = g.mss; rto = g.rto; slots = g.slots; backlog = g.backlog; scale = n })

-- all options of a line
pub given_from : (given : Given) (words : List (List ℕ)) → AreFrom given → AreFrom (given_by given words)
given_from given [] g = g
given_from given (word ∷ []) g = g
given_from given (word ∷ value ∷ words) g =
    given_from (by_option given (option_of word) value) words (option_from given (option_of word) value g)

pub none_from : AreFrom none_given
none_from = record { ring = tt; mss = tt; rto = tt; slots = tt; backlog = tt; scale = tt }

-- what stands where the option is not given
or_default : (low high n : ℕ) (given : Option ℕ) → IfSome given (IsFrom low high) → low ≤ n → n ≤ high
    → IsFrom low high (unwrap_or given n)
or_default low high n None g a b = (a, b)
or_default low high n (Some m) g a b = g

at_most : (given : Option ℕ) → IfSome given (IsFrom 0 14) → IfSome given (λ shift. shift ≤ 14)
at_most None g = tt
at_most (Some m) g = g.1

pub host_from : (name : List ℕ) (addr : ℕ) (given : Given) → AreFrom given
    → IsHostInRange (host_with name addr given)
host_from name addr given g = record {
  params = record {
    ring = or_default 256 1048576 16384 given.ring g.ring (omega arith) (omega arith);
    mss = or_default 64 8960 1460 given.mss g.mss (omega arith) (omega arith);
    rto = or_default 1 1000 20 given.rto g.rto (omega arith) (omega arith);
    slots = or_default 1 1024 1024 given.slots g.slots (omega arith) (omega arith);
    backlog = or_default 1 1024 16 given.backlog g.backlog (omega arith) (omega arith);
    scale = at_most given.scale g.scale;
  };
  listens = refl;
}
