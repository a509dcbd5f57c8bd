-- The options of a host: all of them, as they are printed and read.
use Rattle.std.proofs.Common.{◌≡◌, ◌≤◌, ℕ, Bool, true, false, List, [], ◌∷◌, Option, Some, None, IfSome, is_some}
use Rattle.std.proofs.Common.{unwrap_or, refl, ◌∙◌, ap, arith}
use Rattle.std.specs.Prelude.{codes, decimal}
use Rattle.tas_model.specs.declared.entry.HostParams.{HostParams}
use Rattle.scenario_text.specs.Words.{number_in}
use Rattle.scenario_text.specs.Statements.{option_of, none_given, put_option, by_option, given_by}
use Rattle.scenario_text.specs.Canonical.{params_words, scale_words}
use Rattle.scenario_text.specs.Drafts.{host_with}
use Rattle.scenario_text.specs.declared.statement.OptionName.{OptionName}
use Rattle.scenario_text.specs.declared.statement.OptionName.TheVariants as options
use Rattle.scenario_text.specs.declared.statement.Given.{Given}
use Rattle.scenario_canonical.proofs.WordForms.{IsFrom, IsNumber, number_from, number_of, AreShort, fixed}

-- ----- the options that are given are in their ranges
pub record AreFrom (g : Given) : Type 0 where
  pub iss : IfSome g.iss (IsFrom 0 4294967295)
  pub ring : IfSome g.ring (IsFrom 256 1048576)
  pub mss : IfSome g.mss (IsFrom 64 8960)
  pub rto : IfSome g.rto (IsFrom 1 1000)
  pub slots : IfSome g.slots (IsFrom 1 1024)
  pub backlog : IfSome g.backlog (IsFrom 1 1024)
  pub scale : IfSome g.scale (IsFrom 0 14)

-- the same options, whatever was wrong besides
marked : (g : Given) (wrong unknown repeated : Bool) → AreFrom g
    → AreFrom (record g { wrong = wrong; unknown = unknown; repeated = repeated })
marked g wrong unknown repeated h =
    record {
      iss = h.iss;
      ring = h.ring;
      mss = h.mss;
      rto = h.rto;
      slots = h.slots;
      backlog = h.backlog;
      scale = h.scale;
    }

put_from : (given : Given) (before : Bool) (number : Option ℕ) (taken : Given)
    → AreFrom given → AreFrom taken → AreFrom (put_option given before number taken)
put_from given before None taken g t = marked given true given.unknown given.repeated g
put_from given true (Some n) taken g t = marked given given.wrong given.unknown true g
put_from given false (Some n) taken g t = t

option_from : (given : Given) (name : Option OptionName) (value : List ℕ)
    → AreFrom given → AreFrom (by_option given name value)
option_from given None value g = marked given given.wrong true given.repeated g
option_from given (Some options.Iss) value g =
    let number : Option ℕ = number_in 0 4294967295 value in
    put_from given (is_some given.iss) number (record given { iss = number }) g (record {
      iss = number_from 0 4294967295 value;
      ring = g.ring;
      mss = g.mss;
      rto = g.rto;
      slots = g.slots;
      backlog = g.backlog;
      scale = g.scale;
    })
option_from given (Some options.Ring) value g =
    let number : Option ℕ = number_in 256 1048576 value in
    put_from given (is_some given.ring) number (record given { ring = number }) g (record {
      ring = number_from 256 1048576 value;
      iss = g.iss;
      mss = g.mss;
      rto = g.rto;
      slots = g.slots;
      backlog = g.backlog;
      scale = g.scale;
    })
option_from given (Some options.Mss) value g =
    let number : Option ℕ = number_in 64 8960 value in
    put_from given (is_some given.mss) number (record given { mss = number }) g (record {
      mss = number_from 64 8960 value;
      iss = g.iss;
      ring = g.ring;
      rto = g.rto;
      slots = g.slots;
      backlog = g.backlog;
      scale = g.scale;
    })
option_from given (Some options.Rto) value g =
    let number : Option ℕ = number_in 1 1000 value in
    put_from given (is_some given.rto) number (record given { rto = number }) g (record {
      rto = number_from 1 1000 value;
      iss = g.iss;
      ring = g.ring;
      mss = g.mss;
      slots = g.slots;
      backlog = g.backlog;
      scale = g.scale;
    })
option_from given (Some options.Slots) value g =
    let number : Option ℕ = number_in 1 1024 value in
    put_from given (is_some given.slots) number (record given { slots = number }) g (record {
      slots = number_from 1 1024 value;
      iss = g.iss;
      ring = g.ring;
      mss = g.mss;
      rto = g.rto;
      backlog = g.backlog;
      scale = g.scale;
    })
option_from given (Some options.Backlog) value g =
    let number : Option ℕ = number_in 1 1024 value in
    put_from given (is_some given.backlog) number (record given { backlog = number }) g (record {
      backlog = number_from 1 1024 value;
      iss = g.iss;
      ring = g.ring;
      mss = g.mss;
      rto = g.rto;
      slots = g.slots;
      scale = g.scale;
    })
option_from given (Some options.Scale) value g =
    let number : Option ℕ = number_in 0 14 value in
    put_from given (is_some given.scale) number (record given { scale = number }) g (record {
      scale = number_from 0 14 value;
      iss = g.iss;
      ring = g.ring;
      mss = g.mss;
      rto = g.rto;
      slots = g.slots;
      backlog = g.backlog;
    })

pub given_from : (given : Given) (words : List (List ℕ)) → AreFrom given → AreFrom (given_by given words)
given_from given [] g = g
given_from given (word ∷ []) g = g
given_from given (word ∷ value ∷ words) g =
    given_from (by_option given (option_of word) value) words (option_from given (option_of word) value g)

pub none_from : AreFrom none_given
none_from = record { iss = tt; ring = tt; mss = tt; rto = tt; slots = tt; backlog = tt; scale = tt }

-- ----- all options of a host
abbrev pub given_of : HostParams → Given
given_of p = record {
  iss = Some p.iss;
  ring = Some p.ring;
  mss = Some p.mss;
  rto = Some p.rto;
  slots = Some p.slots;
  backlog = Some p.backlog;
  scale = p.scale;
  wrong = false;
  unknown = false;
  repeated = false;
}

pub record ArePrinted (p : HostParams) : Type 0 where
  pub iss : IsNumber 0 4294967295 p.iss
  pub ring : IsNumber 256 1048576 p.ring
  pub mss : IsNumber 64 8960 p.mss
  pub rto : IsNumber 1 1000 p.rto
  pub slots : IsNumber 1 1024 p.slots
  pub backlog : IsNumber 1 1024 p.backlog
  pub scale : IfSome p.scale (IsNumber 0 14)

or_default : (low high n : ℕ) (given : Option ℕ) → IfSome given (IsFrom low high) → low ≤ n → n ≤ high
    → high ≤ 4294967295 → IsNumber low high (unwrap_or given n)
or_default low high n None g a b top = number_of low high n (a, b) top
or_default low high n (Some m) g a b top = number_of low high m g top

or_none : (low high : ℕ) (given : Option ℕ) → IfSome given (IsFrom low high) → high ≤ 4294967295
    → IfSome given (IsNumber low high)
or_none low high None g top = tt
or_none low high (Some m) g top = number_of low high m g top

pub host_printed : (name : List ℕ) (addr : ℕ) (given : Given) → AreFrom given
    → ArePrinted (host_with name addr given).params
host_printed name addr given g = record {
  iss = or_default 0 4294967295 0 given.iss g.iss (omega arith) (omega arith) (omega arith);
  ring = or_default 256 1048576 16384 given.ring g.ring (omega arith) (omega arith) (omega arith);
  mss = or_default 64 8960 1460 given.mss g.mss (omega arith) (omega arith) (omega arith);
  rto = or_default 1 1000 20 given.rto g.rto (omega arith) (omega arith) (omega arith);
  slots = or_default 1 1024 1024 given.slots g.slots (omega arith) (omega arith) (omega arith);
  backlog = or_default 1 1024 16 given.backlog g.backlog (omega arith) (omega arith) (omega arith);
  scale = or_none 0 14 given.scale g.scale (omega arith);
}

short_scale : (scale : Option ℕ) → IfSome scale (IsNumber 0 14) → AreShort (scale_words scale)
short_scale None h = tt
short_scale (Some n) h = (fixed (codes "scale") refl refl, (h.short, tt))

pub short_params : (p : HostParams) → ArePrinted p → AreShort (params_words p)
short_params p h = (
  fixed (codes "iss") refl refl,
  (
    h.iss.short,
    (
      fixed (codes "ring") refl refl,
      (
        h.ring.short,
        (
          fixed (codes "mss") refl refl,
          (
            h.mss.short,
            (
              fixed (codes "rto") refl refl,
              (
                h.rto.short,
                (
                  fixed (codes "slots") refl refl,
                  (
                    h.slots.short,
                    (
                      fixed (codes "backlog") refl refl,
                      (h.backlog.short, short_scale p.scale h.scale),
                    ),
                  ),
                ),
              ),
            ),
          ),
        ),
      ),
    ),
  ),
)

-- one option behind others, which is new
taken_new : (given taken : Given) (words : List (List ℕ)) (next : Option ℕ → Given) (number : Option ℕ) (n : ℕ)
    → number ≡ Some n → next (Some n) ≡ taken
    → given_by (put_option given false number (next number)) words ≡ given_by taken words
taken_new given taken words next number n e s =
    ap (λ (o : Option ℕ). given_by (put_option given false o (next o)) words) e
    ∙ ap (λ (g : Given). given_by g words) s

abbrev with_iss : ℕ → Given
with_iss n = record none_given { iss = Some n }

abbrev with_ring : HostParams → Given
with_ring p = record (with_iss p.iss) { ring = Some p.ring }

abbrev with_mss : HostParams → Given
with_mss p = record (with_ring p) { mss = Some p.mss }

abbrev with_rto : HostParams → Given
with_rto p = record (with_mss p) { rto = Some p.rto }

abbrev with_slots : HostParams → Given
with_slots p = record (with_rto p) { slots = Some p.slots }

-- the words behind each option
abbrev behind_slots : HostParams → List (List ℕ)
behind_slots p = codes "backlog" ∷ decimal p.backlog ∷ scale_words p.scale

abbrev behind_rto : HostParams → List (List ℕ)
behind_rto p = codes "slots" ∷ decimal p.slots ∷ behind_slots p

abbrev behind_mss : HostParams → List (List ℕ)
behind_mss p = codes "rto" ∷ decimal p.rto ∷ behind_rto p

abbrev behind_ring : HostParams → List (List ℕ)
behind_ring p = codes "mss" ∷ decimal p.mss ∷ behind_mss p

abbrev behind_iss : HostParams → List (List ℕ)
behind_iss p = codes "ring" ∷ decimal p.ring ∷ behind_ring p

abbrev with_backlog : HostParams → Given
with_backlog p = record (with_slots p) { backlog = Some p.backlog }

-- the shift, where there is one
scale_back : (given : Given) (scale : Option ℕ) → IfSome scale (IsNumber 0 14) → given.scale ≡ None
    → given_by given (scale_words scale) ≡ record given { scale = scale }
scale_back given None h none = ap (λ (o : Option ℕ). record given { scale = o }) none
scale_back given (Some n) h none =
    ap (λ (o : Option ℕ). given_by (put_option given (is_some o) (number_in 0 14 (decimal n))
    (record given { scale = number_in 0 14 (decimal n) })) []) none
    ∙ taken_new given (record given { scale = Some n }) [] (λ (o : Option ℕ). record given { scale = o })
    (number_in 0 14 (decimal n)) n h.back refl

pub given_back : (p : HostParams) → ArePrinted p → given_by none_given (params_words p) ≡ given_of p
given_back p h =
    taken_new none_given (with_iss p.iss) (behind_iss p) (λ (o : Option ℕ). record none_given { iss = o })
    (number_in 0 4294967295 (decimal p.iss)) p.iss h.iss.back refl
    ∙ (taken_new (with_iss p.iss) (with_ring p) (behind_ring p) (λ (o : Option ℕ). record (with_iss p.iss) { ring = o })
    (number_in 256 1048576 (decimal p.ring)) p.ring h.ring.back refl
    ∙ (taken_new (with_ring p) (with_mss p) (behind_mss p) (λ (o : Option ℕ). record (with_ring p) { mss = o })
    (number_in 64 8960 (decimal p.mss)) p.mss h.mss.back refl
    ∙ (taken_new (with_mss p) (with_rto p) (behind_rto p) (λ (o : Option ℕ). record (with_mss p) { rto = o })
    (number_in 1 1000 (decimal p.rto)) p.rto h.rto.back refl
    ∙ (taken_new (with_rto p) (with_slots p) (behind_slots p) (λ (o : Option ℕ). record (with_rto p) { slots = o })
    (number_in 1 1024 (decimal p.slots)) p.slots h.slots.back refl
    ∙ (taken_new (with_slots p) (with_backlog p) (scale_words p.scale)
    (λ (o : Option ℕ). record (with_slots p) { backlog = o })
    (number_in 1 1024 (decimal p.backlog)) p.backlog h.backlog.back refl
    ∙ scale_back (with_backlog p) p.scale h.scale refl)))))
