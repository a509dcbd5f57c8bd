-- The application of a flow whose history grows by an entry.
use Rattle.std.proofs.Common.{◌≡◌, ℕ, List, [], ◌∷◌, ◌++◌, refl, ap, sym, ◌∙◌, Option, Some, None}
use Rattle.std.specs.Option.{option_or}
use Rattle.tas_model.specs.declared.entry.Entry.{Entry}
use Rattle.tas_model.specs.declared.entry.Caller.{Caller}
use Rattle.tas_model.specs.declared.entry.Caller.TheVariants.{Slow, Core, App}
use Rattle.tas_model.specs.declared.entry.Call.TheVariants as calls
use Rattle.tas_model.specs.declared.entry.Reply.{Reply}
use Rattle.flow_state.specs.Application.{got_by, application_of}

pub or_none : (o : Option ℕ) → option_or o None ≡ o
or_none None = refl
or_none (Some n) = refl

or_assoc : (o p q : Option ℕ) → option_or o (option_or p q) ≡ option_or (option_or o p) q
or_assoc None p q = refl
or_assoc (Some n) p q = refl

pub application_push : (h : List Entry) (x : Entry)
    → application_of (h ++ x ∷ []) ≡ option_or (application_of h) (got_by x.caller x.call x.reply)
application_push [] x = or_none (got_by x.caller x.call x.reply)
application_push (y ∷ h) x =
    ap (option_or (got_by y.caller y.call y.reply)) (application_push h x)
    ∙ or_assoc (got_by y.caller y.call y.reply) (application_of h) (got_by x.caller x.call x.reply)

-- nobody gets a flow by a Tick
pub kept_by_tick : (o : Option ℕ) (caller : Caller) (reply : Reply) → o ≡ option_or o (got_by caller calls.Tick reply)
kept_by_tick o Slow reply = sym (or_none o)
kept_by_tick o (Core n) reply = sym (or_none o)
kept_by_tick o (App n) reply = sym (or_none o)
