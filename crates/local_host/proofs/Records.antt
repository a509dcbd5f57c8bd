-- The histories of the flows, one after the other, the last first.
use Rattle.std.proofs.Common.{◌≡◌, refl, ◌++◌, List, [], ◌∷◌, map, reverse, ap, sym, subst, append_assoc}
use Rattle.std.proofs.lemmas.List.{reverse-append}
use Rattle.flow_state.specs.Flow as records
use Rattle.host_rounds.specs.Logs.{Flow}
use Rattle.host_rounds.specs.Hosts.{Live, flows_of}
use Rattle.host_rounds.specs.Lists.{Each}
use Rattle.local_host.specs.Live.{flow_left}

flows_push : (ls : List Live) (l : Live) → flows_of (ls ++ l ∷ []) ≡ flows_of ls ++ l.flow ∷ []
flows_push [] l = refl
flows_push (k ∷ ls) l = ap (λ (fs : List Flow). k.flow ∷ fs) (flows_push ls l)

-- one flow more was moved: the last of those that are left, whose histories stand in reverse
pub history_moved : (hs after : List records.History) (h : records.History) (before left : List Live) (l : Live)
    (all : List Flow) → after ≡ hs ++ h ∷ [] → flow_left h ≡ l.flow → before ≡ left ++ l ∷ []
    → flows_of before ++ map flow_left (reverse hs) ≡ all → flows_of left ++ map flow_left (reverse after) ≡ all
history_moved hs after h before left l all made same last inv =
    rw (made, reverse-append hs (h ∷ []), same) (rw (last, flows_push left l, append_assoc) at inv)

pub each_push : {X : Type 0} (P : X → Type 0) (xs : List X) (x : X) → Each P xs → P x → Each P (xs ++ x ∷ [])
each_push P [] x each here = (here, tt)
each_push P (y ∷ ys) x each here = (each.0, each_push P ys x each.1 here)

pub each_reverse : {X : Type 0} (P : X → Type 0) (xs : List X) → Each P xs → Each P (reverse xs)
each_reverse P [] each = tt
each_reverse P (x ∷ xs) each =
    subst (Each P) (sym (reverse-append (x ∷ []) xs))
    (each_push P (reverse xs) x (each_reverse P xs each.1) each.0)
