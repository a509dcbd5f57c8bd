-- The emissions of a tick in serial order, as deeds.
use Rattle.std.proofs.Common.{◌≡◌, ℕ, zero, suc, ◌+◌, false, List, [], ◌∷◌, ◌++◌, length, map, fold, filter, Option}
use Rattle.std.proofs.Common.{Some, None, refl, sym, ap, ◌∙◌, append_assoc}
use Rattle.tas_model.specs.declared.entry.Caller.{Caller}
use Rattle.tas_model.specs.declared.entry.Caller.TheVariants.{Core}
use Rattle.tas_model.specs.declared.entry.Call.TheVariants as calls
use Rattle.tas_model.specs.NextSegment.{Going, going}
use Rattle.host_rounds.specs.Lists.{Each, change_at}
use Rattle.host_rounds.specs.Hosts.{Live, endpoint, with_call}
use Rattle.host_rounds.specs.Upkeep.{emits, emits_where, quieted_within, quieted}
use Rattle.host_rounds.specs.Scripts.{Site, Scripts}
use Rattle.host_rounds.specs.Rounds.{Emission, Deed, does, Agent, OfFlow, OfFrame, OfScript, is_by, actions_of}
use Rattle.host_rounds.proofs.Lists.{fold_append, map_append, filter_append, each_append, change_past, length_push}
use Rattle.host_rounds.proofs.SerialFrames.{at_flows}

abbrev emission : {A : Type 0} → ℕ → Deed A
emission n = record { by = Core 0; action = Emission n }

abbrev emissions_of : {A : Type 0} → (most t n : ℕ) → Live → List (Deed A)
emissions_of zero t n l = []
emissions_of (suc most) t n l =
    elim (going (endpoint l)) [
      | None ↦ []
      | Some g ↦ emission n
          ∷ emissions_of most t n (with_call l (Core 0) t calls.Emit [])
    ]

abbrev most_of : Live → ℕ
most_of l = length (endpoint l).tx.out + 4

abbrev pub emissions_from : {A : Type 0} → ℕ → ℕ → List Live → List (Deed A)
emissions_from t n [] = []
emissions_from t n (l ∷ ls) = emissions_of (most_of l) t n l ++ emissions_from t (n + 1) ls

emission_fold : {S A : Type 0} (scripts : Scripts S A) (most t n : ℕ) (site : Site S) (pre : List Live) (l : Live)
    (ls : List Live) → n ≡ length pre
    → fold (does scripts t) (at_flows site (pre ++ l ∷ ls)) (emissions_of most t n l) ≡ at_flows site (pre
    ++ quieted_within most t l ∷ ls)
emission_fold scripts zero t n site pre l ls h = refl
emission_fold {S} {A} scripts (suc most) t n site pre l ls h =
    by_going (going (endpoint l)) refl (λ next. emission_fold scripts most t n site pre next ls h)
  where
    by_going : (o : Option Going) → going (endpoint l) ≡ o
        → ((next : Live) → fold (does scripts t) (at_flows site (pre ++ next ∷ ls)) (emissions_of most t n next)
        ≡ at_flows site (pre ++ quieted_within most t next ∷ ls))
        → fold (does scripts t) (at_flows site (pre ++ l ∷ ls))
        (elim o [
          | None ↦ []
          | Some g ↦ emission {A = A} n
              ∷ emissions_of most t n (with_call l (Core 0) t calls.Emit [])
        ])
        ≡ at_flows site (pre
        ++ elim o [ None ↦ l | Some g ↦ quieted_within most t (with_call l (Core 0) t calls.Emit []) ] ∷ ls)
    by_going None k rest = refl
    by_going (Some g) k rest =
        let next : Live = with_call l (Core 0) t calls.Emit [] in
        let sent : emits (Core 0) t l ≡ next = ap (λ (o : Option Going). emits_where o (Core 0) t l) k in
        let one : change_at n (emits (Core 0) t) (pre ++ l ∷ ls) ≡ pre ++ next ∷ ls =
        rw h (change_past (emits (Core 0) t) pre l ls ∙ ap (λ (m : Live). pre ++ m ∷ ls) sent) in
        ap (λ (zs : List Live). fold (does scripts t) (at_flows site zs) (emissions_of most t n next)) one ∙ rest next

pub emissions_fold : {S A : Type 0} (scripts : Scripts S A) (t n : ℕ) (site : Site S) (pre ls : List Live)
    → n ≡ length pre
    → fold (does scripts t) (at_flows site (pre ++ ls)) (emissions_from t n ls) ≡ at_flows site (pre
    ++ map (quieted t) ls)
emissions_fold scripts t n site pre [] h = refl
emissions_fold {S} {A} scripts t n site pre (l ∷ ls) h =
    let q : Live = quieted t l in
    fold_append (does scripts t) (at_flows site (pre ++ l ∷ ls)) (emissions_of (most_of l) t n l)
    (emissions_from t (n + 1) ls)
    ∙ ap (λ (k : Site S). fold (does scripts t) k (emissions_from t (n + 1) ls))
    (emission_fold scripts (most_of l) t n site pre l ls h)
    ∙ ap (λ (zs : List Live). fold (does scripts t) (at_flows site zs) (emissions_from t (n + 1) ls))
    (sym (append_assoc pre (q ∷ []) ls))
    ∙ emissions_fold scripts t (n + 1) site (pre ++ q ∷ []) ls (length_push n pre q h)
    ∙ ap (λ (zs : List Live). at_flows site zs) (append_assoc pre (q ∷ []) (map (quieted t) ls))

emission_due : {S A : Type 0} (scripts : Scripts S A) (a : Agent) (most t n : ℕ) (l : Live)
    → filter (is_by scripts a) (actions_of (emissions_of most t n l)) ≡ []
emission_due scripts a zero t n l = refl
emission_due {S} {A} scripts a (suc most) t n l =
    by_going (going (endpoint l)) (λ next. emission_due scripts a most t n next) where
      nothing : (a : Agent) → is_by scripts a (Emission n) ≡ false
      nothing (OfFlow k) = refl
      nothing (OfFrame k) = refl
      nothing (OfScript k) = refl

      by_going : (o : Option Going) → ((next : Live)
          → filter (is_by scripts a) (actions_of (emissions_of most t n next)) ≡ [])
          → filter (is_by scripts a)
          (actions_of (elim o [
            | None ↦ []
            | Some g ↦ emission {A = A} n
                ∷ emissions_of most t n (with_call l (Core 0) t calls.Emit [])
          ])) ≡ []
      by_going None rest = refl
      by_going (Some g) rest = rw (nothing a) (rest (with_call l (Core 0) t calls.Emit []))

pub emissions_due : {S A : Type 0} (scripts : Scripts S A) (a : Agent) (t n : ℕ) (ls : List Live)
    → filter (is_by scripts a) (actions_of (emissions_from t n ls)) ≡ []
emissions_due scripts a t n [] = refl
emissions_due {S} {A} scripts a t n (l ∷ ls) =
    ap (filter (is_by scripts a)) (map_append (λ (m : Deed A). m.action) (emissions_of (most_of l) t n l)
    (emissions_from t (n + 1) ls))
    ∙ filter_append (is_by scripts a) (actions_of (emissions_of (most_of l) t n l))
    (actions_of (emissions_from t (n + 1) ls))
    ∙ rw (emission_due scripts a (most_of l) t n l, emissions_due scripts a t (n + 1) ls) refl

module _ (W : Caller → Type 0) (core : W (Core 0)) (A : Type 0) where
  emission_workers : (most t n : ℕ) (l : Live) → Each (λ (m : Deed A). W m.by) (emissions_of most t n l)
  emission_workers zero t n l = tt
  emission_workers (suc most) t n l = by_going (going (endpoint l)) (λ next. emission_workers most t n next) where
    by_going : (o : Option Going) → ((next : Live) → Each (λ (m : Deed A). W m.by) (emissions_of most t n next))
        → Each (λ (m : Deed A). W m.by)
        (elim o [ None ↦ [] | Some g ↦ emission n ∷ emissions_of most t n (with_call l (Core 0) t calls.Emit []) ])
    by_going None rest = tt
    by_going (Some g) rest = (core, rest (with_call l (Core 0) t calls.Emit []))

  pub emissions_workers : (t n : ℕ) (ls : List Live) → Each (λ (m : Deed A). W m.by) (emissions_from t n ls)
  emissions_workers t n [] = tt
  emissions_workers t n (l ∷ ls) =
      each_append (λ (m : Deed A). W m.by) (emissions_of (most_of l) t n l) (emissions_from t (n + 1) ls)
      (emission_workers (most_of l) t n l)
      (emissions_workers t (n + 1) ls)
