-- Where each deed of an order leads its flow on, the order does: for the law phases_keep_it.
use Rattle.std.proofs.Common.{◌≡◌, ℕ, ◌==◌, cond, Bool, true, false, List, [], ◌∷◌, refl, sym, ap, ◌∙◌, subst, inl}
use Rattle.std.proofs.Common.{inr, eq-eqb, true≢false}
use Rattle.std.specs.Prelude.{◌⊎◌}
use Rattle.std.specs.List.{list_any}
use Rattle.tas_model.specs.declared.entry.Entry.{Entry}
use Rattle.tas_model.specs.declared.entry.FlowId.{FlowId}
use Rattle.tas_model.specs.declared.entry.HostParams.{HostParams}
use Rattle.tas_model.specs.ApplicationCalls.{Column, column}
use Rattle.tas_model.specs.LegalHistory.{Legal}
use Rattle.host_rounds.specs.Lists.{Each}
use Rattle.flow_lock.specs.Histories.{longer}
use Rattle.flow_lock.specs.Orders.{Order, of, known_of, put, played, IsNext, IsRun, same_flow}
use Rattle.flow_lock.specs.declared.view.Deed.{Deed}
use Rattle.flow_lock.specs.declared.view.Held.{Held}
use Rattle.flow_lock.specs.declared.view.History.{History}
use Rattle.core_phase.specs.Deeds.{KeepsColumn}
use Rattle.host_books.specs.Books.{Book}
use Rattle.host_books.specs.Indexes.{endpoint_of}
use Rattle.host_books.proofs.Indexing.{is_same_flow}
use Rattle.sound_hosts.specs.Leading.{LedOn, Leads}
use Rattle.sound_hosts.specs.Leaving.{has_flow}
use Rattle.sound_hosts.proofs.Calls.{two_lead}
use Rattle.sound_hosts.proofs.OneFlow.{one_leads}

-- an application has the flow
abbrev pub IsHad : List Book → FlowId → Type 0
IsHad bs f = (n : ℕ) × (list_any (has_flow n f) bs ≡ true)

-- The deed was done on a legal history and leads it on. That of a flow that no application has leaves it as far as it
-- was.
pub record IsLeading (bs : List Book) (d : Deed) : Type 0 where
  pub legal : Legal d.before.params d.before.entries
  pub led : LedOn d.before (longer d.before (d.entry ∷ []))
  pub column : IsHad bs d.flow ⊎ KeepsColumn d

-- ----- what each turn's deeds are, all are
module _ (P : Deed → Type 0) where
  abbrev Of : (ℕ × Deed) → Type 0
  Of x = P x.1

  head_is : (p q : ℕ) (d : Deed) (ds : List Deed) → (t : Bool) → (p == p) ≡ t → Each P (cond (p == p) (d ∷ ds) ds) → P d
  head_is p q d ds true e each = (subst (λ (t : Bool). Each P (cond t (d ∷ ds) ds)) e each).0
  head_is p q d ds false e each = absurd (true≢false (sym (eq-eqb p p refl) ∙ e))

  tail_is : (t : Bool) (d : Deed) (ds : List Deed) → Each P (cond t (d ∷ ds) ds) → Each P ds
  tail_is true d ds each = each.1
  tail_is false d ds each = each

  pub from_turns : (order : Order) → ((p : ℕ) → Each P (of p order)) → Each Of order
  from_turns [] all = tt
  from_turns (x ∷ xs) all = (
    head_is x.0 x.0 x.1 (of x.0 xs) (x.0 == x.0) refl (all x.0),
    from_turns xs (λ p. tail_is (x.0 == p) x.1 (of p xs) (all p)),
  )

-- ----- histories
no_entries : (params : HostParams) (es : List Entry) → es ≡ [] → Legal params es → ⊥
no_entries params es e legal = subst (λ l. Legal params l) e legal

same_led : (h : History) → LedOn h h
same_led h = record { tuple = refl; over = λ o. o; running = λ r. inl r; none = λ n. n }

-- a legal history that a deed was done on is the one that was there
pub was_there : (d : Deed) (now : History) → Legal d.before.params d.before.entries → IsNext d.before now
    → d.before ≡ now
was_there d now legal (inl e) = e
was_there d now legal (inr e) = absurd (no_entries d.before.params d.before.entries e.0 legal)

module _ (bs : List Book) where
  abbrev Leading : (ℕ × Deed) → Type 0
  Leading x = IsLeading bs x.1

  put_leads : (known : List Held) (d : Deed) → IsLeading bs d → IsNext d.before (known_of d.flow known)
      → Leads known (put known d)
  put_leads known d is next =
      one_leads known d.flow (longer d.before (d.entry ∷ []))
      (subst (λ (h : History). LedOn h (longer d.before (d.entry ∷ [])))
      (was_there d (known_of d.flow known) is.legal next)
      is.led)

  pub run_leads : (known : List Held) (order : Order) → IsRun known order → Each Leading order
      → Leads known (played known order)
  run_leads known [] run each f = same_led (known_of f known)
  run_leads known (x ∷ xs) run each f =
      two_lead (known_of f known) (known_of f (put known x.1)) (known_of f (played (put known x.1) xs))
      (put_leads known x.1 each.0 run.0 f) (run_leads (put known x.1) xs run.1 each.1 f)

  -- ----- flows that no application has
  abbrev column_of : FlowId → List Held → Column
  column_of f known = column (endpoint_of (known_of f known))

  put_column : (f : FlowId) → (IsHad bs f → ⊥) → (known : List Held) (d : Deed) → IsLeading bs d
      → IsNext d.before (known_of d.flow known) → column_of f (put known d) ≡ column_of f known
  put_column f free known d is next = by (same_flow d.flow f) refl is.column
    where
      k : History
      k = longer d.before (d.entry ∷ [])

      by : (s : Bool) → same_flow d.flow f ≡ s → IsHad bs d.flow ⊎ KeepsColumn d
          → column (endpoint_of (cond (same_flow d.flow f) (longer d.before (d.entry ∷ [])) (known_of f known)))
          ≡ column_of f known
      by false e keeps =
          ap (λ s. column (endpoint_of (cond s (longer d.before (d.entry ∷ [])) (known_of f known)))) e
      by true e (inl had) = absurd (free (subst (IsHad bs) (is_same_flow d.flow f e) had))
      by true e (inr keeps) =
          ap (λ s. column (endpoint_of (cond s (longer d.before (d.entry ∷ [])) (known_of f known)))) e
          ∙ (keeps
          ∙ (ap (λ (h : History). column (endpoint_of h)) (was_there d (known_of d.flow known) is.legal next)
          ∙ ap (λ g. column_of g known) (is_same_flow d.flow f e)))

  pub run_columns : (f : FlowId) → (IsHad bs f → ⊥) → (known : List Held) (order : Order) → IsRun known order
      → Each Leading order → column_of f (played known order) ≡ column_of f known
  run_columns f free known [] run each = refl
  run_columns f free known (x ∷ xs) run each =
      run_columns f free (put known x.1) xs run.1 each.1 ∙ put_column f free known x.1 each.0 run.0
