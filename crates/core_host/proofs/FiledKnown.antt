-- What is known of flows whose records were filed, and the records themselves: for the law filed_histories_are_kept.
use Rattle.std.proofs.Common.{◌≡◌, ◌&&◌, ◌||◌, ◌⊎◌, Bool, true, false, List, [], ◌∷◌, map, refl, sym, ap, ◌∙◌}
use Rattle.std.proofs.Common.{subst, inl, inr, true≢false, ℕ}
use Rattle.std.specs.List.{list_any}
use Rattle.tas_model.specs.declared.entry.Entry.{Entry}
use Rattle.tas_model.specs.declared.entry.FlowId.{FlowId}
use Rattle.tas_model.specs.declared.entry.HostParams.{HostParams}
use Rattle.tas_model.specs.Endpoint.{is_closed}
use Rattle.tas_model.specs.LegalHistory.{Legal}
use Rattle.host_rounds.specs.Hosts.{Live}
use Rattle.host_rounds.specs.Lists.{Each}
use Rattle.host_rounds.specs.Logs as logs
use Rattle.flow_lock.specs.Orders.{Order, known_of, put, played, IsNext, IsRun, same_flow}
use Rattle.flow_lock.specs.declared.view.Deed.{Deed}
use Rattle.flow_lock.specs.declared.view.Held.{Held}
use Rattle.flow_lock.specs.declared.view.History.{History}
use Rattle.host_books.specs.Books.{Book, live_in}
use Rattle.host_books.specs.Indexes.{endpoint_of}
use Rattle.host_books.proofs.Indexing.{is_same_flow}
use Rattle.core_host.proofs.FiledFlows.{IsAway, AllKept}

-- the flow's book says that its record was filed
abbrev pub is_filed_as : FlowId → Book → Bool
is_filed_as id b = b.filed && same_flow b.id id

abbrev pub HasFiled : List Book → FlowId → Type 0
HasFiled bs id = list_any (is_filed_as id) bs ≡ true

-- so what is said of it holds
abbrev pub AreAway : List Held → List Book → Type 0
AreAway known bs = Each (λ (b : Book). b.filed ≡ true → IsAway (live_in known b)) bs

and_both : (a b : Bool) → (a && b) ≡ true → (a ≡ true) × (b ≡ true)
and_both true b e = (refl, e)
and_both false b e = absurd (true≢false (sym e))

-- ----- by the flows of a run
same_history : (h k : History) → h.tuple ≡ k.tuple → h.params ≡ k.params → h.entries ≡ k.entries → h ≡ k
same_history h k t p e = λ i. record { tuple = t i; params = p i; entries = e i }

-- where the flow is as it was, so is what is known of it
same_known : (b c : Book) (known after : List Held) (id : FlowId) → b.id ≡ id → live_in after c ≡ live_in known b
    → known_of id after ≡ known_of id known
same_known b c known after id own same =
    let flow : (live_in after c).flow ≡ (live_in known b).flow = ap (λ (l : Live). l.flow) same in
    let name : c.id ≡ b.id = ap (λ (f : logs.Flow). f.id) flow in
    let there : known_of c.id after ≡ known_of b.id known =
    same_history (known_of c.id after) (known_of b.id known) (ap (λ (f : logs.Flow). f.tuple) flow)
    (ap (λ (f : logs.Flow). f.params) flow) (ap (λ (f : logs.Flow). f.entries) flow) in
    ap (λ (g : FlowId). known_of g after) (sym own ∙ sym name) ∙ (there ∙ ap (λ (g : FlowId). known_of g known) own)

pub known_kept : (known after : List Held) (id : FlowId) (bs cs : List Book) → AreAway known bs
    → AllKept (map (live_in known) bs) (map (live_in after) cs) → HasFiled bs id
    → known_of id after ≡ known_of id known
known_kept known after id [] cs away kept has = absurd (true≢false (sym has))
known_kept known after id (b ∷ bs) [] away kept has = absurd kept
known_kept known after id (b ∷ bs) (c ∷ cs) away kept has =
    by (is_filed_as id b) refl has (known_kept known after id bs cs away.1 kept.1)
  where
    by : (t : Bool) → is_filed_as id b ≡ t → (t || list_any (is_filed_as id) bs) ≡ true
        → (HasFiled bs id → known_of id after ≡ known_of id known) → known_of id after ≡ known_of id known
    by true e has rest =
        let both = and_both b.filed (same_flow b.id id) e in
        same_known b c known after id (is_same_flow b.id id both.1) (kept.0 (away.0 both.0))
    by false e has rest = rest has

-- ----- by deeds
-- The deed was done on a legal history that isn't closed, or on a flow of which this holds.
pub record IsOpenOr (Had : FlowId → Type 0) (d : Deed) : Type 0 where
  pub legal : Legal d.before.params d.before.entries
  pub stands : (is_closed (endpoint_of d.before) ≡ false) ⊎ Had d.flow

no_entries : (params : HostParams) (es : List Entry) → es ≡ [] → Legal params es → ⊥
no_entries params es e legal = subst (λ l. Legal params l) e legal

module _ (Had : FlowId → Type 0) (id : FlowId) (not_had : Had id → ⊥) where
  -- a closed flow of which it doesn't hold is known as it was
  one_done : (known : List Held) (d : Deed) → IsOpenOr Had d → IsNext d.before (known_of d.flow known)
      → is_closed (endpoint_of (known_of id known)) ≡ true → known_of id (put known d) ≡ known_of id known
  one_done known d is next over = by (same_flow d.flow id) refl
    where
      there : d.flow ≡ id → d.before ≡ known_of id known
      there same = by_next next
        where
          by_next : IsNext d.before (known_of d.flow known) → d.before ≡ known_of id known
          by_next (inl e) = e ∙ ap (λ (g : FlowId). known_of g known) same
          by_next (inr e) = absurd (no_entries d.before.params d.before.entries e.0 is.legal)

      never : d.flow ≡ id → (is_closed (endpoint_of d.before) ≡ false) ⊎ Had d.flow → ⊥
      never same (inl open_) =
          true≢false (sym over ∙ (ap (λ (h : History). is_closed (endpoint_of h)) (sym (there same)) ∙ open_))
      never same (inr had) = not_had (subst Had same had)

      by : (s : Bool) → same_flow d.flow id ≡ s → known_of id (put known d) ≡ known_of id known
      by true e = absurd (never (is_same_flow d.flow id e) is.stands)
      by false e = rw e refl

  pub run_done : (known : List Held) (order : Order) → IsRun known order
      → Each (λ (x : ℕ × Deed). IsOpenOr Had x.1) order → is_closed (endpoint_of (known_of id known)) ≡ true
      → known_of id (played known order) ≡ known_of id known
  run_done known [] run each over = refl
  run_done known (x ∷ xs) run each over =
      let one : known_of id (put known x.1) ≡ known_of id known = one_done known x.1 each.0 run.0 over in
      run_done (put known x.1) xs run.1 each.1 (ap (λ (h : History). is_closed (endpoint_of h)) one ∙ over) ∙ one
