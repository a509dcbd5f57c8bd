-- A host is sound still where a peer's SYN opened a flow alone: for the law frames_that_open_keep_it.
use Rattle.std.proofs.Common.{◌≡◌, ℕ, ◌+◌, ◌<◌, ◌==◌, ◌&&◌, ◌||◌, cond, Bool, true, false, List, [], ◌∷◌}
use Rattle.std.proofs.Common.{◌++◌}
use Rattle.std.proofs.Common.{map, refl, sym, ap, ◌∙◌, subst, arith, Some, Option, None}
use Rattle.std.proofs.Common.{count_by, true≢false, if◌then◌else◌, leb}
use Rattle.std.specs.List.{list_any, find}
use Rattle.std.specs.Option.{option_map}
use Rattle.std.proofs.lemmas.Bool.Decides.{nat_tests}
use Rattle.segment_fields.specs.declared.segment.Segment.{Segment}
use Rattle.tas_model.specs.declared.entry.FlowId.{FlowId}
use Rattle.tas_model.specs.declared.entry.FourTuple.{FourTuple}
use Rattle.tas_model.specs.declared.entry.FrameId.{FrameId}
use Rattle.tas_model.specs.LegalHistory.{replay}
use Rattle.host_rounds.specs.Hosts.{is_indexed_as, same_tuple}
use Rattle.host_rounds.specs.Lists.{Each}
use Rattle.host_rounds.proofs.Lists.{fold_append}
use Rattle.core_rounds.proofs.Filters.{tally, count_cons}
use Rattle.flow_index.specs.Changes.{AnswerAlike, after_change, found_after, is_same}
use Rattle.flow_index.specs.declared.change.Change.{Change}
use Rattle.flow_index.specs.declared.change.Change.TheVariants.{Put}
use Rattle.flow_index.specs.declared.change.Found.{Found}
use Rattle.flow_index.specs.declared.change.Found.TheVariants as found
use Rattle.flow_lock.specs.Orders.{known_of, same_flow}
use Rattle.flow_lock.specs.declared.view.Held.{Held}
use Rattle.flow_lock.specs.declared.view.History.{History}
use Rattle.flow_clock.specs.Histories.{is_over, is_running}
use Rattle.slow_handshake.specs.Openings.{Openings, first_port, has_port, is_taken, syn_answer}
use Rattle.slow_handshake.specs.declared.openings.Listener.{Listener}
use Rattle.slow_handshake.specs.declared.openings.SynAnswer.TheVariants as syn
use Rattle.tas_num.specs.declared.seq.Seq.{Seq}
use Rattle.slow_worker.specs.Opening.{first_history}
use Rattle.slow_worker.specs.Workers.{flow_with, has_tuple, id_of}
use Rattle.host_books.specs.Books.{Book, live_in}
use Rattle.host_books.proofs.Indexing.{tuple_self}
use Rattle.sound_hosts.specs.Hosts.{flows_in, known_flow, tuple_of, has_given_port}
use Rattle.sound_hosts.specs.Sound.{AreShown}
use Rattle.sound_hosts.proofs.Fresh.{other, own}
use Rattle.sound_hosts.proofs.Led.{alike}

-- ----- the history that a SYN begins
pub begins_open : (tick : ℕ) (iss : Seq) (frame : FrameId) (seg : Segment) (o : Openings)
    → is_over (first_history tick iss frame seg o) ≡ false
unfolding replay
begins_open tick iss frame seg o = refl

pub begins_early : (tick : ℕ) (iss : Seq) (frame : FrameId) (seg : Segment) (o : Openings)
    → is_running (first_history tick iss frame seg o) ≡ false
unfolding replay
begins_early tick iss frame seg o = refl

-- ----- ports
-- but for a replay, the port of a SYN that opens a flow is a listener's
below_first : (port : ℕ) (ls : List Listener) → list_any (has_port port) ls ≡ true
    → Each (λ (l : Listener). l.port < first_port) ls → port < first_port
below_first port [] any each = absurd (true≢false (sym any))
below_first port (l ∷ ls) any each = by (l.port == port) refl any (below_first port ls)
  where
    by : (b : Bool) → (l.port == port) ≡ b → (b || list_any (has_port port) ls) ≡ true
        → (list_any (has_port port) ls ≡ true → Each (λ (m : Listener). m.port < first_port) ls → port < first_port)
        → port < first_port
    by true e any rest =
        let same : l.port ≡ port = grind (arith, nat_tests, e) in
        subst (λ p. p < first_port) same each.0
    by false e any rest = rest any each.1

pub listened : (o : Openings) (port : ℕ) → o.params.fixed ≡ false → syn_answer o port ≡ syn.Opens
    → Each (λ (l : Listener). l.port < first_port) o.listeners → port < first_port
listened o port free answer each = by (is_taken o port) refl
  where
    no_listener : syn.NoListener ≡ syn.Opens → ⊥
    no_listener e = absurd (cc e)

    by : (b : Bool) → is_taken o port ≡ b → port < first_port
    by true e = below_first port o.listeners e each
    by false e =
        let is : syn_answer o port ≡ syn.NoListener = rw (free, e) refl in
        absurd (no_listener (sym is ∙ answer))

module _ (known : List Held) (id : FlowId) (k : History) where
  abbrev after : List Held
  after = record { flow = id; history = k } ∷ known

  abbrev IsOther : Book → Type 0
  IsOther c = same_flow id c.id ≡ false

  pub ports_fresh : (b : Book) → b.id ≡ id → k.tuple.lport < first_port → (bs : List Book) → Each IsOther bs
      → count_by (has_given_port after) (bs ++ b ∷ []) ≡ count_by (has_given_port known) bs
  ports_fresh b named low [] each =
      let e : count_by (has_given_port after) (b ∷ [])
      ≡ tally (has_given_port after b) + count_by (has_given_port after) [] =
      count_cons (has_given_port after) b [] in
      let not_given : leb first_port k.tuple.lport ≡ false = grind (arith, nat_tests, low) in
      let none : tally (has_given_port after b) ≡ 0 =
      ap (λ f. tally (leb first_port (known_of f after).tuple.lport)) named
      ∙ (ap (λ (x : History). tally (leb first_port x.tuple.lport)) (own known id k) ∙ ap tally not_given) in
      let none_after : count_by (has_given_port after) [] ≡ 0 = refl in
      let none_known : count_by (has_given_port known) [] ≡ 0 = refl in
      omega (arith, e, none, none_after, none_known)
  ports_fresh b named low (c ∷ cs) each =
      let rest : count_by (has_given_port after) (cs ++ b ∷ []) ≡ count_by (has_given_port known) cs =
      ports_fresh b named low cs each.1 in
      let x : count_by (has_given_port after) (c ∷ (cs ++ b ∷ []))
      ≡ tally (has_given_port after c) + count_by (has_given_port after) (cs ++ b ∷ []) =
      count_cons (has_given_port after) c (cs ++ b ∷ []) in
      let y : count_by (has_given_port known) (c ∷ cs)
      ≡ tally (has_given_port known c) + count_by (has_given_port known) cs = count_cons (has_given_port known) c cs in
      let same : tally (has_given_port after c) ≡ tally (has_given_port known c) =
      ap (λ (h : History). tally (leb first_port h.tuple.lport)) (other known id k c.id each.0) in
      omega (arith, rest, x, y, same)

  -- ----- the index
  some_none : (f : FlowId) → ◌≡◌ {A = Option FlowId} (Some f) None → ⊥
  some_none f e = absurd (cc e)

  -- a four-tuple that leads to no flow is no flow's
  pub all_apart : (t : FourTuple) (bs : List Book) → flow_with t (flows_in known bs) ≡ None
      → Each (λ (c : Book). c.indexed ≡ true → same_tuple (tuple_of known c) t ≡ false) bs
  all_apart t [] e = tt
  all_apart t (c ∷ cs) e = by c.indexed e (all_apart t cs)
    where
      mirror : (a b : FourTuple) → same_tuple a b ≡ is_same a b
      mirror a b = grind (arith, nat_tests)

      here : (s : Bool) → is_same (tuple_of known c) t ≡ s
          → option_map id_of (cond s (Some (known_flow known c)) (find (has_tuple t) (flows_in known cs))) ≡ None
          → (flow_with t (flows_in known cs) ≡ None
          → Each (λ (d : Book). d.indexed ≡ true → same_tuple (tuple_of known d) t ≡ false) cs)
          → (same_tuple (tuple_of known c) t ≡ false)
          × Each (λ (d : Book). d.indexed ≡ true → same_tuple (tuple_of known d) t ≡ false) cs
      here true s q rest = absurd (some_none c.id q)
      here false s q rest = (mirror (tuple_of known c) t ∙ s, rest q)

      by : (x : Bool)
          → flow_with t (cond x (known_flow known c ∷ flows_in known cs) (flows_in known cs)) ≡ None
          → (flow_with t (flows_in known cs) ≡ None
          → Each (λ (d : Book). d.indexed ≡ true → same_tuple (tuple_of known d) t ≡ false) cs)
          → (x ≡ true → same_tuple (tuple_of known c) t ≡ false)
          × Each (λ (d : Book). d.indexed ≡ true → same_tuple (tuple_of known d) t ≡ false) cs
      by true q rest =
          let r = here (is_same (tuple_of known c) t) refl q rest in
          (λ is. r.0, r.1)
      by false q rest = (λ is. absurd (true≢false (sym is)), rest q)

  -- what the changes lead to, with one more
  module _ (changes now : List Change) (shown : AnswerAlike now (changes ++ Put k.tuple id ∷ [])) where
    abbrev put : FourTuple → Found → Found
    put u before = if is_same k.tuple u then found.Flow id else before

    leads : (u : FourTuple) → found_after u now ≡ put u (found_after u changes)
    leads u = shown u ∙ fold_append (after_change u) found.Absent changes (Put k.tuple id ∷ [])

    still_led : (bs : List Book) → Each IsOther bs
        → Each (λ (c : Book). c.indexed ≡ true → same_tuple (tuple_of known c) k.tuple ≡ false) bs
        → Each (λ (c : Book). c.indexed ≡ true → found_after (tuple_of known c) changes ≡ found.Flow c.id) bs
        → (b : Book) → b.id ≡ id
        → Each (λ (c : Book). c.indexed ≡ true → found_after (tuple_of after c) now ≡ found.Flow c.id) (bs ++ b ∷ [])
    still_led [] others apart led b named = (
      λ is. ap (λ f. found_after (known_of f after).tuple now) named
          ∙ (ap (λ (x : History). found_after x.tuple now) (own known id k)
          ∙ (leads k.tuple
          ∙ (ap (λ s. cond s (found.Flow id) (found_after k.tuple changes))
          (alike k.tuple k.tuple ∙ tuple_self k.tuple)
          ∙ ap (λ f. found.Flow f) (sym named)))),
      tt,
    )
    still_led (c ∷ cs) others apart led b named = (
      λ is. ap (λ (x : History). found_after x.tuple now) (other known id k c.id others.0)
          ∙ (leads (tuple_of known c)
          ∙ (ap (λ s. cond s (found.Flow id) (found_after (tuple_of known c) changes))
          (alike (tuple_of known c) k.tuple ∙ apart.0 is)
          ∙ led.0 is)),
      still_led cs others.1 apart.1 led.1 b named,
    )

    none_left : (t : FourTuple) (bs : List Book) → Each IsOther bs → (b : Book) → b.id ≡ id → b.indexed ≡ true
        → list_any (is_indexed_as t) (map (live_in after) (bs ++ b ∷ [])) ≡ false
        → (list_any (is_indexed_as t) (map (live_in known) bs) ≡ false) × (same_tuple t k.tuple ≡ false)
    none_left t [] others b named shown_ e = (
      refl,
      left (same_tuple t k.tuple)
          ((λ i. (sym shown_ i && same_tuple t (sym tuple i)) || false) ∙ e),
    )
      where
        tuple : (known_of b.id after).tuple ≡ k.tuple
        tuple = ap (λ f. (known_of f after).tuple) named ∙ ap (λ (x : History). x.tuple) (own known id k)

        left : (x : Bool) → (x || false) ≡ false → x ≡ false
        left true q = absurd (true≢false q)
        left false q = refl
    none_left t (c ∷ cs) others b named shown_ e =
        by (c.indexed && same_tuple t (tuple_of known c))
        ((λ i. (c.indexed && same_tuple t (sym (other known id k c.id others.0) i).tuple)
        || list_any (is_indexed_as t) (map (live_in after) (cs ++ b ∷ []))) ∙ e)
        (none_left t cs others.1 b named shown_)
      where
        by : (x : Bool)
            → (x || list_any (is_indexed_as t) (map (live_in after) (cs ++ b ∷ []))) ≡ false
            → (list_any (is_indexed_as t) (map (live_in after) (cs ++ b ∷ [])) ≡ false
            → (list_any (is_indexed_as t) (map (live_in known) cs) ≡ false) × (same_tuple t k.tuple ≡ false))
            → ((x || list_any (is_indexed_as t) (map (live_in known) cs)) ≡ false) × (same_tuple t k.tuple ≡ false)
        by true q rest = absurd (true≢false q)
        by false q rest = rest q

    pub shown_more : (bs : List Book) → Each IsOther bs
        → Each (λ (c : Book). c.indexed ≡ true → same_tuple (tuple_of known c) k.tuple ≡ false) bs
        → (b : Book) → b.id ≡ id → b.indexed ≡ true → AreShown bs known changes
        → AreShown (bs ++ b ∷ []) after now
    shown_more bs others apart b named indexed are = record {
      led = still_led bs others apart are.led b named;
      none = λ t e.
          let parts = none_left t bs others b named indexed e in
          leads t
          ∙ (ap (λ s. cond s (found.Flow id) (found_after t changes)) (alike t k.tuple ∙ parts.1) ∙ are.none t parts.0);
    }
