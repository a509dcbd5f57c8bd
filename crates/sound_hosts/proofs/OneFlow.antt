-- A host is sound still where one flow's record was used alone: for the laws of what is done alone.
use Rattle.std.proofs.Common.{◌≡◌, ℕ, zero, suc, cond, Bool, true, false, List, [], ◌∷◌, refl, sym, ap, ◌∙◌}
use Rattle.std.proofs.Common.{subst, inl, count_by, slice_get, map, ◌<◌, leb}
use Rattle.std.proofs.Common.{length, length-set}
use Rattle.std.specs.Prelude.{IsPermutation}
use Rattle.std.specs.List.{filter}
use Rattle.tas_model.specs.declared.entry.FlowId.{FlowId}
use Rattle.tas_model.specs.declared.entry.HostParams.{HostParams}
use Rattle.flow_state.specs.Flow.{Flow}
use Rattle.host_rounds.specs.Lists.{Each}
use Rattle.flow_lock.specs.Orders.{known_of, same_flow}
use Rattle.flow_lock.specs.Steps.{IsAlone, alone_or}
use Rattle.flow_lock.specs.Words.{word_at, put_word}
use Rattle.flow_lock.specs.declared.view.Held.{Held}
use Rattle.flow_lock.specs.declared.view.History.{History}
use Rattle.flow_lock.specs.declared.view.Mark.{Mark}
use Rattle.flow_lock.specs.declared.view.Turn.{Turn}
use Rattle.flow_lock.specs.declared.view.View.{View}
use Rattle.flow_lock.specs.declared.word.Word.{Word}
use Rattle.app_reaper.specs.OneCall.{IsUse}
use Rattle.flow_clock.proofs.Keeping.{after_use, each_map}
use Rattle.slow_handshake.specs.Openings.{Openings, first_port}
use Rattle.slow_handshake.specs.declared.openings.Listener.{Listener}
use Rattle.slow_worker.specs.Workers as slow
use Rattle.slow_worker.specs.Workers.{Worker, sight_of, waiting}
use Rattle.host_books.specs.Books.{Book}
use Rattle.host_books.proofs.Indexing.{is_same_flow}
use Rattle.sound_hosts.specs.Hosts.{CoreHost, known_in, has_given_port, waiting_in, id_of, is_doomed, is_filed}
use Rattle.sound_hosts.specs.Leading.{LedOn, Leads}
use Rattle.sound_hosts.specs.Moving.{IsLed, IsLedBy, with_slow}
use Rattle.sound_hosts.specs.Sound.{IsHostSound, IsWorded, IsShown}
use Rattle.sound_hosts.proofs.Given.{below_moved}
use Rattle.sound_hosts.proofs.Kept.{flows_same, shown_same, indexed_still}
use Rattle.sound_hosts.proofs.Told.{told_waiting, told_params, told_ports, told_listeners}

-- ----- words
-- a word that was busy for a while is the same again
words_back : (ws : List Word) (i : ℕ) → (word_at ws i).busy ≡ false → (j : ℕ)
    → word_at (put_word i (record (word_at (put_word i (record (word_at ws i) { busy = true }) ws) i) { busy = false })
    (put_word i (record (word_at ws i) { busy = true }) ws)) j ≡ word_at ws j
words_back [] i e j = refl
words_back (x ∷ xs) zero e zero = λ q. record x { busy = sym e q }
words_back (x ∷ xs) zero e (suc j) = refl
words_back (x ∷ xs) (suc i) e zero = refl
words_back (x ∷ xs) (suc i) e (suc j) = words_back xs i e j

-- a flow's record was taken and given back alone
pub used_leads : (id : FlowId) (r : Flow) (k : History) (v w : View) → IsAlone v → IsUse id r k v w → IsLed id k v w
used_leads id r k v w alone u = record {
  alone = (after_use id r k v w u).alone alone;
  idle = ap (λ (x : View). x.held) u.3;
  slow = ap (λ (x : View). x.slow) u.3;
  pins = ap (λ (x : View). x.pins) u.3;
  marks = ap (λ (x : View). x.marks) u.3;
  base = ap (λ (x : View). x.base) u.3
      ∙ ap (λ (ts : List Turn). alone_or ts (record { flow = id; history = k } ∷ v.base) v.base) alone.1;
  words = λ slot. ap (λ (x : View). word_at x.words slot) u.3
      ∙ (when_alone slot ∙ words_back v.words id.slot free slot);
  wide = ap (λ (x : View). length x.words) u.3
      ∙ (ap (λ (ts : List Turn). length (twice ts)) alone.1
      ∙ (length-set (busy []) id.slot _ ∙ length-set v.words id.slot _));
}
  where
    free : (word_at v.words id.slot).busy ≡ false
    free = ap (λ (x : Word). x.busy) (sym (u.2 alone)) ∙ u.1

    -- the words where the view has these turns
    busy : List Turn → List Word
    busy ts = alone_or ts (put_word id.slot (record (word_at v.words id.slot) { busy = true }) v.words) v.words

    twice : List Turn → List Word
    twice ts = alone_or ts (put_word id.slot (record (word_at (busy ts) id.slot) { busy = false }) (busy ts)) (busy ts)

    when_alone : (slot : ℕ) → word_at (twice v.turns) slot ≡ word_at (twice []) slot
    when_alone slot = ap (λ (ts : List Turn). word_at (twice ts) slot) alone.1

-- ----- histories
module _ (known : List Held) (id : FlowId) (k : History) (led : LedOn (known_of id known) k) where
  same_led : (h : History) → LedOn h h
  same_led h = record { tuple = refl; over = λ o. o; running = λ r. inl r; none = λ n. n }

  pub one_leads : Leads known (record { flow = id; history = k } ∷ known)
  one_leads f = by_same (same_flow id f) refl
    where
      by_same : (s : Bool) → same_flow id f ≡ s → LedOn (known_of f known) (cond (same_flow id f) k (known_of f known))
      by_same false e =
          subst (λ (s : Bool). LedOn (known_of f known) (cond s k (known_of f known))) (sym e)
          (same_led (known_of f known))
      by_same true e =
          subst (λ (s : Bool). LedOn (known_of f known) (cond s k (known_of f known))) (sym e)
          (subst (λ g. LedOn (known_of g known) k) (is_same_flow id f e) led)

-- ----- a host
-- how many ports were given goes by four-tuples alone
pub ports_same : (before after : List Held) → ((f : FlowId) → (known_of f after).tuple ≡ (known_of f before).tuple)
    → (bs : List Book) → count_by (has_given_port after) bs ≡ count_by (has_given_port before) bs
ports_same before after same bs = ap (λ p. count_by p bs) (λ i b. leb first_port (same b.id i).lport)

pub words_same : (v w : View) → ((slot : ℕ) → word_at w.words slot ≡ word_at v.words slot) → (bs : List Book)
    → Each (IsWorded v) bs → Each (IsWorded w) bs
words_same v w same bs each = each_map (IsWorded v) (IsWorded w) bs (λ b is f. same b.id.slot ∙ is f) each

abbrev IsDoomedIn : List Book → Worker → Type 0
IsDoomedIn bs x = IsPermutation x.doomed (map id_of (filter is_doomed bs))

abbrev IsFiledIn : List Book → Worker → Type 0
IsFiledIn bs x = IsPermutation (map (λ (r : Flow). r.id) x.filed) (map id_of (filter is_filed bs))

pub led_sound : (h : CoreHost) (w : Worker) (id : FlowId) (k : History) → IsHostSound h
    → LedOn (known_of id (known_in h)) k → IsLedBy id k h.slow w → slow.IsSound h.table (sight_of w)
    → IsHostSound (with_slow w h)
led_sound h w id k sound led by kept =
    let known = known_in h in
    let after : List Held = record { flow = id; history = k } ∷ known in
    let base : w.pass.view.base ≡ after = by.view.base in
    let leads : Leads known w.pass.view.base = subst (Leads known) (sym base) (one_leads known id k led) in
    let tuples : (f : FlowId) → (known_of f w.pass.view.base).tuple ≡ (known_of f known).tuple = λ f. (leads f).tuple in
    let params : w.path.params ≡ h.slow.path.params =
    ap (λ (o : Openings). o.params) by.path ∙ told_params known id k h.slow.path in
    let unfixed : w.path.params.fixed ≡ false → h.slow.path.params.fixed ≡ false =
    λ f. ap (λ (p : HostParams). p.fixed) (sym params) ∙ f in
    record {
      alone = by.view.alone;
      slow_pass = by.view.slow ∙ sound.slow_pass;
      waiting = ap waiting by.rest ∙ sound.waiting;
      sound = kept;
      slots = ap (λ (p : HostParams). p.slots) params ∙ sound.slots;
      wide = (ap (λ (ms : List Mark). length ms) by.view.marks ∙ sound.wide.0, by.view.wide ∙ sound.wide.1);
      numbered = sound.numbered;
      plain = sound.plain;
      indexed = indexed_still known w.pass.view.base leads h.books sound.indexed;
      table = record {
        marks = λ slot m at. sound.table.marks slot m
            (ap (λ (ms : List Mark). slice_get ms slot) (sym by.view.marks) ∙ at);
        words = words_same h.slow.pass.view w.pass.view by.view.words h.books sound.table.words;
      };
      kept = record {
        flows = ap (λ (x : Worker). x.flows) by.rest
            ∙ (sound.kept.flows ∙ sym (flows_same known w.pass.view.base tuples h.books));
        pins = ap (λ (x : Worker). x.pins) by.rest ∙ sound.kept.pins;
        doomed = subst (IsDoomedIn h.books) (sym by.rest) sound.kept.doomed;
        filed = subst (IsFiledIn h.books) (sym by.rest) sound.kept.filed;
      };
      opening = record {
        flows = ap (λ (o : Openings). o.flows) by.path
            ∙ (told_waiting known id k led h.slow.path h.books sound.opening.flows
            ∙ ap (λ (l : List Held). waiting_in l h.books) (sym base));
        ports = λ f. ap (λ (o : Openings). o.ports) by.path
            ∙ (told_ports known id k h.slow.path
            ∙ (sound.opening.ports (unfixed f) ∙ sym (ports_same known w.pass.view.base tuples h.books)));
        listeners = λ f. subst (λ (ls : List Listener). Each (λ (l : Listener). l.port < first_port) ls)
            (sym (ap (λ (o : Openings). o.listeners) by.path ∙ told_listeners known id k h.slow.path))
            (sound.opening.listeners (unfixed f));
        given = λ f. below_moved known w.pass.view.base tuples h.slow.path.ports w.path.ports
            (ap (λ (o : Openings). o.ports) by.path ∙ told_ports known id k h.slow.path) h.books
            (sound.opening.given (unfixed f));
      };
      shown = subst (IsShown h.books w.pass.view.base) (ap (λ (x : Worker). x.index) (sym by.rest)) (record {
        pending = sound.shown.pending;
        shown = shown_same known w.pass.view.base tuples h.books h.slow.index.published sound.shown.shown;
      });
      apps = sound.apps;
      numbers = sound.numbers;
      holders = sound.holders;
    }
