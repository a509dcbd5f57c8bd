-- A host whose flows were led on, whose sockets may have been given up or given away, and whose slow path's lists of
-- flows are as they were: for the laws of phases and of applications that act alone.
use Rattle.std.proofs.Common.{◌≡◌, ℕ, Bool, true, false, List, [], ◌∷◌, map, length, refl, sym, ap, ◌∙◌}
use Rattle.std.proofs.Common.{subst, inr, count_by, slice_get, true≢false, Some, ◌<◌}
use Rattle.std.specs.Prelude.{IsPermutation}
use Rattle.std.specs.List.{filter, list_any}
use Rattle.tas_model.specs.declared.entry.FlowId.{FlowId}
use Rattle.tas_model.specs.declared.entry.HostParams.{HostParams}
use Rattle.tas_model.specs.Valid.{InRange}
use Rattle.flow_state.specs.Flow.{Flow}
use Rattle.host_rounds.specs.Hosts.{Holder, Waiting, GivenUp, is_waiting_by}
use Rattle.host_rounds.specs.Hosts as hosts
use Rattle.host_rounds.specs.Lists.{Each}
use Rattle.flow_lock.specs.Orders.{known_of, pins_at, same_flow}
use Rattle.flow_lock.specs.Passes.{Seen}
use Rattle.flow_lock.specs.Steps.{IsAlone}
use Rattle.flow_lock.specs.Words.{word_at}
use Rattle.flow_lock.specs.declared.view.Held.{Held}
use Rattle.flow_lock.specs.declared.view.Mark.{Mark}
use Rattle.flow_lock.specs.declared.view.View.{View}
use Rattle.flow_lock.specs.declared.word.Word.{Word}
use Rattle.flow_clock.proofs.Keeping.{still_kept}
use Rattle.slow_handshake.specs.Openings.{Openings, first_port}
use Rattle.slow_handshake.specs.declared.openings.Listener.{Listener}
use Rattle.libtas_sockets.specs.Apps.{Application}
use Rattle.host_books.specs.Books.{Book}
use Rattle.host_books.specs.Indexes.{AreIndexed}
use Rattle.host_books.proofs.Orders.{same_self}
use Rattle.sound_hosts.specs.Hosts.{CoreHost, known_in, id_of, is_indexed, is_doomed, is_filed, is_held_of, is_holder}
use Rattle.sound_hosts.specs.Hosts.{flows_in, waiting_in, has_given_port, AreNumbered}
use Rattle.sound_hosts.specs.Leading.{Leads}
use Rattle.sound_hosts.specs.Leaving.{reheld, has_flow}
use Rattle.sound_hosts.specs.Sound.{IsHostSound, IsMarked, IsPlain, IsWorded, AreShown, IsBelowNext}
use Rattle.sound_hosts.proofs.Given.{below_moved, below_reheld}
use Rattle.sound_hosts.proofs.Kept.{flows_same, shown_same, indexed_still}
use Rattle.sound_hosts.proofs.Leaving.{AreRight, AreTaken, IsNumberedBy, IsPinnedBy, AreApart, only}
use Rattle.sound_hosts.proofs.OneFlow.{ports_same}
use Rattle.sound_hosts.proofs.OpenSockets.{each_at}
use Rattle.sound_hosts.proofs.Reheld.{count_reheld, names_reheld, plain_reheld, marked_reheld, flows_reheld}
use Rattle.sound_hosts.proofs.Reheld.{shown_reheld, indexed_reheld, numbered_reheld}

-- ----- books and applications of a sound host
abbrev pub generation_in : View → ℕ → ℕ
generation_in v i = (word_at v.words i).generation

numbered_by : (v : View) (cs : List Book) → Each (IsWorded v) cs → Each (IsNumberedBy (generation_in v)) cs
numbered_by v [] each = tt
numbered_by v (c ∷ cs) each = (λ f. sym (ap (λ (x : Word). x.generation) (each.0 f)), numbered_by v cs each.1)

pinned_by : (v : View) (cs : List Book) → Each (IsWorded v) cs → Each (IsPinnedBy (pins_at v.words)) cs
pinned_by v [] each = tt
pinned_by v (c ∷ cs) each = (λ f. ap (λ (x : Word). x.pins) (each.0 f), pinned_by v cs each.1)

pub all_right : (h : CoreHost) → IsHostSound h
    → AreRight h.table (generation_in h.slow.pass.view) (pins_at h.slow.pass.view.words) h.books h.apps
all_right h sound = record {
  numbered = sound.numbered;
  generations = numbered_by h.slow.pass.view h.books sound.table.words;
  pinned = pinned_by h.slow.pass.view h.books sound.table.words;
  taken = record { apps = sound.apps; numbers = sound.numbers; holders = sound.holders };
}

-- a flow that waits is no application's
pub not_had : (bs : List Book) → AreApart bs → (n : ℕ) (b : Book) → slice_get bs n ≡ Some b
    → is_waiting_by b.holder ≡ true → (m : ℕ) → list_any (has_flow m b.id) bs ≡ true → ⊥
not_had bs apart n b at waits m any =
    by b.holder waits
    (each_at (λ (c : Book). same_flow c.id b.id ≡ true → is_held_of m c ≡ true) bs n b (only m b.id bs apart any) at
    (same_self b.id))
  where
    by : (x : Holder) → is_waiting_by x ≡ true → is_holder m x ≡ true → ⊥
    by Waiting w e = true≢false (sym e)
    by (hosts.Application k) w e = true≢false (sym w)
    by GivenUp w e = true≢false (sym w)

-- ----- the host
-- what other holders keep, the books have
abbrev pub Lifts : (before after : List Book) → (List Book → Type 0) → Type 0
Lifts before after P =
    ((holder : Book → Holder) (cs : List Book) → P cs → P (map (reheld holder) cs)) → P before → P after

abbrev pub moved : View → Openings → List Application → List Book → CoreHost → CoreHost
moved w path xs cs h = record h {
  slow = record (h.slow) { pass = record (h.slow.pass) { view = w }; path = path };
  apps = xs;
  books = cs;
}

-- What the view knows that the slow path then has: it has as many words, the marks and pins as they were, and each
-- flow was led on.
pub record IsMovedOn (h : CoreHost) (w : View) : Type 0 where
  pub alone : IsAlone w
  pub slow : w.slow ≡ true
  pub marks : w.marks ≡ h.slow.pass.view.marks
  pub pins : w.pins ≡ h.slow.pass.view.pins
  pub idle : w.held ≡ []
  pub wide : length w.words ≡ length h.slow.pass.view.words
  pub leads : Leads (known_in h) w.base

module _ (h : CoreHost) (sound : IsHostSound h) (w : View) (on : IsMovedOn h w) (path : Openings)
    (xs : List Application) (cs : List Book) (lift : (P : List Book → Type 0) → Lifts h.books cs P)
    (same_path : path ≡ record (h.slow.path) { flows = path.flows }) (waits : path.flows ≡ waiting_in w.base cs)
    (words : Each (IsWorded w) cs) (taken : AreTaken h.table cs xs) where
  abbrev known : List Held
  known = h.slow.pass.view.base

  abbrev pass_after : Seen
  pass_after = record (h.slow.pass) { view = w }

  tuples : (f : FlowId) → (known_of f w.base).tuple ≡ (known_of f known).tuple
  tuples f = (on.leads f).tuple

  -- the names of those that pass a test that doesn't read holders
  same_names : (p : Book → Bool) → ((holder : Book → Holder) (b : Book) → p (reheld holder b) ≡ p b)
      → map id_of (filter p cs) ≡ map id_of (filter p h.books)
  same_names p same =
      lift (λ (ds : List Book). map id_of (filter p ds) ≡ map id_of (filter p h.books))
      (λ holder ds e. names_reheld holder p p ds (each holder ds) ∙ e) refl
    where
      each : (holder : Book → Holder) (ds : List Book) → Each (λ (b : Book). p (reheld holder b) ≡ p b) ds
      each holder [] = tt
      each holder (d ∷ ds) = (same holder d, each holder ds)

  marked : (i : ℕ) (m : Mark) → slice_get w.marks i ≡ Some m → IsMarked cs i m
  marked i m at =
      lift (λ (ds : List Book). IsMarked ds i m) (λ holder ds x. marked_reheld holder ds i m x)
      (sound.table.marks i m (ap (λ (ms : List Mark). slice_get ms i) (sym on.marks) ∙ at))

  params : path.params ≡ h.slow.path.params
  params = ap (λ (o : Openings). o.params) same_path

  unfixed : path.params.fixed ≡ false → h.slow.path.params.fixed ≡ false
  unfixed f = ap (λ (x : HostParams). x.fixed) (sym params) ∙ f

  pub moved_sound : IsHostSound (moved w path xs cs h)
  moved_sound = record {
    alone = on.alone;
    slow_pass = on.slow;
    waiting = sound.waiting;
    sound = (
      record {
        ready = (sound.sound.0.ready.0, inr on.alone, on.idle);
        owned = still_kept h.table.slots h.slow.pass pass_after h.slow.doomed h.slow.pins on.pins on.marks
            sound.sound.0.owned;
        known = sound.sound.0.known;
      },
      subst InRange (sym params) sound.sound.1,
    );
    slots = ap (λ (x : HostParams). x.slots) params ∙ sound.slots;
    wide = (ap (λ (ms : List Mark). length ms) on.marks ∙ sound.wide.0, on.wide ∙ sound.wide.1);
    numbered = lift (AreNumbered h.table.slots [])
        (λ holder ds x. numbered_reheld holder h.table.slots [] ds x) sound.numbered;
    plain = lift (Each IsPlain) (λ holder ds x. plain_reheld holder ds x) sound.plain;
    indexed = lift (λ (ds : List Book). AreIndexed ds w.base) (λ holder ds x. indexed_reheld holder w.base ds x)
        (indexed_still known w.base on.leads h.books sound.indexed);
    table = record { marks = marked; words = words };
    kept = record {
      flows = sound.kept.flows
          ∙ (sym (flows_same known w.base tuples h.books)
          ∙ sym (lift (λ (ds : List Book). flows_in w.base ds ≡ flows_in w.base h.books)
          (λ holder ds e. flows_reheld holder w.base ds ∙ e) refl));
      pins = sound.kept.pins ∙ sym (same_names is_indexed (λ g b. refl));
      doomed = subst (IsPermutation h.slow.doomed) (sym (same_names is_doomed (λ g b. refl))) sound.kept.doomed;
      filed = subst (IsPermutation (map (λ (r : Flow). r.id) h.slow.filed))
          (sym (same_names is_filed (λ g b. refl))) sound.kept.filed;
    };
    opening = record {
      flows = waits;
      ports = λ f. ap (λ (o : Openings). o.ports) same_path
          ∙ (sound.opening.ports (unfixed f)
          ∙ (sym (ports_same known w.base tuples h.books)
          ∙ sym (lift (λ (ds : List Book). count_by (has_given_port w.base) ds
          ≡ count_by (has_given_port w.base) h.books)
          (λ holder ds e. count_reheld holder (has_given_port w.base) (λ b. refl) ds ∙ e) refl)));
      listeners = λ f. subst (λ (ls : List Listener). Each (λ (l : Listener). l.port < first_port) ls)
          (sym (ap (λ (o : Openings). o.listeners) same_path)) (sound.opening.listeners (unfixed f));
      given = λ f. lift (Each (IsBelowNext w.base path.ports))
          (λ holder ds x. below_reheld holder w.base path.ports ds x)
          (below_moved known w.base tuples h.slow.path.ports path.ports (ap (λ (o : Openings). o.ports) same_path)
          h.books (sound.opening.given (unfixed f)));
    };
    shown = record {
      pending = sound.shown.pending;
      shown = lift (λ (ds : List Book). AreShown ds w.base h.slow.index.published)
          (λ holder ds x. shown_reheld holder w.base ds h.slow.index.published x)
          (shown_same known w.base tuples h.books h.slow.index.published sound.shown.shown);
    };
    apps = taken.apps;
    numbers = taken.numbers;
    holders = taken.holders;
  }
