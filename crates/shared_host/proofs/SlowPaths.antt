-- The slow path's worker while cores are added, and what its first calls ask of it.
use Rattle.std.proofs.Common.{◌≡◌, ℕ, ◌+◌, ◌-◌, ◌<◌, ◌≤◌, true, List, [], refl}
use Rattle.std.proofs.Common.{sym, ap, ◌∙◌, subst, arith, inl}
use Rattle.atomic_table.specs.Seated.{TableId}
use Rattle.tas_model.specs.declared.entry.HostParams.{HostParams}
use Rattle.tas_model.specs.Valid.{InRange}
use Rattle.flow_index.specs.Changes.{Writing, writing}
use Rattle.flow_index.specs.declared.change.Change.{Change}
use Rattle.flow_lock.specs.Passes.{Seen, first, left, new_turn}
use Rattle.flow_lock.specs.declared.view.View.{View}
use Rattle.slow_handshake.specs.Openings.{no_openings}
use Rattle.slow_worker.specs.Workers.{Worker, sight_of, first_sight, Sight, IsSound}
use Rattle.shared_host.proofs.Lists.{none_some}
use Rattle.shared_host.specs.SlowPaths.{split_view, split_pass, with_split, IsNewSlow}

none_split : (slots : ℕ) → first slots ≡ split_view slots 0
none_split slots = refl

one_split : (slots n : ℕ) → left (split_view slots n) ≡ split_view slots (n + 1)
one_split slots n =
    let parts : 4097 - n - 1 ≡ 4097 - (n + 1) = omega arith in
    let made : 1 + n + 1 ≡ 1 + (n + 1) = omega arith in
    ap (λ (p : ℕ). record (first slots) { parts = p; made = 1 + n + 1 }) parts
    ∙ ap (λ (m : ℕ). record (first slots) { parts = 4097 - (n + 1); made = m }) made

-- a reader was made
one_reader : (r : ℕ) (y : Writing) → y.published ≡ [] → y.pending ≡ [] → y.left + 1 ≡ r → y ≡ writing [] [] (r - 1)
one_reader r y published pending left =
    let less : y.left ≡ r - 1 = omega (arith, left) in
    ap (λ (l : List Change). writing l y.pending y.left) published
    ∙ (ap (λ (l : List Change). writing [] l y.left) pending ∙ ap (λ (n : ℕ). writing [] [] n) less)

-- a core was added
pub slow_more : (params : HostParams) (t : TableId) (n r : ℕ) (s w : Worker) → IsNewSlow params t n r s
    → w.pass ≡ with_split s.pass → w.index.left + 1 ≡ s.index.left → w.index.published ≡ s.index.published
    → w.index.pending ≡ s.index.pending → w ≡ record s { pass = w.pass; index = w.index; kickers = w.kickers }
    → IsNewSlow params t (n + 1) (r - 1) w
slow_more params t n r s w is pass left published pending rest =
    subst (λ (x : Worker). IsNewSlow params t (n + 1) (r - 1) x) (sym rest) (record {
      sight = ap (λ (x : Sight). record x { pass = w.pass; index = w.index }) is.sight
          ∙ (ap (λ (p : Seen). first_sight (no_openings params) p w.index) pass_is
          ∙ ap (λ (y : Writing). first_sight (no_openings params) (split_pass t (n + 1)) y) index_is);
      filed = is.filed;
      waiting = is.waiting;
      check_sums = is.check_sums;
      time = is.time;
    })
  where
    pass_is : w.pass ≡ split_pass t (n + 1)
    pass_is =
        pass ∙ (ap (λ (x : Sight). with_split x.pass) is.sight
        ∙ ap (λ (v : View). record { table = t; view = v }) (one_split t.slots n))

    index_is : w.index ≡ writing [] [] (r - 1)
    index_is =
        one_reader r w.index (published ∙ ap (λ (x : Sight). x.index.published) is.sight)
        (pending ∙ ap (λ (x : Sight). x.index.pending) is.sight) (left ∙ ap (λ (x : Sight). x.index.left) is.sight)

-- the same, of so many cores
pub core_added : (params : HostParams) (t : TableId) (n cores : ℕ) (s w : Worker)
    → IsNewSlow params t n (cores - n) s → w.pass ≡ with_split s.pass → w.index.left + 1 ≡ s.index.left
    → (w.index.published ≡ s.index.published) × (w.index.pending ≡ s.index.pending)
    → w ≡ record s { pass = w.pass; index = w.index; kickers = w.kickers }
    → IsNewSlow params t (n + 1) (cores - (n + 1)) w
core_added params t n cores s w is pass one same rest =
    let fewer : cores - n - 1 ≡ cores - (n + 1) = omega arith in
    subst (λ (r : ℕ). IsNewSlow params t (n + 1) r w) fewer
    (slow_more params t n (cores - n) s w is pass one same.0 same.1 rest)

pub all_left : (params : HostParams) (t : TableId) (cores : ℕ) (s : Worker) → IsNewSlow params t 0 cores s
    → IsNewSlow params t 0 (cores - 0) s
all_left params t cores s is =
    let all : cores ≡ cores - 0 = omega arith in
    subst (λ (r : ℕ). IsNewSlow params t 0 r s) all is

-- ----- what the calls ask
pub table_of : (params : HostParams) (t : TableId) (n r : ℕ) (w : Worker) → IsNewSlow params t n r w → w.pass.table ≡ t
table_of params t n r w is = ap (λ (s : Sight). s.pass.table) is.sight

pub may_split : (params : HostParams) (t : TableId) (n r : ℕ) (w : Worker) → IsNewSlow params t n r w → n < 16
    → (1 < w.pass.view.parts) × (w.pass.view.baton ≡ true)
may_split params t n r w is few =
    let parts : w.pass.view.parts ≡ 4097 - n = ap (λ (s : Sight). s.pass.view.parts) is.sight in
    (omega (arith, parts, few), ap (λ (s : Sight). s.pass.view.baton) is.sight)

pub may_read : (params : HostParams) (t : TableId) (n cores : ℕ) (w : Worker) → IsNewSlow params t n (cores - n) w
    → n < cores → 0 < w.index.left
may_read params t n cores w is few =
    let left : w.index.left ≡ cores - n = ap (λ (s : Sight). s.index.left) is.sight in
    omega (arith, left, few)

pub sound_at_first : (params : HostParams) (t : TableId) (n r : ℕ) (w : Worker) → IsNewSlow params t n r w
    → InRange params → IsSound t (sight_of w)
sound_at_first params t n r w is range =
    subst (λ (s : Sight). IsSound t s) (sym is.sight) (
      record {
        ready = (refl, inl (new_turn 0, [], refl), refl);
        owned = record { each_doomed = tt; each_pin = tt; once = λ i. omega arith };
        known = λ k f there. absurd (none_some f there);
      },
      range,
    )
