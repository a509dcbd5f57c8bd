-- What the slow path's phase of a tick makes of one flow: for the law first_turns_are_slow_phases.
use Rattle.std.proofs.Common.{◌≡◌, ℕ, ◌&&◌, ◌||◌, not, cond, Bool, true, false, refl, sym, ap, ◌∙◌}
use Rattle.tas_model.specs.declared.entry.Caller.TheVariants.{Slow}
use Rattle.tas_model.specs.ApplicationCalls.{Column, Opening, Over, Running, column}
use Rattle.host_rounds.specs.Hosts.{Live, is_held, endpoint, is_running}
use Rattle.host_rounds.specs.Hosts as hosts
use Rattle.host_rounds.specs.Upkeep.{swept, timed, timed_unless, controlled_where, is_control_tick}
use Rattle.flow_lock.specs.declared.view.History.{History}
use Rattle.flow_clock.specs.Histories as shared
use Rattle.flow_clock.specs.Histories.{is_over, with_tick, timed_by, is_control_due}
use Rattle.host_books.specs.Books.{Book, live_as}
use Rattle.sound_turns.specs.Passing.{swept_book}
use Rattle.slow_rounds.specs.SoFar.{phased}

-- ----- a flow that is closed
abbrev swept_if : Bool → Live → Live
swept_if over l = cond over (record l { indexed = false; filed = l.filed || not (is_held l) }) l

pub phased_over : (t : ℕ) (l : Live) → hosts.is_over l ≡ true
    → phased t l ≡ record l { indexed = false; filed = l.filed || not (is_held l) }
phased_over t l over =
    ap (timed Slow t) first
    ∙ ap (λ b. timed_unless b Slow t (record l { indexed = false; filed = l.filed || not (is_held l) })) over
  where
    first : swept l ≡ record l { indexed = false; filed = l.filed || not (is_held l) }
    first = ap (λ b. cond b (record l { indexed = false; filed = l.filed || not (is_held l) }) l) over

-- its book, where its record stands
pub closed_phased : (t : ℕ) (b : Book) (h : History) → is_over h ≡ true → b.filed ≡ false
    → live_as (swept_book b) h ≡ phased t (live_as b h)
closed_phased t b h over stands =
    (λ i. record (live_as b h) { indexed = false; filed = sym stands i || not (is_held (live_as b h)) })
    ∙ sym (phased_over t (live_as b h) over)

-- and where that is filed
pub filed_phased : (t : ℕ) (b : Book) (h : History) → is_over h ≡ true → b.filed ≡ true → b.indexed ≡ false
    → live_as b h ≡ phased t (live_as b h)
filed_phased t b h over filed gone =
    (λ i. record (live_as b h) { indexed = gone i; filed = is_filed i })
    ∙ sym (phased_over t (live_as b h) over)
  where
    is_filed : b.filed ≡ b.filed || not (is_held (live_as b h))
    is_filed = filed ∙ ap (λ f. f || not (is_held (live_as b h))) (sym filed)

-- ----- a flow that has its time
controlled_alike : (due : Bool) (t : ℕ) (b : Book) (h : History)
    → live_as b (shared.controlled_where due t h) ≡ controlled_where due Slow t (live_as b h)
controlled_alike true t b h = refl
controlled_alike false t b h = refl

pub running_alike : (l : Live) → shared.is_running (shared.history_in l) ≡ is_running l
running_alike l = by_column (column (endpoint l)) where
  by_column : (c : Column) → ◌≡◌ {A = Bool} (shared.is_running_in c) (elim c [ Running ↦ true | _ ↦ false ])
  by_column Opening = refl
  by_column (Over why) = refl
  by_column Running = refl

pub timed_phased : (t : ℕ) (b : Book) (h : History) → is_over h ≡ false
    → live_as b (timed_by t h) ≡ phased t (live_as b h)
timed_phased t b h open_ =
    controlled_alike (is_control_due t h) t b (with_tick t h)
    ∙ (ap (λ r. controlled_where (is_control_tick h.params.fixed t && r) Slow t (live_as b (with_tick t h)))
    (running_alike (live_as b (with_tick t h)))
    ∙ (ap (λ o. timed_unless o Slow t (live_as b h)) (sym open_)
    ∙ ap (timed Slow t) (sym unswept)))
  where
    unswept : swept (live_as b h) ≡ live_as b h
    unswept = ap (λ o. swept_if o (live_as b h)) open_
