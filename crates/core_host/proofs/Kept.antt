-- The books that are kept when time passed are those that the law of a first turn tells of: for the answer for
-- `CoreHost::pass_time`.
use Rattle.std.proofs.Common.{◌≡◌, ℕ, ◌&&◌, ◌||◌, not, cond, Bool, true, false, List, [], ◌∷◌, map, drop}
use Rattle.std.proofs.Common.{refl, sym, ap, ◌∙◌, arith, ◌⊎◌, inl, inr}
use Rattle.std.proofs.lemmas.Bool.Decides.{nat_tests}
use Rattle.std.specs.List.{filter}
use Rattle.tas_model.specs.declared.entry.Caller.TheVariants.{Slow}
use Rattle.tas_model.specs.declared.entry.FlowId.{FlowId}
use Rattle.host_rounds.specs.Hosts.{Live, is_held_by}
use Rattle.host_rounds.specs.Lists.{Each}
use Rattle.host_rounds.specs.Upkeep.{swept, timed}
use Rattle.flow_lock.specs.Orders.{same_flow}
use Rattle.flow_lock.specs.Words.{flag}
use Rattle.flow_lock.specs.declared.view.Held.{Held}
use Rattle.host_books.specs.Books.{Book, live_in}
use Rattle.host_books.specs.Indexes.{IsFindable}
use Rattle.host_books.proofs.Orders.{same_self}
use Rattle.libtas_sockets.specs.Apps.{Application}
use Rattle.sound_hosts.specs.Hosts.{id_of, is_indexed}
use Rattle.sound_hosts.specs.Sound.{HasHolder}
use Rattle.sound_hosts.proofs.Leaving.{AreApart}
use Rattle.sound_turns.specs.Passing.{AreSwept, swept_book}
use Rattle.slow_rounds.specs.SoFar.{phased}
use Rattle.slow_rounds.proofs.Phased.{phased_over}
use Rattle.core_host.specs.Books.{is_first, kept_where, kept_by}

-- ----- pins of the index's flows
abbrev pins_of : List Book → List FlowId
pins_of bs = map id_of (filter is_indexed bs)

pins_where : (t : Bool) (c : Book) (cs : List Book) → c.indexed ≡ t
    → pins_of (c ∷ cs) ≡ cond t (c.id ∷ pins_of cs) (pins_of cs)
pins_where t c cs e = ap (λ s. map id_of (cond s (c ∷ filter is_indexed cs) (filter is_indexed cs))) e ∙ by t
  where
    by : (s : Bool) → map id_of (cond s (c ∷ filter is_indexed cs) (filter is_indexed cs))
        ≡ cond s (c.id ∷ pins_of cs) (pins_of cs)
    by true = refl
    by false = refl

same_sym : (f g : FlowId) → same_flow f g ≡ same_flow g f
same_sym f g = grind (arith, nat_tests)

and_false : (b : Bool) → (b && false) ≡ false
and_false true = refl
and_false false = refl

-- ----- who is first
unindexed : (pins : List FlowId) (b : Book) → b.indexed ≡ false → is_first pins b ≡ false
unindexed [] b e = refl
unindexed (p ∷ ps) b e = ap (λ s. s && same_flow p b.id) e

swept_id : (b c : Book) → (c ≡ b) ⊎ ((b.filed ≡ false) × (c ≡ swept_book b)) → c.id ≡ b.id
swept_id b c (inl e) = ap id_of e
swept_id b c (inr e) = ap id_of e.1

-- no pin of later flows is its own
not_first : (b : Book) (bs cs : List Book) → Each (λ (x : Book). same_flow b.id x.id ≡ false) bs → AreSwept bs cs
    → is_first (pins_of cs) b ≡ false
not_first b [] cs apart are = ap (λ l. is_first (pins_of l) b) are
not_first b (x ∷ bs) [] apart are = absurd are
not_first b (x ∷ bs) (c ∷ cs) apart are = by (not_first b bs cs apart.1 are.1) c.indexed refl
  where
    other : same_flow c.id b.id ≡ false
    other = same_sym c.id b.id ∙ (ap (same_flow b.id) (swept_id x c are.0) ∙ apart.0)

    by : is_first (pins_of cs) b ≡ false → (t : Bool) → c.indexed ≡ t → is_first (pins_of (c ∷ cs)) b ≡ false
    by induction true e = ap (λ l. is_first l b) (pins_where true c cs e) ∙ (ap (λ s. b.indexed && s) other ∙
        and_false b.indexed)
    by induction false e = ap (λ l. is_first l b) (pins_where false c cs e) ∙ induction

-- ----- one book
kept_cons : (t : Bool) (pins : List FlowId) (b : Book) (bs : List Book) → is_first pins b ≡ t
    → kept_by pins (b ∷ bs) ≡ kept_where t b ∷ kept_by (drop (flag t) pins) bs
kept_cons t pins b bs e = ap (λ s. kept_where s b ∷ kept_by (drop (flag s) pins) bs) e

-- its record stands or was filed as it is to be
is_filed_so : (held filed : Bool) → (held ≡ true → filed ≡ false) → filed ≡ (filed || not held) → filed ≡ not held
is_filed_so true filed none is = none refl
is_filed_so false true none is = refl
is_filed_so false false none is = is

module _ (apps : List Application) (known now : List Held) (tick : ℕ) where
  -- a book that is as it was, and that the index doesn't have
  still : (b c : Book) → c ≡ b → b.indexed ≡ false → HasHolder apps b → IsFindable known b
      → live_in now c ≡ phased tick (live_in known b) → swept_book b ≡ c
  still b c e gone holder findable live =
      (λ i. record b { indexed = sym gone i; filed = sym filed i }) ∙ sym e
    where
      filed : b.filed ≡ not (is_held_by b.holder)
      filed = is_filed_so (is_held_by b.holder) b.filed (λ h. (holder h).1)
          (ap (λ (x : Book). x.filed) (sym e)
          ∙ (ap (λ (l : Live). l.filed) live
          ∙ ap (λ (l : Live). l.filed) (phased_over tick (live_in known b) (findable gone))))

  pub kept_is : (bs cs : List Book) → AreApart bs → Each (HasHolder apps) bs → Each (IsFindable known) bs
      → AreSwept bs cs → map (live_in now) cs ≡ map (timed Slow tick) (map swept (map (live_in known) bs))
      → kept_by (pins_of cs) bs ≡ cs
  kept_is [] cs apart holders findable are lives = sym are
  kept_is (b ∷ bs) [] apart holders findable are lives = absurd are
  kept_is (b ∷ bs) (c ∷ cs) apart holders findable are lives =
      by (kept_is bs cs apart.1 holders.1 findable.1 are.1 rest) are.0 b.indexed refl
    where
      live : live_in now c ≡ phased tick (live_in known b)
      live = cc (lives)

      rest : map (live_in now) cs ≡ map (timed Slow tick) (map swept (map (live_in known) bs))
      rest = cc (lives)

      by : kept_by (pins_of cs) bs ≡ cs → (c ≡ b) ⊎ ((b.filed ≡ false) × (c ≡ swept_book b)) → (t : Bool) → b.indexed
          ≡ t
          → kept_by (pins_of (c ∷ cs)) (b ∷ bs) ≡ c ∷ cs
      by induction (inl e) true there =
          ap (λ l. kept_by l (b ∷ bs)) (pins_where true c cs (ap is_indexed e ∙ there))
          ∙ (kept_cons true (c.id ∷ pins_of cs) b bs
          (ap (λ s. s && same_flow c.id b.id) there ∙ (ap (λ (x : Book). same_flow x.id b.id) e ∙ same_self b.id))
          ∙ λ i. sym e i ∷ induction i)
      by induction (inl e) false there =
          ap (λ l. kept_by l (b ∷ bs)) (pins_where false c cs (ap is_indexed e ∙ there))
          ∙ (kept_cons false (pins_of cs) b bs (unindexed (pins_of cs) b there)
          ∙ λ i. still b c e there holders.0 findable.0 live i ∷ induction i)
      by induction (inr e) t there =
          ap (λ l. kept_by l (b ∷ bs)) (pins_where false c cs (ap is_indexed e.1))
          ∙ (kept_cons false (pins_of cs) b bs (not_first b bs cs apart.0 are.1)
          ∙ λ i. sym e.1 i ∷ induction i)
