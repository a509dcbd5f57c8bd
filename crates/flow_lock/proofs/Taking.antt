-- A record is taken and given back.
use Rattle.std.proofs.Common.{◌≡◌, ◌≢◌, ℕ, ◌+◌, ◌*◌, ◌/◌, ◌%◌, ◌^◌, ◌<◌, ◌≤◌, Bool, true, false, List, [], ◌∷◌, ◌++◌}
use Rattle.std.proofs.Common.{map, length, drop, get_or, set, sym, refl, ap, ◌∙◌, subst, inl, inr, arith, true≢false}
use Rattle.std.proofs.Common.{length-set, length-append}
use Rattle.std.specs.Prelude.{Option, Some, None, bit_or, bit_and}
use Rattle.std.specs.Int.Bits.{or_add_and}
use Rattle.std.proofs.lemmas.Nat.{and-not, and_comm}
use Rattle.std.proofs.lemmas.Nat.Bits.{and_pow}
use mathlib.Core.Option as O
use mathlib.Core.Option.{some-injective, some-ne-none}
use mathlib.Core.Logic.{dite}
use native.Mathlib.Decide.{ℕ_discrete}
use lib.ListN.{get_elem?}
use Rattle.atomic_table.specs.Table.{State, Me, step, keeps, takes as act_takes, gives as act_gives, put_back, Allows}
use Rattle.atomic_table.specs.Table.{rest}
use Rattle.atomic_table.proofs.Lists.{set_here, set_else}
use Rattle.tas_model.specs.declared.entry.Entry.{Entry}
use Rattle.tas_model.specs.declared.entry.FlowId.{FlowId}
use Rattle.flow_lock.specs.Words.{flag, code, word_of, word_at, Small}
use Rattle.flow_lock.specs.Histories.{IsLonger, Begins}
use Rattle.flow_lock.specs.Orders.{total, at_slot, known_of, once_below, played, IsRun}
use Rattle.flow_lock.specs.Claims.{flow_at, pins_on, holds_on, Bears, HasPin, Lawful, in_span}
use Rattle.flow_lock.specs.Steps.{MayAct, IsAlone, known_words, counted, taken, gave, added, deeds_of, held_length}
use Rattle.flow_lock.specs.Plays.{Comes, takes, gives}
use Rattle.flow_lock.specs.Passes.{Carries}
use Rattle.flow_lock.specs.declared.word.Word.{Word}
use Rattle.flow_lock.specs.declared.view.View.{View}
use Rattle.flow_lock.specs.declared.view.Held.{Held}
use Rattle.flow_lock.specs.declared.view.History.{History}
use Rattle.flow_lock.proofs.Words.{flag_le}
use Rattle.flow_lock.proofs.Sums.{term_le, terms_le, total_none, one_only}
use Rattle.flow_lock.proofs.Histories.{drop_front, after, after_same, after_else, after_other, still, more_seen}
use Rattle.flow_lock.proofs.Histories.{span_counts}
use Rattle.flow_lock.proofs.Ordering.{alone, acts_order, signed, run_here, played_here, played_else}
use Rattle.flow_lock.proofs.Acting.{noted_none, word_act, history_act}
use Rattle.flow_lock.proofs.Changes.{hit_slot, miss_slot, fits_same, changes, Found, found_word}
use Rattle.flow_lock.proofs.Pinning.{has_one, Goes, counts, reads}

bit18 : (w : Word) → Small w → bit_and (code w) (2 ^ 18) ≡ flag w.busy * 262144
bit18 w s = let b = flag_le w.busy in let d = flag_le w.doomed in let l = flag_le w.live in let p = s.1 in
    let e : code w / 262144 % 2 ≡ flag w.busy = omega arith in
    and_pow (code w) 18 ∙ ap (λ n. n * 262144) e

bit17 : (w : Word) → Small w → bit_and (code w) (2 ^ 17) ≡ flag w.doomed * 131072
bit17 w s = let b = flag_le w.busy in let d = flag_le w.doomed in let l = flag_le w.live in let p = s.1 in
    let e : code w / 131072 % 2 ≡ flag w.doomed = omega arith in
    and_pow (code w) 17 ∙ ap (λ n. n * 131072) e

pub or_doomed : (w : Word) → Small w → (b : Bool) → w.doomed ≡ b
    → bit_or (code w) 131072 ≡ code (record w { doomed = true })
or_doomed w s true e = let a = or_add_and (code w) 131072 in let b = bit17 w s in
    let c : flag w.doomed ≡ 1 = ap flag e in omega arith
or_doomed w s false e = let a = or_add_and (code w) 131072 in let b = bit17 w s in
    let c : flag w.doomed ≡ 0 = ap flag e in omega arith

pub or_idle : (w : Word) → Small w → w.busy ≡ false → bit_or (code w) 262144 ≡ code (record w { busy = true })
or_idle w s e = let a = or_add_and (code w) 262144 in let b = bit18 w s in let c : flag w.busy ≡ 0 = ap flag e in
    omega arith

pub or_busy : (w : Word) → Small w → w.busy ≡ true → bit_or (code w) 262144 ≡ code w
or_busy w s e = let a = or_add_and (code w) 262144 in let b = bit18 w s in let c : flag w.busy ≡ 1 = ap flag e in
    omega arith

pub and_busy : (w : Word) → Small w → w.busy ≡ true
    → bit_and (code w) 18446744073709289471 ≡ code (record w { busy = false })
and_busy w s e =
    let b = flag_le w.busy in let d = flag_le w.doomed in let l = flag_le w.live in let g = s.0 in let p = s.1 in
    let a = and-not 64 262144 (code w) (omega arith) (omega arith) in
    let m : bit_and 262144 (code w) ≡ 262144 = and_comm 262144 (code w) ∙ (bit18 w s ∙ ap (λ x. flag x * 262144) e) in
    let t : bit_and (code w) 18446744073709289471 ≡ bit_and 18446744073709289471 (code w) =
    and_comm (code w) 18446744073709289471 in
    let c : flag w.busy ≡ 1 = ap flag e in omega arith

pub is_flagged : (b : Bool) → 0 < flag b → b ≡ true
is_flagged true p = refl
is_flagged false p = absurd (omega arith)

pub no_flag : (b : Bool) → flag b ≡ 0 → b ≡ false
no_flag true p = absurd (omega arith)
no_flag false p = refl

module _ {R : Type 0} where
  heads : (l m t : List (ℕ × Option R)) (y z : ℕ × Option R) → l ≡ y ∷ m → l ≡ z ∷ t → y ≡ z
  heads l m t y z p q = cc

  -- a view that holds nothing carries nothing
  pub carries_none : (m : Me (Option R) View) → Carries m → m.0.held ≡ [] → m.0.out ≡ [] → m.1 ≡ []
  carries_none m c held out = c ∙ (λ q. map (λ (h : Held). (h.flow.slot, None)) (held q)
      ++ map (λ (i : ℕ). (i, None)) (out q))

  -- with one record held, one empty value is out
  pub carries_one : (m : Me (Option R) View) (h : Held) → m.0.held ≡ h ∷ [] → m.0.out ≡ []
      → m.1 ≡ (h.flow.slot, None) ∷ [] → Carries m
  carries_one m h held out e = e ∙ sym (λ q. map (λ (x : Held). (x.flow.slot, None)) (held q)
      ++ map (λ (i : ℕ). (i, None)) (out q))

  -- what came out of the slot is what was carried
  pub came_out : (l m t : List (ℕ × Option R)) (i j : ℕ) (a b : R) (x : Option R) → l ≡ (i, Some a) ∷ m → l ≡ (j, x) ∷ t
      → x ≡ Some b → a ≡ b
  came_out l m t i j a b x p q r = let e : Some a ≡ Some b =
      ap (λ (y : ℕ × Option R). y.1) (heads l m t (i, Some a) (j, x) p q) ∙ r in cc

module _ {R : Type 0} (flow : R → FlowId) (history : R → History) where
  abbrev Law : State (Option R) View → Type 0
  Law = Lawful flow history

  -- what a pin shows of its word
  pub record Mine (s : State (Option R) View) (r : Lawful flow history s) (f : FlowId) (w : Word) : Type 0 where
    pub alive : w.live ≡ true
    pub aged : f.generation ≡ w.generation

  pub mine_of : (s : State (Option R) View) (r : Law s) (id : ℕ) (v : View) (f : FlowId) (w : Word)
      → get_elem? s.views id ≡ O.some v → HasPin v f → get_elem? r.ws f.slot ≡ O.some w → Mine s r f w
  mine_of s r id v f w at has here =
      let bears = (r.fits id v at).pins has.0 f has.1 in
      let same : bears.0 ≡ w = some-injective bears.0 w (sym bears.1 ∙ here) in
      record {
        alive = ap (λ (x : Word). x.live) (sym same) ∙ bears.3;
        aged = sym bears.2
            ∙ ap (λ (x : Word). x.generation) same;
      }

  -- a pin on the slot has the word's generation
  pub own_flow : (s : State (Option R) View) (r : Law s) (id i : ℕ) (v : View) (w : Word)
      → get_elem? s.views id ≡ O.some v → get_elem? r.ws i ≡ O.some w → (g : FlowId) → HasPin v g → g.slot ≡ i
      → flow_at i w.generation ≡ g
  own_flow s r id i v w at here g had on = let m = mine_of s r id v g w at had (ap (λ k. get_elem? r.ws k) on ∙ here) in
      λ q. record { slot = sym on q; generation = sym m.aged q }

  -- what is told of a record that is at home
  pub comes : (s : State (Option R) View) (r : Law s) (id i : ℕ) (v : View) (w : Word) (item : R)
      → get_elem? s.views id ≡ O.some v → get_elem? r.ws i ≡ O.some w
      → flow item ≡ flow_at i w.generation → history item ≡ r.H (flow item) → Comes flow history v i item
  comes s r id i v w item at here named listed = record {
    own = λ g had on. named ∙ own_flow s r id i v w at here g had on;
    begun = λ k x e same. subst (Begins x.history) (ap r.H same ∙ sym listed) ((r.knows id v at).seen k x e);
    known = λ is. listed ∙ (alone r.H r.ws s.views id v at r.ordered is).histories (flow item);
  }

  -- alone, the word of a record that the view doesn't hold isn't busy
  pub alone_idle : (s : State (Option R) View) (r : Law s) (id i : ℕ) (v : View) (w : Word)
      → get_elem? s.views id ≡ O.some v → get_elem? r.ws i ≡ O.some w → holds_on i v ≡ 0 → IsAlone v → w.busy ≡ false
  alone_idle s r id i v w at here none_ is =
      let a = alone r.H r.ws s.views id v at r.ordered is in
      let sum : total (holds_on i) s.views ≡ 0 = total_none (holds_on i) s.views (λ j u e. dite (ℕ_discrete j id)
      (λ same. subst (λ (y : View). holds_on i y ≡ 0)
      (some-injective v u (sym at ∙ (ap (λ k. get_elem? s.views k) (sym same) ∙ e))) none_)
      (λ ne. ap (total (λ (x : Held). at_slot i x.flow)) (a.held j u ne e))) in
      no_flag w.busy (sym (r.busy i w here) ∙ sum)

  pub takes_it : (slots id : ℕ) (f : FlowId) (me : Me (Option R) View) → f.slot < slots → HasPin me.0 f → me.0.held ≡ []
      → MayAct me.0
      → Allows Law slots id me f.slot (λ n. bit_or n 262144) (takes flow history (step slots f.slot 262144 0 O.none) me)
  takes_it slots id f me near has free may s r long at _ =
      let t = found_word flow history s r slots f.slot long near in
      by_busy slots id f me has free may s r at t (mine_of s r id me.0 f t.w at has t.at) t.w.busy refl
    where
      by_busy : (slots id : ℕ) (f : FlowId) (me : Me (Option R) View) → HasPin me.0 f → me.0.held ≡ [] → MayAct me.0
          → (s : State (Option R) View) (r : Law s) → get_elem? s.views id ≡ O.some me.0
          → (t : Found flow history s r f.slot) → Mine s r f t.w → (b : Bool) → t.w.busy ≡ b
          → Goes flow history s f.slot id me (takes flow history (step slots f.slot 262144 0 O.none) me)
          (bit_or (get_or s.words f.slot 0) 262144)
      by_busy slots id f me has free may s r at t m true busy =
          let i : ℕ = f.slot in
          let n : ℕ = get_or s.words i 0 in
          let none_before : holds_on i me.0 ≡ 0 = ap (total (λ (x : Held). at_slot i x.flow)) free in (
            counted i (word_of n) me.0,
            keeps,
            tt,
            counts flow history s r i id (bit_or n 262144) me.0 at t (ap (λ x. bit_or x 262144) t.is
                ∙ (or_busy t.w t.small busy ∙ sym t.is)),
            (
              reads flow history s r id i me.0 at t,
              (λ is. absurd (true≢false (sym busy ∙ alone_idle s r id i me.0 t.w at t.at none_before is))),
              (λ e. absurd (true≢false (sym busy ∙ (ap (λ (x : Word). x.busy) (sym t.back) ∙ e)))),
              λ _. refl,
            ),
          )
      by_busy slots id f me has free may s r at t m false idle =
          let i : ℕ = f.slot in
          let n : ℕ = get_or s.words i 0 in
          let w = t.w in
          let home = r.home i w t.at m.alive idle in
          let fits = r.fits id me.0 at in
          let knows = r.knows id me.0 at in
          let named : flow home.item ≡ f = home.named ∙ (λ q. record { slot = i; generation = sym m.aged q }) in
          let g = flow home.item in
          let l = history home.item in
          let v' = taken g l (counted i (word_of n) me.0) in
          let F : Word → Word = λ x. record x { busy = true } in
          let w' : Word = F w in
          let h : Held = record { flow = g; history = l } in
          let slot : g.slot ≡ i = ap (λ (x : FlowId). x.slot) named in
          let none_before : (k : ℕ) → holds_on k me.0 ≡ 0 = λ k. ap (total (λ (x : Held). at_slot k x.flow)) free in
          let pinned : pins_on i me.0 ≡ 1 = has_one r.ws me.0 f fits has in
          let bears : Bears r.ws g = subst (Bears r.ws) (sym named) (w, t.at, sym m.aged, m.alive) in (
            v',
            act_takes i (Some home.item),
            home.there,
            changes flow history s r i id (bit_or n 262144) w w' me.0 v' (set s.homes i O.none) r.H (record {
              near = t.near;
              at = t.at;
              me = at;
              is = ap (λ x. bit_or x 262144) t.is ∙ or_idle w t.small idle;
              small = t.small;
              long = length-set s.homes i O.none;
              elsewhere = λ k ne. set_else s.homes i k O.none ne;
              pins = refl;
              pins_else = λ k ne. refl;
              holds = let c : flag w.busy ≡ 0 = ap flag idle in omega (arith, none_before i, hit_slot i g slot);
              holds_else = λ k ne. omega (arith, none_before k, miss_slot k g (λ q. ne (sym q ∙ slot)));
              outs_else = λ k ne. refl;
              dead = λ gone. absurd (true≢false (sym m.alive ∙ gone));
              home = λ alive rests. absurd (true≢false rests);
              empty = λ gone. absurd (true≢false (sym m.alive ∙ gone));
              same_H = λ g ne. refl;
              my_fits = fits_same r.ws i w w' v' t.at t.near refl refl refl (record {
                pins = fits.pins;
                once = fits.once;
                paid = fits.paid;
                held = λ k. dite (ℕ_discrete k i)
                    (λ e. subst (λ z. holds_on z v' ≤ pins_on z v') (sym e) (omega (arith, hit_slot i g slot)))
                    (λ ne. omega (arith, miss_slot k g (λ e. ne (sym e ∙ slot)), fits.held k));
                bears = λ k x e. one_only (λ (y : Held). Bears r.ws y.flow) k h x bears e;
                marks = fits.marks;
                quick = fits.quick;
                spent = fits.spent;
              });
              others_fit = λ j u ne e. fits_same r.ws i w w' u t.at t.near refl refl refl (r.fits j u e);
              my_knows = record {
                held = λ k x q. one_only (λ (y : Held). y.history ≡ r.H y.flow) k h x home.listed q;
                seen = knows.seen;
              };
              others_know = λ j u ne e. r.knows j u e;
              mine = λ g p. refl;
              parts = refl;
              slow = refl;
              fresh = λ g lt. r.fresh i w g t.at lt;
              ordered = acts_order r.H r.H r.ws (set r.ws i w') s.views id me.0 v' [] [] [] at
                  (word_act r.H r.ws i w F me.0 v' [] [] t.at t.near may (
                    noted_none me.0.turns,
                    refl,
                    refl,
                    refl,
                    ap (λ k. known_words k (F (word_at me.0.words k)) me.0) slot,
                  ) refl (λ k ne. (refl, refl)))
                  r.ordered;
            }),
            (
              reads flow history s r id i me.0 at t,
              (λ _. ap (λ (x : Word). x.busy) t.back ∙ idle),
              (λ _. record {
                item = home.item;
                told = comes s r id i me.0 w home.item at t.at home.named home.listed;
                view = refl;
                carries = refl;
              }),
              λ e. absurd (true≢false (sym e ∙ (ap (λ (x : Word). x.busy) t.back ∙ idle))),
            ),
          )

  pub gives_it : (slots id : ℕ) (f : FlowId) (h : Held) (item : R) (me : Me (Option R) View) → f.slot < slots
      → me.0.held ≡ h ∷ [] → h.flow ≡ f → flow item ≡ f → IsLonger h.history (history item)
      → me.1 ≡ (f.slot, Some item) ∷ rest me.1 → 0 < me.0.parts → MayAct me.0
      → Allows Law slots id me f.slot (λ n. bit_and n 18446744073709289471)
      (gives flow history (step slots f.slot 18446744073709289471 0 O.none) me)
  gives_it slots id f h item me near held of named longer' carried some_part may s r long at _ =
      let i : ℕ = f.slot in
      let t = found_word flow history s r slots i long near in
      let w = t.w in
      let n : ℕ = get_or s.words i 0 in
      let fits = r.fits id me.0 at in
      let knows = r.knows id me.0 at in
      let slot : h.flow.slot ≡ i = ap (λ (x : FlowId). x.slot) of in
      let first : get_elem? me.0.held 0 ≡ O.some h = ap (λ (l : List Held). get_elem? l 0) held in
      let bears = subst (Bears r.ws) of (fits.bears 0 h first) in
      let same : bears.0 ≡ w = some-injective bears.0 w (sym bears.1 ∙ t.at) in
      let alive : w.live ≡ true = ap (λ (x : Word). x.live) (sym same) ∙ bears.3 in
      let aged : f.generation ≡ w.generation = sym bears.2 ∙ ap (λ (x : Word). x.generation) same in
      let held_on : (k : ℕ) → holds_on k me.0 ≡ at_slot k h.flow + 0 =
      λ k. ap (total (λ (x : Held). at_slot k x.flow)) held in
      let one : holds_on i me.0 ≡ 1 = omega (arith, held_on i, hit_slot i h.flow slot) in
      let count : total (holds_on i) s.views ≡ flag w.busy = r.busy i w t.at in
      let limit = flag_le w.busy in
      let busy : w.busy ≡ true = is_flagged w.busy (omega (arith, term_le (holds_on i) s.views id me.0 at)) in
      let flagged : flag w.busy ≡ 1 = ap flag busy in
      let l' = history item in
      let g = flow item in
      let v' = gave g l' me.0 in
      let F : Word → Word = λ x. record x { busy = false } in
      let w' : Word = F w in
      let home_list : r.H g ≡ h.history = ap r.H (named ∙ sym of) ∙ sym (knows.held 0 h first) in
      let more : Begins (r.H g) l' = inr (subst (λ x. IsLonger x l') (sym home_list) longer') in
      let entries' : l'.entries ≡ h.history.entries ++ longer'.0 = ap (λ (x : History). x.entries) longer'.1 in
      let len : length h.history.entries ≤ length l'.entries =
      omega (arith, ap (length {A = Entry}) entries', length-append h.history.entries longer'.0) in
      let H' = after r.H g l' in
      let item_slot : g.slot ≡ i = ap (λ (x : FlowId). x.slot) named in
      let ds : added g me.0.held l' ≡ deeds_of g h.history longer'.0 = ap (λ z. added g z l') held
      ∙ (ap (λ z. deeds_of g h.history (drop (length h.history.entries) z)) entries'
      ∙ ap (deeds_of g h.history) (drop_front h.history.entries longer'.0)) in (
        v',
        act_gives,
        tt,
        subst (λ c. Law (record {
          words = set s.words i (bit_and n 18446744073709289471);
          homes = put_back s.homes c;
          views = set s.views id v';
        })) (sym carried)
            (changes flow history s r i id (bit_and n 18446744073709289471) w w' me.0 v'
            (set s.homes i (O.some (Some item))) H' (record {
              near = t.near;
              at = t.at;
              me = at;
              is = ap (λ x. bit_and x 18446744073709289471) t.is ∙ and_busy w t.small busy;
              small = t.small;
              long = length-set s.homes i (O.some (Some item));
              elsewhere = λ k ne. set_else s.homes i k (O.some (Some item)) ne;
              pins = refl;
              pins_else = λ k ne. refl;
              holds = omega arith;
              holds_else = λ k ne. omega (arith, held_on k, miss_slot k h.flow (λ q. ne (sym q ∙ slot)));
              outs_else = λ k ne. refl;
              dead = λ gone. absurd (true≢false (sym alive ∙ gone));
              home = λ _ _. record {
                item = item;
                there = set_here s.homes i (O.some (Some item)) (let z = r.wide in let z' = t.near in omega arith);
                named = named ∙ (λ q. record { slot = i; generation = aged q });
                listed = sym (after_same r.H g l');
              };
              empty = λ gone. absurd (true≢false (sym alive ∙ gone));
              same_H = λ x ne. after_else r.H g x l' (λ q. ne (sym q ∙ item_slot));
              my_fits = fits_same r.ws i w w' v' t.at t.near refl refl refl (record {
                pins = fits.pins;
                once = fits.once;
                paid = fits.paid;
                held = λ k. omega arith;
                bears = λ k x q. absurd (some-ne-none x (sym q));
                marks = fits.marks;
                quick = fits.quick;
                spent = λ z. absurd (omega arith);
              });
              others_fit = λ j u ne e. fits_same r.ws i w w' u t.at t.near refl refl refl (r.fits j u e);
              my_knows = record {
                held = λ k x q. absurd (some-ne-none x (sym q));
                seen = more_seen r.H g l' me.0.seen more knows.seen;
              };
              others_know = λ j u ne e. let k = r.knows j u e in record {
                held = λ m x q. let apart : g.slot ≢ x.flow.slot =
                    λ z. absurd (omega (
                      arith,
                      terms_le (holds_on i) s.views id j me.0 u ne at e,
                      term_le (λ (y : Held). at_slot i y.flow) u.held m x q,
                      hit_slot i x.flow (sym z ∙ item_slot),
                    )) in
                    k.held m x q ∙ sym (after_else r.H g x.flow l' apart);
                seen = λ m x q. still r.H g x.flow l' more x.history (k.seen m x q);
              };
              mine = λ x p. subst
                  (λ a. (in_span x p (record { flow = g; from = a; upto = length l'.entries }) + total
                  (in_span x p) me.0.mine) + once_below p (length (r.H x).entries)
                  ≡ total (in_span x p) me.0.mine + once_below p (length (H' x).entries))
                  (sym (ap held_length held))
                  (span_counts r.H g x p (length h.history.entries) l'
                  (ap (λ (y : History). length y.entries) home_list) len me.0.mine);
              parts = refl;
              slow = refl;
              ordered = acts_order r.H H' r.ws (set r.ws i w') s.views id me.0 v' (added g me.0.held l') [] [] at
                  (history_act r.H g l' r.ws i w F me.0 v' (added g me.0.held l') [] [] t.at t.near may
                  (refl, refl, refl, refl, ap (λ k. known_words k (F (word_at me.0.words k)) me.0) item_slot) refl
                  (λ k ne. (refl, refl)) (record {
                    run = λ A p all. subst (λ z. IsRun A (signed p z)) (sym ds)
                        (run_here A p g h.history longer'.0 (inl (sym home_list ∙ all g)));
                    here = λ A p all. ap (λ z. known_of g (played A (signed p z))) ds
                        ∙ (played_here A p g h.history longer'.0 (sym home_list ∙ all g) ∙ sym longer'.1);
                    else_ = λ A p x ne. ap (λ z. known_of x (played A (signed p z))) ds
                        ∙ played_else A p g x h.history longer'.0 ne;
                  })) r.ordered;
              fresh = λ x lt. ap (λ (y : History). y.entries)
                  (after_other r.H g (flow_at i x) l' (λ q. let z = sym aged
                  ∙ (ap (λ (y : FlowId). y.generation) (sym named) ∙ q) in absurd (omega arith)))
                  ∙ r.fresh i w x t.at lt;
            })),
        λ r' e. let eq : item ≡ r' = came_out me.1 (rest me.1) (rest me.1) i i item r' (Some r') carried e refl in
            let p : ◌≡◌ {A = Me (Option R) View} (
              gave (flow item) (history item) me.0,
              rest me.1,
            ) (gave (flow r') (history r') me.0, rest me.1) = λ q.
            (gave (flow (eq q)) (history (eq q)) me.0, rest me.1) in p,
      )
