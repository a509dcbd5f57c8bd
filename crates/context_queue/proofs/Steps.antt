-- Each step keeps the rule of the queue.
use Rattle.std.proofs.Common.{◌≡◌, ◌≢◌, ℕ, zero, suc, ◌+◌, Bool, true, false, eq-eqb, ne_eqb, cond, true≢false}
use Rattle.std.proofs.Common.{List, [], ◌∷◌, ◌++◌, length, set, sym, refl, ap, ◌∙◌, subst, ⊎_elim, append_assoc}
use Rattle.std.proofs.Common.{append-nil, arith}
use Rattle.std.specs.Prelude.{◌==◌}
use mathlib.Core.Option.{Option, none, some, some-ne-none, some-injective}
use mathlib.Core.Logic.{dite}
use native.Mathlib.Decide.{ℕ_discrete}
use lib.ListN.{get_elem?}
use Rattle.crossbeam_queue.specs.Fifo.{Pushes, Pops, Forks, Learns}
use Rattle.crossbeam_queue.proofs.Lists.{at_set, at_snoc}
use Rattle.context_queue.specs.declared.note.Note.{Note}
use Rattle.context_queue.specs.declared.note.Letter.{Letter}
use Rattle.context_queue.specs.declared.delivery.View.{View}
use Rattle.context_queue.specs.Notes.{notes_of}
use Rattle.context_queue.specs.Delivery.{receiver, sender, FitsSender, FitsReceiver, Delivers, posted, drained}
use Rattle.context_queue.specs.Delivery.{Sees, HasAll}

module _ (p : ℕ) where
  notes_step : (x : Letter) (b : Bool) (l m n : List Note) → l ≡ m ++ n
      → cond b (x.note ∷ l) l ≡ cond b (x.note ∷ m) m ++ n
  notes_step x true l m n e = ap (λ y. x.note ∷ y) e
  notes_step x false l m n e = e

  pub notes-append : (xs ys : List Letter) → notes_of p (xs ++ ys) ≡ notes_of p xs ++ notes_of p ys
  notes-append [] ys = refl
  notes-append (x ∷ xs) ys =
      notes_step x (x.from == p) (notes_of p (xs ++ ys)) (notes_of p xs) (notes_of p ys) (notes-append xs ys)

  pub notes_own : (x : Letter) → x.from ≡ p → notes_of p (x ∷ []) ≡ x.note ∷ []
  notes_own x e = ap (λ b. cond b (x.note ∷ []) []) (eq-eqb x.from p e)

  pub notes_other : (x : Letter) → x.from ≢ p → notes_of p (x ∷ []) ≡ []
  notes_other x ne = ap (λ b. cond b (x.note ∷ []) []) (ne_eqb x.from p ne)

abbrev Fits : ℕ → (ℕ → Option ℕ) → (ℕ → List Note) → List Letter → ℕ → View → Type 0
Fits reader seat sent got pass v = FitsSender seat sent pass v × FitsReceiver reader seat sent got pass v

all_set : (F : ℕ → View → Type 0) (views : List View) (port : ℕ) (w : View) → F port w
    → ((j : ℕ) (u : View) → j ≢ port → get_elem? views j ≡ some u → F j u) → (j : ℕ) (u : View)
    → get_elem? (set views port w) j ≡ some u → F j u
all_set F views port w mine others j u e = ⊎_elim
    (λ (x : (j ≡ port) × (w ≡ u)). subst (λ (y : ℕ × View). F y.0 y.1) (λ i. (sym x.0 i, x.1 i)) mine)
    (λ (x : (j ≢ port) × (get_elem? views j ≡ some u)). others j u x.0 x.1)
    (at_set views port j w u e)

off : {A : Type 0} → false ≡ true → A
off e = absurd (true≢false (sym e))

-- f, but y at x
abbrev upd : {A : Type 0} → (ℕ → A) → ℕ → A → ℕ → A
upd f x y z = cond (z == x) y (f z)

upd_same : {A : Type 0} (f : ℕ → A) (x z : ℕ) (y : A) → z ≡ x → upd f x y z ≡ y
upd_same f x z y e = ap (λ b. cond b y (f z)) (eq-eqb z x e)

upd_else : {A : Type 0} (f : ℕ → A) (x z : ℕ) (y : A) → z ≢ x → upd f x y z ≡ f z
upd_else f x z y ne = ap (λ b. cond b y (f z)) (ne_eqb z x ne)

pub begins : Delivers [] (receiver [] 0 ∷ [])
begins = (0, (λ _. none), (λ _. []), [], (λ p. refl), one)
  where
    one : (pass : ℕ) (v : View) → get_elem? (receiver [] 0 ∷ []) pass ≡ some v → Fits 0 (λ _. none) (λ _. []) [] pass v
    one zero v e =
        subst (Fits 0 (λ _. none) (λ _. []) [] 0) (some-injective (receiver [] 0) v e)
        (off, (λ _. (refl, refl, λ p _. (refl, refl))))
    one (suc k) v e = absurd (some-ne-none v (sym e))

pub posts : (n pass : ℕ) (v : View) (x : Letter) → v.sends ≡ true → x.from ≡ v.number
    → Pushes Delivers n pass v x (posted v x)
posts n pass v x may own items views _ h at =
    let reader = h.0 in let seat = h.1 in let sent = h.2 in let got = h.3 in
    let mine = (h.5 pass v at).0 may in
    let w = sender v.number (v.posts ++ x.note ∷ []) in
    let sent' : ℕ → List Note = upd sent v.number (v.posts ++ x.note ∷ []) in (
      w,
      (
        reader,
        seat,
        sent',
        got,
        (λ p. let e = ap (notes_of p) (sym (append_assoc got items (x ∷ [])))
            ∙ notes-append p (got ++ items) (x ∷ []) in
            dite (ℕ_discrete p v.number)
            (λ same. e ∙ ((λ i. (h.4 p ∙ (ap sent same ∙ sym mine.1)) i ++ notes_own p x (own ∙ sym same) i)
            ∙ sym (upd_same sent v.number p (v.posts ++ x.note ∷ []) same)))
            (λ ne. e ∙ ((λ i. h.4 p i ++ notes_other p x (λ q. ne (sym q ∙ own)) i)
            ∙ (append-nil (sent p) ∙ sym (upd_else sent v.number p (v.posts ++ x.note ∷ []) ne))))),
        all_set (Fits reader seat sent' got) views pass w
            ((λ _. (mine.0, sym (upd_same sent v.number v.number (v.posts ++ x.note ∷ []) refl))), off)
            (λ j u other e. let f = h.5 j u e in (
              (λ s. let t = f.0 s in
                  let apart : u.number ≢ v.number =
                  λ q. other (some-injective j pass (sym t.0 ∙ (ap seat q ∙ mine.0))) in
                  (t.0, t.1 ∙ sym (upd_else sent v.number u.number (v.posts ++ x.note ∷ []) apart))),
              (λ g. let t = f.1 g in (
                t.0,
                t.1,
                λ p le. let z = t.2 p le in
                    let apart : p ≢ v.number =
                    λ q. absurd (some-ne-none pass (sym mine.0 ∙ (ap seat (sym q) ∙ z.0))) in
                    (z.0, upd_else sent v.number p (v.posts ++ x.note ∷ []) apart ∙ z.1),
              )),
            )),
      ),
      refl,
    )

pub drains : (pass : ℕ) (v : View) → v.receives ≡ true → Pops Delivers pass v (drained v)
drains pass v may x items views h at =
    let reader = h.0 in let seat = h.1 in let sent = h.2 in let got = h.3 in
    let mine = (h.5 pass v at).1 may in
    let w = receiver (v.taken ++ x ∷ []) v.senders in
    let got' = got ++ x ∷ [] in (
      w,
      (
        reader,
        seat,
        sent,
        got',
        (λ p. ap (notes_of p) (append_assoc got (x ∷ []) items) ∙ h.4 p),
        all_set (Fits reader seat sent got') views pass w
            (off, (λ _. (mine.0, ap (λ l. l ++ x ∷ []) mine.1, mine.2)))
            (λ j u other e. ((h.5 j u e).0, λ g. absurd (other (((h.5 j u e).1 g).0 ∙ sym mine.0)))),
      ),
      refl,
    )

at_end : (l : List View) (a b : View) (j : ℕ) → get_elem? l j ≢ some b → get_elem? (l ++ a ∷ []) j ≡ some b
    → j ≡ length l
at_end [] a b zero n e = refl
at_end [] a b (suc j) n e = absurd (some-ne-none b (sym e))
at_end (x ∷ xs) a b zero n e = absurd (n e)
at_end (x ∷ xs) a b (suc j) n e = ap suc (at_end xs a b j n e)

pub forks : (pass : ℕ) (v : View) → v.receives ≡ true → v.sends ≡ false
    → Forks Delivers pass v (receiver v.taken (v.senders + 1)) (sender v.senders [])
forks pass v may quiet items views h at =
    let reader = h.0 in let seat = h.1 in let sent = h.2 in let got = h.3 in
    let mine = (h.5 pass v at).1 may in
    let l = receiver v.taken (v.senders + 1) in
    let r = sender v.senders [] in
    let vs = set views pass l in
    let seat' : ℕ → Option ℕ = upd seat v.senders (some (length vs)) in
    let fresh = mine.2 v.senders (omega arith) in
    let Old : ℕ → View → Type 0 = λ j u. Fits reader seat' sent got j u × (u.sends ≡ true → u.number ≢ v.senders) in
    let old : (j : ℕ) (u : View) → get_elem? vs j ≡ some u → Old j u = all_set Old views pass l (
      (
        off,
        (λ _. (
          mine.0,
          mine.1,
          λ p le. let z = mine.2 p (omega arith) in
              (upd_else seat v.senders p (some (length vs)) (λ q. absurd (omega arith)) ∙ z.0, z.1),
        )),
      ),
      (λ s. off s),
    )
    (λ j u other e. let f = h.5 j u e in
    let apart : u.sends ≡ true → u.number ≢ v.senders =
    λ s q. absurd (some-ne-none j (sym ((f.0 s).0) ∙ (ap seat q ∙ fresh.0))) in (
      (
        (λ s. let t = f.0 s in (
          upd_else seat v.senders u.number (some (length vs)) (apart s)
              ∙ t.0,
          t.1,
        )),
        (λ g. absurd (other ((f.1 g).0 ∙ sym mine.0))),
      ),
      apart,
    )) in (
      reader,
      seat',
      sent,
      got,
      h.4,
      λ j u e. ⊎_elim (λ x. (old j u x).0)
          (λ (is : r ≡ u). (
            (λ s. (
              ap seat' (sym (ap (λ (y : View). y.number) is))
                  ∙ (upd_same seat v.senders v.senders (some (length vs)) refl
                  ∙ ap some (sym (at_end vs r u j (λ x. (old j u x).1 s (sym (ap (λ (y : View). y.number) is))) e))),
              ap (λ (y : View). y.posts) (sym is) ∙ (sym fresh.1 ∙ ap sent (ap (λ (y : View). y.number) is)),
            )),
            (λ g. off (ap (λ (y : View). y.receives) is ∙ g)),
          ))
          (at_snoc vs r u j e),
    )

pub sees : (pass : ℕ) (v : View) → v.sends ≡ true → Learns Delivers pass v (Sees v)
sees pass v may items views h at = (h.3, h.4 v.number ∙ sym ((h.5 pass v at).0 may).1)

pub has_all : (pass : ℕ) (v : View) → v.receives ≡ true → Learns Delivers pass v (HasAll v)
has_all pass v may items views h at = (h.2, λ p. ap (λ l. notes_of p (l ++ items)) ((h.5 pass v at).1 may).1 ∙ h.4 p)
