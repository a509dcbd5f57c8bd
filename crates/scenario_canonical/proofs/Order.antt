-- The order of the lines on single frames: they rise, and the next one goes behind them.
use Rattle.std.proofs.Common.{◌≡◌, Bool, true, false, List, [], ◌∷◌, ◌++◌, Option, Some, None, refl, sym, ◌∙◌, ap, cond}
use Rattle.std.specs.Prelude.{⊤}
use Rattle.std.specs.declared.cmp.Ordering.{Ordering}
use Rattle.std.specs.declared.cmp.Ordering.TheVariants.{Less, Equal, Greater}
use Rattle.std.specs.Ordering.{nat_cmp, is_eq, match_ordering, ordering_reverse}
use Rattle.std.specs.Map.{lookup}
use Rattle.std.specs.Cmp.{IsTotalOrder}
use Rattle.std.specs.BTreeMap.{insert_entry}
use Rattle.std.proofs.lemmas.Cmp.{then_total, on_total, nat_cmp_total}
use Rattle.link_script.specs.LinkLines.{target_cmp}
use Rattle.link_script.specs.declared.script.Target.{Target}
use Rattle.link_script.specs.declared.script.LinkAct.{LinkAct}

abbrev pub Entry : Type 0
Entry = Target × LinkAct

abbrev pub Each : {X : Type 0} → (X → Type 0) → List X → Type 0
Each P [] = ⊤
Each P (x ∷ xs) = P x × Each P xs

pub each_if : {X : Type 0} (P Q : X → Type 0) (xs : List X) → ((x : X) → P x → Q x) → Each P xs → Each Q xs
each_if P Q [] f h = tt
each_if P Q (x ∷ xs) f h = (f x h.0, each_if P Q xs f h.1)

pub each_more : {X : Type 0} (P : X → Type 0) (xs : List X) (x : X) → Each P xs → P x → Each P (xs ++ x ∷ [])
each_more P [] x h p = (p, tt)
each_more P (y ∷ ys) x h p = (h.0, each_more P ys x h.1 p)

target_total : IsTotalOrder target_cmp
target_total =
    then_total (on_total (λ (t : Target). t.host) nat_cmp_total)
    (then_total (on_total (λ (t : Target). t.flow) nat_cmp_total)
    (on_total (λ (t : Target). t.number) nat_cmp_total))

-- ----- rising lines
abbrev pub IsBelow : Target → Entry → Type 0
IsBelow target e = target_cmp target e.0 ≡ Less

abbrev pub AreBelow : List Entry → Target → Type 0
AreBelow before target = Each (λ (e : Entry). target_cmp e.0 target ≡ Less) before

abbrev pub IsRising : List Entry → Type 0
IsRising [] = ⊤
IsRising (e ∷ es) = Each (IsBelow e.0) es × IsRising es

-- a frame that has no line yet
abbrev pub line_at : Target → List Entry → Option LinkAct
line_at target es = lookup (λ other. is_eq (target_cmp target other)) es

apart : (o : Ordering) (act : LinkAct) (rest : Option LinkAct) → cond (is_eq o) (Some act) rest ≡ None
    → (is_eq o ≡ false) × (rest ≡ None)
apart Less act rest e = (refl, e)
apart Equal act rest e = absurd (cc (e))
apart Greater act rest e = (refl, e)

each_placed : (P : Entry → Type 0) (es : List Entry) (k : Target) (v : LinkAct) → line_at k es ≡ None → Each P es
    → P (k, v) → Each P (insert_entry target_cmp es k v)
each_placed P [] k v e h p = (p, tt)
each_placed P (x ∷ xs) k v e h p =
    let parts : (is_eq (target_cmp k x.0) ≡ false) × (line_at k xs ≡ None) = apart (target_cmp k x.0) x.1 _ e in
    by_order (target_cmp k x.0) parts.0 (each_placed P xs k v parts.1 h.1 p) where
      by_order : (o : Ordering) → is_eq o ≡ false → Each P (insert_entry target_cmp xs k v)
          → Each P (match_ordering o ((k, v) ∷ x ∷ xs) ((x.0, v) ∷ xs) (x ∷ insert_entry target_cmp xs k v))
      by_order Less i r = (p, h)
      by_order Equal i r = absurd (cc (i))
      by_order Greater i r = (h.0, r)

pub each_inserted : (P : Entry → Type 0) (es : List Entry) (k : Target) (v : LinkAct) → line_at k es ≡ None
    → Each P es → P (k, v) → Each P (insert_entry target_cmp es k v)
each_inserted P es k v e h p = each_placed P es k v e h p

turned : (a b : Target) (o : Ordering) → target_cmp a b ≡ o → target_cmp b a ≡ ordering_reverse o
turned a b o e = target_total.antisymm b a ∙ ap ordering_reverse e

pub rising_inserted : (es : List Entry) (k : Target) (v : LinkAct) → line_at k es ≡ None → IsRising es
    → IsRising (insert_entry target_cmp es k v)
rising_inserted [] k v e h = (tt, tt)
rising_inserted (x ∷ xs) k v e h =
    let parts : (is_eq (target_cmp k x.0) ≡ false) × (line_at k xs ≡ None) = apart (target_cmp k x.0) x.1 _ e in
    by_order (target_cmp k x.0) refl parts.0 (rising_inserted xs k v parts.1 h.1) where
      by_order : (o : Ordering) → target_cmp k x.0 ≡ o → is_eq o ≡ false → IsRising (insert_entry target_cmp xs k v)
          → IsRising (match_ordering o ((k, v) ∷ x ∷ xs) ((x.0, v) ∷ xs) (x ∷ insert_entry target_cmp xs k v))
      by_order Less o i r =
          ((o, each_if (IsBelow x.0) (IsBelow k) xs (λ y below. target_total.trans k x.0 y.0 o below) h.0), h)
      by_order Equal o i r = absurd (cc (i))
      by_order Greater o i r =
          (each_placed (IsBelow x.0) xs k v (apart (target_cmp k x.0) x.1 _ e).1 h.0 (turned k x.0 Greater o), r)

-- ----- in a rising list each goes behind those before it
among : (P : Entry → Type 0) (before : List Entry) (x : Entry) (rest : List Entry) → Each P (before ++ x ∷ rest) → P x
among P [] x rest h = h.0
among P (y ∷ ys) x rest h = among P ys x rest h.1

pub all_below : (before : List Entry) (x : Entry) (rest : List Entry) → IsRising (before ++ x ∷ rest)
    → AreBelow before x.0
all_below [] x rest h = tt
all_below (y ∷ ys) x rest h = (among (IsBelow y.0) ys x rest h.0, all_below ys x rest h.1)

pub none_at : (es : List Entry) (k : Target) → AreBelow es k → line_at k es ≡ None
none_at [] k h = refl
none_at (x ∷ xs) k h = rw (turned x.0 k Less h.0) (none_at xs k h.1)

pub goes_last : (es : List Entry) (k : Target) (v : LinkAct) → AreBelow es k
    → insert_entry target_cmp es k v ≡ es ++ (k, v) ∷ []
goes_last [] k v h = refl
goes_last (x ∷ xs) k v h = rw (turned x.0 k Less h.0) (ap (λ (zs : List Entry). x ∷ zs) (goes_last xs k v h.1))
