-- The delays of a link stay those of its lines.
use Rattle.std.proofs.Common.{◌≡◌, ◌≤◌, ℕ, Bool, true, false, cond, leb, List, [], ◌∷◌, Some, None, Option, refl, sym}
use Rattle.std.proofs.Common.{◌∙◌, ap, subst, arith, max, true≢false}
use Rattle.std.specs.Prelude.{IsNone}
use Rattle.std.specs.Map.{lookup}
use Rattle.std.specs.declared.cmp.Ordering.{Ordering}
use Rattle.std.specs.declared.cmp.Ordering.TheVariants.{Less, Equal, Greater}
use Rattle.std.specs.BTreeMap.{BTreeMap, get, Updates, is_at, insert_entry}
use Rattle.std.specs.BTreeSet.{BTreeSet, contains}
use Rattle.std.specs.Ordering.{nat_cmp, is_eq, match_ordering}
use Rattle.tas_model.specs.declared.entry.FrameId.{FrameId}
use Rattle.link_script.specs.DueFrames.{act_on, delay_by, longest_of, longest_delay}
use Rattle.link_script.specs.LinkLines.{LinkLines, target_cmp, line_on, HasDelays, AreDelays, TakesDelay}
use Rattle.link_script.specs.declared.script.DropEach.{DropEach}
use Rattle.link_script.specs.declared.script.Target.{Target}
use Rattle.link_script.specs.declared.script.LinkAct.{LinkAct}
use Rattle.link_script.specs.declared.script.LinkAct.TheVariants as acts

-- one line more, whose delay was taken
has_delays_more : {m n : BTreeMap Target LinkAct} {ds es : BTreeSet ℕ} {act : LinkAct} (target : Target)
    → HasDelays m ds → TakesDelay ds es act
    → ((q : Target) → get target_cmp n q ≡ cond (is_at (target_cmp target) q) (Some act) (get target_cmp m q))
    → HasDelays n es
has_delays_more {m} {n} {ds} {es} {act} target h t u = record {
  none = t.kept 0 h.none;
  each = λ q ticks is. by_key q ticks (is_at (target_cmp target) q) (sym (u q) ∙ is);
}
  where
    by_key : (q : Target) (ticks : ℕ) (b : Bool) → cond b (Some act) (get target_cmp m q) ≡ Some (acts.Delay ticks)
        → contains nat_cmp es ticks ≡ true
    by_key q ticks true e = t.taken ticks (cc (e))
    by_key q ticks false e = t.kept ticks (h.each q ticks e)

-- the same of the lines as contracts see them
pub as_seen : {m : BTreeMap Target LinkAct} {ds : BTreeSet ℕ} {lines : LinkLines} (drops : List DropEach)
    → record { acts = m.entries; drops = drops } ≡ lines → HasDelays m ds → AreDelays lines ds
as_seen {m} {ds} {lines} drops e h =
    subst (λ l. AreDelays l ds) e (record { none = h.none; each = λ target ticks is. h.each target ticks is })

-- ----- the longest one
first_of : (a b : ℕ) → a ≤ max a b
first_of a b = grind (arith)

second_of : (a b c : ℕ) → c ≤ b → c ≤ max a b
second_of a b c h = grind (arith, h)

turned : (a b c : ℕ) → max a (max b c) ≡ max b (max a c)
turned a b c = grind (arith)

-- one line more, on a frame that had none
longest_more : (lines : List (Target × LinkAct)) (target : Target) (act : LinkAct)
    → lookup (λ other. is_eq (target_cmp target other)) lines ≡ None
    → longest_of (insert_entry target_cmp lines target act) ≡ max (delay_by (Some act)) (longest_of lines)
longest_more [] target act none = refl
longest_more (line ∷ lines) target act none =
    by_order (target_cmp target line.0) none (longest_more lines target act)
  where
    by_order : (o : Ordering)
        → cond (is_eq o) (Some line.1) (lookup (λ other. is_eq (target_cmp target other)) lines) ≡ None
        → (lookup (λ other. is_eq (target_cmp target other)) lines ≡ None
        → longest_of (insert_entry target_cmp lines target act) ≡ max (delay_by (Some act)) (longest_of lines))
        → longest_of (match_ordering o ((target, act) ∷ line ∷ lines) ((line.0, act) ∷ lines)
        (line ∷ insert_entry target_cmp lines target act))
        ≡ max (delay_by (Some act)) (max (delay_by (Some line.1)) (longest_of lines))
    by_order Less h rest = refl
    by_order Equal h rest = absurd (cc (h))
    by_order Greater h rest =
        ap (max (delay_by (Some line.1))) (rest h)
        ∙ turned (delay_by (Some line.1)) (delay_by (Some act)) (longest_of lines)

none_there : {A : Type 0} (o : Option A) → IsNone o → o ≡ None
none_there None h = refl
none_there (Some x) h = absurd (true≢false h)

-- both
pub kept_more : {m n : BTreeMap Target LinkAct} {ds es : BTreeSet ℕ} {act : LinkAct} {longest longer : ℕ}
    {lines : LinkLines} (drops : List DropEach) (target : Target)
    → record { acts = m.entries; drops = drops } ≡ lines
    → HasDelays m ds × (longest ≡ longest_of m.entries) → TakesDelay ds es act
    → longer ≡ max (delay_by (Some act)) longest → IsNone (line_on lines target)
    → ((q : Target) → get target_cmp n q ≡ cond (is_at (target_cmp target) q) (Some act) (get target_cmp m q))
    → n.entries ≡ insert_entry target_cmp m.entries target act
    → HasDelays n es × (longer ≡ longest_of n.entries)
kept_more {m} {n} {ds} {es} {act} {longest} {longer} {lines} drops target same h t up fresh u entries = (
  has_delays_more target h.0 t u,
  up ∙ (ap (max (delay_by (Some act))) h.1
      ∙ (sym (longest_more m.entries target act
      (none_there _ (subst (λ (l : LinkLines). IsNone (line_on l target)) (sym same) fresh)))
      ∙ ap longest_of (sym entries))),
)

-- a line's delay is no longer
within : (lines : List (Target × LinkAct)) (target : Target) (act : LinkAct)
    → lookup (λ other. is_eq (target_cmp target other)) lines ≡ Some act
    → delay_by (Some act) ≤ longest_of lines
within [] target act is = absurd (cc (is))
within (line ∷ lines) target act is = by_key (is_eq (target_cmp target line.0)) is (within lines target act)
  where
    by_key : (b : Bool) → cond b (Some line.1) (lookup (λ other. is_eq (target_cmp target other)) lines) ≡ Some act
        → (lookup (λ other. is_eq (target_cmp target other)) lines ≡ Some act
        → delay_by (Some act) ≤ longest_of lines)
        → delay_by (Some act) ≤ max (delay_by (Some line.1)) (longest_of lines)
    by_key true e rest =
        subst (λ o. delay_by o ≤ max (delay_by (Some line.1)) (longest_of lines)) e
        (first_of (delay_by (Some line.1)) (longest_of lines))
    by_key false e rest =
        second_of (delay_by (Some line.1)) (longest_of lines) (delay_by (Some act)) (rest e)

-- what a line does to a frame delays it by no more
pub no_longer : (id : FrameId) (lines : LinkLines) → delay_by (act_on lines id) ≤ longest_delay lines
no_longer id lines = by_number (leb id.number 4294967294)
  where
    target : Target
    target = record { host = id.host; flow = id.flow; number = id.number }

    by_act : (o : Option LinkAct) → line_on lines target ≡ o → delay_by o ≤ longest_delay lines
    by_act None is = omega arith
    by_act (Some act) is = within lines.acts target act is

    by_number : (b : Bool) → delay_by (cond b (line_on lines target) None) ≤ longest_delay lines
    by_number true = by_act (line_on lines target) refl
    by_number false = omega arith
