-- No line of a scenario's text is the mark `==`.
use Rattle.std.proofs.Common.{◌≡◌, ℕ, ◌+◌, Bool, true, false, cond, eqb, List, [], ◌∷◌, ◌++◌, length}
use Rattle.std.proofs.Common.{refl, sym, ap, subst, ◌∙◌, Result, Ok, Err}
use Rattle.std.specs.Prelude.{codes}
use Rattle.std.specs.List.{slice_split, onto_first}
use Rattle.std.specs.Str.Lines.{lines_of_parts, strip_carriage_return}
use Rattle.std.proofs.Common.{arith}
use Rattle.std.proofs.lemmas.Bool.Decides.{nat_tests}
use Rattle.std.proofs.lemmas.Bool.{eqb-true}
use Rattle.std.proofs.lemmas.List.{append_cancel_right}
use Rattle.std.proofs.lemmas.Slice.Eq.{bytes_eq-Decides}
use Rattle.scenario_text.specs.Statements.{reading}
use Rattle.scenario_text.specs.declared.draft.Draft.{Draft}
use Rattle.scenario_text.specs.declared.scenario.Scenario.{Scenario}
use Rattle.scenario_text.specs.declared.reading.ScenarioFault.{ScenarioFault}
use Rattle.scenario_text.specs.declared.reading.ScenarioFault.TheVariants.{Refused}
use Rattle.scenario_text.specs.Drafts.{no_draft}
use Rattle.scenario_text.specs.Reads.{taken, read_from, reads}
use Rattle.scenario_text.proofs.Cuts.{more_parts}
use Rattle.trace_audit.specs.TextLines.{onto, text_lines, mark, is_mark, LacksMark}

-- ----- lines and parts
abbrev is_lf : ℕ → Bool
is_lf c = eqb c 10

-- the last part is a line where it has a byte
abbrev last_in : List ℕ → List (List ℕ)
last_in [] = []
last_in (b ∷ bs) = (b ∷ bs) ∷ []

-- the lines that these parts between LFs are
abbrev lines_in : List (List ℕ) → List (List ℕ)
lines_in [] = []
lines_in (x ∷ []) = last_in x
lines_in (x ∷ y ∷ more) = (x ++ 10 ∷ []) ∷ lines_in (y ∷ more)

onto_parts : (c : ℕ) (parts : List (List ℕ)) → onto c (lines_in parts) ≡ lines_in (onto_first c parts)
onto_parts c [] = refl
onto_parts c ([] ∷ []) = refl
onto_parts c ((b ∷ bs) ∷ []) = refl
onto_parts c (x ∷ y ∷ more) = refl

lines_by_parts : (text : List ℕ) → text_lines text ≡ lines_in (slice_split is_lf text)
lines_by_parts [] = refl
lines_by_parts (c ∷ cs) = by_first (eqb c 10) refl (lines_by_parts cs) where
  by_first : (b : Bool) → eqb c 10 ≡ b → text_lines cs ≡ lines_in (slice_split is_lf cs)
      → cond b ((c ∷ []) ∷ text_lines cs) (onto c (text_lines cs))
      ≡ lines_in (cond b ([] ∷ slice_split is_lf cs) (onto_first c (slice_split is_lf cs)))
  by_first true e more =
      let same : c ≡ 10 = eqb-true c 10 e in
      ap (λ (n : ℕ). (n ∷ []) ∷ text_lines cs) same
      ∙ (ap (λ (ls : List (List ℕ)). (10 ∷ []) ∷ ls) more
      ∙ more_parts is_lf cs (λ parts. (10 ∷ []) ∷ lines_in parts ≡ lines_in ([] ∷ parts)) (λ y ys. refl))
  by_first false e more = ap (onto c) more ∙ onto_parts c (slice_split is_lf cs)

-- ----- what is refused
mark_refused : (d : Draft) → taken d (codes "==") ≡ Err 3
unfolding reading
mark_refused d = refl

ended_refused : (d : Draft) → taken d (codes "==\n") ≡ Err 2
unfolding reading
ended_refused d = refl

-- a line that is taken
went_on : (n : ℕ) (d : Draft) (line : List ℕ) (texts : List (List ℕ)) (s : Scenario)
    → read_from n d (line ∷ texts) ≡ Ok s
    → (next : Draft) × (taken d line ≡ Ok next) × (read_from (n + 1) next texts ≡ Ok s)
went_on n d line texts s e = by_taken (taken d line) refl e where
  by_taken : (r : Result Draft ℕ) → taken d line ≡ r
      → ◌≡◌ {A = Result Scenario ScenarioFault}
      (elim r [ Ok next ↦ read_from (n + 1) next texts | Err kind ↦ Err (Refused n kind) ]) (Ok s)
      → (next : Draft) × (taken d line ≡ Ok next) × (read_from (n + 1) next texts ≡ Ok s)
  by_taken (Ok next) is e = (next, is, e)
  by_taken (Err kind) is e = absurd (cc (e))

not_marked : (line : List ℕ) → (line ≡ mark → ⊥) → is_mark line ≡ false
not_marked line other = by_test (is_mark line) refl where
  by_test : (b : Bool) → is_mark line ≡ b → b ≡ false
  by_test true e = absurd (other ((bytes_eq-Decides line mark).0 e))
  by_test false e = refl

-- a part that is a mark, when an LF follows
part_is : (x : List ℕ) → x ++ 10 ∷ [] ≡ mark → x ≡ codes "=="
part_is x e = append_cancel_right x (codes "==") (10 ∷ []) e

inner_other : (d next : Draft) (x : List ℕ) → taken d (strip_carriage_return x) ≡ Ok next → x ++ 10 ∷ [] ≡ mark → ⊥
inner_other d next x is e =
    let same : x ≡ codes "==" = part_is x e in
    let refused : taken d (strip_carriage_return x) ≡ Err 3 =
    ap (λ (y : List ℕ). taken d (strip_carriage_return y)) same ∙ mark_refused d in
    absurd (cc (is, refused))

last_other : (d next : Draft) (x : List ℕ) → taken d x ≡ Ok next → x ≡ mark → ⊥
last_other d next x is e =
    let refused : taken d x ≡ Err 2 = ap (taken d) e ∙ ended_refused d in absurd (cc (is, refused))

some_length : (b : ℕ) (bs : List ℕ) → lines_of_parts ((b ∷ bs) ∷ []) ≡ (b ∷ bs) ∷ []
some_length b bs = let e : eqb (length (b ∷ bs)) 0 ≡ false = grind (arith, nat_tests) in rw e refl

parts_lack : (parts : List (List ℕ)) (n : ℕ) (d : Draft) (s : Scenario) → read_from n d (lines_of_parts parts) ≡ Ok s
    → LacksMark (lines_in parts)
parts_lack [] n d s e = tt
parts_lack ([] ∷ []) n d s e = tt
parts_lack ((b ∷ bs) ∷ []) n d s e =
    let on = went_on n d (b ∷ bs) [] s
    (subst (λ (ls : List (List ℕ)). read_from n d ls ≡ Ok s) (some_length b bs) e) in
    (not_marked (b ∷ bs) (last_other d on.0 (b ∷ bs) on.1), tt)
parts_lack (x ∷ y ∷ more) n d s e =
    let on = went_on n d (strip_carriage_return x) (lines_of_parts (y ∷ more)) s e in (
      not_marked (x ++ 10 ∷ []) (inner_other d on.0 x on.1),
      parts_lack (y ∷ more) (n + 1) on.0 s on.2,
    )

-- A text that is a scenario has no line `==`.
pub scenario_lacks : (text : List ℕ) (s : Scenario) → reads text ≡ Ok s → LacksMark (text_lines text)
unfolding reads
scenario_lacks text s e =
    subst LacksMark (sym (lines_by_parts text)) (parts_lack (slice_split is_lf text) 1 no_draft s e)
