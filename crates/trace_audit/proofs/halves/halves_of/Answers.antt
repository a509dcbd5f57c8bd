use Rattle.std.proofs.Common.{◌≡◌, List, ℕ, ◌∷◌, ◌++◌, ◌<◌, length, subst, sym, ◌∙◌}
use Rattle.std.proofs.lemmas.List.{take_rest}
use Rattle.trace_audit.specs.TextLines.{text_lines}
use Rattle.trace_audit.proofs.FirstLines.{before_more, few_more, halves_at, count_within, none_at_end}
use Rattle.trace_audit.proofs.halves.halves_of.Goals as goal

pub returns-then-is_mark : goal.returns-then-is_mark
returns-then-is_mark c =
    let text = c.args.text.now in
    let from = c.loop-line.from in
    let line = c.in-Some.line.now in
    let rest = c.in-Some.rest.now in
    let lines = subst (λ (l : List ℕ). text_lines l ≡ line ∷ text_lines rest) (take_rest text from)
    c.in-Some.ensures.lines in
    let parts = subst (λ (l : List ℕ). l ≡ line ++ rest) (take_rest text from) c.in-Some.ensures.parts in
    let shorter = subst (λ (l : List ℕ). length rest < length l) (take_rest text from) c.in-Some.ensures.shorter in
    let before = c.loop-line.invariant.before in
    record {
      halves = halves_at text c.loop-line.count from line rest before lines (sym c.is_mark.ensures ∙ c.if-is_mark.true);
      scenario = before.bytes;
      count = count_within text c.loop-line.count from line rest before lines;
      few = (few_more text c.loop-line.count from line rest c.loop-line.invariant.few c.loop-line.invariant.within parts
          shorter).0;
    }

pub loop-line-preserved : goal.loop-line-preserved
loop-line-preserved c =
    let text = c.args.text.now in
    let from = c.loop-line.from in
    let line = c.in-Some.line.now in
    let rest = c.in-Some.rest.now in
    let lines = subst (λ (l : List ℕ). text_lines l ≡ line ∷ text_lines rest) (take_rest text from)
    c.in-Some.ensures.lines in
    let parts = subst (λ (l : List ℕ). l ≡ line ++ rest) (take_rest text from) c.in-Some.ensures.parts in
    let shorter = subst (λ (l : List ℕ). length rest < length l) (take_rest text from) c.in-Some.ensures.shorter in
    let more = few_more text c.loop-line.count from line rest c.loop-line.invariant.few c.loop-line.invariant.within
    parts shorter in
    record {
      before = before_more text c.loop-line.count from line rest c.loop-line.invariant.before
          c.loop-line.invariant.within parts lines (sym c.is_mark.ensures ∙ c.if-is_mark.false);
      within = more.1;
      few = more.2;
    }

pub returns : goal.returns
returns c =
    none_at_end c.args.text.now c.loop-line.count c.loop-line.from c.loop-line.invariant.before
    (sym (take_rest c.args.text.now c.loop-line.from) ∙ c.in_default.ensures.lines)
