use Rattle.std.proofs.Common.{◌≡◌, ◌+◌, ◌++◌, List, ℕ, codes, decimal, length, [], ◌∷◌, ap, ◌∙◌, arith}
use Rattle.std.proofs.lemmas.Fmt.{decimal_nonempty}
use Rattle.std.proofs.lemmas.List.{length-append}
use Rattle.tas_runs.specs.Report.{caller_text}
use Rattle.run_texts.proofs.Quiet.{line_behind}
use Rattle.run_texts.proofs.Decades.{mark, ticks_alike}
use Rattle.run_texts.proofs.quiet_lines.QuietRunCountedLines.add_line.Goals as goal

pub overflow_sub-first-2 : goal.overflow_sub-first-2
overflow_sub-first-2 c =
    let t : ℕ = c.args.self.now.tick + c.args.j in
    omega (
      arith,
      ap (length {A = ℕ}) c.add_number.ensures.text,
      length-append c.args.waiting.now (decimal t),
      decimal_nonempty t (omega (arith, c.requires.run.tick, c.requires.within)),
      c.len-from.ensures,
      c.len.ensures,
    )

pub returns-clause-text : goal.returns-clause-text
returns-clause-text c =
    let r = c.args.self.now in
    let t : ℕ = r.tick + c.args.j in
    let n : ℕ = r.number + c.args.j in
    let end : List ℕ = codes " " ++ (codes "tick" ++ (codes " = " ++ (codes "quiet" ++ 10 ∷ []))) in
    c.add.ensures.text
    ∙ (ap (λ (xs : List ℕ). xs ++ end) (c.add_number-2.ensures.text
    ∙ ap (λ (xs : List ℕ). xs ++ decimal n) (c.add_caller.ensures.text
    ∙ ap (λ (xs : List ℕ). xs ++ mark r.caller) c.add_number.ensures.text))
    ∙ line_behind c.args.waiting.now (decimal t) (codes " ") (caller_text r.caller) (codes ".") (decimal n)
    (codes " ") (codes "tick") (codes " = ") (codes "quiet") (10 ∷ []))

pub returns-clause-alike : goal.returns-clause-alike
returns-clause-alike c =
    let r = c.args.self.now in
    let t : ℕ = r.tick + c.args.j in
    let n : ℕ = r.number + c.args.j in
    let tick : length c.add_number.new.waiting ≡ length c.args.waiting.now + length (decimal t) =
    ap (length {A = ℕ}) c.add_number.ensures.text ∙ length-append c.args.waiting.now (decimal t) in
    let caller : length c.add_caller.new.waiting ≡ length c.add_number.new.waiting + length (mark r.caller) =
    ap (length {A = ℕ}) c.add_caller.ensures.text ∙ length-append c.add_number.new.waiting (mark r.caller) in
    let number : length c.add_number-2.new.waiting ≡ length c.add_caller.new.waiting + length (decimal n) =
    ap (length {A = ℕ}) c.add_number-2.ensures.text ∙ length-append c.add_caller.new.waiting (decimal n) in
    let some_tick = decimal_nonempty t (omega (arith, c.requires.run.tick, c.requires.within)) in
    let some_number = decimal_nonempty n (omega (arith, c.requires.run.number, c.requires.within)) in
    ticks_alike r.caller r.number r.tick c.args.j r.more _ _ c.requires.within
    (omega (arith, c.requires.run.number)) (omega (arith, c.requires.run.tick))
    (omega (arith, tick, some_tick, c.len-from.ensures, c.len.ensures))
    (omega (arith, tick, caller, number, some_number, c.len-from.ensures, c.len-2.ensures))
