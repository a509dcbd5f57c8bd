use Rattle.std.proofs.Common.{◌≡◌, ◌+◌, ℕ, decimal, length, ap, ◌∙◌, arith}
use Rattle.std.proofs.lemmas.Fmt.{decimal_nonempty}
use Rattle.std.proofs.lemmas.List.{length-append}
use Rattle.run_texts.specs.Records.{word_of}
use Rattle.run_texts.proofs.RecordTexts.{records_alike}
use Rattle.run_texts.proofs.record_lines.LogRunCountedLines.add_line.Goals as goal

pub returns-clause-alike : goal.returns-clause-alike
returns-clause-alike c =
    let r = c.args.self.now in
    let n : ℕ = r.first.number + c.args.j in
    let tick : length c.add_number.new.waiting ≡ length c.args.waiting.now + length (decimal r.tick) =
    ap (length {A = ℕ}) c.add_number.ensures.text ∙ length-append c.args.waiting.now (decimal r.tick) in
    let word : length c.add.new.waiting ≡ length c.add_number.new.waiting + length (word_of r.kind) =
    omega (arith, c.add.ensures.len, ap (length {A = ℕ}) c.word.ensures.text) in
    let number : length c.add_number-2.new.waiting ≡ length c.add.new.waiting + length (decimal n) =
    ap (length {A = ℕ}) c.add_number-2.ensures.text ∙ length-append c.add.new.waiting (decimal n) in
    let some_number = decimal_nonempty n (omega (arith, c.requires.within)) in
    records_alike r.tick r.kind r.first.number c.args.j _ _ c.requires.within (omega arith)
    (omega (arith, tick, word, number, some_number, c.len-from.ensures, c.len.ensures))
