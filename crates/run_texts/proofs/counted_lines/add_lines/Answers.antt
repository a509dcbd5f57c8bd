use Rattle.std.proofs.Common.{◌≡◌, ◌+◌, ◌-◌, ◌++◌, ℕ, List, length, take, drop, set, slice_index, refl, ap, sym, ◌∙◌}
use Rattle.std.proofs.Common.{arith}
use Rattle.std.proofs.lemmas.List.{length-append, length-set}
use Rattle.run_texts.proofs.Counting.{line_more, put_there}
use Rattle.run_texts.proofs.counted_lines.add_lines.Goals as goal

pub loop-k-preserved : goal.loop-k-preserved
loop-k-preserved g c =
    let f : ℕ → List ℕ = g.L.CountedLines.line c.args.lines.now in
    let last : ℕ = g.L.CountedLines.more c.args.lines.now in
    let j : ℕ = c.args.j in
    let k : ℕ = c.loop-k.k in
    let digits = c.add_line-digits.result in
    let line : List ℕ = c.copy_from_slice.new.self in
    let at : ℕ = c.len-from.result in
    let all : List ℕ = c.as_slice.result.now in
    let there : List ℕ = take (length all - at) (drop at all) in
    let x : ℕ = slice_index there digits.first + (k + 1) in
    let y : ℕ = slice_index there digits.second + (k + 1) in
    let is : line ≡ f j =
    put_there line c.as_slice-2.result.now c.add_line-digits.new.waiting c.args.waiting.now (f j) at
    c.copy_from_slice.ensures.after c.as_slice-2.ensures c.add_line-digits.ensures.text c.len-from.ensures in
    let same : there ≡ line =
    put_there there all c.add_line-digits.new.waiting c.args.waiting.now (f j) at refl c.as_slice.ensures
    c.add_line-digits.ensures.text c.len-from.ensures ∙ sym is in
    let put : c.push_with.new.self ≡ c.loop-k.waiting ++ set (set line digits.first x) digits.second y =
    c.push_with.ensures in
    record {
      text = put
          ∙ line_more f j last digits.first digits.second k x y line c.args.waiting.now c.loop-k.waiting
          c.add_line-digits.ensures.alike is
          (omega (arith, c.loop-k-test.true, c.min-more.ensures, c.followers.ensures, c.requires.within))
          (ap (λ (l : List ℕ). slice_index l digits.first + (k + 1)) same)
          (ap (λ (l : List ℕ). slice_index l digits.second + (k + 1)) same)
          (omega (arith, c.loop-k-test.true, c.min-more.ensures, c.from.ensures, c.min-alike.ensures))
          (omega (arith, c.loop-k-test.true, c.min-more.ensures, c.from.ensures, c.min-alike.ensures))
          c.loop-k.invariant.text;
      short = omega (
        arith,
        ap (length {A = ℕ}) put,
        length-append c.loop-k.waiting (set (set line digits.first x) digits.second y),
        length-set (set line digits.first x) digits.second y,
        length-set line digits.first x,
        c.loop-k.invariant.short,
        c.add_line-digits.ensures.short,
        ap (length {A = ℕ}) is,
        ap (length {A = ℕ}) c.add_line-digits.ensures.text,
        length-append c.args.waiting.now (f j),
      );
    }
