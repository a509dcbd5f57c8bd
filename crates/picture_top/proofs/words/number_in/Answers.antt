use Rattle.std.proofs.Common.{rules, ◌≡◌, ◌≢◌, decimal, sym}
use Rattle.picture_top.proofs.Spelling.{number_found, written_else, unparsed}
use Rattle.picture_top.proofs.words.number_in.Goals as goal

pub returns-then-eq : goal.returns-then-eq
returns-then-eq c =
    let same : c.args.text.now ≡ decimal c.in-Ok.number = search rules in
    sym (number_found c.args.text.now c.in-Ok.number (search rules) same)

pub returns-else-eq : goal.returns-else-eq
returns-else-eq c =
    let other : c.args.text.now ≢ decimal c.in-Ok.number = search rules in
    sym (written_else c.args.text.now c.parse.result c.in-Ok.number c.parse.ensures.value.0 c.in-Ok.is other)

pub returns-in_default : goal.returns-in_default
returns-in_default c = sym (unparsed c.args.text.now c.parse.result _ c.parse.ensures.value.0 c.in_default.is)
