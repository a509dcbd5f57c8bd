use Rattle.std.proofs.Common.{rules, ◌<◌, ◌^◌, ◌∙◌, sym}
use Rattle.program_words.proofs.Spelling.{passes_found, passes_not, unparsed}
use Rattle.program_words.proofs.forms.number_in.Goals as goal

pub returns-then-passes : goal.returns-then-passes
returns-then-passes c =
    let few : c.args.most < 2 ^ 32 = search rules in
    passes_found c.args.most c.in-Ok.number c.args.text.now few (sym c.passes.ensures ∙ c.if-passes.true)

pub returns-else-passes : goal.returns-else-passes
returns-else-passes c =
    let few : c.args.most < 2 ^ 32 = search rules in
    passes_not c.args.most c.in-Ok.number c.args.text.now c.parse.result few c.parse.ensures.value.0 c.in-Ok.is
    (sym c.passes.ensures ∙ c.if-passes.false)

pub returns-in_default : goal.returns-in_default
returns-in_default c =
    let few : c.args.most < 2 ^ 32 = search rules in
    unparsed c.args.most c.args.text.now c.parse.result _ few c.parse.ensures.value.0 c.in_default.is
