use Rattle.std.proofs.Common.{rules, ◌≡◌, ◌∙◌, ◌*◌, ◌%◌, ◌^◌, Some, None, ap, arith}
use Rattle.std.specs.Map.{lookup}
use Rattle.capture_items.specs.Starts.{same_turn}
use Rattle.capture_items.proofs.Listed.{numbered, start_found, starts_are}
use Rattle.capture_items.proofs.starts.FlowStarts.start.Goals as goal

pub returns-in-Some-clause-kept : goal.returns-in-Some-clause-kept
returns-in-Some-clause-kept c =
    let found : lookup (same_turn (record { tuple = c.args.tuple; place = c.args.k })) c.args.self.now
    ≡ Some c.in-Some.syn.now = search rules in
    c.limited.ensures.exact
    ∙ start_found c.args.self.now c.args.tuple c.args.k c.args.n (Some c.in-Some.syn.now) found

pub returns-in-Some-clause-items : goal.returns-in-Some-clause-items
returns-in-Some-clause-items c = λ items are.
    returns-in-Some-clause-kept c ∙ starts_are items c.args.self.now c.args.tuple c.args.k c.args.n are

pub returns-in-None-clause-kept : goal.returns-in-None-clause-kept
returns-in-None-clause-kept c =
    let found : lookup (same_turn (record { tuple = c.args.tuple; place = c.args.k })) c.args.self.now
    ≡ None = search rules in
    let number : c.args.n * 64000 % 2 ^ 32 ≡ 64000 * c.args.n % 2 ^ 32 = omega arith in
    ap numbered number ∙ start_found c.args.self.now c.args.tuple c.args.k c.args.n None found

pub returns-in-None-clause-items : goal.returns-in-None-clause-items
returns-in-None-clause-items c = λ items are.
    returns-in-None-clause-kept c ∙ starts_are items c.args.self.now c.args.tuple c.args.k c.args.n are
