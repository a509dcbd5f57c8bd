use Rattle.std.proofs.Common.{length, unwrap_or, sym, ap, ◌∙◌}
use Rattle.sent_frames.proofs.Addresses.{host_is_placed, place_in}
use Rattle.sent_frames.proofs.frames.Sender.host_at.Goals as goal

pub returns-in-Some : goal.returns-in-Some
returns-in-Some c =
    λ world same.
    let all = c.args.self.now.addresses.now in
    sym (host_is_placed world c.args.addr
    ∙ (ap (λ found. place_in found c.args.addr) (sym same)
    ∙ ap (λ found. unwrap_or found (length all)) (sym c.place_of.ensures.place ∙ c.in-Some.is)))

pub returns-in-None : goal.returns-in-None
returns-in-None c =
    λ world same.
    let all = c.args.self.now.addresses.now in
    sym (host_is_placed world c.args.addr
    ∙ (ap (λ found. place_in found c.args.addr) (sym same)
    ∙ ap (λ found. unwrap_or found (length all)) (sym c.place_of.ensures.place ∙ c.in-None.is)))
