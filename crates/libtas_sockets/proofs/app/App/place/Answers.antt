use Rattle.std.proofs.Common.{◌≡◌, ◌<◌, sym, ◌∙◌, subst}
use Rattle.std.specs.Prelude.{Some, slice_get, length}
use Rattle.libtas_sockets.specs.Apps.{Application, IsSocket, flow_of}
use Rattle.libtas_sockets.proofs.Pins.{place_is, place_near, place_there}
use Rattle.libtas_sockets.proofs.app.App.place.Goals as goal

pub unreachable-requires : goal.unreachable-requires
unreachable-requires c =
    let any = subst (λ (a : Application). IsSocket a c.args.s) (sym c.self.view_is) c.requires in
    place_there c.args.s.0 c.self.inside.sockets.list any (sym c.place_of.ensures ∙ c.in_default.is)

pub returns-clause-near : goal.returns-clause-near
returns-clause-near c =
    let any = subst (λ (a : Application). IsSocket a c.args.s) (sym c.self.view_is) c.requires in
    subst (λ (a : Application). c.in-Some.at < length a.sockets) c.self.view_is
    (place_near c.args.s.0 c.self.inside.sockets.list c.in-Some.at any (sym c.place_of.ensures ∙ c.in-Some.is))

pub returns-clause-pin : goal.returns-clause-pin
returns-clause-pin c =
    let any = subst (λ (a : Application). IsSocket a c.args.s) (sym c.self.view_is) c.requires in
    subst (λ (a : Application). slice_get a.sockets c.in-Some.at ≡ Some (flow_of a c.args.s)) c.self.view_is
    (place_is c.args.s.0 c.self.inside.sockets.list c.in-Some.at any (sym c.place_of.ensures ∙ c.in-Some.is))
