-- An entry that may follow leaves the flow that is shown right, and one that may not makes it wrong.
use Rattle.std.proofs.Common.{◌≡◌, List, [], ◌∷◌, ◌++◌, Option, Some, None}
use Rattle.std.proofs.Common.{ap, subst, sym, ◌∙◌}
use Rattle.std.specs.Prelude.{slice_get, IfSome}
use Rattle.std.specs.Option.{option_map}
use Rattle.tas_model.specs.declared.entry.Entry.{Entry}
use Rattle.tas_model.specs.declared.entry.HostParams.{HostParams}
use Rattle.tas_model.specs.declared.entry.FourTuple.{FourTuple}
use Rattle.tas_model.specs.LegalHistory.{Legal, MayFollow}
use Rattle.flow_judge.specs.Judging.{Judge, HasJudged}
use Rattle.flow_judge.proofs.Entries.{last_may}
use Rattle.report_lines.specs.Lines.{Made}
use Rattle.trace_audit.specs.Shown.{ShownFlow, Now, with_entry, with_line}
use Rattle.trace_audit.specs.Right.{IsFromPeer, AreLegal, IsRight, IsRightNow, IsStateOf, IsReadOf}
use Rattle.trace_audit.specs.Watching.{IsJudged, IsOpen}
use Rattle.trace_audit.proofs.Lists.{same_head}

-- ----- what is right now
pub right_of : (hosts : List HostParams) (n : Now) (f : ShownFlow) (params : HostParams) → n.flow ≡ Some f
    → slice_get hosts n.host ≡ Some params → IsRightNow hosts n → IsRight hosts params f
right_of hosts n f params flow host right =
    subst (λ (o : Option HostParams). IfSome o (λ p. IsRight hosts p f)) host
    (subst (λ (o : Option ShownFlow). IfSome o (λ g. IfSome (slice_get hosts n.host) (λ p. IsRight hosts p g)))
    flow right)

-- ----- an entry more
-- entries of which there is one are legal
legal_of : (hosts : List HostParams) (params : HostParams) (tuple : FourTuple) (xs : List Entry) (y : Entry)
    (ys : List Entry) → xs ≡ y ∷ ys → AreLegal hosts params tuple xs → Legal params xs × IsFromPeer hosts tuple y.call
legal_of hosts params tuple [] y ys e legal = absurd (cc (e))
legal_of hosts params tuple (x ∷ xs) y ys e legal =
    (legal.0, subst (λ (z : Entry). IsFromPeer hosts tuple z.call) (head_is x y xs ys e) legal.1) where
      head_is : (x y : Entry) (xs ys : List Entry) → ◌≡◌ {A = List Entry} (x ∷ xs) (y ∷ ys) → x ≡ y
      head_is x y xs ys e = same_head x y xs ys e

pub judged_wrong : (hosts : List HostParams) (j : Judge) (n : Now) (x : Entry) → IsJudged hosts j n
    → ((h : List Entry) → HasJudged j h → MayFollow j.params h x → ⊥) → IsRightNow hosts (with_line n (Made x)) → ⊥
judged_wrong hosts j n x is wrong right =
    let now : IsRight hosts j.params (with_entry x is.shown) =
    right_of hosts (with_line n (Made x)) (with_entry x is.shown) j.params (ap (option_map (with_entry x)) is.flow)
    is.params right in
    let legal = legal_of hosts j.params is.shown.tuple (is.shown.entries ++ x ∷ []) is.some.0 (is.some.1 ++ x ∷ [])
    (ap (λ (l : List Entry). l ++ x ∷ []) is.some.2) now.legal in
    wrong is.shown.entries is.judged (last_may j.params is.shown.entries x is.judged.legal legal.0)

pub judged_right : (hosts : List HostParams) (j k : Judge) (n : Now) (x : Entry) → IsJudged hosts j n
    → IfSome n.flow IsOpen → k.params ≡ j.params
    → ((h : List Entry) → HasJudged j h → MayFollow j.params h x × HasJudged k (h ++ x ∷ []))
    → IsJudged hosts k (with_line n (Made x))
judged_right hosts j k n x is opens same next =
    let judged : HasJudged k (is.shown.entries ++ x ∷ []) = (next is.shown.entries is.judged).1 in
    let unended : IsOpen is.shown = subst (λ (o : Option ShownFlow). IfSome o IsOpen) is.flow opens in
    let begun = legal_of hosts j.params is.shown.tuple is.shown.entries is.some.0 is.some.1 is.some.2 is.right.legal in
    let legal : Legal k.params ((is.some.0 ∷ is.some.1) ++ x ∷ []) =
    subst (λ (l : List Entry). Legal k.params (l ++ x ∷ [])) is.some.2 judged.legal in record {
      shown = with_entry x is.shown;
      flow = ap (option_map (with_entry x)) is.flow;
      params = is.params ∙ ap (λ (p : HostParams). Some p) (sym same);
      some = (is.some.0, is.some.1 ++ x ∷ [], ap (λ (l : List Entry). l ++ x ∷ []) is.some.2);
      judged = judged;
      right = record {
        legal = subst (λ (l : List Entry). AreLegal hosts k.params is.shown.tuple (l ++ x ∷ [])) (sym is.some.2)
            (legal, begun.1);
        state = subst (λ o. IfSome o (IsStateOf k.params (is.shown.entries ++ x ∷ []))) (sym unended.0) tt;
        read = subst (λ o. IfSome o (IsReadOf (is.shown.entries ++ x ∷ []))) (sym unended.1) tt;
      };
    }
