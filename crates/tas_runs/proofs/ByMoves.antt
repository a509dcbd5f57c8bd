-- Whatever a replay's script asks is a row of moves of its application.
use Rattle.std.proofs.Common.{◌≡◌, ℕ, ◌&&◌, not, Bool, true, false, List, [], ◌∷◌, length, slice_get, get_or, position}
use Rattle.std.proofs.Common.{Option, Some, None, refl, sym, ap, ◌∙◌, true≢false}
use Rattle.tas_model.specs.declared.entry.FourTuple.{FourTuple}
use Rattle.tas_model.specs.declared.entry.Seg.{Seg}
use Rattle.tas_model.specs.declared.entry.Call.{Call}
use Rattle.tas_model.specs.declared.entry.Call.TheVariants as calls
use Rattle.tas_model.specs.LegalHistory.{shown}
use Rattle.host_rounds.specs.declared.log.LogEvent.TheVariants as events
use Rattle.host_rounds.specs.Lists.{change_at}
use Rattle.host_rounds.specs.Hosts.{Live, Host, Holder, Application, GivenUp, Starts, next_start, endpoint, is_over}
use Rattle.host_rounds.specs.Hosts.{is_running, is_held, with_call, at_flow, is_known, is_indexed_as, lowest_free}
use Rattle.host_rounds.specs.Scripts.{Site}
use Rattle.host_rounds.specs.Moves.{Calls, Opens, Notes, Holds, MayCall, MayMove, AreByMoves}
use Rattle.host_rounds.specs.Rounds.{on_host}
use Rattle.host_rounds.proofs.Rows.{change_known, change_twice, change_none, with_flows, Row, none, joined}
use Rattle.host_rounds.proofs.Steps.{accept_steps, send_steps, shut_steps, abort_steps, recv_steps}
use Rattle.tas_runs.specs.Records.{Content, Damaged, Remote, Local, Item}
use Rattle.tas_runs.specs.Starts.{first_start}
use Rattle.tas_runs.specs.LocalScript.{Stage, Beginning, Accepting, Sending, Shutting, Aborting, Receiving, Leaving}
use Rattle.tas_runs.specs.LocalScript.{Shown, nothing_shown, all_shown, the_app, connects, opened_by_connect}
use Rattle.tas_runs.specs.LocalScript.{connected_where, connected, is_wanted, asked, asked_where, given_up, at_stage}
use Rattle.tas_runs.specs.LocalScript.{served_at, served_where, served_flow, served_content, capture_scripts}

-- ----- a call of a flow that stands
may_call : (host : Host) (n : ℕ) (l : Live) (call : Call) (offer : List ℕ) → slice_get host.flows n ≡ Some l
    → MayCall l the_app call offer → MayMove host (Calls n the_app call offer)
may_call host n l call offer here may = rw here may

one_call : (starts : Starts) (t : ℕ) (host : Host) (n : ℕ) (l : Live) (call : Call) (offer : List ℕ) (f : Live → Live)
    → slice_get host.flows n ≡ Some l → MayCall l the_app call offer
    → f l ≡ with_call l the_app t call offer → Row starts t host (at_flow n f host)
one_call starts t host n l call offer f here may same =
    let e : change_at n (λ (m : Live). with_call m the_app t call offer) host.flows ≡ change_at n f host.flows =
    change_known n (λ (m : Live). with_call m the_app t call offer) f host.flows l here (sym same) in
    (Calls n the_app call offer ∷ [], (may_call host n l call offer here may, ap (with_flows host) e))

no_call : (starts : Starts) (t : ℕ) (host : Host) (n : ℕ) (l : Live) (f : Live → Live)
    → slice_get host.flows n ≡ Some l → f l ≡ l → Row starts t host (at_flow n f host)
no_call starts t host n l f here same =
    let e : change_at n (λ (m : Live). m) host.flows ≡ change_at n f host.flows =
    change_known n (λ (m : Live). m) f host.flows l here (sym same) in
    ([], ap (with_flows host) (sym (change_none n host.flows) ∙ e))

hold : (starts : Starts) (t : ℕ) (host : Host) (n : ℕ) (l : Live) (holder : Holder) (f : Live → Live)
    → slice_get host.flows n ≡ Some l → f l ≡ record l { holder = holder } → Row starts t host (at_flow n f host)
hold starts t host n l holder f here same =
    let e : change_at n (λ (m : Live). record m { holder = holder }) host.flows ≡ change_at n f host.flows =
    change_known n (λ (m : Live). record m { holder = holder }) f host.flows l here (sym same) in
    (Holds n holder ∷ [], (tt, ap (with_flows host) e))

accept : (starts : Starts) (t : ℕ) (host : Host) (n : ℕ) (l : Live) (f : Live → Live)
    → slice_get host.flows n ≡ Some l → is_running l ≡ true
    → f l ≡ record (with_call l the_app t calls.Accept []) { holder = Application 0 }
    → Row starts t host (at_flow n f host)
accept starts t host n l f here running same =
    let call : Live → Live = λ (m : Live). with_call m the_app t calls.Accept [] in
    let take : Live → Live = λ (m : Live). record m { holder = Application 0 } in
    let e : change_at n take (change_at n call host.flows) ≡ change_at n f host.flows =
    change_twice n call take host.flows ∙ change_known n (λ (m : Live). take (call m)) f host.flows l here (sym same) in
    let may : MayCall l the_app calls.Accept [] =
    record { kind = tt; offers = tt; steps = λ u. accept_steps (endpoint l) u (shown (endpoint l) []) running } in (
      Calls n the_app calls.Accept [] ∷ Holds n (Application 0) ∷ [],
      (may_call host n l calls.Accept [] here may, (tt, ap (with_flows host) e)),
    )

-- ----- a stage
and_right : (a b : Bool) → (a && b) ≡ true → b ≡ true
and_right true b h = h
and_right false b h = absurd (true≢false (sym h))

wanted_row : (starts : Starts) (stage : Stage) (content : Content) (s : Shown) (t : ℕ) (host : Host) (n : ℕ)
    (l : Live) (f : Live → Live) → slice_get host.flows n ≡ Some l
    → is_wanted stage content s l ≡ true → f l ≡ asked stage t s l → Row starts t host (at_flow n f host)
wanted_row starts Beginning content s t host n l f here wanted same = no_call starts t host n l f here same
wanted_row starts Accepting content s t host n l f here wanted same =
    accept starts t host n l f here (and_right (not (is_held l)) (is_running l) wanted) same
wanted_row starts Sending content s t host n l f here wanted same =
    one_call starts t host n l (calls.Send (length s.pending)) s.pending f here
    (record { kind = tt; offers = refl; steps = λ u. send_steps (endpoint l) u s.pending }) same
wanted_row starts Shutting content s t host n l f here wanted same =
    one_call starts t host n l calls.Shut [] f here
    (record { kind = tt; offers = tt; steps = λ u. shut_steps (endpoint l) u (shown (endpoint l) []) }) same
wanted_row starts Aborting content s t host n l f here wanted same =
    one_call starts t host n l calls.Abort [] f here
    (record { kind = tt; offers = tt; steps = λ u. abort_steps (endpoint l) u (shown (endpoint l) []) }) same
wanted_row starts Receiving content s t host n l f here wanted same =
    one_call starts t host n l (calls.Recv _) [] f here
    (record { kind = tt; offers = tt; steps = λ u. recv_steps (endpoint l) u _ (shown (endpoint l) []) }) same
wanted_row starts Leaving content s t host n l f here wanted same = no_call starts t host n l f here same

asked_row : (starts : Starts) (stage : Stage) (content : Content) (s : Shown) (t : ℕ) (host : Host) (n : ℕ) (l : Live)
    (f : Live → Live) → slice_get host.flows n ≡ Some l
    → f l ≡ asked_where (is_wanted stage content s l) stage t s l → Row starts t host (at_flow n f host)
asked_row starts stage content s t host n l f here same = by_wanted (is_wanted stage content s l) refl same where
  by_wanted : (b : Bool) → is_wanted stage content s l ≡ b → f l ≡ asked_where b stage t s l
      → Row starts t host (at_flow n f host)
  by_wanted true wanted e = wanted_row starts stage content s t host n l f here wanted e
  by_wanted false wanted e = no_call starts t host n l f here e

leave_row : (starts : Starts) (t : ℕ) (host : Host) (n : ℕ) (l : Live) → slice_get host.flows n ≡ Some l
    → Row starts t host (at_flow n given_up host)
leave_row starts t host n l here = by_over (is_over l && is_held l) refl where
  by_over : (b : Bool) → (is_over l && is_held l) ≡ b → Row starts t host (at_flow n given_up host)
  by_over true h = hold starts t host n l GivenUp given_up here (rw h refl)
  by_over false h = no_call starts t host n l given_up here (rw h refl)

stage_row : (starts : Starts) (stage : Stage) (t : ℕ) (content : Content) (s : Shown) (host : Host) (n : ℕ) (l : Live)
    → slice_get host.flows n ≡ Some l
    → Row starts t host (at_flow n (at_stage stage t content s) host)
stage_row starts Leaving t content s host n l here = leave_row starts t host n l here
stage_row starts Beginning t content s host n l here =
    asked_row starts Beginning content s t host n l (at_stage Beginning t content s) here refl
stage_row starts Accepting t content s host n l here =
    asked_row starts Accepting content s t host n l (at_stage Accepting t content s) here refl
stage_row starts Sending t content s host n l here =
    asked_row starts Sending content s t host n l (at_stage Sending t content s) here refl
stage_row starts Shutting t content s host n l here =
    asked_row starts Shutting content s t host n l (at_stage Shutting t content s) here refl
stage_row starts Aborting t content s host n l here =
    asked_row starts Aborting content s t host n l (at_stage Aborting t content s) here refl
stage_row starts Receiving t content s host n l here =
    asked_row starts Receiving content s t host n l (at_stage Receiving t content s) here refl

-- ----- a record
at_row : (starts : Starts) (n : ℕ) (found : Option Live) (stage : Stage) (t : ℕ) (content : Content)
    (site : Site (List Shown)) → slice_get site.host.flows n ≡ found
    → Row starts t site.host (served_at n found stage t content site).host
at_row starts n None stage t content site here = none starts t site.host
at_row starts n (Some l) stage t content site here =
    stage_row starts stage t content (get_or (all_shown site.host.flows site.scripts) n nothing_shown) site.host n l
    here

where_row : (starts : Starts) (place : Option ℕ) (stage : Stage) (t : ℕ) (content : Content)
    (site : Site (List Shown)) → Row starts t site.host (served_where place stage t content site).host
where_row starts None stage t content site = none starts t site.host
where_row starts (Some n) stage t content site =
    at_row starts n (slice_get site.host.flows n) stage t content site refl

flow_row : (starts : Starts) (stage : Stage) (t : ℕ) (content : Content) (tuple : FourTuple)
    (site : Site (List Shown)) → Row starts t site.host (served_flow stage t content tuple site).host
flow_row starts stage t content tuple site =
    where_row starts (position (is_indexed_as tuple) site.host.flows) stage t content site

free_row : (starts : Starts) (o : Option ℕ) (t : ℕ) (host : Host) (tuple : FourTuple) → lowest_free host ≡ o
    → Row starts t host (opened_by_connect o (next_start starts host tuple) t host tuple)
free_row starts None t host tuple free = (
  Notes (events.ConnectRefused 0 tuple.raddr tuple.rport false) ∷ [],
  (tt, refl),
)
free_row starts (Some slot) t host tuple free = (Opens slot tuple 0 ∷ [], (free, refl))

connect_row : (starts : Starts) (wanted : Bool) (t : ℕ) (host : Host) (tuple : FourTuple)
    → Row starts t host (connected_where wanted (next_start starts host tuple) t host tuple)
connect_row starts true t host tuple = free_row starts (lowest_free host) t host tuple refl
connect_row starts false t host tuple = none starts t host

begin_row : (starts : Starts) (t : ℕ) (tuple : FourTuple) (seg : Seg) (site : Site (List Shown))
    → Row starts t site.host (served_flow Beginning t (Local tuple seg) tuple
    (on_host (connected starts t tuple seg) site)).host
begin_row starts t tuple seg site =
    let opened : Host = connected starts t tuple seg site.host in
    let first : Row starts t site.host opened =
    connect_row starts (connects seg && not (is_known site.host tuple)) t site.host tuple in
    joined starts t site.host opened _ first.0 first.1
    (flow_row starts Beginning t (Local tuple seg) tuple (on_host (connected starts t tuple seg) site))

content_row : (starts : Starts) (stage : Stage) (t : ℕ) (content : Content) (site : Site (List Shown))
    → Row starts t site.host (served_content starts stage t content site).host
content_row starts stage t (Damaged rule) site = none starts t site.host
content_row starts Beginning t (Remote tuple seg) site = none starts t site.host
content_row starts Beginning t (Local tuple seg) site = begin_row starts t tuple seg site
content_row starts Accepting t (Remote tuple seg) site = flow_row starts Accepting t (Remote tuple seg) tuple site
content_row starts Sending t (Remote tuple seg) site = flow_row starts Sending t (Remote tuple seg) tuple site
content_row starts Shutting t (Remote tuple seg) site = flow_row starts Shutting t (Remote tuple seg) tuple site
content_row starts Aborting t (Remote tuple seg) site = flow_row starts Aborting t (Remote tuple seg) tuple site
content_row starts Receiving t (Remote tuple seg) site = flow_row starts Receiving t (Remote tuple seg) tuple site
content_row starts Leaving t (Remote tuple seg) site = flow_row starts Leaving t (Remote tuple seg) tuple site
content_row starts Accepting t (Local tuple seg) site = flow_row starts Accepting t (Local tuple seg) tuple site
content_row starts Sending t (Local tuple seg) site = flow_row starts Sending t (Local tuple seg) tuple site
content_row starts Shutting t (Local tuple seg) site = flow_row starts Shutting t (Local tuple seg) tuple site
content_row starts Aborting t (Local tuple seg) site = flow_row starts Aborting t (Local tuple seg) tuple site
content_row starts Receiving t (Local tuple seg) site = flow_row starts Receiving t (Local tuple seg) tuple site
content_row starts Leaving t (Local tuple seg) site = flow_row starts Leaving t (Local tuple seg) tuple site

-- Whatever is asked is a row of moves.
pub replays_by_moves : (items : List Item) → AreByMoves (capture_scripts items)
replays_by_moves items t site a each = content_row (first_start items) a.stage t a.item.content site
