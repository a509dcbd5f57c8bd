-- The rules one by one.
use Rattle.std.proofs.Common.{◌≡◌, ◌≢◌, ℕ, zero, suc, ◌+◌, ◌-◌, ◌<◌, ◌==◌, ◌&&◌, not, Bool, true, false}
use Rattle.std.proofs.Common.{List, [], ◌∷◌, ◌++◌, length, min, take, drop, position, nat_lt, ◌^◌, Option, Some, None}
use Rattle.std.proofs.Common.{Contains, refl, sym, ap, ◌∙◌, true≢false, arith, tests}
use Rattle.std.specs.List.{list_any, position_or_len}
use Rattle.std.proofs.Common.{◌||◌, slice_index_or}
use Rattle.std.proofs.lemmas.List.{length-take, length-drop, length-append}
use Rattle.tas_model.specs.declared.entry.Reply.TheVariants as replies
use Rattle.host_rounds.specs.Lists.{Each}
use Rattle.host_rounds.specs.Hosts.{Live, Host, Listener, Waiting, Application, GivenUp, Starts, is_over}
use Rattle.host_rounds.specs.Hosts.{is_ready, lowest_free, first_port, ports_given}
use Rattle.tas_runs.specs.Records.{Content}
use Rattle.tas_runs.specs.LocalScript.{Shown, Shutting, is_wanted, is_empty, is_served}
use Rattle.scenario_runs.specs.Applications.{Turn, Script, accepts, accepts_one, is_concerned, most}
use Rattle.scenario_runs.specs.Applications.{sent_on, done_or, stepped, connects, connects_on, opens_where, refused}

-- ----- accept
first_of : {X : Type 0} (test : X → Bool) (older newer : List X) (x : X) → Each (λ (y : X). test y ≡ false) older
    → test x ≡ true → position_or_len test (older ++ x ∷ newer) ≡ length older
first_of test [] newer x none here = rw here refl
first_of test (y ∷ older) newer x none here =
    let rest : position_or_len test (older ++ x ∷ newer) ≡ length older = first_of test older newer x none.1 here in
    rw none.0 (omega arith)

position_of : {X : Type 0} (test : X → Bool) (older newer : List X) (x : X) → Each (λ (y : X). test y ≡ false) older
    → test x ≡ true → position test (older ++ x ∷ newer) ≡ Some (length older)
position_of {X} test older newer x none here = rw (first_of test older newer x none here, below) refl where
  below : nat_lt (length older) (length (older ++ x ∷ newer)) ≡ true
  below = let sum : length (older ++ x ∷ newer) ≡ length older + suc (length newer) =
      length-append older (x ∷ newer) in grind (arith, tests, sum)

pub first_is_accepted : (x : Turn) (t port : ℕ) (socket : List ℕ) (older newer : List Live) (l : Live)
    → x.host.flows ≡ older ++ l ∷ newer → Each (λ (m : Live). is_ready port m ≡ false) older → is_ready port l ≡ true
    → accepts (Some port) t socket x ≡ accepts_one (Some (length older)) t socket port x
first_is_accepted x t port socket older newer l flows none here =
    ap (λ (o : Option ℕ). accepts_one o t socket port x)
    (ap (position (is_ready port)) flows ∙ position_of (is_ready port) older newer l none here)

-- ----- a kill
same_test : (n : ℕ) → (n == n) ≡ true
same_test n = grind (arith, tests)

other_test : (a b : ℕ) → a ≢ b → (a == b) ≡ false
other_test a b h = grind (arith, tests, h)

pub own_flows : (app : ℕ) (host : Host) (l : Live) → l.holder ≡ Application app → is_concerned app host l ≡ true
own_flows app host l h = rw (h, is_concerned) (same_test app)

pub others_flows : (app other : ℕ) (host : Host) (l : Live) → l.holder ≡ Application other → other ≢ app
    → is_concerned app host l ≡ false
others_flows app other host l h differ = rw (h, is_concerned) (other_test other app differ)

pub given_up_flows : (app : ℕ) (host : Host) (l : Live) → l.holder ≡ GivenUp → is_concerned app host l ≡ false
given_up_flows app host l h = rw (h, is_concerned) refl

any_later : (a b : Bool) → b ≡ true → (a || b) ≡ true
any_later true b h = refl
any_later false b h = h

listens_there : (app port : ℕ) (xs : List Listener) (x : Listener) → Contains xs x → x.app ≡ app → x.port ≡ port
    → list_any (λ (y : Listener). y.app == app && y.port == port) xs ≡ true
listens_there app port xs x among mine here = found xs among.0 among.1 among.2 where
  passes : (y : Listener) → y ≡ x → (y.app == app && y.port == port) ≡ true
  passes y same =
      let a : (y.app == app) ≡ true = ap (λ (z : Listener). z.app == app) same ∙ ap (λ (n : ℕ). n == app) mine
      ∙ same_test app in
      let b : (y.port == port) ≡ true = ap (λ (z : Listener). z.port == port) same ∙ ap (λ (n : ℕ). n == port) here
      ∙ same_test port in
      rw (a, b) refl

  found : (ys : List Listener) (k : ℕ) → k < length ys → slice_index_or ys k x ≡ x
      → list_any (λ (y : Listener). y.app == app && y.port == port) ys ≡ true
  found [] k below at = absurd (omega arith)
  found (y ∷ ys) zero below at = rw (passes y at) refl
  found (y ∷ ys) (suc k) below at = any_later (y.app == app && y.port == port) _ (found ys k (omega arith) at)

only_others : (app port : ℕ) (xs : List Listener)
    → Each (λ (x : Listener). x.port ≡ port → x.app ≢ app) xs
    → list_any (λ (y : Listener). y.app == app && y.port == port) xs ≡ false
only_others app port [] each = refl
only_others app port (x ∷ xs) each = by_app (x.app == app) refl (only_others app port xs each.1) where
  by_port : (b : Bool) → (x.port == port) ≡ b → (x.app == app) ≡ true
      → list_any (λ (y : Listener). y.app == app && y.port == port) xs ≡ false
      → list_any (λ (y : Listener). y.app == app && y.port == port) (x ∷ xs) ≡ false
  by_port true here mine rest =
      let there : x.port ≡ port = grind (arith, tests, here) in
      let same : x.app ≡ app = grind (arith, tests, mine) in
      absurd (each.0 there same)
  by_port false here mine rest = rw (mine, here) rest

  by_app : (b : Bool) → (x.app == app) ≡ b
      → list_any (λ (y : Listener). y.app == app && y.port == port) xs ≡ false
      → list_any (λ (y : Listener). y.app == app && y.port == port) (x ∷ xs) ≡ false
  by_app true mine rest = by_port (x.port == port) refl mine rest
  by_app false mine rest = rw mine rest

pub waiting_flows : (app : ℕ) (host : Host) (l : Live) (x : Listener) → l.holder ≡ Waiting → is_over l ≡ false
    → Contains host.listeners x → x.app ≡ app → x.port ≡ l.flow.tuple.lport → is_concerned app host l ≡ true
waiting_flows app host l x h alive among mine here =
    rw (h, is_concerned, alive) (listens_there app l.flow.tuple.lport host.listeners x among mine here)

pub closed_flows : (app : ℕ) (host : Host) (l : Live) → l.holder ≡ Waiting → is_over l ≡ true
    → is_concerned app host l ≡ false
closed_flows app host l h over =
    rw (h, is_concerned, over) refl

and_false : (b : Bool) → (b && false) ≡ false
and_false true = refl
and_false false = refl

pub elsewhere_flows : (app : ℕ) (host : Host) (l : Live) → l.holder ≡ Waiting
    → Each (λ (x : Listener). x.port ≡ l.flow.tuple.lport → x.app ≢ app) host.listeners
    → is_concerned app host l ≡ false
elsewhere_flows app host l h each =
    rw (h, is_concerned, only_others app l.flow.tuple.lport host.listeners each) (and_false (not (is_over l)))

-- ----- send
pub offer_length : (bytes : List ℕ) (done : ℕ) → length (take most (drop done bytes)) ≡ min 65536 (length bytes - done)
offer_length bytes done = length-take most (drop done bytes) ∙ ap (min 65536) (length-drop done bytes)

done_cond : (b : Bool) (done : ℕ) (s : Script) → b ≡ false → done_or b done s ≡ record s { done = done }
done_cond true done s h = absurd (true≢false h)
done_cond false done s h = refl

over_cond : (b : Bool) (done : ℕ) (s : Script) → b ≡ true → done_or b done s ≡ stepped s
over_cond true done s h = refl
over_cond false done s h = absurd (true≢false (sym h))

pub goes_on : (bytes : List ℕ) (all : ℕ) (s : Script) → s.done + length bytes < all
    → sent_on (replies.Took bytes) all s ≡ record s { done = s.done + length bytes }
goes_on bytes all s h =
    done_cond (s.done + length bytes == all) (s.done + length bytes) s (grind (arith, tests, h))

pub is_done : (bytes : List ℕ) (all : ℕ) (s : Script) → s.done + length bytes ≡ all
    → sent_on (replies.Took bytes) all s ≡ stepped s
is_done bytes all s h =
    over_cond (s.done + length bytes == all) (s.done + length bytes) s (grind (arith, tests, h))

-- ----- connect
pub without_slot : (starts : Starts) (t raddr rport : ℕ) (socket : List ℕ) (x : Turn) → lowest_free x.host ≡ None
    → connects_on starts false t socket raddr rport x ≡ refused false t raddr rport x
without_slot starts t raddr rport socket x h =
    ap (λ (o : Option ℕ). connects starts o t socket raddr rport x) h

pub without_port : (starts : Starts) (slot t raddr rport : ℕ) (socket : List ℕ) (x : Turn)
    → lowest_free x.host ≡ Some slot → ports_given x.host ≡ 16384
    → connects_on starts false t socket raddr rport x ≡ refused true t raddr rport x
without_port starts slot t raddr rport socket x h given =
    let left : nat_lt (first_port + ports_given x.host) (2 ^ 16) ≡ false = grind (arith, tests, given) in
    ap (λ (o : Option ℕ). connects starts o t socket raddr rport x) h
    ∙ ap (λ (b : Bool). opens_where b starts slot (first_port + ports_given x.host) t socket raddr rport x) left

-- ----- shut
none_pending : (bytes : List ℕ) (a c : Bool) → (a && is_empty bytes && c) ≡ true → bytes ≡ []
none_pending [] a c h = refl
none_pending (b ∷ bytes) true c h = absurd (true≢false (sym h))
none_pending (b ∷ bytes) false c h = absurd (true≢false (sym h))

pub nothing_pending : (content : Content) (s : Shown) (l : Live) → is_wanted Shutting content s l ≡ true
    → s.pending ≡ []
nothing_pending content s l h = none_pending s.pending (is_served l && s.ends) (not s.shut) h
