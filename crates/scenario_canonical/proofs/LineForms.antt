-- The forms of lines: what a line says, printed again, is one line that says the same.
use Rattle.std.proofs.Common.{◌≡◌, ◌≤◌, ℕ, ◌==◌, ◌%◌, ◌&&◌, ◌+◌, Bool, true, false, not, nat_le, List, [], ◌∷◌, ◌++◌}
use Rattle.std.proofs.Common.{length, Option, Some, None, IfSome, refl, ◌∙◌, ap, ap₂, arith}
use Rattle.std.specs.Prelude.{⊤, codes, decimal, bytes_eq}
use Rattle.tas_model.proofs.Tests.{on_cond}
use Rattle.link_script.specs.declared.script.LinkAct.{LinkAct}
use Rattle.link_script.specs.declared.script.LinkAct.TheVariants as acts
use Rattle.scenario_text.specs.Words.{is_name, number_in, address_of}
use Rattle.scenario_text.specs.Canonical.{line_of, address_text, params_words, host_text, step_text, act_line}
use Rattle.scenario_text.specs.Canonical.{move_text, kill_text, scale_words}
use Rattle.tas_model.specs.declared.entry.HostParams.{HostParams}
use Rattle.scenario_text.specs.Drafts.{host_with}
use Rattle.scenario_text.specs.Statements.{said, named, with_number, with_name, with_frame, named_number, two_names}
use Rattle.scenario_text.specs.Statements.{frame_named, host_said, none_given, given_by, limit_line, host_line}
use Rattle.scenario_text.specs.Statements.{app_line, listen_line, accept_line, connecting, connect_line, fill_line}
use Rattle.scenario_text.specs.Statements.{recv_line, name_line, wait_line, on_frame, frame_line, act_by, delay_line}
use Rattle.scenario_text.specs.Statements.{corrupt_line, drop_each_line, moving, move_line, killing, kill_line}
use Rattle.scenario_text.specs.Statements.{by_words}
use Rattle.scenario_text.specs.declared.scenario.KillLine.{KillLine}
use Rattle.scenario_text.specs.declared.scenario.Step.{Step}
use Rattle.scenario_text.specs.declared.scenario.Step.TheVariants as steps
use Rattle.scenario_text.specs.declared.statement.Given.{Given}
use Rattle.scenario_text.specs.declared.statement.Statement.{Statement}
use Rattle.scenario_text.specs.declared.statement.Statement.TheVariants as says
use Rattle.scenario_text.specs.declared.statement.Reading.{Reading}
use Rattle.scenario_text.specs.declared.statement.Reading.TheVariants.{Nothing, Wrong, Says}
use Rattle.scenario_text.proofs.WordedLines.{both, spaced}
use Rattle.scenario_canonical.proofs.WordForms.{IsLine, line_said, IsShort, AreShort, fixed, IsFrom, IsNumber}
use Rattle.scenario_canonical.proofs.WordForms.{number_word, number_of, IsNamed, name_word, named_by}
use Rattle.scenario_canonical.proofs.Addresses.{address_from, address_back, address_short}
use Rattle.scenario_canonical.proofs.HostOptions.{AreFrom, given_from, none_from, given_of, ArePrinted, host_printed}
use Rattle.scenario_canonical.proofs.HostOptions.{short_params, given_back}

-- ----- what a line says, printed
abbrev pub line_text : Statement → List ℕ
line_text (says.Limit ticks) = line_of (codes "limit") (decimal ticks ∷ [])
line_text (says.Host name addr given) = host_text (host_with name addr given)
line_text (says.App host name) = line_of (codes "app") (host ∷ name ∷ [])
line_text (says.Do step) = step_text step
line_text (says.OnFrame host flow number act) = act_line host (decimal flow) (decimal number) act
line_text (says.DropEach host k) = line_of (codes "dropeach") (host ∷ decimal k ∷ [])
line_text (says.Move line worded) = move_text line
line_text (says.Kill line worded) = kill_text line

-- what the printed line says: a host has all its options
abbrev pub again : Statement → Statement
again (says.Limit ticks) = says.Limit ticks
again (says.Host name addr given) = says.Host name addr (given_of (host_with name addr given).params)
again (says.App host name) = says.App host name
again (says.Do step) = says.Do step
again (says.OnFrame host flow number act) = says.OnFrame host flow number act
again (says.DropEach host k) = says.DropEach host k
again (says.Move line worded) = says.Move line true
again (says.Kill line worded) = says.Kill line true

abbrev pub IsAgain : Reading → Type 0
IsAgain (Says statement) = IsLine (line_text statement) (again statement)
IsAgain _ = ⊤

-- ----- words together
said_if : {A : Type 0} (P : A → Type 0) (says : A → Statement) (a : Option A) → IfSome a P
    → ((x : A) → P x → IsAgain (Says (says x))) → IsAgain (said says a)
said_if P says None h f = tt
said_if P says (Some x) h f = f x h

abbrev NamedNumber : (low high : ℕ) → List ℕ × ℕ → Type 0
NamedNumber low high n = IsNamed n.0 × IsNumber low high n.1

abbrev TwoNamed : List ℕ × List ℕ → Type 0
TwoNamed n = IsNamed n.0 × IsNamed n.1

abbrev FrameNamed : List ℕ × ℕ × ℕ → Type 0
FrameNamed f = IsNamed f.0 × IsNumber 0 4294967294 f.1 × IsNumber 0 4294967294 f.2

number_joined : (low high : ℕ) (name : Option (List ℕ)) (number : Option ℕ) → IfSome name IsNamed
    → IfSome number (IsNumber low high) → IfSome (with_number name number) (NamedNumber low high)
number_joined low high None number a b = tt
number_joined low high (Some name) None a b = tt
number_joined low high (Some name) (Some n) a b = (a, b)

named_numbers : (low high : ℕ) (name number : List ℕ) → high ≤ 4294967295
    → IfSome (named_number name (number_in low high number)) (NamedNumber low high)
named_numbers low high name number top =
    number_joined low high (named name) (number_in low high number) (name_word name) (number_word low high number top)

names_joined : (a b : Option (List ℕ)) → IfSome a IsNamed → IfSome b IsNamed → IfSome (with_name a b) TwoNamed
names_joined None b ha hb = tt
names_joined (Some a) None ha hb = tt
names_joined (Some a) (Some b) ha hb = (ha, hb)

both_named : (a b : List ℕ) → IfSome (two_names a b) TwoNamed
both_named a b = names_joined (named a) (named b) (name_word a) (name_word b)

frame_joined : (host : Option (List ℕ)) (flow number : Option ℕ) → IfSome host IsNamed
    → IfSome flow (IsNumber 0 4294967294) → IfSome number (IsNumber 0 4294967294)
    → IfSome (with_frame host flow number) FrameNamed
frame_joined None flow number a b c = tt
frame_joined (Some host) None number a b c = tt
frame_joined (Some host) (Some flow) None a b c = tt
frame_joined (Some host) (Some flow) (Some number) a b c = (a, b, c)

frames_named : (host flow number : List ℕ) → IfSome (frame_named host flow number) FrameNamed
frames_named host flow number =
    frame_joined (named host) (number_in 0 4294967294 flow) (number_in 0 4294967294 number) (name_word host)
    (number_word 0 4294967294 flow (omega arith)) (number_word 0 4294967294 number (omega arith))

-- the keyword of a line and one, two or three words
one_short : (word a : List ℕ) → IsShort word → IsShort a → AreShort (word ∷ a ∷ [])
one_short word a h ha = (h, (ha, tt))

two_short : (word a b : List ℕ) → IsShort word → IsShort a → IsShort b → AreShort (word ∷ a ∷ b ∷ [])
two_short word a b h ha hb = (h, (ha, (hb, tt)))

three_short : (word a b c : List ℕ) → IsShort word → IsShort a → IsShort b → IsShort c
    → AreShort (word ∷ a ∷ b ∷ c ∷ [])
three_short word a b c h ha hb hc = (h, (ha, (hb, (hc, tt))))

four_short : (word a b c d : List ℕ) → IsShort word → IsShort a → IsShort b → IsShort c → IsShort d
    → AreShort (word ∷ a ∷ b ∷ c ∷ d ∷ [])
four_short word a b c d h ha hb hc hd = (h, (ha, (hb, (hc, (hd, tt)))))

-- ----- lines of the scenario
pub limit_said : (n : ℕ) → IsNumber 1 10000 n → IsLine (line_of (codes "limit") (decimal n ∷ [])) (says.Limit n)
limit_said n h =
    line_said (codes "limit") (decimal n ∷ []) (says.Limit n)
    (one_short (codes "limit") (decimal n) (fixed (codes "limit") refl refl) h.short) (omega arith)
    (ap (said says.Limit) h.back)

pub default_limit : IsNumber 1 10000 1000
default_limit = number_of 1 10000 1000 (omega arith, omega arith) (omega arith)

pub limit_again : (words : List (List ℕ)) → IsAgain (limit_line words)
limit_again [] = tt
limit_again (ticks ∷ []) =
    said_if (IsNumber 1 10000) says.Limit (number_in 1 10000 ticks) (number_word 1 10000 ticks (omega arith)) limit_said
limit_again (ticks ∷ word ∷ words) = tt

host_words : (line name addr : List ℕ) (n : ℕ) (words : List (List ℕ)) (given : Given)
    → (length words % 2 == 0 && nat_le (length words) 14) ≡ true → is_name name ≡ true → address_of addr ≡ Some n
    → given_by none_given words ≡ given → given.wrong ≡ false
    → by_words line (codes "host" ∷ name ∷ addr ∷ words) ≡ Says (says.Host name n given)
host_words line name addr n words given fits a b c d =
    rw (fits, b, c) (said_so given d) where
      said_so : (given : Given) → given.wrong ≡ false → host_said name (Some n) given ≡ Says (says.Host name n given)
      said_so given d = rw (a, d) refl

-- six options, or seven
params_fit : (p : HostParams) → (length (params_words p) % 2 == 0 && nat_le (length (params_words p)) 14) ≡ true
params_fit p = by_scale p.scale
  where
    by_scale : (scale : Option ℕ) → (length (params_words (record p { scale = scale })) % 2 == 0
        && nat_le (length (params_words (record p { scale = scale }))) 14) ≡ true
    by_scale None = refl
    by_scale (Some n) = refl

few_words : (scale : Option ℕ) → length (scale_words scale) ≤ 2
few_words None = omega arith
few_words (Some n) = omega arith

host_again_said : (name : List ℕ) (addr : ℕ) (given : Given) → IsNamed name → IsFrom 0 4294967295 addr → AreFrom given
    → IsAgain (Says (says.Host name addr given))
host_again_said name addr given h a g =
    let params = (host_with name addr given).params in
    let printed : ArePrinted params = host_printed name addr given g in
    line_said (codes "host") (name ∷ address_text addr ∷ params_words params) (says.Host name addr (given_of params))
    (fixed (codes "host") refl refl, (h.short, (address_short addr a.1, short_params params printed)))
    (omega (arith, few_words params.scale))
    (host_words [] name (address_text addr) addr (params_words params) (given_of params) (params_fit params) h.is
    (address_back addr a.1) (given_back params printed) refl)

host_said_again : (name : List ℕ) (addr : Option ℕ) (given : Given) → IfSome addr (IsFrom 0 4294967295)
    → AreFrom given → IsAgain (host_said name addr given)
host_said_again name None given a g = tt
host_said_again name (Some addr) given a g =
    on_cond IsAgain (is_name name && not given.wrong) (Says (says.Host name addr given)) (Wrong 5)
    (λ t. host_again_said name addr given (named_by name (both _ _ t).0) a g) (λ f. tt)

pub host_line_again : (words : List (List ℕ)) → IsAgain (host_line words)
host_line_again [] = tt
host_line_again (name ∷ []) = tt
host_line_again (name ∷ addr ∷ words) =
    on_cond IsAgain (length words % 2 == 0 && nat_le (length words) 14)
    (host_said name (address_of addr) (given_by none_given words)) (Wrong 4)
    (λ t. host_said_again name (address_of addr) (given_by none_given words) (address_from addr)
    (given_from none_given words none_from)) (λ f. tt)

app_words : (line host name : List ℕ) → named host ≡ Some host → named name ≡ Some name
    → by_words line (codes "app" ∷ host ∷ name ∷ []) ≡ Says (says.App host name)
app_words line host name a b =
    ap₂ (λ (x y : Option (List ℕ)). said (λ (n : List ℕ × List ℕ). says.App n.0 n.1) (with_name x y)) a b

pub app_again : (words : List (List ℕ)) → IsAgain (app_line words)
app_again [] = tt
app_again (host ∷ []) = tt
app_again (host ∷ name ∷ []) =
    said_if TwoNamed (λ (n : List ℕ × List ℕ). says.App n.0 n.1) (two_names host name) (both_named host name)
    (λ n h. line_said (codes "app") (n.0 ∷ n.1 ∷ []) (says.App n.0 n.1)
    (two_short (codes "app") n.0 n.1 (fixed (codes "app") refl refl) h.0.short h.1.short) (omega arith)
    (app_words [] n.0 n.1 h.0.back h.1.back))
app_again (host ∷ name ∷ word ∷ words) = tt

-- ----- steps with a name and a number
number_words : (says : List ℕ × ℕ → Statement) (name number : List ℕ) (low high n : ℕ) → named name ≡ Some name
    → number_in low high number ≡ Some n
    → said says (named_number name (number_in low high number)) ≡ Says (says (name, n))
number_words says name number low high n a b =
    ap₂ (λ (x : Option (List ℕ)) (y : Option ℕ). said says (with_number x y)) a b

pub listen_again : (words : List (List ℕ)) → IsAgain (listen_line words)
listen_again [] = tt
listen_again (name ∷ []) = tt
listen_again (name ∷ port ∷ []) =
    let says_it : List ℕ × ℕ → Statement = λ (n : List ℕ × ℕ). says.Do (steps.Listen n.0 n.1) in
    said_if (NamedNumber 1 49151) says_it (named_number name (number_in 1 49151 port))
    (named_numbers 1 49151 name port (omega arith))
    (λ n h. line_said (codes "listen") (n.0 ∷ decimal n.1 ∷ []) (says_it n)
    (two_short (codes "listen") n.0 (decimal n.1) (fixed (codes "listen") refl refl) h.0.short h.1.short) (omega arith)
    (number_words says_it n.0 (decimal n.1) 1 49151 n.1 h.0.back h.1.back))
listen_again (name ∷ port ∷ word ∷ words) = tt

pub fill_again : (words : List (List ℕ)) → IsAgain (fill_line words)
fill_again [] = tt
fill_again (name ∷ []) = tt
fill_again (name ∷ count ∷ []) =
    let says_it : List ℕ × ℕ → Statement = λ (n : List ℕ × ℕ). says.Do (steps.Fill n.0 n.1) in
    said_if (NamedNumber 1 1048576) says_it (named_number name (number_in 1 1048576 count))
    (named_numbers 1 1048576 name count (omega arith))
    (λ n h. line_said (codes "fill") (n.0 ∷ decimal n.1 ∷ []) (says_it n)
    (two_short (codes "fill") n.0 (decimal n.1) (fixed (codes "fill") refl refl) h.0.short h.1.short) (omega arith)
    (number_words says_it n.0 (decimal n.1) 1 1048576 n.1 h.0.back h.1.back))
fill_again (name ∷ count ∷ word ∷ words) = tt

pub recv_again : (words : List (List ℕ)) → IsAgain (recv_line words)
recv_again [] = tt
recv_again (name ∷ []) = tt
recv_again (name ∷ count ∷ []) =
    let says_it : List ℕ × ℕ → Statement = λ (n : List ℕ × ℕ). says.Do (steps.Recv n.0 n.1) in
    said_if (NamedNumber 1 1048576) says_it (named_number name (number_in 1 1048576 count))
    (named_numbers 1 1048576 name count (omega arith))
    (λ n h. line_said (codes "recv") (n.0 ∷ decimal n.1 ∷ []) (says_it n)
    (two_short (codes "recv") n.0 (decimal n.1) (fixed (codes "recv") refl refl) h.0.short h.1.short) (omega arith)
    (number_words says_it n.0 (decimal n.1) 1 1048576 n.1 h.0.back h.1.back))
recv_again (name ∷ count ∷ word ∷ words) = tt

pub drop_each_again : (words : List (List ℕ)) → IsAgain (drop_each_line words)
drop_each_again [] = tt
drop_each_again (host ∷ []) = tt
drop_each_again (host ∷ k ∷ []) =
    let says_it : List ℕ × ℕ → Statement = λ (n : List ℕ × ℕ). says.DropEach n.0 n.1 in
    said_if (NamedNumber 1 4294967294) says_it (named_number host (number_in 1 4294967294 k))
    (named_numbers 1 4294967294 host k (omega arith))
    (λ n h. line_said (codes "dropeach") (n.0 ∷ decimal n.1 ∷ []) (says_it n)
    (two_short (codes "dropeach") n.0 (decimal n.1) (fixed (codes "dropeach") refl refl) h.0.short h.1.short)
    (omega arith) (number_words says_it n.0 (decimal n.1) 1 4294967294 n.1 h.0.back h.1.back))
drop_each_again (host ∷ k ∷ word ∷ words) = tt

pub wait_again : (words : List (List ℕ)) → IsAgain (wait_line words)
wait_again [] = tt
wait_again (ticks ∷ []) =
    let says_it : ℕ → Statement = λ (n : ℕ). says.Do (steps.Wait n) in
    said_if (IsNumber 1 10000) says_it (number_in 1 10000 ticks) (number_word 1 10000 ticks (omega arith))
    (λ n h. line_said (codes "wait") (decimal n ∷ []) (says_it n)
    (one_short (codes "wait") (decimal n) (fixed (codes "wait") refl refl) h.short) (omega arith)
    (ap (said says_it) h.back))
wait_again (ticks ∷ word ∷ words) = tt

-- ----- steps with names alone
pub accept_again : (words : List (List ℕ)) → IsAgain (accept_line words)
accept_again [] = tt
accept_again (socket ∷ []) = tt
accept_again (socket ∷ listener ∷ []) =
    let says_it : List ℕ × List ℕ → Statement = λ (n : List ℕ × List ℕ). says.Do (steps.Accept n.0 n.1) in
    said_if TwoNamed says_it (two_names socket listener) (both_named socket listener)
    (λ n h. line_said (codes "accept") (n.0 ∷ n.1 ∷ []) (says_it n)
    (two_short (codes "accept") n.0 n.1 (fixed (codes "accept") refl refl) h.0.short h.1.short) (omega arith)
    (ap₂ (λ (x y : Option (List ℕ)). said says_it (with_name x y)) h.0.back h.1.back))
accept_again (socket ∷ listener ∷ word ∷ words) = tt

name_again : (step : List ℕ → Step) (word : List ℕ) (words : List (List ℕ)) → IsShort word
    → ((name : List ℕ) → step_text (step name) ≡ line_of word (name ∷ []))
    → ((line name : List ℕ) → by_words line (word ∷ name ∷ []) ≡ name_line step (name ∷ []))
    → IsAgain (name_line step words)
name_again step word [] h text read = tt
name_again step word (name ∷ []) h text read =
    said_if IsNamed (λ (n : List ℕ). says.Do (step n)) (named name) (name_word name) by_name where
      by_name : (n : List ℕ) → IsNamed n → IsLine (step_text (step n)) (says.Do (step n))
      by_name n i =
          let made : IsLine (line_of word (n ∷ [])) (says.Do (step n)) =
          line_said word (n ∷ []) (says.Do (step n)) (one_short word n h i.short) (omega arith)
          (read (word ++ spaced (n ∷ [])) n ∙ ap (said (λ (m : List ℕ). says.Do (step m))) i.back) in
          (made.0, text n ∙ made.1, made.2)
name_again step word (name ∷ other ∷ words) h text read = tt

pub drain_again : (words : List (List ℕ)) → IsAgain (name_line steps.Drain words)
drain_again words =
    name_again steps.Drain (codes "drain") words (fixed (codes "drain") refl refl) (λ n. refl) (λ line n. refl)

pub shut_again : (words : List (List ℕ)) → IsAgain (name_line steps.Shut words)
shut_again words =
    name_again steps.Shut (codes "shut") words (fixed (codes "shut") refl refl) (λ n. refl) (λ line n. refl)

pub close_again : (words : List (List ℕ)) → IsAgain (name_line steps.Close words)
close_again words =
    name_again steps.Close (codes "close") words (fixed (codes "close") refl refl) (λ n. refl) (λ line n. refl)

pub abort_again : (words : List (List ℕ)) → IsAgain (name_line steps.Abort words)
abort_again words =
    name_again steps.Abort (codes "abort") words (fixed (codes "abort") refl refl) (λ n. refl) (λ line n. refl)

-- ----- a step with two names and a number
connecting_again : (names : Option (List ℕ × List ℕ)) (port : Option ℕ) → IfSome names TwoNamed
    → IfSome port (IsNumber 1 65535) → IsAgain (connecting names port)
connecting_again None port h p = tt
connecting_again (Some names) None h p = tt
connecting_again (Some n) (Some port) h p =
    line_said (codes "connect") (n.0 ∷ n.1 ∷ decimal port ∷ []) (says.Do (steps.Connect n.0 n.1 port))
    (three_short (codes "connect") n.0 n.1 (decimal port) (fixed (codes "connect") refl refl) h.0.short h.1.short
    p.short)
    (omega arith)
    (ap₂ (λ (x y : Option (List ℕ)). connecting (with_name x y) (number_in 1 65535 (decimal port))) h.0.back h.1.back
    ∙ ap (λ (o : Option ℕ). connecting (Some n) o) p.back)

pub connect_again : (words : List (List ℕ)) → IsAgain (connect_line words)
connect_again [] = tt
connect_again (socket ∷ []) = tt
connect_again (socket ∷ host ∷ []) = tt
connect_again (socket ∷ host ∷ port ∷ []) =
    connecting_again (two_names socket host) (number_in 1 65535 port) (both_named socket host)
    (number_word 1 65535 port (omega arith))
connect_again (socket ∷ host ∷ port ∷ word ∷ words) = tt

-- ----- lines of the link
-- the frame of a printed line is read again
frame_back : (f : List ℕ × ℕ × ℕ) → FrameNamed f → frame_named f.0 (decimal f.1) (decimal f.2) ≡ Some f
frame_back f h = joined (named f.0) (number_in 0 4294967294 (decimal f.1)) (number_in 0 4294967294 (decimal f.2))
    h.0.back h.1.back h.2.back where
      joined : (a : Option (List ℕ)) (b c : Option ℕ) → a ≡ Some f.0 → b ≡ Some f.1 → c ≡ Some f.2
          → with_frame a b c ≡ Some f
      joined a b c ea eb ec = rw (ea, eb, ec) refl

frame_said : (act : LinkAct) (word : List ℕ) (f : List ℕ × ℕ × ℕ) → FrameNamed f → IsShort word
    → ((line : List ℕ) (words : List (List ℕ)) → by_words line (word ∷ words) ≡ frame_line act words)
    → IsLine (line_of word (f.0 ∷ decimal f.1 ∷ decimal f.2 ∷ [])) (says.OnFrame f.0 f.1 f.2 act)
frame_said act word f h short read =
    line_said word (f.0 ∷ decimal f.1 ∷ decimal f.2 ∷ []) (says.OnFrame f.0 f.1 f.2 act)
    (three_short word f.0 (decimal f.1) (decimal f.2) short h.0.short h.1.short h.2.short) (omega arith)
    (read (word ++ spaced (f.0 ∷ decimal f.1 ∷ decimal f.2 ∷ [])) (f.0 ∷ decimal f.1 ∷ decimal f.2 ∷ [])
    ∙ ap (λ (o : Option (List ℕ × ℕ × ℕ)). on_frame o (Some act)) (frame_back f h))

lost_said : (frame : Option (List ℕ × ℕ × ℕ)) → IfSome frame FrameNamed → IsAgain (on_frame frame (Some acts.Drop))
lost_said None h = tt
lost_said (Some f) h = frame_said acts.Drop (codes "drop") f h (fixed (codes "drop") refl refl) (λ line words. refl)

twice_said : (frame : Option (List ℕ × ℕ × ℕ)) → IfSome frame FrameNamed → IsAgain (on_frame frame (Some acts.Dup))
twice_said None h = tt
twice_said (Some f) h = frame_said acts.Dup (codes "dup") f h (fixed (codes "dup") refl refl) (λ line words. refl)

pub drop_again : (words : List (List ℕ)) → IsAgain (frame_line acts.Drop words)
drop_again [] = tt
drop_again (host ∷ []) = tt
drop_again (host ∷ flow ∷ []) = tt
drop_again (host ∷ flow ∷ number ∷ []) = lost_said (frame_named host flow number) (frames_named host flow number)
drop_again (host ∷ flow ∷ number ∷ word ∷ words) = tt

pub dup_again : (words : List (List ℕ)) → IsAgain (frame_line acts.Dup words)
dup_again [] = tt
dup_again (host ∷ []) = tt
dup_again (host ∷ flow ∷ []) = tt
dup_again (host ∷ flow ∷ number ∷ []) = twice_said (frame_named host flow number) (frames_named host flow number)
dup_again (host ∷ flow ∷ number ∷ word ∷ words) = tt

-- a line on a frame with a number
number_said : (act : ℕ → LinkAct) (word : List ℕ) (low high : ℕ) → IsShort word
    → ((f : List ℕ × ℕ × ℕ) (n : ℕ)
    → act_line f.0 (decimal f.1) (decimal f.2) (act n)
    ≡ line_of word (f.0 ∷ decimal f.1 ∷ decimal f.2 ∷ decimal n ∷ []))
    → ((line a b c d : List ℕ)
    → by_words line (word ∷ a ∷ b ∷ c ∷ d ∷ []) ≡ on_frame (frame_named a b c) (act_by act (number_in low high d)))
    → (frame : Option (List ℕ × ℕ × ℕ)) (number : Option ℕ) → IfSome frame FrameNamed
    → IfSome number (IsNumber low high) → IsAgain (on_frame frame (act_by act number))
number_said act word low high short text read None None h m = tt
number_said act word low high short text read None (Some n) h m = tt
number_said act word low high short text read (Some f) None h m = tt
number_said act word low high short text read (Some f) (Some n) h m =
    let words : List (List ℕ) = f.0 ∷ decimal f.1 ∷ decimal f.2 ∷ decimal n ∷ [] in
    let made : IsLine (line_of word words) (says.OnFrame f.0 f.1 f.2 (act n)) =
    line_said word words (says.OnFrame f.0 f.1 f.2 (act n))
    (four_short word f.0 (decimal f.1) (decimal f.2) (decimal n) short h.0.short h.1.short h.2.short m.short)
    (omega arith)
    (read (word ++ spaced words) f.0 (decimal f.1) (decimal f.2) (decimal n)
    ∙ (ap (λ (o : Option (List ℕ × ℕ × ℕ)). on_frame o (act_by act (number_in low high (decimal n)))) (frame_back f h)
    ∙ ap (λ (o : Option ℕ). on_frame (Some f) (act_by act o)) m.back)) in
    (made.0, text f n ∙ made.1, made.2)

pub delay_again : (words : List (List ℕ)) → IsAgain (delay_line words)
delay_again [] = tt
delay_again (host ∷ []) = tt
delay_again (host ∷ flow ∷ []) = tt
delay_again (host ∷ flow ∷ number ∷ []) = tt
delay_again (host ∷ flow ∷ number ∷ ticks ∷ []) =
    number_said acts.Delay (codes "delay") 1 1000 (fixed (codes "delay") refl refl) (λ f n. refl) (λ line a b c d. refl)
    (frame_named host flow number) (number_in 1 1000 ticks) (frames_named host flow number)
    (number_word 1 1000 ticks (omega arith))
delay_again (host ∷ flow ∷ number ∷ ticks ∷ word ∷ words) = tt

pub corrupt_again : (words : List (List ℕ)) → IsAgain (corrupt_line words)
corrupt_again [] = tt
corrupt_again (host ∷ []) = tt
corrupt_again (host ∷ flow ∷ []) = tt
corrupt_again (host ∷ flow ∷ number ∷ []) = tt
corrupt_again (host ∷ flow ∷ number ∷ place ∷ []) =
    number_said acts.Corrupt (codes "corrupt") 0 65534 (fixed (codes "corrupt") refl refl) (λ f n. refl)
    (λ line a b c d. refl) (frame_named host flow number) (number_in 0 65534 place) (frames_named host flow number)
    (number_word 0 65534 place (omega arith))
corrupt_again (host ∷ flow ∷ number ∷ place ∷ word ∷ words) = tt

-- ----- lines of what happens at a tick
moving_back : (line host a b c : List ℕ) (group core at : ℕ) → named host ≡ Some host → number_in 0 63 a ≡ Some group
    → number_in 0 15 b ≡ Some core → number_in 0 10000 c ≡ Some at
    → by_words line (codes "move" ∷ host ∷ a ∷ b ∷ codes "at" ∷ c ∷ [])
    ≡ Says (says.Move (record { host = host; group = group; core = core; at = at }) true)
moving_back line host a b c group core at e1 e2 e3 e4 =
    joined (named host) (number_in 0 63 a) (number_in 0 15 b) (number_in 0 10000 c) e1 e2 e3 e4 where
      joined : (h : Option (List ℕ)) (p q r : Option ℕ) → h ≡ Some host → p ≡ Some group → q ≡ Some core → r ≡ Some at
          → moving h p q r true ≡ Says (says.Move (record { host = host; group = group; core = core; at = at }) true)
      joined h p q r e1 e2 e3 e4 = rw (e1, e2, e3, e4) refl

moving_again : (host : Option (List ℕ)) (group core at : Option ℕ) (worded : Bool) → IfSome host IsNamed
    → IfSome group (IsNumber 0 63) → IfSome core (IsNumber 0 15) → IfSome at (IsNumber 0 10000)
    → IsAgain (moving host group core at worded)
moving_again None group core at worded a b c d = tt
moving_again (Some host) None core at worded a b c d = tt
moving_again (Some host) (Some group) None at worded a b c d = tt
moving_again (Some host) (Some group) (Some core) None worded a b c d = tt
moving_again (Some host) (Some group) (Some core) (Some at) worded a b c d =
    line_said (codes "move") (host ∷ decimal group ∷ decimal core ∷ codes "at" ∷ decimal at ∷ [])
    (says.Move (record { host = host; group = group; core = core; at = at }) true)
    (fixed (codes "move") refl refl, (a.short, (b.short, (c.short, (fixed (codes "at") refl refl, (d.short, tt))))))
    (omega arith)
    (moving_back [] host (decimal group) (decimal core) (decimal at) group core at a.back b.back c.back d.back)

pub move_again : (words : List (List ℕ)) → IsAgain (move_line words)
move_again [] = tt
move_again (host ∷ []) = tt
move_again (host ∷ group ∷ []) = tt
move_again (host ∷ group ∷ core ∷ []) = tt
move_again (host ∷ group ∷ core ∷ word ∷ []) = tt
move_again (host ∷ group ∷ core ∷ word ∷ at ∷ []) =
    moving_again (named host) (number_in 0 63 group) (number_in 0 15 core) (number_in 0 10000 at)
    (bytes_eq word (codes "at")) (name_word host) (number_word 0 63 group (omega arith))
    (number_word 0 15 core (omega arith)) (number_word 0 10000 at (omega arith))
move_again (host ∷ group ∷ core ∷ word ∷ at ∷ more ∷ words) = tt

killing_back : (host app time : List ℕ) (at : ℕ) (holding : Bool) → named host ≡ Some host → named app ≡ Some app
    → number_in 0 10000 time ≡ Some at
    → killing (two_names host app) (number_in 0 10000 time) holding true
    ≡ Says (says.Kill (record { host = host; app = app; at = at; holding = holding }) true)
killing_back host app time at holding e1 e2 e3 =
    joined (named host) (named app) (number_in 0 10000 time) e1 e2 e3 where
      joined : (h a : Option (List ℕ)) (t : Option ℕ) → h ≡ Some host → a ≡ Some app → t ≡ Some at
          → killing (with_name h a) t holding true
          ≡ Says (says.Kill (record { host = host; app = app; at = at; holding = holding }) true)
      joined h a t e1 e2 e3 = rw (e1, e2, e3) refl

kill_said : (host app : List ℕ) (at : ℕ) (holding : Bool) → IsNamed host → IsNamed app → IsNumber 0 10000 at
    → IsLine (kill_text (record { host = host; app = app; at = at; holding = holding }))
    (says.Kill (record { host = host; app = app; at = at; holding = holding }) true)
kill_said host app at false a b c =
    line_said (codes "kill") (host ∷ app ∷ codes "at" ∷ decimal at ∷ [])
    (says.Kill (record { host = host; app = app; at = at; holding = false }) true)
    (fixed (codes "kill") refl refl, (a.short, (b.short, (fixed (codes "at") refl refl, (c.short, tt))))) (omega arith)
    (killing_back host app (decimal at) at false a.back b.back c.back)
kill_said host app at true a b c =
    line_said (codes "kill") (host ∷ app ∷ codes "at" ∷ decimal at ∷ codes "holding" ∷ [])
    (says.Kill (record { host = host; app = app; at = at; holding = true }) true) (
      fixed (codes "kill") refl refl,
      (
        a.short,
        (
          b.short,
          (
            fixed (codes "at") refl refl,
            (
              c.short,
              (fixed (codes "holding") refl refl, tt),
            ),
          ),
        ),
      ),
    ) (omega arith)
    (killing_back host app (decimal at) at true a.back b.back c.back)

killing_again : (names : Option (List ℕ × List ℕ)) (at : Option ℕ) (holding worded : Bool) → IfSome names TwoNamed
    → IfSome at (IsNumber 0 10000) → IsAgain (killing names at holding worded)
killing_again None at holding worded h t = tt
killing_again (Some names) None holding worded h t = tt
killing_again (Some n) (Some at) holding worded h t = kill_said n.0 n.1 at holding h.0 h.1 t

pub kill_again : (words : List (List ℕ)) → IsAgain (kill_line words)
kill_again [] = tt
kill_again (host ∷ []) = tt
kill_again (host ∷ app ∷ []) = tt
kill_again (host ∷ app ∷ word ∷ []) = tt
kill_again (host ∷ app ∷ word ∷ at ∷ []) =
    killing_again (two_names host app) (number_in 0 10000 at) false _ (both_named host app)
    (number_word 0 10000 at (omega arith))
kill_again (host ∷ app ∷ word ∷ at ∷ last ∷ []) =
    killing_again (two_names host app) (number_in 0 10000 at) true _ (both_named host app)
    (number_word 0 10000 at (omega arith))
kill_again (host ∷ app ∷ word ∷ at ∷ last ∷ more ∷ words) = tt
