-- A history grows at its end.
use Rattle.std.proofs.Common.{◌≡◌, List, [], ◌∷◌, ◌++◌, refl, sym, subst, append_assoc}
use Rattle.std.proofs.lemmas.List.{append-nil}
use Rattle.tas_model.specs.declared.entry.HostParams.{HostParams}
use Rattle.tas_model.specs.declared.entry.Entry.{Entry}
use Rattle.tas_model.specs.Endpoint.{Endpoint}
use Rattle.tas_model.specs.LegalHistory.{Along, moved, opened, replay_on, replay, Legal, LegalAfter, MayFollow, IsFirst}

-- ----- facts along a list
-- a fact of one entry more
pub along_push : (fact : List Entry → Entry → Type 0) (earlier xs : List Entry) (x : Entry) → Along fact earlier xs
    → fact (earlier ++ xs) x → Along fact earlier (xs ++ x ∷ [])
along_push fact earlier [] x facts last = (subst (λ (h : List Entry). fact h x) (append-nil earlier) last, tt)
along_push fact earlier (y ∷ xs) x facts last = (
  facts.0,
  along_push fact (earlier ++ y ∷ []) xs x facts.1
      (subst (λ (h : List Entry). fact h x) (sym (append_assoc earlier (y ∷ []) xs)) last),
)

-- the fact of the last entry
pub along_split : (fact : List Entry → Entry → Type 0) (earlier xs : List Entry) (x : Entry)
    → Along fact earlier (xs ++ x ∷ []) → Along fact earlier xs × fact (earlier ++ xs) x
along_split fact earlier [] x facts = (tt, subst (λ (h : List Entry). fact h x) (sym (append-nil earlier)) facts.0)
along_split fact earlier (y ∷ xs) x facts =
    let rest = along_split fact (earlier ++ y ∷ []) xs x facts.1 in
    ((facts.0, rest.0), subst (λ (h : List Entry). fact h x) (append_assoc earlier (y ∷ []) xs) rest.1)

-- the facts of both parts
pub along_parts : (fact : List Entry → Entry → Type 0) (earlier xs ys : List Entry) → Along fact earlier (xs ++ ys)
    → Along fact earlier xs × Along fact (earlier ++ xs) ys
along_parts fact earlier [] ys facts =
    (tt, subst (λ (h : List Entry). Along fact h ys) (sym (append-nil earlier)) facts)
along_parts fact earlier (x ∷ xs) ys facts =
    let rest = along_parts fact (earlier ++ x ∷ []) xs ys facts.1 in
    ((facts.0, rest.0), subst (λ (h : List Entry). Along fact h ys) (append_assoc earlier (x ∷ []) xs) rest.1)

-- What a fact keeps at each entry holds at the end.
pub along_induction : (fact : List Entry → Entry → Type 0) (P : List Entry → Type 0)
    → ((h : List Entry) (x : Entry) → P h → fact h x → P (h ++ x ∷ []))
    → (earlier xs : List Entry) → P earlier → Along fact earlier xs → P (earlier ++ xs)
along_induction fact P next earlier [] p facts = subst P (sym (append-nil earlier)) p
along_induction fact P next earlier (x ∷ xs) p facts =
    subst P (append_assoc earlier (x ∷ []) xs) (along_induction fact P next (earlier
    ++ x ∷ []) xs (next earlier x p facts.0) facts.1)

-- ----- replay
pub replay_on_push : (e : Endpoint) (xs : List Entry) (x : Entry)
    → replay_on e (xs ++ x ∷ []) ≡ moved (replay_on e xs) x
replay_on_push e [] x = refl
replay_on_push e (y ∷ xs) x = replay_on_push (moved e y) xs x

-- the endpoint after one more entry
pub replay_push : (params : HostParams) (h : List Entry) (x : Entry) → Legal params h
    → replay params (h ++ x ∷ []) ≡ moved (replay params h) x
unfolding replay
replay_push params [] x legal = absurd legal
replay_push params (y ∷ ys) x legal = replay_on_push (opened params y.call) ys x

pub replay_first : (params : HostParams) (x : Entry) → replay params (x ∷ []) ≡ opened params x.call
unfolding replay
replay_first params x = refl

-- ----- legal histories
-- one entry more
pub legal_push : (params : HostParams) (h : List Entry) (x : Entry) → Legal params h → MayFollow params h x
    → Legal params (h ++ x ∷ [])
legal_push params [] x legal may = absurd legal
legal_push params (y ∷ ys) x legal may = (legal.0, along_push (MayFollow params) (y ∷ []) ys x legal.1 may)

-- a beginning with an entry is legal, and what comes after it follows
pub legal_parts : (params : HostParams) (x : Entry) (xs ys : List Entry) → Legal params (x ∷ xs ++ ys)
    → Legal params (x ∷ xs) × LegalAfter params (x ∷ xs) ys
legal_parts params x xs ys legal =
    let parts = along_parts (MayFollow params) (x ∷ []) xs ys legal.1 in
    ((legal.0, parts.0), parts.1)

-- What holds of the first entry alone, and is kept by each entry that may follow, holds of every history.
pub legal_induction : (params : HostParams) (P : List Entry → Type 0)
    → ((x : Entry) → IsFirst x → P (x ∷ []))
    → ((h : List Entry) (x : Entry) → Legal params h → P h → MayFollow params h x → P (h ++ x ∷ []))
    → (h : List Entry) → Legal params h → P h
legal_induction params P first next [] legal = absurd legal
legal_induction params P first next (x ∷ xs) legal =
    (along_induction (MayFollow params) (λ (h : List Entry). Legal params h
    × P h) (λ h y both may. (legal_push params h y both.0 may, next h y both.0 both.1 may)) (x ∷ []) xs
    ((legal.0, tt), first x legal.0) legal.1).1
