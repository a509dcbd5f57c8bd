-- The lowest free slot, for programs that find it in another way, and what is known of one that is given.
use Rattle.std.proofs.Common.{◌≡◌, ℕ, zero, suc, ◌+◌, ◌≤◌, ◌<◌, ◌==◌, Bool, true, false, List, Option, Some, None, refl}
use Rattle.std.proofs.Common.{length, nat_lt, sym, ◌∙◌, ap, true≢false, arith, tests}
use Rattle.std.specs.List.{list_any}
use Rattle.host_rounds.specs.Hosts.{Live, Host, is_in_slot, free_from, free_where, free_slot, lowest_free, most_flows}

abbrev is_used : List Live → ℕ → Bool
is_used ls slot = list_any (is_in_slot slot) ls

lowest_from : (most slot found : ℕ) (ls : List Live) → slot ≤ found → found < slot + most → is_used ls found ≡ false
    → ((r : ℕ) → slot ≤ r → r < found → is_used ls r ≡ true) → free_from most slot ls ≡ Some found
lowest_from zero slot found ls low high free used = absurd (omega arith)
lowest_from (suc most) slot found ls low high free used =
    by_used (is_used ls slot) refl (λ above. lowest_from most (slot + 1) found ls above (omega arith) free
    (λ r a b. used r (omega arith) b))
  where
    same_slot : is_used ls slot ≡ false → (slot == found) ≡ false → ⊥
    same_slot h g = let lower : slot < found = grind (arith, tests, g, low) in
        true≢false (sym (used slot (omega arith) lower) ∙ h)

    by_used : (b : Bool) → is_used ls slot ≡ b → (slot + 1 ≤ found → free_from most (slot + 1) ls ≡ Some found)
        → ◌≡◌ {A = Option ℕ} (elim b [ true ↦ free_from most (slot + 1) ls | false ↦ Some slot ]) (Some found)
    by_used true h rest = by_same (slot == found) refl where
      by_same : (c : Bool) → (slot == found) ≡ c → free_from most (slot + 1) ls ≡ Some found
      by_same true g = let same : slot ≡ found = grind (arith, tests, g) in
          absurd (true≢false (sym h ∙ ap (is_used ls) same ∙ free))
      by_same false g = let other : slot < found = grind (arith, tests, g, low) in rest (omega arith)
    by_used false h rest = by_same (slot == found) refl where
      by_same : (c : Bool) → (slot == found) ≡ c → ◌≡◌ {A = Option ℕ} (Some slot) (Some found)
      by_same true g = let same : slot ≡ found = grind (arith, tests, g) in ap (λ (n : ℕ). Some n) same
      by_same false g = absurd (same_slot h g)

-- where more flows may be opened, a free slot is looked for
pub more_free : (slots : ℕ) (ls : List Live) → length ls < most_flows → free_slot slots ls ≡ free_from slots 0 ls
more_free slots ls few = by_more (nat_lt (length ls) most_flows) refl where
  by_more : (more : Bool) → nat_lt (length ls) most_flows ≡ more → free_where more slots ls ≡ free_from slots 0 ls
  by_more true h = refl
  by_more false h = absurd (grind (arith, tests, h, few))

-- a free slot below which all are used is the lowest free one
pub lowest_is : (host : Host) (slot : ℕ) → length host.flows < most_flows
    → slot < host.params.slots → list_any (is_in_slot slot) host.flows ≡ false
    → ((r : ℕ) → r < slot → list_any (is_in_slot r) host.flows ≡ true) → lowest_free host ≡ Some slot
lowest_is host slot few below free used = more_free host.params.slots host.flows few
    ∙ lowest_from host.params.slots 0 slot host.flows (omega arith) (omega arith) free (λ r a b. used r b)

none_from : (most slot : ℕ) (ls : List Live) → ((r : ℕ) → slot ≤ r → r < slot + most → is_used ls r ≡ true)
    → free_from most slot ls ≡ None
none_from zero slot ls used = refl
none_from (suc most) slot ls used =
    by_used (is_used ls slot) (used slot (omega arith) (omega arith))
    (none_from most (slot + 1) ls (λ r a b. used r (omega arith) (omega arith))) where
      by_used : (b : Bool) → b ≡ true → free_from most (slot + 1) ls ≡ None
          → ◌≡◌ {A = Option ℕ} (elim b [ true ↦ free_from most (slot + 1) ls | false ↦ Some slot ]) None
      by_used true h rest = rest
      by_used false h rest = absurd (true≢false (sym h))

-- where all are used, none is free
pub none_is : (host : Host) → ((r : ℕ) → r < host.params.slots → list_any (is_in_slot r) host.flows ≡ true)
    → lowest_free host ≡ None
none_is host used = by_more (nat_lt (length host.flows) most_flows) where
  by_more : (more : Bool) → free_where more host.params.slots host.flows ≡ None
  by_more true = none_from host.params.slots 0 host.flows (λ r a b. used r (omega arith))
  by_more false = refl

-- where as many flows were opened as may be, none is free
pub none_more : (slots : ℕ) (ls : List Live) → most_flows ≤ length ls → free_slot slots ls ≡ None
none_more slots ls all = by_more (nat_lt (length ls) most_flows) refl where
  by_more : (more : Bool) → nat_lt (length ls) most_flows ≡ more → free_where more slots ls ≡ None
  by_more true h = absurd (grind (arith, tests, h, all))
  by_more false h = refl

-- A slot that is given is a free one, and more flows may be opened.
pub given_slot : (slots slot : ℕ) (ls : List Live) → free_slot slots ls ≡ Some slot
    → (length ls < most_flows) × (free_from slots 0 ls ≡ Some slot)
given_slot slots slot ls h = by_more (nat_lt (length ls) most_flows) refl h where
  by_more : (more : Bool) → nat_lt (length ls) most_flows ≡ more → free_where more slots ls ≡ Some slot
      → (length ls < most_flows) × (free_from slots 0 ls ≡ Some slot)
  by_more true few g = (grind (arith, tests, few), g)
  by_more false few g = absurd (cc (g))
