-- The last line of a report, and where it leads.
use Rattle.std.proofs.Common.{◌≡◌, ℕ, ◌+◌, Bool, true, false, cond, List, [], ◌∷◌, ◌++◌, length, Option, Some, None}
use Rattle.std.proofs.Common.{refl}
use Rattle.std.proofs.Common.{sym, ◌∙◌, ap}
use Rattle.std.specs.Prelude.{◌==◌, IfSome}
use Rattle.report_lines.specs.Lines.{Line, End}
use Rattle.report_form.specs.declared.place.Place.{Place}
use Rattle.report_form.specs.declared.place.Place.TheVariants as places
use Rattle.report_form.specs.Places.{next_place, led}
use Rattle.report_form.proofs.Led.{led_one}

-- the number of ticks is not looked at
pub any_end : (addrs : List ℕ) (p : Place) (m n : ℕ) → next_place addrs p (End m) ≡ next_place addrs p (End n)
unfolding next_place
any_end addrs places.Start m n = refl
any_end addrs places.Hosts m n = refl
any_end addrs (places.Log host) m n = refl
any_end addrs (places.Flow host number) m n = refl
any_end addrs (places.Entries host number) m n = refl
any_end addrs (places.Bytes host number) m n = refl
any_end addrs (places.Flows host last) m n = refl
any_end addrs places.Ended m n = refl

ends_if : (b : Bool) → IfSome (cond b (Some places.Ended) None) (λ q. q ≡ places.Ended)
ends_if true = refl
ends_if false = tt

ends_at : (addrs : List ℕ) (p : Place) (n : ℕ) → IfSome (next_place addrs p (End n)) (λ q. q ≡ places.Ended)
unfolding next_place
ends_at addrs places.Start n = tt
ends_at addrs places.Hosts n = ends_if (0 == length addrs)
ends_at addrs (places.Log host) n = ends_if (host + 1 == length addrs)
ends_at addrs (places.Flow host number) n = tt
ends_at addrs (places.Entries host number) n = tt
ends_at addrs (places.Bytes host number) n = tt
ends_at addrs (places.Flows host last) n = ends_if (host + 1 == length addrs)
ends_at addrs places.Ended n = tt

-- the last line leads to the end
pub end_ends : (addrs : List ℕ) (p q : Place) (n : ℕ) → next_place addrs p (End n) ≡ Some q → q ≡ places.Ended
end_ends addrs p q n e = by_next (next_place addrs p (End n)) (ends_at addrs p n) e where
  by_next : (o : Option Place) → IfSome o (λ r. r ≡ places.Ended) → o ≡ Some q → q ≡ places.Ended
  by_next None ends e = absurd (cc (e))
  by_next (Some r) ends e = cc (ends, e)

-- from there nothing leads on
pub over : (addrs : List ℕ) (l : Line) → next_place addrs places.Ended l ≡ None
unfolding next_place
over addrs l = refl

pub over_all : (addrs : List ℕ) (q : Place) (l : Line) (ls : List Line) → led addrs places.Ended (l ∷ ls) ≡ Some q → ⊥
over_all addrs q l ls e = by_next (next_place addrs places.Ended l) (over addrs l) e where
  by_next : (o : Option Place) → o ≡ None
      → ◌≡◌ {A = Option Place} (elim o [ None ↦ None | Some next ↦ led addrs next ls ]) (Some q) → ⊥
  by_next None none e = absurd (cc (e))
  by_next (Some r) none e = absurd (cc (none))
