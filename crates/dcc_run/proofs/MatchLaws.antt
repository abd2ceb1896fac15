-- Where stretches of two runs match, and neither is ever foul, one run keeps the other's visits, both ways.
use Rattle.std.proofs.Common.{◌≡◌, Bool, false, sym, ap, ◌∙◌, true≢false}
use Rattle.dcc_run.specs.End.{is_over}
use Rattle.dcc_run.specs.Visits.{VisitsKept}
use Rattle.dcc_run.specs.Watched.{Watched, IsWatchable, state}
use Rattle.dcc_run.specs.Shadows.{ComesTo, still_related, both_over, first_foul, Matches, only}
use Rattle.dcc_run.proofs.KeptLaws.{only_visits}
use Rattle.dcc_run.proofs.ShadowLaws.{shadows_from_matches}

module _ {S T P : Type 0} (first : Watched S P) (second : Watched T P) (related : S → T → Type 0) (never : (s : S) → first.foul s ≡ false) (other_never : (t : T) → second.foul t ≡ false) where
  -- stretches that match do so with the two runs exchanged
  exchanged : (s : S) (t : T) → ComesTo first second related s t → ComesTo second first (λ u v. related v u) t s
  exchanged s t (still_related r) = still_related r
  exchanged s t (both_over over end events) = both_over (ap is_over end ∙ over) (sym end) (sym events)
  exchanged s t (first_foul foul shown less) = absurd (true≢false (sym foul ∙ never s))

  pub matches_back : Matches first second related → Matches second first (λ u v. related v u)
  matches_back matches t s r =
      let x = matches s t r in
      record {
        alike = record {
          mark = sym x.alike.mark;
          events = sym x.alike.events;
          running = x.alike.other_running;
          other_running = x.alike.running;
          clean = other_never t;
        };
        steps = x.other_steps;
        some = x.others;
        other_steps = x.steps;
        others = x.some;
        quiet = x.other_quiet;
        other_quiet = x.quiet;
        comes = exchanged (state first x.steps s) (state second x.other_steps t) x.comes;
      }

-- The second run visits what is kept of the first one's visits, and the two end alike.
pub visits_kept_from_matches : {S T P : Type 0} (kept : P → Bool) (first : Watched S P) (second : Watched T P) (related : S → T → Type 0) →
    IsWatchable (only kept first) → IsWatchable second → ((s : S) → first.foul s ≡ false) → ((t : T) → second.foul t ≡ false) →
    Matches (only kept first) second related → (s : S) (t : T) → related s t →
    VisitsKept kept first.system first.mark s second.system second.mark t
visits_kept_from_matches kept first second related law other_law never other_never matches s t r = record {
  forth = λ n.
      let x = shadows_from_matches (only kept first) second law other_law related matches s t r n (never (state first n s)) in
      (x.0, x.1.visits_are ∙ only_visits kept first n s, x.1.alike);
  back = λ m.
      let x = shadows_from_matches second (only kept first) other_law law (λ u v. related v u)
      (matches_back (only kept first) second related never other_never matches) t s r m (other_never (state second m t)) in (
        x.0,
        sym x.1.visits_are ∙ only_visits kept first x.0 s,
        λ over. let z = x.1.alike over in record { end = sym z.end; events = sym z.events },
      );
}
