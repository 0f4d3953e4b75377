-- Every lawful day keeps its promises.
use Rattle.std.proofs.Common.{ℕ, [], ◌∷◌, refl, arith}
use Rattle.orders.specs.Kind.{Kind}
use Rattle.rules.specs.Day.{Day, Event, Lawful, state_of}
use Rattle.rules.specs.Promises.{Balanced, EveryLawfulDayKeeps, NoPairCanTrade}
use Rattle.law.proofs.Sound.{Sound, nothing_sound}
use Rattle.law.proofs.Steps.{Step, step}

module _ {O : Type 0} (kind : Kind O) where
  -- what holds of the book at the end of a lawful day
  pub record Good (day : Day O) : Type 0 where
    pub sound : Sound kind (state_of kind day).highest (state_of kind day).resting
    pub quiet : NoPairCanTrade kind (state_of kind day).price (state_of kind day).resting
    pub balanced : Balanced kind day

  -- one call more
  next_step : (capacity : ℕ) (e : Event O) (day : Day O) → Good day → Lawful kind capacity (e ∷ day) → Step kind (state_of kind day) e
  next_step capacity e day good lawful =
      step kind capacity e.rank (state_of kind day) e.tape good.sound good.quiet e.call e.outcome lawful.0

  -- every lawful day is good
  pub good_day : (capacity : ℕ) (day : Day O) → Lawful kind capacity day → Good day
  good_day capacity [] lawful = record { sound = nothing_sound kind 0; quiet = tt; balanced = λ folio side. refl }
  good_day capacity (e ∷ day) lawful =
      let good = good_day capacity day lawful.1 in
      let stepped = next_step capacity e day good lawful in
      record {
        sound = stepped.sound;
        quiet = stepped.quiet;
        balanced = λ folio side. omega (arith, good.balanced folio side, stepped.balance folio side);
      }

  -- and keeps its promises after each of its calls
  pub every_lawful_day_keeps : EveryLawfulDayKeeps kind
  every_lawful_day_keeps capacity [] lawful = tt
  every_lawful_day_keeps capacity (e ∷ day) lawful =
      let after = good_day capacity (e ∷ day) lawful in
      let stepped = next_step capacity e day (good_day capacity day lawful.1) lawful in
      (record { quiet = after.quiet; in_turn = stepped.in_turn; balanced = after.balanced }, every_lawful_day_keeps capacity day lawful.1)
