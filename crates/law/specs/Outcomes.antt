-- Where folios differ a sweep has one outcome.
use Rattle.std.specs.Prelude.{◌≡◌, ℕ, List, ◌≢◌}
use Rattle.orders.specs.declared.trade.Fill.{Fill}
use Rattle.orders.specs.Kind.{Kind}
use Rattle.orders.specs.Ranking.{Ranking}
use Rattle.rules.specs.Pairs.{Place}
use Rattle.rules.specs.Sweep.{Sweep}

module _ {O : Type 0} (kind : Kind O) where
  -- orders at different places have different folios
  abbrev pub FoliosDiffer : List O → Type 0
  FoliosDiffer xs =
      (i j : ℕ) (x y : O) → Place xs i x → Place xs j y → (i ≢ j) → (kind.header x).party.folio ≢ (kind.header y).party.folio

  -- any two sweeps of one list make the same fills and leave the same orders
  abbrev pub OneOutcome : Type 0
  OneOutcome =
      (rank : Ranking) (price : ℕ) (xs : List O)
      → FoliosDiffer xs
      → (fs gs : List Fill) (ys zs : List O)
      → Sweep kind rank price xs fs ys
      → Sweep kind rank price xs gs zs
      → (fs ≡ gs) × (ys ≡ zs)
