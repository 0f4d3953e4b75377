use Rattle.std.proofs.Common.{rules, tests, ◌≡◌, ℕ, List, Bool, ◌&&◌, refl, ◌∙◌}
use Rattle.std.proofs.lemmas.Iterator.{YieldsList-from_slice}
use Rattle.std.proofs.lemmas.Iterator.Search.{any_from_yields_List}
use Rattle.std.specs.List.{list_any}
use denote.Enum.Bare.{sameb}
use Rattle.quotes.specs.contracts.ticks.SecurityType.{the_type}
use Rattle.quotes.specs.declared.ticks.SecurityType.{SecurityType}
use Rattle.quotes.specs.declared.ticks.SecurityType.TheVariants.{Equity, Sic, Warrant, FixedIncome}
use Rattle.quotes.specs.declared.ticks.TickRow.{TickRow}
use Rattle.quotes.specs.Ticks.{on_tick, steps_to}
use Rattle.quotes.proofs.ticks.is_on_tick.Goals as goal

-- the row is of the type and has the price
abbrev on_row : SecurityType → ℕ → TickRow → Bool
on_row s p row = sameb the_type row.security s && steps_to row.lowest row.highest row.step p

abbrev IsTable : List TickRow → ℕ → SecurityType → Type 0
IsTable rows p s = list_any (on_row s p) rows ≡ on_tick s p

-- rows that are the table of each type's ticks are that of any type's
of_any : (p : ℕ) (xs rows : List TickRow) → xs ≡ rows → IsTable rows p Equity → IsTable rows p Sic → IsTable rows p Warrant → IsTable rows p FixedIncome → (s : SecurityType) → IsTable xs p s
of_any p xs rows e equity sic warrant fixed Equity = rw e equity
of_any p xs rows e equity sic warrant fixed Sic = rw e sic
of_any p xs rows e equity sic warrant fixed Warrant = rw e warrant
of_any p xs rows e equity sic warrant fixed FixedIncome = rw e fixed

pub returns : goal.returns
returns c =
    any_from_yields_List (on_row c.args.security c.args.price) _ _ _ c.any.ensures.ran (YieldsList-from_slice _ refl) (λ x b q k. search (rules, tests))
    ∙ of_any c.args.price _ _ c.iter.ensures.rest (search rules) (search rules) (search rules) (search rules) c.args.security
