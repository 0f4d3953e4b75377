-- The questions of a kind's own, and what their answers come to.
use Rattle.std.specs.Prelude.{◌≡◌, ℕ, Result, MatchResult, ◌≢◌}
use Rattle.orders.specs.declared.fault.OwnFault.{OwnFault}
use Rattle.orders.specs.declared.fault.OwnFault.TheVariants.{BadProtection, BadMinimum, Other}

-- the number of the question that was answered no
abbrev pub own_number : OwnFault → ℕ
own_number BadProtection = 4
own_number BadMinimum = 5
own_number (Other question) = question.number

-- the fault of that number, and every fault of that number is it
abbrev pub OnlyOne : ℕ → OwnFault → Type 0
OnlyOne number fault = (own_number fault ≡ number) × ((other : OwnFault) → own_number other ≡ number → other ≡ fault)

-- no question was answered no, or the fault tells the number of the first that was
abbrev pub ComesTo : Result (Unit {0}) OwnFault → ℕ → Type 0
ComesTo asked number = MatchResult asked (λ _. number ≡ 0) (λ fault. (own_number fault ≡ number) × (number ≢ 0))
