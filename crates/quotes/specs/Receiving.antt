-- What a board does with a message.
use Rattle.std.specs.Prelude.{◌≡◌, ℕ, List, drop, Option, Result, MatchResult}
use Rattle.std.specs.Borrow.{Bor}
use Rattle.quotes.specs.declared.board.QuoteBoard.{QuoteBoard}
use Rattle.quotes.specs.declared.board.Quotes.{Quotes}
use Rattle.quotes.specs.declared.fault.MessageFault.{MessageFault}
use Rattle.quotes.specs.Board.{Lays, midpoint}
use Rattle.quotes.specs.Faults.{NamesFirstNo}
use Rattle.quotes.specs.Message.{message_questions}

-- the message is laid on a copy of the board's quotes, which is told with the bytes behind the message; or it is refused
abbrev pub LaysCopy : QuoteBoard → List ℕ → Result (Quotes × Bor (List ℕ)) MessageFault → Type 0
LaysCopy board bytes r =
    MatchResult r
    (λ p. (p.0.security ≡ board.quotes.security) × Lays board.instrument board.quotes.security board.quotes.rows bytes p.0.rows × (p.1.now ≡ drop 24 bytes))
    (NamesFirstNo (message_questions board.instrument board.quotes.security bytes))

-- the message is laid on the board's quotes, and their midpoint is told; or it is refused, and the board is as it was
abbrev pub Receives : QuoteBoard → List ℕ → QuoteBoard → Result (Option ℕ) MessageFault → Type 0
Receives board bytes after r =
    MatchResult r
    (λ m. (after.instrument ≡ board.instrument) × (after.quotes.security ≡ board.quotes.security) × Lays board.instrument board.quotes.security board.quotes.rows bytes after.quotes.rows × (m ≡ midpoint after.quotes.rows))
    (λ f. NamesFirstNo (message_questions board.instrument board.quotes.security bytes) f × (after ≡ board))
