-- A whole day of calls, as it is handed out.
use Rattle.std.specs.Prelude.{◌≡◌, ℕ, ◌-◌, List, [], ◌∷◌, ◌++◌, length, take, drop, Ok, Err, Result, ◌≢◌}
use Rattle.base.specs.Questions.{first_no}
use Rattle.orders.specs.declared.trade.Fill.{Fill}
use Rattle.orders.specs.Kind.{Kind}
use Rattle.orders.specs.Ranking.{Ranking}
use Rattle.rules.specs.declared.call.Answer.{Answer}
use Rattle.rules.specs.declared.call.Answer.TheVariants.{Filled, Cancelled}
use Rattle.rules.specs.declared.call.Call.{Call}
use Rattle.rules.specs.declared.fault.BookFault.{BookFault}
use Rattle.rules.specs.Calls.{Outcome, cancelled, filled, refused}
use Rattle.rules.specs.Day.{Day}
use Rattle.rules.specs.Faults.{refusal}
use Rattle.rules.specs.Promises.{KeptThroughout, fills_of}
use Rattle.book.specs.declared.open.OpenBook.{OpenBook}
use Rattle.book.specs.Closed.{list_questions}
use Rattle.book.specs.Holding.{Holds}

-- how many fills an answer tells
abbrev pub told_fills : Result Answer BookFault → ℕ
told_fills (Ok (Filled n)) = n
told_fills (Ok (Cancelled volume)) = 0
told_fills (Err fault) = 0

-- an answer tells an outcome: how many fills, the cancelled volume, or the number of the refusal
abbrev pub Tells : Result Answer BookFault → Outcome → Type 0
Tells (Ok (Filled n)) out = (fs : List Fill) × (out ≡ filled fs) × (n ≡ length fs)
Tells (Ok (Cancelled volume)) out = out ≡ cancelled volume
Tells (Err fault) out = out ≡ refused (refusal fault).number

module _ {O : Type 0} where
  -- the day's calls and fills, the oldest first
  abbrev pub calls_of : Day O → List (Call O)
  calls_of [] = []
  calls_of (e ∷ day) = calls_of day ++ (e.call ∷ [])

  abbrev pub day_fills : Day O → List Fill
  day_fills [] = []
  day_fills (e ∷ day) = day_fills day ++ fills_of e.outcome

  -- every call was made under the ranking, with what the calls before it left of the tape's places
  abbrev pub MadeWith : Ranking → ℕ → Day O → Type 0
  MadeWith rank places [] = Unit {0}
  MadeWith rank places (e ∷ day) =
      (e.rank ≡ rank) × (e.tape ≡ places - length (day_fills day)) × MadeWith rank places day

  -- the answers, the oldest first, tell the day's outcomes
  abbrev pub AllTold : Day O → List (Result Answer BookFault) → Type 0
  AllTold [] replies = replies ≡ []
  AllTold (e ∷ day) replies =
      (earlier : List (Result Answer BookFault)) × (reply : Result Answer BookFault) × (replies ≡ earlier ++ (reply ∷ []))
      × Tells reply e.outcome
      × AllTold day earlier

-- some lawful day has exactly these calls, in this order, and the book holds it; its answers stand at the front of the
-- replies and its fills at the tape's front, and what lies behind them is unchanged; and every promise was kept after
-- each of its calls
pub record DayRun {O P : Type 0} (kind : Kind O) (rank : Ranking) (calls : List (Call O)) (replies : List (Result Answer BookFault)) (tape : List Fill) (book : OpenBook O P) (replies_after : List (Result Answer BookFault)) (tape_after : List Fill) (fills : ℕ) : Type 0 where
  pub day : Day O
  pub holds : Holds kind book day
  pub made : calls_of day ≡ calls
  pub made_with : MadeWith rank (length tape) day
  pub told : AllTold day (take (length calls) replies_after)
  pub replies_behind : drop (length calls) replies_after ≡ drop (length calls) replies
  pub fills_are : take fills tape_after ≡ day_fills day
  pub fills_counted : fills ≡ length (day_fills day)
  pub tape_behind : drop fills tape_after ≡ drop fills tape
  pub kept_all : KeptThroughout kind day

-- a day was run, or refused for want of places for the answers: then the book is new and nothing is altered
abbrev pub Ran : {O P : Type 0} → Kind O → Ranking → List (Call O) → List (Result Answer BookFault) → List Fill → OpenBook O P → List (Result Answer BookFault) → List Fill → Result ℕ BookFault → Type 0
Ran kind rank calls replies tape book replies_after tape_after (Ok fills) =
    (first_no (list_questions (length calls) (length replies)) ≡ 0)
    × DayRun kind rank calls replies tape book replies_after tape_after fills
Ran kind rank calls replies tape book replies_after tape_after (Err fault) =
    ((refusal fault).number ≡ first_no (list_questions (length calls) (length replies)))
    × ((refusal fault).number ≢ 0)
    × Holds kind book []
    × (replies_after ≡ replies)
    × (tape_after ≡ tape)
