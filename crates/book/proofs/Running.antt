-- A day under way.
use Rattle.std.proofs.Common.{◌≡◌, ℕ, ◌+◌, ◌-◌, ◌<◌, ◌≤◌, List, [], ◌∷◌, ◌++◌, length, get_or, take, drop, set, Ok, Err, Result, sym, refl, ap, ◌∙◌, subst, arith}
use borrow.Rule.Slice.PartMut.{put_mid}
use lib.Seq.{drop-append-add, take-append-add}
use Rattle.std.proofs.lemmas.List.{append-nil, drop_all, drop-drop, drop-set-lt, length-append, length-drop, length-set, length-take-le, take_all, take_more_set, take_rest}
use Rattle.orders.specs.declared.trade.Fill.{Fill}
use Rattle.orders.specs.Kind.{Kind}
use Rattle.orders.specs.Ranking.{Ranking}
use Rattle.rules.specs.declared.call.Answer.{Answer}
use Rattle.rules.specs.declared.call.Answer.TheVariants.{Filled, Cancelled}
use Rattle.rules.specs.declared.call.Call.{Call}
use Rattle.rules.specs.declared.fault.BookFault.{BookFault}
use Rattle.rules.specs.Day.{Day}
use Rattle.rules.specs.Promises.{KeptThroughout, fills_of}
use Rattle.matching.proofs.Places.{take_read}
use Rattle.std.proofs.lemmas.Grind.{drop_more_same}
use Rattle.book.specs.declared.open.OpenBook.{OpenBook}
use Rattle.book.specs.Called.{TapeAfter, outcome}
use Rattle.book.specs.Holding.{GoesOn, Holds, event}
use Rattle.book.specs.Run.{AllTold, DayRun, MadeWith, Tells, calls_of, day_fills, told_fills}
use Rattle.book.specs.View.{SameTable}

-- what an answer says of the part of the tape that its call was lent: its fills at the front, the rest as it was
record Parted (r : Result Answer BookFault) (before after : List Fill) : Type 0 where
  pub tells : Tells r (outcome r after)
  pub front : take (told_fills r) after ≡ fills_of (outcome r after)
  pub behind : drop (told_fills r) after ≡ drop (told_fills r) before
  pub within : told_fills r ≤ length after

parted : (r : Result Answer BookFault) (before after : List Fill) → TapeAfter r before after → Parted r before after
parted (Ok (Filled n)) before after h = record { tells = (take n after, refl, sym (length-take-le n after h.0)); front = refl; behind = h.1; within = h.0 }
parted (Ok (Cancelled v)) before after h = record { tells = refl; front = refl; behind = h; within = omega arith }
parted (Err f) before after h = record { tells = refl; front = refl; behind = h; within = omega arith }

-- a write to all that lies behind a place
written : {X : Type 0} (used : ℕ) (xs ys : List X) → put_mid used (length xs - used) xs ys ≡ take used xs ++ ys
written used xs ys =
    ap (λ zs. take used xs ++ (ys ++ zs)) (drop-drop (length xs - used) used xs ∙ drop_all (used + (length xs - used)) xs (omega arith))
    ∙ ap (λ zs. take used xs ++ zs) (append-nil ys)

same_twice : {O P : Type 0} (a b c : OpenBook O P) → SameTable a b → SameTable b c → SameTable a c
same_twice a b c p q = record { lent = q.lent ∙ p.lent; long = q.long ∙ p.long; free = q.free ∙ ap (λ n. n - c.resting) p.long }

-- the calls so far are those of a day that the book holds; its answers and its fills stand where they should
pub record Running {O P : Type 0} (kind : Kind O) (rank : Ranking) (calls : List (Call O)) (replies₀ : List (Result Answer BookFault)) (tape₀ : List Fill) (book₀ book : OpenBook O P) (replies : List (Result Answer BookFault)) (tape : List Fill) (used i : ℕ) : Type 0 where
  pub day : Day O
  pub holds : Holds kind book day
  pub made : calls_of day ≡ take i calls
  pub made_with : MadeWith rank (length tape₀) day
  pub told : AllTold day (take i replies)
  pub replies_behind : drop i replies ≡ drop i replies₀
  pub replies_long : length replies ≡ length replies₀
  pub fills_are : take used tape ≡ day_fills day
  pub fits : used ≤ length tape
  pub tape_behind : drop used tape ≡ drop used tape₀
  pub tape_long : length tape ≡ length tape₀
  pub table : SameTable book₀ book
  pub kept_all : KeptThroughout kind day

module _ {O P : Type 0} {kind : Kind O} {rank : Ranking} {calls : List (Call O)} {replies₀ : List (Result Answer BookFault)} {tape₀ : List Fill} {book₀ book : OpenBook O P} {replies : List (Result Answer BookFault)} {tape : List Fill} {used i : ℕ} (run : Running kind rank calls replies₀ tape₀ book₀ book replies tape used i) where
  -- what the next call is lent: the part of the tape behind the fills so far
  abbrev lent : List Fill
  lent = take (length tape - used) (drop used tape)

  -- one call more
  pub running_more : (after : OpenBook O P) (lent_after : List Fill) (call : Call O) (r : Result Answer BookFault) (told : ℕ) → told ≡ told_fills r → i < length calls → i < length replies → call ≡ get_or calls i call → length lent_after ≡ length lent → TapeAfter r lent lent_after → SameTable book after → ((day : Day O) → Holds kind book day → GoesOn kind after (event rank call (length lent) (outcome r lent_after)) day) → Running kind rank calls replies₀ tape₀ book₀ after (set replies i r) (put_mid used (length tape - used) tape lent_after) (used + told) (i + 1)
  running_more after lent_after call r told told_is below room read same_long taped same carries =
      let on = carries run.day run.holds in
      let rest : lent ≡ drop used tape = take_rest tape used in
      let rest_long : length lent ≡ length tape - used = ap length rest ∙ length-drop used tape in
      let front_long : length (take used tape) ≡ used = length-take-le used tape run.fits in
      let made_long : length (day_fills run.day) ≡ used = sym (ap length run.fills_are) ∙ front_long in
      let now = written used tape lent_after in
      let part = parted r lent lent_after taped in
      let long : length (take used tape ++ lent_after) ≡ length tape = length-append (take used tape) lent_after ∙ (omega (arith, run.fits)) in
      subst (λ (n : ℕ). Running kind rank calls replies₀ tape₀ book₀ after (set replies i r) (put_mid used (length tape - used) tape lent_after) (used + n) (i + 1)) (sym told_is)
      (record {
        day = event rank call (length lent) (outcome r lent_after) ∷ run.day;
        holds = on.holds;
        made = ap (λ cs. cs ++ (call ∷ [])) run.made ∙ sym (take_read calls i call below read);
        made_with = (refl, omega (arith, run.tape_long), run.made_with);
        told = (take i replies, r, take_more_set replies i r room, part.tells, run.told);
        replies_behind = drop-set-lt (i + 1) replies i r (omega arith) ∙ drop_more_same replies replies₀ i run.replies_behind;
        replies_long = length-set replies i r ∙ run.replies_long;
        fills_are =
            ap (take (used + told_fills r)) now
            ∙ (rw front_long at (take-append-add (take used tape) lent_after (told_fills r)))
            ∙ ap (λ fs. fs ++ take (told_fills r) lent_after) run.fills_are
            ∙ ap (λ fs. day_fills run.day ++ fs) part.front;
        fits = let n = ap length now in omega arith;
        tape_behind =
            ap (drop (used + told_fills r)) now
            ∙ (rw front_long at (drop-append-add (take used tape) lent_after (told_fills r)))
            ∙ part.behind
            ∙ ap (drop (told_fills r)) (rest ∙ run.tape_behind)
            ∙ drop-drop (told_fills r) used tape₀;
        tape_long = ap length now ∙ long ∙ run.tape_long;
        table = same_twice book₀ book after run.table same;
        kept_all = on.kept;
      })

  -- all calls made
  pub ran : i ≡ length calls → DayRun kind rank calls replies₀ tape₀ book replies tape used
  ran all =
      record {
        day = run.day;
        holds = run.holds;
        made = run.made ∙ take_all i calls (omega arith);
        made_with = run.made_with;
        told = rw (← all) run.told;
        replies_behind = rw (← all) run.replies_behind;
        fills_are = run.fills_are;
        fills_counted = sym (length-take-le used tape run.fits) ∙ ap length run.fills_are;
        tape_behind = run.tape_behind;
        kept_all = run.kept_all;
      }
