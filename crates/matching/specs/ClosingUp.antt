-- What is kept of a list by a question that is asked of each of its items.
use Rattle.std.specs.Prelude.{◌≡◌, List, Option, filter_map}
use Rattle.std.specs.Borrow.{Bor}
use Rattle.std.specs.Fn.{FnReturnsAt, Shared}
use Rattle.std.specs.List.{AllZip}

module _ {F T : Type 0} (calls : Shared F (Bor T × Unit {0}) (Option T)) (keep : F) where
  -- there are answers, each one that keep may give at its item, and kept is what they hold, in order
  abbrev pub KeptAs : List T → List T → Type 0
  KeptAs items kept =
      (answers : List (Option T)) × AllZip (FnReturnsAt calls keep) items answers × (kept ≡ filter_map (λ r. r) answers)
